-- How the code of a gateway keeps its works, and what follows from a message that ended and from an attempt that begins.
use Rattle.std.specs.Prelude.{◌≡◌, ℕ, ◌+◌, nat_lt, nat_le, not, ◌&&◌, ◌==◌, Bool, true, false, List, map, Option, Some, None, if◌then◌else◌}
use Rattle.std.specs.List.{find, list_all}
use Rattle.std.specs.Option.{option_map, option_map_or}
use Rattle.std.specs.Ordering.{nat_cmp}
use Rattle.std.specs.FinMap as tree
use Rattle.object_id.specs.declared.cause.Cause.{Cause}
use Rattle.object_id.specs.declared.cause.Cause.TheVariants.{Halt}
use Rattle.object_id.specs.declared.node.Epoch.{Epoch}
use Rattle.object_id.specs.declared.node.NodeId.{NodeId}
use Rattle.hash_ring.specs.Placement.{zone_count}
use Rattle.vnode_table.specs.Epochs.{EpochMembers, members_at}
use Rattle.vnode_table.specs.Targets.{targets_in}
use Rattle.peer_proto.specs.declared.work.ObjWork.{ObjWork}
use Rattle.peer_proto.specs.declared.work.ObjWork.TheVariants.{Create, Write, Read, ReadAll}
use Rattle.peer_proto.specs.declared.work.WorkDone.{WorkDone}
use Rattle.peer_proto.specs.Work.{oid_of, policy_of}
use Rattle.gateway.specs.declared.act.Act.{Act}
use Rattle.gateway.specs.declared.act.Act.TheVariants as acts
use Rattle.gateway.specs.declared.beginning.Beginning.{Beginning}
use Rattle.gateway.specs.declared.beginning.Beginning.TheVariants as beginnings
use Rattle.gateway.specs.declared.message.Message.{Message}
use Rattle.gateway.specs.declared.message.Status.{Status}
use Rattle.gateway.specs.declared.outcome.Outcome.{Outcome}
use Rattle.gateway.specs.declared.outcome.Outcome.TheVariants as outcomes
use Rattle.gateway.specs.Work.{zones_for}
use Rattle.gateway.specs.Attempt.{Attempt, messages_of, send_of, is_unanswered, is_success, is_over, is_done, bytes_given, first_failure}
use Rattle.gateway.specs.State.{WorkStage, Open, Ended, WaitsForMembers, Work, Gateway, is_awaited_in, may_try}
use Rattle.gateway.specs.Step.{GatewayStep, with_work, waiting_step, refusal_step, attempt_with_status}

abbrev pub Works : Type 0
Works = tree.FinMap nat_cmp Work

-- the map leads from the number of each unanswered message to the request whose work it is of
abbrev pub AreAskers : tree.FinMap nat_cmp ℕ → Works → Type 0
AreAskers askers works = (number req : ℕ) (work : Work) → tree.get works req ≡ Some work → is_awaited_in number work ≡ true
    → tree.get askers number ≡ Some req

-- the request that has the message of a number, if its work waits for that
abbrev pub asked_in : ℕ → ℕ → Option Work → Option (ℕ × Work)
asked_in number req None = None
asked_in number req (Some work) = if is_awaited_in number work then Some (req, work) else None

abbrev pub asked_at : ℕ → Option ℕ → Works → Option (ℕ × Work)
asked_at number None works = None
asked_at number (Some req) works = asked_in number req (tree.get works req)

-- where a work stands, with what is now known of one of its messages
abbrev pub stage_with_status : ℕ → Status → WorkStage → WorkStage
stage_with_status number status (Open attempt) = Open (attempt_with_status number status attempt)
stage_with_status number status Ended = Ended
stage_with_status number status (WaitsForMembers epoch) = WaitsForMembers epoch

abbrev pub work_with_status : ℕ → Status → Work → Work
work_with_status number status work = record work { stage = stage_with_status number status work.stage }

abbrev pub failure_outcome : Option Cause → Outcome
failure_outcome None = outcomes.Failed
failure_outcome (Some cause) = outcomes.Refused cause

-- what an attempt comes to, by its messages, where its request may be refused or not
abbrev pub outcome_with : ObjWork → Epoch → List Message → Bool → Outcome
outcome_with work epoch messages may_refuse =
    if is_over messages
    then
    (if is_done work messages
    then outcomes.Done (bytes_given work messages)
    else (if may_refuse then failure_outcome (first_failure work epoch messages) else outcomes.Failed))
    else outcomes.Awaited

-- an attempt comes to this without what its messages gave
abbrev pub IsUndone : Outcome → Type 0
IsUndone outcomes.Awaited = Unit {0}
IsUndone outcomes.Failed = Unit {0}
IsUndone (outcomes.Done bytes) = ⊥
IsUndone (outcomes.Refused cause) = Unit {0}

-- its request may be refused when so many attempts have ended, and it is untouched
abbrev pub outcome_of : ℕ → Bool → Work → Attempt → Outcome
outcome_of tries touched work attempt =
    outcome_with work.work attempt.epoch attempt.messages (nat_le tries (work.ended + 1) && not touched)

abbrev pub outcome_at : ℕ → Bool → Work → WorkStage → Outcome
outcome_at tries touched work (Open attempt) = outcome_of tries touched work attempt
outcome_at tries touched work Ended = outcomes.Awaited
outcome_at tries touched work (WaitsForMembers epoch) = outcomes.Awaited

-- a work whose last attempt failed waits for its next one
abbrev pub work_failed : Work → Work
work_failed work = record work { ended = work.ended + 1; stage = Ended }

abbrev pub work_by : Outcome → Work → Work
work_by outcomes.Awaited work = work
work_by outcomes.Failed work = work_failed work
work_by (outcomes.Done bytes) work = work
work_by (outcomes.Refused cause) work = work

-- the works after what an attempt came to
abbrev pub works_by : ℕ → Work → Outcome → Works → Works
works_by req work outcomes.Awaited works = tree.insert works req work
works_by req work outcomes.Failed works = tree.insert works req (work_failed work)
works_by req work (outcomes.Done bytes) works = tree.remove works req
works_by req work (outcomes.Refused cause) works = tree.remove works req

-- what is told then
abbrev pub act_by : ℕ → ObjWork → Outcome → Act
act_by req work outcomes.Awaited = acts.Wait
act_by req work outcomes.Failed = acts.Wait
act_by req work (outcomes.Done bytes) = acts.Done work (record { req = req; bytes = bytes })
act_by req work (outcomes.Refused cause) = acts.Refused work req cause

abbrev pub step_by : Gateway → ℕ → Work → Outcome → GatewayStep
step_by gateway req work outcome =
    record { gateway = record gateway { works = works_by req work outcome gateway.works }; act = act_by req work.work outcome }

-- a work that is done or refused goes
abbrev pub works_left : ℕ → Outcome → Works → Works
works_left req outcomes.Awaited works = works
works_left req outcomes.Failed works = works
works_left req (outcomes.Done bytes) works = tree.remove works req
works_left req (outcomes.Refused cause) works = tree.remove works req

-- what a message of a request's work came to is known, with what follows for the works and what is told
abbrev pub MessageEnds : ℕ → ℕ → Status → ℕ → Bool → Work → Works → Works → Act → Type 0
MessageEnds req number status tries touched work before after act =
    let told : Work = work_with_status number status work in
    let outcome : Outcome = outcome_at tries touched work told.stage in
    (after ≡ works_by req told outcome before) × (act ≡ act_by req work.work outcome)

-- ---- whether a work is done by what one message came to, and what it gives

-- the bytes of a work that these messages do, if they do it
abbrev pub bytes_if_done : ObjWork → List Message → Option (List ℕ)
bytes_if_done work messages = if is_over messages && is_done work messages then Some (bytes_given work messages) else None

abbrev pub bytes_if_done_at : ObjWork → WorkStage → Option (List ℕ)
bytes_if_done_at work (Open attempt) = bytes_if_done work attempt.messages
bytes_if_done_at work Ended = None
bytes_if_done_at work (WaitsForMembers epoch) = None

-- a request's work is done, and gave these bytes
abbrev pub work_done_of : ℕ → List ℕ → WorkDone
work_done_of req bytes = record { req = req; bytes = bytes }

-- the work that a message of a number belongs to, where it is done by what that came to
abbrev pub work_if_done : ℕ → Status → Option (ℕ × Work) → Option WorkDone
work_if_done number status None = None
work_if_done number status (Some found) =
    option_map (work_done_of found.0) (bytes_if_done_at found.1.work (stage_with_status number status found.1.stage))

-- whether a message succeeds, where the one of a number does or doesn't
abbrev pub succeeds_with : ℕ → Bool → Message → Bool
succeeds_with number success message = if message.number == number then success else is_success message.status

-- whether it is answered, where the one of a number is
abbrev pub is_answered_with : ℕ → Message → Bool
is_answered_with number message = if message.number == number then true else not (is_unanswered message.status)

-- whether an attempt may be done where the message of a number succeeds or doesn't: else it isn't
abbrev pub may_be_done : ObjWork → ℕ → Bool → List Message → Bool
may_be_done (Create oid policy size offset bytes) number success messages = list_all (succeeds_with number success) messages
may_be_done (Write oid policy offset bytes) number success messages = list_all (succeeds_with number success) messages
may_be_done (Read oid policy offset size) number success messages = list_all (is_answered_with number) messages
may_be_done (ReadAll oid policy size) number success messages = list_all (succeeds_with number success) messages

abbrev pub may_be_done_at : ℕ → Bool → ObjWork → WorkStage → Bool
may_be_done_at number success work (Open attempt) = may_be_done work number success attempt.messages
may_be_done_at number success work Ended = false
may_be_done_at number success work (WaitsForMembers epoch) = false

-- whether the work that a message belongs to may be
abbrev pub may_be_done_by : ℕ → Bool → Option (ℕ × Work) → Bool
may_be_done_by number success found =
    option_map_or (λ (found : ℕ × Work). may_be_done_at number success found.1.work found.1.stage) found false

-- of the works that may be tried in an epoch the smallest request
abbrev pub next_req : Epoch → Works → Option ℕ
next_req epoch works =
    option_map (λ (entry : ℕ × Work). entry.0) (find (λ (entry : ℕ × Work). may_try epoch entry.1.stage) (tree.entries works))

-- how an attempt begins
abbrev pub halt_beginning : Bool → Cause → Beginning
halt_beginning touched cause = if touched then beginnings.Waits else beginnings.Refused cause

abbrev pub sends_beginning : NodeId → Epoch → ObjWork → List Message → Beginning
sends_beginning me epoch work messages = beginnings.Sends messages (record { list = map (send_of me epoch work) messages })

abbrev pub beginning_of : List EpochMembers → NodeId → ObjWork → ℕ → Bool → ℕ → Epoch → Beginning
beginning_of epochs me work ended touched first epoch =
    if nat_lt (zone_count (members_at epochs epoch.0)) (zones_for work)
    then halt_beginning touched (Halt (zone_count (members_at epochs epoch.0)) (zones_for work))
    else sends_beginning me epoch work (messages_of work ended first (targets_in epochs epoch.0 (oid_of work) (policy_of work)))

abbrev pub step_from : Gateway → ℕ → Work → Epoch → Beginning → GatewayStep
step_from gateway req work epoch (beginnings.Sends messages sends) = record {
  gateway = with_work req (record work { stage = Open (record { epoch = epoch; messages = messages }) }) gateway;
  act = acts.Send sends;
}
step_from gateway req work epoch beginnings.Waits =
    waiting_step (with_work req (record work { stage = WaitsForMembers epoch }) gateway)
step_from gateway req work epoch (beginnings.Refused cause) = refusal_step gateway req work.work cause
