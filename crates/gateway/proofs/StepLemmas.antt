-- What the code of a gateway makes in parts is the step of the definitions.
use Rattle.std.proofs.Common.{◌≡◌, ℕ, ◌+◌, nat_lt, nat_le, ◌&&◌, not, Bool, true, false, cond, List, Option, Some, None, IfSome, refl, sym, ap, ap₂, subst, ◌∙◌}
use Rattle.std.specs.Ordering.{nat_cmp, eq_by_cmp}
use Rattle.std.specs.Cmp.{nat_cmp_total}
use Rattle.std.specs.FinMap as tree
use Rattle.std.specs.FinSet as set
use Rattle.std.specs.List.{find, list_any}
use Rattle.std.specs.Option.{option_map}
use Rattle.std.proofs.lemmas.Option.{same_Some}
use Rattle.proof_tools.proofs.FiniteMaps.{get-insert_same, get-entry, remove-none}
use Rattle.proof_tools.proofs.Lists.{find-contains}
use Rattle.object_id.specs.declared.cause.Cause.{Cause}
use Rattle.object_id.specs.declared.cause.Cause.TheVariants.{Halt}
use Rattle.object_id.specs.declared.node.Epoch.{Epoch}
use Rattle.hash_ring.specs.Placement.{zone_count}
use Rattle.vnode_table.specs.Epochs.{EpochMembers, members_at}
use Rattle.vnode_table.specs.Targets.{targets_in}
use Rattle.peer_proto.specs.declared.work.ObjWork.{ObjWork}
use Rattle.peer_proto.specs.Work.{oid_of, policy_of}
use Rattle.gateway.specs.declared.act.Act.{Act}
use Rattle.gateway.specs.declared.beginning.Beginning.{Beginning}
use Rattle.gateway.specs.declared.beginning.Beginning.TheVariants as beginnings
use Rattle.gateway.specs.declared.message.Status.{Status}
use Rattle.gateway.specs.declared.outcome.Outcome.{Outcome}
use Rattle.gateway.specs.declared.outcome.Outcome.TheVariants as outcomes
use Rattle.gateway.specs.Outcomes.{RefusesWork}
use Rattle.gateway.specs.Work.{zones_for}
use Rattle.gateway.specs.Attempt.{Attempt, is_awaited_message, messages_of, is_over, is_done, bytes_given, first_failure}
use Rattle.gateway.specs.State.{WorkStage, Open, Ended, WaitsForMembers, Work, Gateway, is_touched, asker, open_messages, may_try, next_try}
use Rattle.gateway.specs.Step.{GatewayStep, with_work, waiting_step, refusal_step, done_step, failure_step, open_step, next_attempt, attempt_step, touched_by, attempt_ended, attempt_continued, attempt_with_status, status_step_in, status_step_by, message_ended, start_step, retry_step, retry_step_of, without_work}
use Rattle.gateway.specs.Kept.{Works, stage_with_status, work_with_status, failure_outcome, outcome_of, outcome_at, work_by, works_by, works_left, act_by, step_by, halt_beginning, sends_beginning, beginning_of, step_from, MessageEnds, next_req}
use Rattle.gateway.proofs.WorkLemmas.{some_if}

-- what is put at a request and removed leaves what there is without it
remove-insert : (works : Works) (req : ℕ) (work : Work) → tree.remove (tree.insert works req work) req ≡ tree.remove works req
remove-insert works req work =
    tree.same_map nat_cmp_total tree.nat_cmp-IsAntisymmetric (tree.remove (tree.insert works req work) req) (tree.remove works req)
    (λ (q : ℕ). tree.get-remove nat_cmp_total (tree.insert works req work) req q
    ∙ ap (λ (o : Option Work). cond (eq_by_cmp nat_cmp q req) None o) (tree.get-insert nat_cmp_total works req work q)
    ∙ by_tie (eq_by_cmp nat_cmp q req) (tree.get works q)
    ∙ sym (tree.get-remove nat_cmp_total works req q))
  where
    by_tie : (b : Bool) (o : Option Work) → cond b None (cond b (Some work) o) ≡ cond b None o
    by_tie true o = refl
    by_tie false o = refl

pub works_left-by : (req : ℕ) (told : Work) (outcome : Outcome) (works : Works)
    → works_left req outcome (tree.insert works req (work_by outcome told)) ≡ works_by req told outcome works
works_left-by req told outcomes.Awaited works = refl
works_left-by req told outcomes.Failed works = refl
works_left-by req told (outcomes.Done bytes) works = remove-insert works req told
works_left-by req told (outcomes.Refused cause) works = remove-insert works req told

pub act_by-told : (req : ℕ) (told : Work) (outcome : Outcome) → act_by req (work_by outcome told).work outcome ≡ act_by req told.work outcome
act_by-told req told outcomes.Awaited = refl
act_by-told req told outcomes.Failed = refl
act_by-told req told (outcomes.Done bytes) = refl
act_by-told req told (outcomes.Refused cause) = refl

-- ---- a message has ended

by_ends : (gateway : Gateway) (req : ℕ) (work : Work) (attempt : Attempt) (bytes : List ℕ) (over done may : Bool) (cause : Option Cause)
    → cond over
    (cond done (done_step gateway req work.work bytes) (failure_step gateway req work (cond may cause None)))
    (waiting_step (with_work req (record work { stage = Open attempt }) gateway))
    ≡ step_by gateway req (record work { stage = Open attempt })
    (cond over (cond done (outcomes.Done bytes) (cond may (failure_outcome cause) outcomes.Failed)) outcomes.Awaited)
by_ends gateway req work attempt bytes false done may cause = refl
by_ends gateway req work attempt bytes true true may cause = refl
by_ends gateway req work attempt bytes true false false cause = refl
by_ends gateway req work attempt bytes true false true None = refl
by_ends gateway req work attempt bytes true false true (Some cause) = refl

attempt_continued-by : (gateway : Gateway) (req : ℕ) (work : Work) (attempt : Attempt)
    → attempt_continued gateway req work attempt
    ≡ step_by gateway req (record work { stage = Open attempt }) (outcome_of gateway.tries (is_touched req gateway) work attempt)
unfolding attempt_continued attempt_ended
attempt_continued-by gateway req work attempt =
    by_ends gateway req work attempt (bytes_given work.work attempt.messages) (is_over attempt.messages) (is_done work.work attempt.messages)
    (nat_le gateway.tries (work.ended + 1) && not (is_touched req gateway))
    (first_failure work.work attempt.epoch attempt.messages)

by_stage : (gateway : Gateway) (req : ℕ) (work : Work) (number : ℕ) (status : Status) (stage : WorkStage)
    → list_any (is_awaited_message number) (open_messages stage) ≡ true
    → status_step_in gateway req work number status stage
    ≡ step_by gateway req (record work { stage = stage_with_status number status stage })
    (outcome_at gateway.tries (is_touched req gateway) work (stage_with_status number status stage))
by_stage gateway req work number status (Open attempt) there = attempt_continued-by gateway req work (attempt_with_status number status attempt)
by_stage gateway req work number status Ended there = absurd (cc (there))
by_stage gateway req work number status (WaitsForMembers epoch) there = absurd (cc (there))

-- what a message came to is known in the work that waits for it
pub message_ended-by : (gateway : Gateway) (number : ℕ) (status : Status) (req : ℕ) (work : Work) → asker number gateway ≡ Some (req, work)
    → list_any (is_awaited_message number) (open_messages work.stage) ≡ true
    → message_ended gateway number status
    ≡ step_by (touched_by req work.work status gateway) req (work_with_status number status work)
    (outcome_at gateway.tries (is_touched req (touched_by req work.work status gateway)) work (work_with_status number status work).stage)
unfolding message_ended
message_ended-by gateway number status req work found there =
    ap (status_step_by gateway number status) found
    ∙ by_stage (touched_by req work.work status gateway) req work number status work.stage there

pub message_ended-none : (gateway : Gateway) (number : ℕ) (status : Status) → asker number gateway ≡ None
    → message_ended gateway number status ≡ waiting_step gateway
unfolding message_ended
message_ended-none gateway number status none = ap (status_step_by gateway number status) none

-- ---- an attempt begins

by_zones : (epochs : List EpochMembers) (gateway : Gateway) (req : ℕ) (work : Work) (first : ℕ) (epoch : Epoch) (halt : Cause) (short touched : Bool)
    → cond short
    (cond touched
    (waiting_step (with_work req (record work { stage = WaitsForMembers epoch }) gateway))
    (refusal_step gateway req work.work halt))
    (open_step gateway req work (next_attempt work first epoch (targets_in epochs epoch.0 (oid_of work.work) (policy_of work.work))))
    ≡ step_from gateway req work epoch
    (cond short (cond touched beginnings.Waits (beginnings.Refused halt))
    (sends_beginning gateway.me epoch work.work
    (messages_of work.work work.ended first (targets_in epochs epoch.0 (oid_of work.work) (policy_of work.work)))))
by_zones epochs gateway req work first epoch halt true true = refl
by_zones epochs gateway req work first epoch halt true false = refl
by_zones epochs gateway req work first epoch halt false touched = refl

pub attempt_step-from : (epochs : List EpochMembers) (gateway : Gateway) (req : ℕ) (work : Work) (first : ℕ) (epoch : Epoch)
    → attempt_step epochs gateway req work first epoch
    ≡ step_from gateway req work epoch
    (beginning_of epochs gateway.me work.work work.ended (is_touched req gateway) first epoch)
unfolding attempt_step
attempt_step-from epochs gateway req work first epoch =
    by_zones epochs gateway req work first epoch (Halt (zone_count (members_at epochs epoch.0)) (zones_for work.work))
    (nat_lt (zone_count (members_at epochs epoch.0)) (zones_for work.work)) (is_touched req gateway)

-- ---- the whole of a call

-- what was put at a request when a message ended is what is found there when it is told
pub ends-told : (o : Option Work) (before middle after : Works) (req number : ℕ) (status : Status) (tries : ℕ) (touched : Bool) (outcome : Outcome) (act : Act)
    → IfSome o (λ work. outcome ≡ outcome_at tries touched work (work_with_status number status work).stage)
    → IfSome o (λ work. middle ≡ tree.insert before req (work_by outcome (work_with_status number status work)))
    → IfSome (tree.get middle req) (λ work. after ≡ works_left req outcome middle)
    → IfSome (tree.get middle req) (λ work. act ≡ act_by req work.work outcome)
    → IfSome o (λ work. MessageEnds req number status tries touched work before after act)
ends-told None before middle after req number status tries touched outcome act is put works told = tt
ends-told (Some work) before middle after req number status tries touched outcome act is put works told =
    let known : Work = work_with_status number status work in
    let at : tree.get middle req ≡ Some (work_by outcome known)
    = ap (λ (m : Works). tree.get m req) put ∙ get-insert_same before req (work_by outcome known) in (
      some_if (tree.get middle req) (λ (w : Work). after ≡ works_left req outcome middle) (work_by outcome known) at works
          ∙ ap (works_left req outcome) put ∙ works_left-by req known outcome before ∙ ap (λ (u : Outcome). works_by req known u before) is,
      some_if (tree.get middle req) (λ (w : Work). act ≡ act_by req w.work outcome) (work_by outcome known) at told
          ∙ act_by-told req known outcome ∙ ap (act_by req work.work) is,
    )

pub told-step : (gateway : Gateway) (number : ℕ) (status : Status) (req : ℕ) (work : Work) (works : Works) (touched : set.FinSet nat_cmp) (act : Act)
    → asker number gateway ≡ Some (req, work)
    → list_any (is_awaited_message number) (open_messages work.stage) ≡ true
    → touched ≡ (touched_by req work.work status gateway).touched
    → MessageEnds req number status gateway.tries (is_touched req (touched_by req work.work status gateway)) work gateway.works works act
    → message_ended gateway number status ≡ record { gateway = record gateway { works = works; touched = touched }; act = act }
told-step gateway number status req work works touched act found there touched_is ends =
    message_ended-by gateway number status req work found there
    ∙ (λ i. record {
      gateway = record { me = gateway.me; tries = gateway.tries; works = sym ends.0 i; touched = sym touched_is i };
      act = sym ends.1 i;
    })

pub start-from : (epochs : List EpochMembers) (gateway : Gateway) (req : ℕ) (work : ObjWork) (first : ℕ) (epoch : Epoch) (beginning : Beginning)
    → beginning ≡ beginning_of epochs gateway.me work 0 (is_touched req gateway) first epoch
    → start_step epochs gateway req work first epoch
    ≡ step_from gateway req (record { work = work; ended = 0; stage = Ended }) epoch beginning
unfolding start_step
start-from epochs gateway req work first epoch beginning is =
    attempt_step-from epochs gateway req (record { work = work; ended = 0; stage = Ended }) first epoch
    ∙ ap (step_from gateway req (record { work = work; ended = 0; stage = Ended }) epoch) (sym is)

-- a start that is refused changes nothing
pub refused-start : (gateway : Gateway) (req : ℕ) → tree.get gateway.works req ≡ None → without_work req gateway ≡ gateway
refused-start gateway req none = ap (λ (works : Works). record gateway { works = works }) (remove-none gateway.works req none)

next-found : (epoch : Epoch) (works : Works) (req : ℕ) (work : Work) (o : Option (ℕ × Work))
    → find (λ (entry : ℕ × Work). may_try epoch entry.1.stage) (tree.entries works) ≡ o
    → option_map (λ (entry : ℕ × Work). entry.0) o ≡ Some req → tree.get works req ≡ Some work → o ≡ Some (req, work)
next-found epoch works req work None found is at = absurd (cc (is))
next-found epoch works req work (Some entry) found is at =
    let there = find-contains (λ (entry : ℕ × Work). may_try epoch entry.1.stage) (tree.entries works) entry found in
    let same : entry.0 ≡ req = same_Some entry.0 req is in
    let stands : tree.get works entry.0 ≡ Some entry.1 = get-entry works entry there.0 in
    let its : entry.1 ≡ work = same_Some entry.1 work (sym stands ∙ ap (tree.get works) same ∙ at) in
    ap₂ (λ (r : ℕ) (w : Work). Some (r, w)) same its

pub retry-from : (epochs : List EpochMembers) (gateway : Gateway) (req : ℕ) (work : Work) (first : ℕ) (epoch : Epoch) (beginning : Beginning)
    → next_req epoch gateway.works ≡ Some req → tree.get gateway.works req ≡ Some work
    → beginning ≡ beginning_of epochs gateway.me work.work work.ended (is_touched req gateway) first epoch
    → retry_step epochs gateway first epoch ≡ step_from gateway req work epoch beginning
unfolding retry_step
retry-from epochs gateway req work first epoch beginning next at is =
    ap (retry_step_of epochs gateway first epoch)
    (next-found epoch gateway.works req work (next_try epoch gateway) refl next at)
    ∙ attempt_step-from epochs gateway req work first epoch
    ∙ ap (step_from gateway req work epoch) (sym is)

-- a work that may be tried stands at its request
pub next-there : (epoch : Epoch) (works : Works) (req : ℕ) (o : Option (ℕ × Work))
    → find (λ (entry : ℕ × Work). may_try epoch entry.1.stage) (tree.entries works) ≡ o
    → option_map (λ (entry : ℕ × Work). entry.0) o ≡ Some req → tree.get works req ≡ None → ⊥
next-there epoch works req None found is at = absurd (cc (is))
next-there epoch works req (Some entry) found is at =
    let there = find-contains (λ (entry : ℕ × Work). may_try epoch entry.1.stage) (tree.entries works) entry found in
    let wrong : Some entry.1 ≡ None
    = sym (get-entry works entry there.0) ∙ ap (tree.get works) (same_Some entry.0 req is) ∙ at in
    absurd (cc (wrong))

nothing-found : (o : Option (ℕ × Work)) → option_map (λ (entry : ℕ × Work). entry.0) o ≡ None → o ≡ None
nothing-found None is = refl
nothing-found (Some entry) is = absurd (cc (is))

pub retry-none : (epochs : List EpochMembers) (gateway : Gateway) (first : ℕ) (epoch : Epoch) → next_req epoch gateway.works ≡ None
    → retry_step epochs gateway first epoch ≡ waiting_step gateway
unfolding retry_step
retry-none epochs gateway first epoch none = ap (retry_step_of epochs gateway first epoch) (nothing-found (next_try epoch gateway) none)

-- a work that is refused as it starts would begin in too few zones

by_short : (short : Bool) (halt opened : GatewayStep) → (RefusesWork opened.act → ⊥) → RefusesWork (cond short halt opened).act → short ≡ true
by_short true halt opened none refuses = refl
by_short false halt opened none refuses = absurd (none refuses)

pub refused-short : (epochs : List EpochMembers) (gateway : Gateway) (req : ℕ) (work : ObjWork) (first : ℕ) (epoch : Epoch)
    → RefusesWork (start_step epochs gateway req work first epoch).act
    → nat_lt (zone_count (members_at epochs epoch.0)) (zones_for work) ≡ true
unfolding start_step attempt_step
refused-short epochs gateway req work first epoch = by_short (nat_lt (zone_count (members_at epochs epoch.0)) (zones_for work)) _ _ (λ refuses. refuses)

-- so would one that is refused as it is tried again
pub refused-short-again : (epochs : List EpochMembers) (gateway : Gateway) (req : ℕ) (work : Work) (first : ℕ) (epoch : Epoch)
    → next_req epoch gateway.works ≡ Some req → tree.get gateway.works req ≡ Some work
    → RefusesWork (retry_step epochs gateway first epoch).act
    → nat_lt (zone_count (members_at epochs epoch.0)) (zones_for work.work) ≡ true
unfolding retry_step attempt_step
refused-short-again epochs gateway req work first epoch next at refuses =
    by_short (nat_lt (zone_count (members_at epochs epoch.0)) (zones_for work.work)) _ _ (λ wrong. wrong)
    (subst (λ (found : Option (ℕ × Work)). RefusesWork (retry_step_of epochs gateway first epoch found).act)
    (next-found epoch gateway.works req work (next_try epoch gateway) refl next at) refuses)
