-- A change of a node refuses a request for want of an object only where an attempt of its work has ended, with a message that was refused
-- so.
use Rattle.std.proofs.Common.{◌≡◌, ◌⊎◌, inl, inr, ⊎_elim, ℕ, zero, suc, Bool, true, false, cond, List, length, [], ◌∷◌, Contains, Option}
use Rattle.std.proofs.Common.{Some, None, slice_get, refl, sym, ap, subst, ◌∙◌}
use Rattle.std.specs.Option.{option_map_or}
use Rattle.std.proofs.lemmas.Option.{same_Some}
use Rattle.proof_tools.proofs.Lists.{Contains-nil}
use Rattle.object_id.specs.declared.cause.Cause.{Cause}
use Rattle.object_id.specs.declared.cause.Cause.TheVariants as causes
use Rattle.object_id.specs.declared.node.Epoch.{Epoch}
use Rattle.object_id.specs.declared.node.NodeId.{NodeId}
use Rattle.peer_proto.specs.declared.guest.DiskAsk.{DiskAsk}
use Rattle.peer_proto.specs.declared.guest.DiskAsk.TheVariants as disk_asks
use Rattle.peer_proto.specs.declared.guest.VdiAsk.{VdiAsk}
use Rattle.peer_proto.specs.declared.guest.GuestRsp.{GuestRsp}
use Rattle.peer_proto.specs.declared.guest.GuestRsp.TheVariants as replies
use Rattle.peer_proto.specs.declared.say.Refusal.TheVariants as refusals
use Rattle.peer_proto.specs.declared.work.ObjWork.{ObjWork}
use Rattle.peer_proto.specs.Work.{oid_of}
use Rattle.inode.specs.Layout.{Content}
use Rattle.peer_service.specs.State.{effects_of}
use Rattle.peer_service.specs.LogReading.{decision_on}
use Rattle.vdi_directory.specs.declared.decision.Decision.{Decision}
use Rattle.vdi_directory.specs.declared.decision.Decision.TheVariants as decisions
use Rattle.vdi_directory.specs.Decisions.{log_effects}
use Rattle.vdi_ops.specs.Steps.{begin_command}
use Rattle.gateway.specs.declared.message.Message.{Message}
use Rattle.gateway.specs.declared.message.Status.{Status}
use Rattle.gateway.specs.declared.message.Status.TheVariants as statuses
use Rattle.gateway.specs.Work.{zones_for}
use Rattle.gateway.specs.Attempt as gateways
use Rattle.gateway.specs.Attempt.{failure, first_cause, first_failure, messages_with_status}
use Rattle.gateway.specs.State.{Work}
use Rattle.gateway.specs.Step.{attempt_with_status}
use Rattle.guest_driver.specs.declared.disk.Disk.{Disk}
use Rattle.guest_driver.specs.Driver.{read_on, write_on, begin_unless_refused, begin_driver}
use Rattle.guest_driver.specs.Pieces.{pieces}
use Rattle.disk_check.specs.Check.{begin_check}
use Rattle.guest_driver.specs.Refusals.{refusal_on}
use Rattle.sheep_node.specs.declared.ask.Ask.{Ask}
use Rattle.sheep_node.specs.declared.ask.Ask.TheVariants as asks
use Rattle.sheep_node.specs.declared.course.Course.{Course}
use Rattle.sheep_node.specs.declared.course.Course.TheVariants as courses
use Rattle.sheep_node.specs.declared.course.Request.{Request}
use Rattle.sheep_node.specs.declared.input.Input.{Input}
use Rattle.sheep_node.specs.State.{Node}
use Rattle.sheep_node.specs.StepState.{StepState, at_first, replies_in_order, request_ended, session_in}
use Rattle.sheep_node.specs.Guests.{request_refusal}
use Rattle.sheep_node.specs.RequestWorks.{course_refused, command_refused}
use Rattle.sheep_node.specs.Courses.{inode_open, work_reply, decision_reply}
use Rattle.sheep_node.specs.Changes as changes
use Rattle.sheep_node.specs.Changes.{input_received, IsSoundStep, EndsAttempt, without_ended_work, without_denied_work, zones_of_members}
use Rattle.sheep_node.specs.Changes.{Outcome, ToWork, ToEntry, ToReply, outcome_of_driver, outcome_of_command, outcome_of_check}
use Rattle.sheep_node.specs.Changes.{RequestSteps, DiskBegins, DiskGoesOn, CommandBegins, CommandGoesOn, CommandDecided, CheckBegins}
use Rattle.sheep_node.specs.Changes.{CheckGoesOn, ObjectBegins, ObjectIsDone, EntryBegins, EntryDecided, Change, Leads}
use Rattle.sheep_node.proofs.NumberChanges.{both_in_chain}
use Rattle.sheep_node.proofs.OneWorkChanges.{StepHasOneWork}
use Rattle.vdi_ops.specs.Op as ops
use Rattle.vdi_ops.specs.Steps.{on_refusal, refused_at}
use Rattle.overlap_law.proofs.ClosedFirstStages.{begins_first}
use Rattle.overlap_law.proofs.OtherCauses.{names_lack, tells_lack, no_refusal_lacks, IsOther, disk_other, open_other, command_other}
use Rattle.overlap_law.proofs.OtherCauses.{DecidesOther, outcome_other, TellsOther, decided_other}
use Rattle.overlap_law.proofs.RefusedUntouched.{steps_silent, next_silent}
use Rattle.overlap_law.proofs.RefusingNothing.{RefusesNothing, read_refuses_nothing, write_refuses_nothing, driver_refuses_nothing}
use Rattle.overlap_law.proofs.RefusingNothing.{command_refuses_nothing, check_refuses_nothing, work_refuses_nothing}
use Rattle.overlap_law.proofs.RequestsInSteps.{replies-in_order, received_replies}

abbrev pub Replies : Type 0
Replies = List (ℕ × GuestRsp)

-- ---- why an attempt failed

-- a message was refused for want of the object, which the cause names
pub record HasLack (work : ObjWork) (cause : Cause) (messages : List Message) : Type 0 where
  pub place : ℕ
  pub message : Message
  pub got : slice_get messages place ≡ Some message
  pub refused : message.status ≡ statuses.Refused refusals.NoObj
  pub named : cause ≡ causes.NoObj message.node (oid_of work)

failed_so : (work : ObjWork) (epoch : Epoch) (node : NodeId) (status : Status) (cause : Cause) → failure work epoch node status ≡ Some cause
    → names_lack cause ≡ true → (status ≡ statuses.Refused refusals.NoObj) × (cause ≡ causes.NoObj node (oid_of work))
failed_so work epoch node statuses.Unanswered cause is lacks = absurd (cc (is))
failed_so work epoch node (statuses.Succeeded bytes) cause is lacks = absurd (cc (is))
failed_so work epoch node (statuses.Refused refusals.NoObj) cause is lacks =
    (refl, sym (same_Some (causes.NoObj node (oid_of work)) cause is))
failed_so work epoch node (statuses.Refused (refusals.OldEpoch own)) cause is lacks =
    let other = ap (λ (o : Option Cause). option_map_or names_lack o false) is in absurd (cc (other, lacks))
failed_so work epoch node (statuses.Refused (refusals.NewEpoch own)) cause is lacks =
    let other = ap (λ (o : Option Cause). option_map_or names_lack o false) is in absurd (cc (other, lacks))
failed_so work epoch node (statuses.Refused refusals.Recovery) cause is lacks =
    let other = ap (λ (o : Option Cause). option_map_or names_lack o false) is in absurd (cc (other, lacks))
failed_so work epoch node statuses.Lost cause is lacks =
    let other = ap (λ (o : Option Cause). option_map_or names_lack o false) is in absurd (cc (other, lacks))

lack_found : (work : ObjWork) (epoch : Epoch) (messages : List Message) (cause : Cause) → first_failure work epoch messages ≡ Some cause
    → names_lack cause ≡ true → HasLack work cause messages
lack_found work epoch [] cause is lacks = absurd (cc (is))
lack_found work epoch (message ∷ messages) cause is lacks =
    by_first (failure work epoch message.node message.status) refl is
    (λ later.
    let rest = lack_found work epoch messages cause later lacks in
    record { place = suc rest.place; message = rest.message; got = rest.got; refused = rest.refused; named = rest.named })
  where
    by_first : (o : Option Cause) → failure work epoch message.node message.status ≡ o
        → first_cause o (first_failure work epoch messages) ≡ Some cause
        → (first_failure work epoch messages ≡ Some cause → HasLack work cause (message ∷ messages))
        → HasLack work cause (message ∷ messages)
    by_first None failed is rest = rest is
    by_first (Some first) failed is rest =
        let so = failed_so work epoch message.node message.status cause (failed ∙ is) lacks in
        record { place = zero; message = message; got = refl; refused = so.0; named = so.1 }

if_some : {X : Type 0} (b : Bool) (o : Option X) (x : X) → cond b o None ≡ Some x → o ≡ Some x
if_some {X = X} true o x is = is
if_some {X = X} false o x is = absurd (cc (is))

-- ---- a change

module _ (input : Input) (node : Node) (sound : IsSoundStep input node) (so_far : StepState) (good : StepHasOneWork so_far) where
  -- the attempt of a request's work has ended, with such a message
  pub record EndsLacking (req : ℕ) (given : GuestRsp) : Type 0 where
    pub session : ℕ
    pub number : ℕ
    pub work : Work
    pub attempt : gateways.Attempt
    pub status : Status
    pub course : Course
    pub ends : EndsAttempt input node so_far session req number work attempt status course
    pub cause : Cause
    pub lack : HasLack work.work cause (messages_with_status number status attempt.messages)
    pub told : given ≡ replies.Refused cause

  -- a reply that refuses for want of an object was given before, or is of such a request
  abbrev pub LacksMay : Replies → Type 0
  LacksMay all = (reply : ℕ × GuestRsp) → Contains all reply → tells_lack reply.1 ≡ true
      → Contains so_far.outputs.replies reply ⊎ EndsLacking reply.0 reply.1

  same_lacks : (all : Replies) → all ≡ so_far.outputs.replies → LacksMay all
  same_lacks all same reply there lacks = inl (subst (λ (r : Replies). Contains r reply) same there)

  one_lacks : (req : ℕ) (given : GuestRsp) (all : Replies) → (tells_lack given ≡ true → EndsLacking req given) → LacksMay all
      → LacksMay (replies_in_order (req, given) all)
  one_lacks req given all may before reply there lacks = ⊎_elim
      (λ (new : (req, given) ≡ reply).
      inr (subst (λ (r : ℕ × GuestRsp). EndsLacking r.0 r.1) new (may (ap (λ (r : ℕ × GuestRsp). tells_lack r.1) new ∙ lacks))))
      (λ (old : Contains all reply). before reply old lacks)
      (replies-in_order (req, given) all reply there)

  ended_lacks : (session req : ℕ) (given : GuestRsp) (now : StepState) → (tells_lack given ≡ true → EndsLacking req given)
      → LacksMay now.outputs.replies → LacksMay (request_ended session req given now).outputs.replies
  unfolding request_ended
  ended_lacks session req given now may before = one_lacks req given now.outputs.replies may before

  -- a request is refused for this cause
  refused_lacks : (session req : ℕ) (cause : Cause) (course : Course) (now : StepState)
      → (names_lack cause ≡ true → EndsLacking req (replies.Refused cause))
      → LacksMay now.outputs.replies → LacksMay (course_refused session req cause course now).outputs.replies
  unfolding on_refusal
  refused_lacks session req cause (courses.Waiting ask) now may before = before
  refused_lacks session req cause (courses.Driving driver) now may before = ended_lacks session req (replies.Refused cause) now may before
  refused_lacks session req cause (courses.Commanding op) now may before = by_stage op.stage
    where
      by_stage : (stage : ops.OpStage) → LacksMay (command_refused session req (refused_at cause op stage) now).outputs.replies
      by_stage (ops.Asked entry) = before
      by_stage (ops.Working vid task) = ended_lacks session req (replies.Refused cause) _ may before
      by_stage (ops.Publishing entry made) = before
      by_stage (ops.Answered change) = before
  refused_lacks session req cause (courses.Checking check) now may before = ended_lacks session req (replies.Refused cause) now may before
  refused_lacks session req cause (courses.DoingWork work) now may before = ended_lacks session req (replies.Refused cause) now may before
  refused_lacks session req cause (courses.AwaitingDecision entry) now may before = before

  -- ---- what a request comes to in a step

  nothing_other : (next : Outcome) → RefusesNothing next → TellsOther next
  nothing_other (ToWork work) none = tt
  nothing_other (ToEntry entry) none = tt
  nothing_other (ToReply reply) none = no_refusal_lacks reply none

  begins_other : (disk : Disk) (ask : DiskAsk) → TellsOther (outcome_of_driver (begin_driver disk ask).act)
  unfolding begin_driver
  begins_other disk ask = by_refusal ask (refusal_on disk false ask) (disk_other disk false ask)
    where
      by_refusal : (ask : DiskAsk) (refusal : Option Cause) → IsOther refusal
          → TellsOther (outcome_of_driver (begin_unless_refused disk.inode ask refusal).act)
      by_refusal ask (Some cause) other = other
      by_refusal (disk_asks.Read offset size) None other =
          nothing_other (outcome_of_driver (read_on disk.inode [] (pieces disk.inode.spec.shift offset size)).act)
          (read_refuses_nothing disk.inode [] (pieces disk.inode.spec.shift offset size))
      by_refusal (disk_asks.Write offset payload) None other =
          nothing_other (outcome_of_driver (write_on disk.inode payload (pieces disk.inode.spec.shift offset (length payload))).act)
          (write_refuses_nothing disk.inode payload (pieces disk.inode.spec.shift offset (length payload)))

  asked_other : (session : ℕ) (ask : VdiAsk) (disk : Option Content) (step : ops.OpStep)
      → begin_command so_far.node.me session ask disk ≡ Some step → TellsOther (outcome_of_command step.act)
  asked_other session ask disk step is =
      let (entry, same) = begins_first so_far.node.me session ask disk step is in
      subst (λ (s : ops.OpStep). TellsOther (outcome_of_command s.act)) same tt

  told_other : (decision : Decision) → DecidesOther decision → tells_lack (decision_reply decision) ≡ false
  told_other decisions.None other = refl
  told_other (decisions.Granted vid) other = refl
  told_other (decisions.Refused cause) other = other

  steps_other : (session req : ℕ) (next : Outcome) (moved : StepState) → RequestSteps input node so_far session req next moved
      → TellsOther next
  steps_other session req next moved (DiskBegins ask disk there on may) = begins_other disk ask
  steps_other session req next moved (DiskGoesOn number work attempt status bytes driver disk step ends on done) =
      nothing_other (outcome_of_driver step.act) (driver_refuses_nothing disk.inode bytes driver step done)
  steps_other session req next moved (CommandBegins ask step arrival begins) =
      asked_other session ask (inode_open (session_in session so_far).disk) step begins
  steps_other session req next moved (CommandGoesOn number work attempt status bytes op step ends done) =
      nothing_other (outcome_of_command step.act) (command_refuses_nothing bytes op step done)
  steps_other session req next moved (CommandDecided entry op step from read there waits decided) =
      decided_other (effects_of so_far.node.peer) (inode_open (session_in session so_far).disk) (decision_on entry node.peer) op step
      (outcome_other (log_effects node.peer.entries) entry) decided
  steps_other session req next moved (CheckBegins inode arrival on) =
      nothing_other (outcome_of_check (begin_check inode).act) (check_refuses_nothing (begin_check inode).act)
  steps_other session req next moved (CheckGoesOn number work attempt status bytes check step ends done) =
      nothing_other (outcome_of_check step.act) (check_refuses_nothing step.act)
  steps_other session req next moved (ObjectBegins asked arrival) = tt
  steps_other session req next moved (ObjectIsDone number work attempt status bytes asked ends) =
      no_refusal_lacks (work_reply asked bytes) (work_refuses_nothing asked bytes)
  steps_other session req next moved (EntryBegins entry arrival) = tt
  steps_other session req next moved (EntryDecided entry wanted from read there waits) =
      told_other (decision_on entry node.peer) (outcome_other (log_effects node.peer.entries) entry)

  -- ---- every change

  arrival_other : (ask : Ask) (disk : Option Disk) (cause : Cause) → request_refusal so_far.node.peer disk ask ≡ Some cause
      → names_lack cause ≡ false
  arrival_other (asks.Disk ask) disk cause is = subst IsOther is (open_other disk _ ask)
  arrival_other (asks.Vdi ask) disk cause is = subst IsOther is (command_other _ ask)
  arrival_other (asks.Object work) disk cause is = absurd (cc (is))
  arrival_other (asks.Entry entry) disk cause is = absurd (cc (is))

  change_lacks : (next : StepState) → Change input node so_far next → LacksMay next.outputs.replies
  change_lacks next (changes.Marks req number work attempt status learns over) = same_lacks next.outputs.replies refl
  change_lacks next (changes.Fails session req number work attempt status course ends done why) = same_lacks next.outputs.replies refl
  change_lacks next (changes.Stops session req number work attempt status course bytes ends over) = same_lacks next.outputs.replies refl
  change_lacks next (changes.Refuses session req number work attempt status course cause ends done why) =
      let marked = attempt_with_status number status attempt in
      refused_lacks session req cause course (without_ended_work session req work status so_far)
      (λ lacks. record {
        session = session;
        number = number;
        work = work;
        attempt = attempt;
        status = status;
        course = course;
        ends = ends;
        cause = cause;
        told = refl;
        lack = lack_found work.work marked.epoch marked.messages cause
            (if_some _ (first_failure work.work marked.epoch marked.messages) cause why) lacks;
      })
      (same_lacks so_far.outputs.replies refl)
  change_lacks next (changes.Opens session req asked lined comes enough) =
      same_lacks lined.outputs.replies (next_silent input node sound so_far good session req asked lined comes)
  change_lacks next (changes.Holds session req asked lined comes short touched) =
      same_lacks lined.outputs.replies (next_silent input node sound so_far good session req asked lined comes)
  change_lacks next (changes.Denies session req tried lined request comes short untouched there own) = by_request request
    where
      silent : LacksMay (without_denied_work session req tried lined).outputs.replies
      silent = same_lacks lined.outputs.replies (next_silent input node sound so_far good session req tried lined comes)

      by_request : (request : Option Request) → LacksMay (option_map_or
          (λ (r : Request). course_refused r.session req (causes.Halt (zones_of_members lined.node) (zones_for tried.work)) r.course
          (without_denied_work session req tried lined)) request (without_denied_work session req tried lined)).outputs.replies
      by_request None = silent
      by_request (Some r) =
          refused_lacks r.session req (causes.Halt (zones_of_members lined.node) (zones_for tried.work)) r.course
          (without_denied_work session req tried lined) (λ lacks. absurd (cc (lacks))) silent
  change_lacks next (changes.Strays req work gateway there none apart) = same_lacks next.outputs.replies refl
  change_lacks next (changes.Lines session req work moved steps waits) =
      same_lacks moved.outputs.replies (steps_silent input node sound so_far good session req (ToWork work) moved steps)
  change_lacks next (changes.Appends session req entry moved steps) =
      same_lacks moved.outputs.replies (steps_silent input node sound so_far good session req (ToEntry entry) moved steps)
  change_lacks next (changes.Replies session req reply moved steps) =
      ended_lacks session req reply moved
      (λ lacks. let other = steps_other session req (ToReply reply) moved steps in absurd (cc (lacks, other)))
      (same_lacks moved.outputs.replies (steps_silent input node sound so_far good session req (ToReply reply) moved steps))
  change_lacks next (changes.Arrives session req ask disk arrival on) = same_lacks next.outputs.replies refl
  change_lacks next (changes.Rejects session req ask cause arrival) =
      one_lacks req (replies.Refused cause) so_far.outputs.replies
      (λ lacks. let other = arrival_other ask (session_in session so_far).disk cause arrival.refused in absurd (cc (lacks, other)))
      (same_lacks so_far.outputs.replies refl)
  change_lacks next (changes.Recovers due) = same_lacks next.outputs.replies refl

-- ---- a step

module _ (input : Input) (node : Node) (sound : IsSoundStep input node) where
  abbrev first : StepState
  first = input_received input (at_first node)

  -- in the middle of it the attempt of a request ended so
  pub record EndedLacking (req : ℕ) (given : GuestRsp) : Type 0 where
    pub so_far : StepState
    pub leads : Leads input node first so_far
    pub good : StepHasOneWork so_far
    pub ends : EndsLacking input node sound so_far good req given

  pub lacked_in_chain : (last : StepState) → Leads input node first last → (reply : ℕ × GuestRsp) → Contains last.outputs.replies reply
      → tells_lack reply.1 ≡ true → EndedLacking reply.0 reply.1
  lacked_in_chain last changes.Still reply there lacks =
      absurd (Contains-nil reply (subst (λ (r : Replies). Contains r reply) (received_replies input node) there))
  lacked_in_chain last (changes.Then {so_far} {next} leads change) reply there lacks =
      let good = (both_in_chain input node sound so_far leads).0 in
      ⊎_elim
      (λ (old : Contains so_far.outputs.replies reply). lacked_in_chain so_far leads reply old lacks)
      (λ (new : EndsLacking input node sound so_far good reply.0 reply.1).
      record { so_far = so_far; leads = leads; good = good; ends = new })
      (change_lacks input node sound so_far good next change reply there lacks)
