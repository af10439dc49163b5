-- A reply that a change of a node gives, and that doesn't refuse its request, ends the request by a step that it takes; and no attempt
-- begins in the change.
use Rattle.std.proofs.Common.{◌≡◌, ◌≢◌, ⊎_elim, ℕ, true, false, List, [], Contains, Option, Some, None, refl, sym, ap, subst}
use Rattle.std.specs.Option.{option_map_or}
use Rattle.object_id.specs.declared.cause.Cause.{Cause}
use Rattle.object_id.specs.declared.cause.Cause.TheVariants.{Halt}
use Rattle.peer_proto.specs.declared.guest.GuestRsp.{GuestRsp}
use Rattle.peer_proto.specs.declared.guest.GuestRsp.TheVariants as refusals
use Rattle.gateway.specs.State.{Work}
use Rattle.gateway.specs.Work.{zones_for}
use Rattle.vdi_ops.specs.Op.{Op, OpStage, Asked, Working, Publishing, Answered}
use Rattle.vdi_ops.specs.Steps.{on_refusal, refused_at}
use Rattle.sheep_node.specs.declared.course.Course.{Course}
use Rattle.sheep_node.specs.declared.course.Course.TheVariants.{Waiting, Driving, Commanding, Checking, DoingWork, AwaitingDecision}
use Rattle.sheep_node.specs.declared.course.Request.{Request}
use Rattle.sheep_node.specs.declared.input.Input.{Input}
use Rattle.sheep_node.specs.State.{Node}
use Rattle.sheep_node.specs.StepState.{StepState, replies_in_order, request_ended}
use Rattle.sheep_node.specs.RequestWorks.{command_refused, course_refused}
use Rattle.sheep_node.specs.Changes as changes
use Rattle.sheep_node.specs.Changes.{Change, RequestSteps, ToEntry, ToReply, ToWork}
use Rattle.sheep_world.specs.World.{Host}
use Rattle.overlap_law.specs.Attempts.{AttemptRecord}
use Rattle.overlap_law.specs.PastWords.{is_refusal}
use Rattle.overlap_law.specs.StepMoments.{attempts_of_change}
use Rattle.overlap_law.proofs.RepliesOfChanges.{steps_silent, comes_silent}
use Rattle.overlap_law.proofs.RequestsInSteps.{replies-in_order}

-- the request takes a step to its reply, and nothing begins
pub record IsRepliedBy (input : Input) (node : Node) (so_far next : StepState) (change : Change input node so_far next)
    (reply : ℕ × GuestRsp) : Type 0 where
  pub session : ℕ
  pub moved : StepState
  pub steps : RequestSteps input node so_far session reply.0 (ToReply reply.1) moved
  pub none : (host : Host) → attempts_of_change host so_far next change ≡ []

module _ (input : Input) (node : Node) (so_far : StepState) (reply : ℕ × GuestRsp) (accepts : is_refusal reply.1 ≡ false)
    (free : (one : ℕ × GuestRsp) → Contains so_far.outputs.replies one → one.0 ≢ reply.0) where
  -- it wasn't there
  not_old : (replies : List (ℕ × GuestRsp)) → replies ≡ so_far.outputs.replies → Contains replies reply → ⊥
  not_old replies same among = free reply (subst (λ (list : List (ℕ × GuestRsp)). Contains list reply) same among) refl

  -- and is no refusal
  not_refused : (req : ℕ) (cause : Cause) (replies : List (ℕ × GuestRsp)) → replies ≡ so_far.outputs.replies
      → Contains (replies_in_order (req, refusals.Refused cause) replies) reply → ⊥
  not_refused req cause replies same among = ⊎_elim
      (λ (new : (req, refusals.Refused cause) ≡ reply).
      let refuses : is_refusal reply.1 ≡ true = ap (λ (r : ℕ × GuestRsp). is_refusal r.1) (sym new) in
      cc (refuses, accepts))
      (λ (old : Contains replies reply). not_old replies same old)
      (replies-in_order (req, refusals.Refused cause) replies reply among)

  not_by_course : (session req : ℕ) (cause : Cause) (course : Course) (now : StepState) → now.outputs.replies ≡ so_far.outputs.replies
      → Contains (course_refused session req cause course now).outputs.replies reply → ⊥
  unfolding request_ended on_refusal
  not_by_course session req cause (Waiting ask) now same among = not_old now.outputs.replies same among
  not_by_course session req cause (Driving driver) now same among = not_refused req cause now.outputs.replies same among
  not_by_course session req cause (Commanding op) now same among = by_stage op.stage among
    where
      by_stage : (stage : OpStage) → Contains (command_refused session req (refused_at cause op stage) now).outputs.replies reply → ⊥
      by_stage (Asked entry) among = not_old now.outputs.replies same among
      by_stage (Working vid task) among = not_refused req cause now.outputs.replies same among
      by_stage (Publishing entry opened) among = not_old now.outputs.replies same among
      by_stage (Answered change) among = not_old now.outputs.replies same among
  not_by_course session req cause (Checking check) now same among = not_refused req cause now.outputs.replies same among
  not_by_course session req cause (DoingWork work) now same among = not_refused req cause now.outputs.replies same among
  not_by_course session req cause (AwaitingDecision entry) now same among = not_old now.outputs.replies same among

  pub replied_by : (next : StepState) (change : Change input node so_far next) → Contains next.outputs.replies reply
      → IsRepliedBy input node so_far next change reply
  unfolding request_ended
  replied_by next (changes.Marks req number work attempt status learns over) among = absurd (not_old next.outputs.replies refl among)
  replied_by next (changes.Fails session req number work attempt status course ends done why) among =
      absurd (not_old next.outputs.replies refl among)
  replied_by next (changes.Stops session req number work attempt status course bytes ends over) among =
      absurd (not_old next.outputs.replies refl among)
  replied_by next (changes.Refuses session req number work attempt status course cause ends done why) among =
      absurd (not_by_course session req cause course (changes.without_ended_work session req work status so_far) refl among)
  replied_by next (changes.Opens session req tried lined comes enough) among =
      absurd (not_old lined.outputs.replies (comes_silent input node so_far session req tried lined comes) among)
  replied_by next (changes.Holds session req tried lined comes short touched) among =
      absurd (not_old lined.outputs.replies (comes_silent input node so_far session req tried lined comes) among)
  replied_by next (changes.Denies session req tried lined request comes short untouched there own) among =
      absurd (by_request request among)
    where
      cause : Cause
      cause = Halt (changes.zones_of_members lined.node) (zones_for tried.work)

      denied : StepState
      denied = changes.without_denied_work session req tried lined

      by_request : (request : Option Request)
          → Contains (option_map_or (λ (r : Request). course_refused r.session req cause r.course denied) request denied).outputs.replies
          reply → ⊥
      by_request None among = not_old lined.outputs.replies (comes_silent input node so_far session req tried lined comes) among
      by_request (Some r) among =
          not_by_course r.session req cause r.course denied (comes_silent input node so_far session req tried lined comes) among
  replied_by next (changes.Strays req work gateway there none apart) among = absurd (not_old next.outputs.replies refl among)
  replied_by next (changes.Lines session req work moved steps waits) among =
      absurd (not_old moved.outputs.replies (steps_silent input node so_far session req (ToWork work) moved steps) among)
  replied_by next (changes.Appends session req entry moved steps) among =
      absurd (not_old moved.outputs.replies (steps_silent input node so_far session req (ToEntry entry) moved steps) among)
  replied_by next (changes.Replies session req told moved steps) among = ⊎_elim
      (λ (same : (req, told) ≡ reply).
      subst (IsRepliedBy input node so_far next (changes.Replies session req told moved steps)) same (record {
        session = session;
        moved = moved;
        steps = steps;
        none = λ host. refl;
      }))
      (λ (old : Contains moved.outputs.replies reply).
      absurd (not_old moved.outputs.replies (steps_silent input node so_far session req (ToReply told) moved steps) old))
      (replies-in_order (req, told) moved.outputs.replies reply among)
  replied_by next (changes.Arrives session req ask disk arrival opened) among = absurd (not_old next.outputs.replies refl among)
  replied_by next (changes.Rejects session req ask cause arrival) among =
      absurd (not_refused req cause so_far.outputs.replies refl among)
  replied_by next (changes.Recovers due) among = absurd (not_old next.outputs.replies refl among)
