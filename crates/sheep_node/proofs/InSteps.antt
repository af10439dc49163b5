-- What is known of a node in the middle of a step, and that the step goes on.
use Rattle.std.proofs.Common.{◌≡◌, ℕ, ◌+◌, true, false, List, [], ◌∷◌, ◌++◌, take, fold, Contains, Option, Some, None, is_none, if◌then◌else◌, refl, ap, sym, subst, ◌∙◌}
use native.Mathlib.Omega.{arith}
use Rattle.std.specs.Prelude.{IsTrue, IfSome}
use Rattle.std.specs.FinMap as tree
use Rattle.std.proofs.lemmas.Grind.{fold-append}
use Rattle.proof_tools.proofs.Lists.{Contains-first}
use Rattle.vnode_table.specs.Epochs.{is_entered}
use Rattle.guest_driver.specs.InodeQueue as lines
use Rattle.guest_driver.specs.InodeQueue.{next_work, queue_after_start}
use Rattle.peer_proto.specs.Work.{IsWork}
use Rattle.peer_proto.specs.declared.guest.DiskAsk.{DiskAsk}
use Rattle.guest_driver.specs.Pieces.{is_ask}
use Rattle.sheep_node.specs.declared.course.Course.TheVariants.{Waiting}
use Rattle.sheep_node.specs.declared.course.Request.{Request}
use Rattle.sheep_node.specs.StepState.{StepState, at_first, session_in, with_inode_queue}
use Rattle.sheep_node.specs.Waiting.{next_begun, begun_if_may, passed_over}
use Rattle.sheep_node.specs.OneWork.{may_work, may_work_at, may_work_of}
use Rattle.sheep_node.specs.Courses.{inode_open}
use Rattle.sheep_node.specs.SessionQueues.{session_among}
use Rattle.sheep_node.specs.DrivenDisks.{IsCourseOn}
use Rattle.sheep_node.specs.Changes.{IsSoundStep, input_received}
use Rattle.sheep_node.specs.MayBegin.{MayComeToWork, MayBeginWork}
use Rattle.sheep_node.specs.InStep.{IsInStep}
use Rattle.sheep_node.proofs.OneWorkChanges.{StepHasOneWork, free_in, change_keeps_one_work, received_one_work}
use Rattle.sheep_node.proofs.GivenNumbers.{GivenWithOneWork, change_keeps_given, received_given}
use Rattle.sheep_node.proofs.NumberChanges.{meets_numbers}
use Rattle.sheep_node.proofs.StepChain.{kept_by_chain}
use Rattle.sheep_node.proofs.ReachedSteps.{IsReached, changes_in, next_begun_walk, request_begun_walk}
use Rattle.sheep_node.proofs.DrivenChanges.{on_disks_in_chain}
use Rattle.sheep_node.proofs.AskedNodes.{entered_in_step}

module _ (so_far : StepState) (step : IsInStep so_far) where
  abbrev first : StepState
  first = input_received step.input (at_first step.node)

  sound_step : IsSoundStep step.input step.node
  sound_step = (meets_numbers step.input step.node step.may.condition, step.sound.one_work)

  both_in_step : GivenWithOneWork so_far
  both_in_step =
      kept_by_chain GivenWithOneWork
      (λ so_far next change both. (change_keeps_one_work so_far next change sound_step both.0, change_keeps_given so_far next change both.0 both.1))
      step.leads
      (received_one_work step.input step.node step.sound.one_work.driven, received_given step.input step.node step.sound.given)

  pub good_in_step : StepHasOneWork so_far
  good_in_step = both_in_step.0

  pub reached_here : IsReached step.input step.node first (changes_in step.leads) so_far
  reached_here = record { leads = step.leads; good = λ sound. good_in_step; count = λ short. omega arith }

  pub in_step_by : {n : ℕ} {next : StepState} → IsReached step.input step.node first n next → IsInStep next
  in_step_by walk = record { input = step.input; node = step.node; may = step.may; sound = step.sound; leads = walk.leads }

  -- ---- what waits begins

  pub next_in_step : (number : ℕ) → IsInStep (next_begun number (next_work (session_in number so_far).inode_queue) so_far)
  next_in_step number = in_step_by (next_begun_walk number so_far reached_here)

  pub begun_in_step : (req : ℕ) → IsInStep (begun_if_may so_far req)
  begun_in_step req = in_step_by (request_begun_walk so_far req (tree.get so_far.node.requests req) refl reached_here)

  -- ---- a request comes to a work

  pub entered_here : (req : ℕ) (request : Request) → tree.get so_far.node.requests req ≡ Some request
      → IsTrue (is_entered so_far.node.epochs so_far.node.peer.epoch)
  entered_here = entered_in_step step.input step.node step.may step.sound.by_the_log step.sound.read so_far step.leads

  -- a request that is there and has no work may come to one
  pub may_come_to_work : (req : ℕ) (request : Request) → tree.get so_far.node.requests req ≡ Some request → may_work request.course ≡ false
      → MayComeToWork req so_far.node
  may_come_to_work req request there never = record {
    idle = (free_in req so_far (ap may_work_at there ∙ never) good_in_step).idle;
    given = both_in_step.1;
    entered = entered_here req request there;
  }

  -- a read or write that waits asks for whole blocks
  pub asks_for_blocks : (req session : ℕ) (ask : DiskAsk) → tree.get so_far.node.requests req ≡ Some (record { session = session; course = Waiting ask })
      → IsTrue (is_ask ask)
  asks_for_blocks req session ask there =
      subst (λ (request : Option Request). IfSome request (λ (request : Request). IsCourseOn
      (inode_open (session_among request.session so_far.node.sessions).disk) request.course)) there
      (on_disks_in_chain step.input step.node step.may step.sound.queues step.sound.sole_commands step.sound.on_disks so_far step.leads req)

  -- the first that waits in a session's line may begin
  pub next_may_begin : (number : ℕ) (next : lines.Waiting) → next_work (session_in number so_far).inode_queue ≡ Some next → IsWork next.work
      → MayBeginWork next.req next.work (with_inode_queue number (queue_after_start (session_in number so_far).inode_queue) so_far).node
  next_may_begin number next is work =
      let there = first_waits (session_in number so_far).inode_queue next is in
      let request = of_request (tree.get so_far.node.requests next.req) refl (good_in_step.waiting_works number next there) in
      record { idle = good_in_step.waiting_free number next there; is_work = work; given = both_in_step.1; entered = entered_here next.req request.0 request.1 }
    where
      first_in : (waiting : List lines.Waiting) (next : lines.Waiting) → lines.first_waiting waiting ≡ Some next → Contains waiting next
      first_in [] next is = absurd (cc (is))
      first_in (one ∷ later) next is =
          let same : one ≡ next = cc (is) in
          Contains-first one next later same

      first_waits : (queue : lines.InodeQueue) (next : lines.Waiting) → next_work queue ≡ Some next → Contains queue.waiting next
      first_waits queue next is = by_current queue.current is
        where
          by_current : (current : Option ℕ) → (if is_none current then lines.first_waiting queue.waiting else None) ≡ Some next → Contains queue.waiting next
          by_current None is = first_in queue.waiting next is
          by_current (Some req) is = absurd (cc (is))

      of_request : (o : Option Request) → tree.get so_far.node.requests next.req ≡ o → may_work_of number o ≡ true
          → (request : Request) × (tree.get so_far.node.requests next.req ≡ Some request)
      of_request None is may = absurd (cc (may))
      of_request (Some request) is may = (request, is)

-- one request more was passed over
pub passed_more : (reqs : List ℕ) (k req : ℕ) (first so_far next : StepState) → take (k + 1) reqs ≡ take k reqs ++ req ∷ []
    → so_far ≡ passed_over (take k reqs) first → next ≡ begun_if_may so_far req → next ≡ passed_over (take (k + 1) reqs) first
unfolding passed_over
passed_more reqs k req first so_far next more is now =
    now ∙ ap (λ (so_far : StepState). begun_if_may so_far req) is
    ∙ sym (ap (fold begun_if_may first) more ∙ fold-append begun_if_may first (take k reqs) (req ∷ []))

pub passed_none : (reqs : List ℕ) (start : StepState) → start ≡ passed_over (take 0 reqs) start
unfolding passed_over
passed_none reqs start = refl
