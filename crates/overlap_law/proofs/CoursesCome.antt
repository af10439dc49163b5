-- Over each change in the middle of a step a request is where it was, or has just begun to wait, or takes the step by the change.
use Rattle.std.proofs.Common.{◌≡◌, ◌≢◌, ◌⊎◌, inl, inr, ⊎_elim, ℕ, Some, refl, sym, ap, subst, ◌∙◌}
use Rattle.std.specs.FinMap as tree
use Rattle.proof_tools.proofs.FiniteMaps.{get-insert_cases}
use Rattle.peer_proto.specs.declared.guest.DiskAsk.{DiskAsk}
use Rattle.guest_driver.specs.Driver as drivers
use Rattle.disk_check.specs.Check.{begin_check}
use Rattle.sheep_node.specs.declared.course.Request.{Request}
use Rattle.sheep_node.specs.declared.course.Course.TheVariants.{Waiting, Driving, Commanding, Checking, DoingWork, AwaitingDecision}
use Rattle.sheep_node.specs.declared.input.Input.{Input}
use Rattle.sheep_node.specs.State.{Node}
use Rattle.sheep_node.specs.StepState.{StepState}
use Rattle.sheep_node.specs.Changes.{Outcome}
use Rattle.sheep_node.specs.Changes.{RequestSteps, DiskBegins, DiskGoesOn, CommandBegins, CommandGoesOn, CommandDecided, CheckBegins}
use Rattle.sheep_node.specs.Changes.{CheckGoesOn, ObjectBegins, ObjectIsDone, EntryBegins, EntryDecided}
use Rattle.sheep_node.specs.Changes.{Change}
use Rattle.sheep_node.proofs.OneWorkParts.{Requests}
use Rattle.overlap_law.proofs.RequestWalk.{IsWhereThere, change_there}

-- a request takes a step, and is there then
pub record StepsNow (input : Input) (node : Node) (so_far : StepState) (q : ℕ) (request : Request) : Type 0 where
  pub session : ℕ
  pub next : Outcome
  pub moved : StepState
  pub steps : RequestSteps input node so_far session q next moved
  pub there : tree.get moved.node.requests q ≡ Some request

module _ (q : ℕ) (input : Input) (node : Node) where
  -- it was there, or takes a step, or has just begun
  abbrev pub Comes : StepState → Request → Type 0
  Comes so_far request = (tree.get so_far.node.requests q ≡ Some request)
      ⊎ (StepsNow input node so_far q request ⊎ ((ask : DiskAsk) × (request.course ≡ Waiting ask)))

  abbrev From : StepState → StepState → Type 0
  From origin so_far = IsWhereThere q (Comes origin) so_far.node.requests

  from_itself : (so_far : StepState) → From so_far so_far
  from_itself so_far r got = inl got

  put_from : (so_far : StepState) (session req : ℕ) (next : Outcome) (moved : StepState) (new : Request)
      → moved.node.requests ≡ tree.insert so_far.node.requests req new → RequestSteps input node so_far session req next moved
      → From so_far moved
  put_from so_far session req next moved new same steps r got = ⊎_elim
      (λ (here : (q ≡ req) × (new ≡ r)). inr (inl (record {
        session = session;
        next = next;
        moved = moved;
        steps = subst (λ (k : ℕ). RequestSteps input node so_far session k next moved) (sym here.0) steps;
        there = got;
      })))
      (λ (other : (q ≢ req) × (tree.get so_far.node.requests q ≡ Some r)). inl other.1)
      (get-insert_cases so_far.node.requests req new q r (ap (λ (m : Requests). tree.get m q) (sym same) ∙ got))

  steps_from : (so_far : StepState) (session req : ℕ) (next : Outcome) (moved : StepState)
      → RequestSteps input node so_far session req next moved → From so_far moved
  steps_from so_far session req next moved (DiskBegins ask disk there on may) =
      put_from so_far session req next moved (record { session = session; course = Driving (drivers.begin_driver disk ask).driver }) refl
      (DiskBegins ask disk there on may)
  steps_from so_far session req next moved (DiskGoesOn number work attempt status bytes driver disk step ends on is) =
      put_from so_far session req next moved (record { session = session; course = Driving step.driver }) refl
      (DiskGoesOn number work attempt status bytes driver disk step ends on is)
  steps_from so_far session req next moved (CommandBegins ask step arrival is) =
      put_from so_far session req next moved (record { session = session; course = Commanding step.op }) refl
      (CommandBegins ask step arrival is)
  steps_from so_far session req next moved (CommandGoesOn number work attempt status bytes op step ends is) =
      put_from so_far session req next moved (record { session = session; course = Commanding step.op }) refl
      (CommandGoesOn number work attempt status bytes op step ends is)
  steps_from so_far session req next moved (CommandDecided entry op step from read there waits is) =
      put_from so_far session req next moved (record { session = session; course = Commanding step.op }) refl
      (CommandDecided entry op step from read there waits is)
  steps_from so_far session req next moved (CheckBegins inode arrival on) =
      put_from so_far session req next moved (record { session = session; course = Checking (begin_check inode).check }) refl
      (CheckBegins inode arrival on)
  steps_from so_far session req next moved (CheckGoesOn number work attempt status bytes check step ends is) =
      put_from so_far session req next moved (record { session = session; course = Checking step.check }) refl
      (CheckGoesOn number work attempt status bytes check step ends is)
  steps_from so_far session req next moved (ObjectBegins asked arrival) =
      put_from so_far session req next moved (record { session = session; course = DoingWork asked }) refl (ObjectBegins asked arrival)
  steps_from so_far session req next moved (ObjectIsDone number work attempt status bytes asked ends) = from_itself so_far
  steps_from so_far session req next moved (EntryBegins entry arrival) =
      put_from so_far session req next moved (record { session = session; course = AwaitingDecision entry }) refl
      (EntryBegins entry arrival)
  steps_from so_far session req next moved (EntryDecided entry wanted from read there waits) = from_itself so_far

  pub courses_come : (so_far next : StepState) → Change input node so_far next → (r : Request) → tree.get next.node.requests q ≡ Some r
      → Comes so_far r
  courses_come so_far =
      change_there q (Comes so_far) so_far (steps_from so_far) (λ session req ask arrival own. inr (inr (ask, refl))) (from_itself so_far)
