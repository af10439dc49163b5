-- A request that waits for its turn waited before a change of its node's step, or comes by it.
use Rattle.std.proofs.Common.{◌≡◌, ◌≢◌, ◌⊎◌, inl, inr, ℕ, None, Some, sym, subst}
use Rattle.std.specs.FinMap as tree
use Rattle.peer_proto.specs.declared.guest.DiskAsk.{DiskAsk}
use Rattle.guest_driver.specs.Driver as drivers
use Rattle.disk_check.specs.Check.{begin_check}
use Rattle.sheep_node.specs.declared.ask.Ask.TheVariants as asks
use Rattle.sheep_node.specs.declared.course.Course.{Course}
use Rattle.sheep_node.specs.declared.course.Request.{Request}
use Rattle.sheep_node.specs.declared.course.Course.TheVariants.{Waiting, Driving, Commanding, Checking, DoingWork, AwaitingDecision}
use Rattle.sheep_node.specs.declared.input.Input.{Input}
use Rattle.sheep_node.specs.State.{Node}
use Rattle.sheep_node.specs.StepState.{StepState}
use Rattle.sheep_node.specs.Changes.{Arrival, Outcome, RequestSteps, DiskBegins, DiskGoesOn, CommandBegins, CommandGoesOn, CommandDecided}
use Rattle.sheep_node.specs.Changes.{CheckBegins, CheckGoesOn, ObjectBegins, ObjectIsDone, EntryBegins, EntryDecided, Change}
use Rattle.sheep_node.proofs.OneWorkParts.{Requests}
use Rattle.overlap_law.proofs.RequestWalk.{IsWhereThere, put_there, change_there}

module _ (q : ℕ) (input : Input) (node : Node) where
  -- the request waits
  pub record IsWaiting (requests : Requests) : Type 0 where
    pub request : Request
    pub ask : DiskAsk
    pub there : tree.get requests q ≡ Some request
    pub waits : request.course ≡ Waiting ask

  -- it comes with the step
  pub record ComesNow (so_far : StepState) : Type 0 where
    pub session : ℕ
    pub ask : DiskAsk
    pub arrival : Arrival input node so_far session q (asks.Disk ask) None

  -- it did so in an earlier state, if it waits
  abbrev IsFrom : StepState → Request → Type 0
  IsFrom origin r = (ask : DiskAsk) → r.course ≡ Waiting ask → IsWaiting origin.node.requests ⊎ ComesNow origin

  abbrev AreFrom : StepState → Requests → Type 0
  AreFrom origin = IsWhereThere q (IsFrom origin)

  from_itself : (so_far : StepState) → AreFrom so_far so_far.node.requests
  from_itself so_far r got ask waits = inl (record { request = r; ask = ask; there = got; waits = waits })

  -- a request that is put in another course doesn't wait
  put_from : (so_far : StepState) (req session : ℕ) (course : Course) → ((ask : DiskAsk) → course ≢ Waiting ask)
      → AreFrom so_far (tree.insert so_far.node.requests req (record { session = session; course = course }))
  put_from so_far req session course other =
      put_there q (IsFrom so_far) so_far.node.requests req (record { session = session; course = course })
      (λ own ask waits. absurd (other ask waits)) (from_itself so_far)

  steps_from : (so_far : StepState) (session req : ℕ) (next : Outcome) (moved : StepState)
      → RequestSteps input node so_far session req next moved → AreFrom so_far moved.node.requests
  steps_from so_far session req next moved (DiskBegins ask disk there on may) =
      put_from so_far req session (Driving (drivers.begin_driver disk ask).driver) (λ other same. cc (same))
  steps_from so_far session req next moved (DiskGoesOn number work attempt status bytes driver disk step ends on is) =
      put_from so_far req session (Driving step.driver) (λ other same. cc (same))
  steps_from so_far session req next moved (CommandBegins ask step arrival is) =
      put_from so_far req session (Commanding step.op) (λ other same. cc (same))
  steps_from so_far session req next moved (CommandGoesOn number work attempt status bytes op step ends is) =
      put_from so_far req session (Commanding step.op) (λ other same. cc (same))
  steps_from so_far session req next moved (CommandDecided entry op step from read there waits is) =
      put_from so_far req session (Commanding step.op) (λ other same. cc (same))
  steps_from so_far session req next moved (CheckBegins inode arrival on) =
      put_from so_far req session (Checking (begin_check inode).check) (λ other same. cc (same))
  steps_from so_far session req next moved (CheckGoesOn number work attempt status bytes check step ends is) =
      put_from so_far req session (Checking step.check) (λ other same. cc (same))
  steps_from so_far session req next moved (ObjectBegins asked arrival) =
      put_from so_far req session (DoingWork asked) (λ other same. cc (same))
  steps_from so_far session req next moved (ObjectIsDone number work attempt status bytes asked ends) = from_itself so_far
  steps_from so_far session req next moved (EntryBegins entry arrival) =
      put_from so_far req session (AwaitingDecision entry) (λ other same. cc (same))
  steps_from so_far session req next moved (EntryDecided entry wanted from read there waits) = from_itself so_far

  pub waited_or_comes : (so_far next : StepState) → Change input node so_far next → IsWaiting next.node.requests
      → IsWaiting so_far.node.requests ⊎ ComesNow so_far
  waited_or_comes so_far next change is =
      change_there q (IsFrom so_far) so_far (steps_from so_far)
      (λ session req ask arrival own other waits. inr (record {
        session = session;
        ask = ask;
        arrival = subst (λ (k : ℕ). Arrival input node so_far session k (asks.Disk ask) None) (sym own) arrival;
      }))
      (from_itself so_far) next change is.request is.there is.ask is.waits
