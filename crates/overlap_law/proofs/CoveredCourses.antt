-- What stands in its session's queue for a read or write covers the objects that it hasn't come to, and it may run once it has begun: every
-- change keeps that.
use Rattle.std.proofs.Common.{◌≡◌, ◌≢◌, ⊎_elim, ℕ, true, false, not, List, [], ◌∷◌, ◌++◌, All, Contains, Option, Some, None, option_map}
use Rattle.std.proofs.Common.{refl, sym, ap, subst, ◌∙◌}
use Rattle.std.specs.FinMap as tree
use Rattle.std.proofs.lemmas.List.Elements.{Contains-push_cases}
use Rattle.std.proofs.lemmas.Option.{same_Some}
use Rattle.proof_tools.proofs.Lists.{filter-contains}
use Rattle.object_id.specs.declared.entry.VdiSpec.{VdiSpec}
use Rattle.peer_proto.specs.declared.guest.DiskAsk.{DiskAsk}
use Rattle.gateway_queue.specs.declared.queue.Queued.{Queued}
use Rattle.gateway_queue.specs.Queue.{has_request_number, queue_without, may_run}
use Rattle.gateway_queue.proofs.RequestOrder.{may_run-done, may_run-pushed}
use Rattle.guest_driver.specs.declared.disk.Disk.{Disk}
use Rattle.guest_driver.specs.OnDisk.{pieces_left}
use Rattle.guest_driver.specs.Pieces.{offset_of, size_of, pieces}
use Rattle.guest_driver.specs.Driver.{Driver, DriverStep, begin_driver, driver_on_done}
use Rattle.sheep_node.specs.declared.ask.Ask.TheVariants as asks
use Rattle.sheep_node.specs.declared.input.Input.{Input}
use Rattle.sheep_node.specs.declared.course.Course.{Course}
use Rattle.sheep_node.specs.declared.course.Course.TheVariants.{Waiting, Driving, Commanding, Checking, DoingWork, AwaitingDecision}
use Rattle.sheep_node.specs.declared.session.Session.{Session}
use Rattle.sheep_node.specs.State.{Node}
use Rattle.sheep_node.specs.StepState.{StepState, at_first, session_in}
use Rattle.sheep_node.specs.Guests.{queued_as}
use Rattle.sheep_node.specs.May.{May}
use Rattle.sheep_node.specs.SessionQueues.{QueuesAreDiskRequests, CommandsAreAlone, is_disk_request_of}
use Rattle.sheep_node.specs.Changes.{HasRequest, IsSoundStep, Arrival, input_received, Leads}
use Rattle.sheep_node.proofs.OneWorkParts.{Requests, Sessions}
use Rattle.sheep_node.proofs.QueueChanges.{QueuesAre}
use Rattle.sheep_node.proofs.SeenCourses.{AreSeen, course_seen}
use Rattle.sheep_node.proofs.CourseWalk.{IsKeptByParts, none_so, so_in_chain}
use Rattle.sheep_node.proofs.TurnChanges.{run_is_queued}
use Rattle.sheep_node.proofs.WantedSteps.{driver_begins-wanted, driver_goes_on-wanted}
use Rattle.overlap_law.proofs.CoveredPieces.{CoversPiece, all_covered, begins_covered, goes_on_keeps}
use Rattle.overlap_law.proofs.PiecesBehind.{CoversBehind, begins_behind, goes_on_behind}

-- how large the objects are of the disk that is open
abbrev pub shift_open : Option Disk → Option ℕ
shift_open disk = option_map (λ (disk : Disk). disk.inode.spec.shift) disk

-- with the session's queue
abbrev pub size_with : Option Disk → List Queued → Option ℕ × List Queued
size_with disk queue = (shift_open disk, queue)

abbrev pub size_and_queue : Session → Option ℕ × List Queued
size_and_queue session = size_with session.disk session.queue

-- of a request that waits the queue has what was asked, of the disk that is open; one that has begun may run, and the queue covers the rest
-- of it, and what a write has behind it
abbrev pub IsCovered : ℕ → (Option ℕ × List Queued) → Course → Type 0
IsCovered req place (Waiting ask) =
    (shift : ℕ) → place.0 ≡ Some shift → (queued : Queued) → Contains place.1 queued → queued.req ≡ req → queued ≡ queued_as shift req ask
IsCovered req place (Driving driver) =
    (may_run req place.1 ≡ true)
    × ((queued : Queued) → Contains place.1 queued → queued.req ≡ req → All (CoversPiece queued) (pieces_left driver)
    × ((shift : ℕ) → place.0 ≡ Some shift → CoversBehind shift queued driver))
IsCovered req place (Commanding op) = Unit {0}
IsCovered req place (Checking check) = Unit {0}
IsCovered req place (DoingWork asked) = Unit {0}
IsCovered req place (AwaitingDecision entry) = Unit {0}

-- each request is so
abbrev pub AreCovered : Requests → Sessions → Type 0
AreCovered = AreSeen size_and_queue IsCovered

abbrev pub CoveredSoFar : StepState → Type 0
CoveredSoFar so_far = AreCovered so_far.node.requests so_far.node.sessions

-- where a request is
pub course_covered : (number req : ℕ) (course : Course) (so_far : StepState) → HasRequest number req course so_far → CoveredSoFar so_far
    → IsCovered req (size_and_queue (session_in number so_far)) course
course_covered = course_seen size_and_queue IsCovered

-- ---- a queue that changes

-- another is done
without_other : (req q : ℕ) (shift : Option ℕ) (queue : List Queued) → q ≢ req → (course : Course) → IsCovered q (shift, queue) course
    → IsCovered q (shift, queue_without req queue) course
without_other req q shift queue other (Waiting ask) is =
    λ size wide queued there same. is size wide queued (filter-contains (λ one. not (has_request_number req one)) queue queued there).0 same
without_other req q shift queue other (Driving driver) is = (
  may_run-done queue q req (λ (same : req ≡ q). other (sym same)) is.0,
  λ queued there same. is.1 queued (filter-contains (λ one. not (has_request_number req one)) queue queued there).0 same,
)
without_other req q shift queue other (Commanding op) is = tt
without_other req q shift queue other (Checking check) is = tt
without_other req q shift queue other (DoingWork asked) is = tt
without_other req q shift queue other (AwaitingDecision entry) is = tt

-- one more has come
module _ (q : ℕ) (shift : Option ℕ) (queue : List Queued) (one : Queued) (other : q ≢ one.req) where
  there_before : (queued : Queued) → Contains (queue ++ one ∷ []) queued → queued.req ≡ q → Contains queue queued
  there_before queued there same = ⊎_elim
      (λ (before : Contains queue queued). before)
      (λ (new : one ≡ queued). absurd (other (sym same ∙ sym (ap (λ (o : Queued). o.req) new))))
      (Contains-push_cases queue one queued there)

  with_one_more : (course : Course) → IsCovered q (shift, queue) course → IsCovered q (shift, queue ++ one ∷ []) course
  with_one_more (Waiting ask) is = λ size wide queued there same. is size wide queued (there_before queued there same) same
  with_one_more (Driving driver) is = (
    may_run-pushed queue (one ∷ []) q (run_is_queued q queue is.0) ∙ is.0,
    λ queued there same. is.1 queued (there_before queued there same) same,
  )
  with_one_more (Commanding op) is = tt
  with_one_more (Checking check) is = tt
  with_one_more (DoingWork asked) is = tt
  with_one_more (AwaitingDecision entry) is = tt

-- ---- a read or write

-- one that comes has its place in the queue, where no other is of its number
comes_covered : (shift req : ℕ) (ask : DiskAsk) (queue : List Queued)
    → ((queued : Queued) → Contains queue queued → queued.req ≡ req → ⊥)
    → IsCovered req (Some shift, queue ++ queued_as shift req ask ∷ []) (Waiting ask)
comes_covered shift req ask queue none = λ size wide one among same. ⊎_elim
    (λ (before : Contains queue one). absurd (none one before same))
    (λ (last : queued_as shift req ask ≡ one). sym last ∙ ap (λ (k : ℕ). queued_as k req ask) (same_Some shift size wide))
    (Contains-push_cases queue (queued_as shift req ask) one among)

-- a driver's step leaves the size of the objects
driven_covered : (req : ℕ) (disk : Disk) (queue : List Queued) (step : DriverStep) → may_run req queue ≡ true
    → ((queued : Queued) → Contains queue queued → queued.req ≡ req
    → All (CoversPiece queued) (pieces_left step.driver) × CoversBehind disk.inode.spec.shift queued step.driver)
    → step.inode.spec ≡ disk.inode.spec → IsCovered req (Some step.inode.spec.shift, queue) (Driving step.driver)
driven_covered req disk queue step may is spec = (
  may,
  λ queued there own. (
    (is queued there own).0,
    λ shift at.
        let size : disk.inode.spec.shift ≡ shift
        = ap (λ (spec : VdiSpec). spec.shift) (sym spec) ∙ same_Some step.inode.spec.shift shift at in
        subst (λ (k : ℕ). CoversBehind k queued step.driver) size (is queued there own).1,
  ),
)

begun_covered : (req : ℕ) (disk : Disk) (queue : List Queued) (ask : DiskAsk) → may_run req queue ≡ true
    → IsCovered req (Some disk.inode.spec.shift, queue) (Waiting ask)
    → IsCovered req (Some (begin_driver disk ask).inode.spec.shift, queue) (Driving (begin_driver disk ask).driver)
begun_covered req disk queue ask runs waits =
    driven_covered req disk queue (begin_driver disk ask) runs
    (λ one among same.
    let is : one ≡ queued_as disk.inode.spec.shift req ask = waits disk.inode.spec.shift refl one among same in (
      subst (λ (q : Queued). All (CoversPiece q) (pieces_left (begin_driver disk ask).driver)) (sym is) (begins_covered disk req ask),
      begins_behind disk one ask
          (subst (λ (q : Queued). All (CoversPiece q) (pieces disk.inode.spec.shift (offset_of ask) (size_of ask))) (sym is)
          (all_covered disk.inode.spec.shift req ask)),
    ))
    (driver_begins-wanted disk ask).spec

gone_on_covered : (req : ℕ) (disk : Disk) (queue : List Queued) (bytes : List ℕ) (driver : Driver) (step : DriverStep)
    → driver_on_done disk.inode bytes driver ≡ Some step → IsCovered req (Some disk.inode.spec.shift, queue) (Driving driver)
    → IsCovered req (Some step.inode.spec.shift, queue) (Driving step.driver)
gone_on_covered req disk queue bytes driver step is before =
    driven_covered req disk queue step before.0
    (λ one among same. (
      goes_on_keeps (CoversPiece one) disk.inode bytes driver step is (before.1 one among same).0,
      goes_on_behind disk.inode.spec.shift one disk.inode bytes driver step is (before.1 one among same).0
          ((before.1 one among same).1 disk.inode.spec.shift refl),
    ))
    (driver_goes_on-wanted disk.inode bytes driver step is).spec

-- ---- every change

module _ {input : Input} {node : Node} (sound : IsSoundStep input node) (queued : QueuesAreDiskRequests node) where
  -- a request that comes stands in no queue
  queued_none : (so_far : StepState) (session req : ℕ) (ask : DiskAsk) → Arrival input node so_far session req (asks.Disk ask) None
      → (one : Queued) → Contains (session_in session so_far).queue one → one.req ≡ req → ⊥
  queued_none so_far session req ask arrival one there same =
      let queues : QueuesAre so_far = subst QueuesAre (sym arrival.first) queued in
      let on = queues.there session req (one, there, same) in
      let off : is_disk_request_of session (tree.get so_far.node.requests req) ≡ false
      = ap (is_disk_request_of session) (arrival.none sound) in
      cc (on, off)

  parts_keep_covered : IsKeptByParts size_with IsCovered input node
  parts_keep_covered = record {
    arrives = λ so_far session req ask disk arrival on.
        comes_covered disk.inode.spec.shift req ask (session_in session so_far).queue (queued_none so_far session req ask arrival);
    begins = λ req disk queue ask runs waits. begun_covered req disk queue ask runs waits;
    goes_on = λ req disk queue bytes driver step is before. gone_on_covered req disk queue bytes driver step is before;
    commands = λ req place op. tt;
    checks = λ so_far session req inode arrival on. tt;
    checked = λ req place bytes check step is before. tt;
    objects = λ so_far session req asked arrival. tt;
    entries = λ req place entry. tt;
    comes_beside = λ req disk queue one other course is. with_one_more req (shift_open disk) queue one other course is;
    ends_beside = λ req other disk queue apart course is. without_other other req (shift_open disk) queue apart course is;
    drives_beside = λ req disk queue inode spec vid course is.
        subst (λ (spec : VdiSpec). IsCovered req (Some spec.shift, queue) course) (sym spec) is;
  }

pub none_covered : AreCovered tree.empty tree.empty
none_covered = none_so size_with IsCovered

-- in the middle of a step
pub covered_in_chain : (input : Input) (node : Node) → May input node → IsSoundStep input node → QueuesAreDiskRequests node
    → CommandsAreAlone node → AreCovered node.requests node.sessions → (so_far : StepState)
    → Leads input node (input_received input (at_first node)) so_far → CoveredSoFar so_far
covered_in_chain input node may sound queued sole all so_far leads =
    so_in_chain size_with IsCovered input node (parts_keep_covered sound queued) may queued sole all so_far leads
