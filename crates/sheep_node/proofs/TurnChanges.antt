-- Every change leaves a read or write that has begun apart from the earlier ones of its session.
use Rattle.std.proofs.Common.{◌≡◌, ◌≢◌, ℕ, not, ◌||◌, Bool, true, false, cond, List, [], ◌∷◌, ◌++◌, Option, Some, None, refl, sym, ◌∙◌}
use Rattle.std.specs.List.{find, list_any}
use Rattle.std.specs.Option.{option_map_or}
use Rattle.object_id.specs.declared.node.NodeId.{NodeId}
use Rattle.gateway_queue.specs.declared.queue.Queued.{Queued}
use Rattle.gateway_queue.specs.Queue.{has_request_number, is_queued, queue_without, earlier, meet, may_run}
use Rattle.gateway_queue.proofs.RequestOrder.{may_run-pushed, may_run-done}
use Rattle.guest_driver.specs.declared.disk.Disk.{Disk}
use Rattle.sheep_node.specs.declared.input.Input.{Input}
use Rattle.sheep_node.specs.declared.course.Course.{Course}
use Rattle.sheep_node.specs.declared.course.Course.TheVariants.{Waiting, Driving, Commanding, Checking, DoingWork, AwaitingDecision}
use Rattle.sheep_node.specs.State.{Node, initial_node}
use Rattle.sheep_node.specs.Step.{node_step}
use Rattle.sheep_node.specs.SessionQueues.{IsInTurn, RequestsAreInTurn}
use Rattle.sheep_node.proofs.CourseWalk.{IsKeptByParts, none_so, so_without_disk}
use Rattle.sheep_node.proofs.StepChain.{step_chain}

-- of a session only the queue is seen
abbrev queue_alone : Option Disk → List Queued → List Queued
queue_alone disk queue = queue

-- what may run is in the queue
found_any : {X : Type 0} (p : X → Bool) (xs : List X) (x : X) → find p xs ≡ Some x → list_any p xs ≡ true
found_any p [] x is = absurd (cc (is))
found_any p (y ∷ ys) x is = by_tie (p y) is (found_any p ys x)
  where
    by_tie : (b : Bool) → cond b (Some y) (find p ys) ≡ Some x → (find p ys ≡ Some x → list_any p ys ≡ true)
        → (b || list_any p ys) ≡ true
    by_tie true is later = refl
    by_tie false is later = later is

pub run_is_queued : (req : ℕ) (queue : List Queued) → may_run req queue ≡ true → is_queued req queue ≡ true
run_is_queued req queue may = by_found (find (has_request_number req) queue) refl may
  where
    by_found : (o : Option Queued) → find (has_request_number req) queue ≡ o
        → option_map_or (λ mine. not (list_any (meet mine) (earlier req queue))) o false ≡ true → is_queued req queue ≡ true
    by_found None none may = absurd (cc (may))
    by_found (Some mine) there may = found_any (has_request_number req) queue mine there

-- and it may run still, once another is done or one more has come
without_other : (req q : ℕ) (queue : List Queued) → q ≢ req → (course : Course) → IsInTurn q queue course
    → IsInTurn q (queue_without req queue) course
without_other req q queue other (Waiting ask) is = tt
without_other req q queue other (Driving driver) is = may_run-done queue q req (λ (same : req ≡ q). other (sym same)) is
without_other req q queue other (Commanding op) is = tt
without_other req q queue other (Checking check) is = tt
without_other req q queue other (DoingWork asked) is = tt
without_other req q queue other (AwaitingDecision entry) is = tt

with_one_more : (q : ℕ) (queue : List Queued) (one : Queued) (course : Course) → IsInTurn q queue course
    → IsInTurn q (queue ++ one ∷ []) course
with_one_more q queue one (Waiting ask) is = tt
with_one_more q queue one (Driving driver) is = may_run-pushed queue (one ∷ []) q (run_is_queued q queue is) ∙ is
with_one_more q queue one (Commanding op) is = tt
with_one_more q queue one (Checking check) is = tt
with_one_more q queue one (DoingWork asked) is = tt
with_one_more q queue one (AwaitingDecision entry) is = tt

-- ---- every change

parts_keep_turn : (input : Input) (node : Node) → IsKeptByParts queue_alone IsInTurn input node
parts_keep_turn input node = record {
  arrives = λ so_far session req ask disk arrival on. tt;
  begins = λ req disk queue ask runs waits. runs;
  goes_on = λ req disk queue bytes driver step is before. before;
  commands = λ req queue op. tt;
  checks = λ so_far session req inode arrival on. tt;
  checked = λ req queue bytes check step is before. tt;
  objects = λ so_far session req asked arrival. tt;
  entries = λ req queue entry. tt;
  comes_beside = λ req disk queue one other course is. with_one_more req queue one course is;
  ends_beside = λ req other disk queue apart course is. without_other other req queue apart course is;
  drives_beside = λ req disk queue inode spec vid course is. is;
}

pub in_turn_at_opening : (me : NodeId) (tries : ℕ) → RequestsAreInTurn (initial_node me tries)
in_turn_at_opening me tries = none_so queue_alone IsInTurn

pub stay_in_turn : (input : Input) (node : Node) → RequestsAreInTurn node → RequestsAreInTurn (node_step input node).node
stay_in_turn input node all =
    so_without_disk queue_alone IsInTurn (λ one other queue. refl) input node (parts_keep_turn input node) all (node_step input node)
    (step_chain input node)
