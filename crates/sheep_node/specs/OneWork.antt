-- Which requests may have an open work, and which numbers are waited for: by this a work begins only where its request has none, and
-- an answer or a loss is of one message.
use Rattle.std.specs.Prelude.{◌≡◌, ◌≢◌, ℕ, ◌<◌, ◌==◌, Bool, true, false, ◌&&◌, List, [], ◌∷◌, Contains, Option, Some, None, is_none}
use Rattle.std.specs.Prelude.{unwrap_or}
use Rattle.std.specs.Ordering.{nat_cmp}
use Rattle.std.specs.Option.{option_map_or}
use Rattle.std.specs.FinMap as tree
use Rattle.gateway.specs.State as gateways
use Rattle.gateway.specs.State.{Work, is_awaited_in}
use Rattle.recovery.specs.State as recoveries
use Rattle.guest_driver.specs.InodeQueue as lines
use Rattle.vdi_ops.specs.Op.{entry_wanted}
use Rattle.sheep_node.specs.declared.course.Course.{Course}
use Rattle.sheep_node.specs.declared.course.Request.{Request}
use Rattle.sheep_node.specs.declared.session.Session.{Session}
use Rattle.sheep_node.specs.declared.course.Course.TheVariants.{Waiting, Driving, Commanding, Checking, DoingWork, AwaitingDecision}
use Rattle.sheep_node.specs.State.{Node}
use Rattle.sheep_node.specs.State.{new_session}

-- whether a request may have a work: a read or write that began, or another request that waits for no entry
abbrev pub may_work : Course → Bool
may_work (Waiting ask) = false
may_work (Driving driver) = true
may_work (Commanding op) = is_none (entry_wanted op)
may_work (Checking check) = true
may_work (DoingWork work) = true
may_work (AwaitingDecision entry) = false

-- whether a request that was looked up is there, and may have one
abbrev pub may_work_at : Option Request → Bool
may_work_at request = option_map_or (λ (request : Request). may_work request.course) request false

-- whether it is there, is of this session, and may have one
abbrev pub may_work_of : ℕ → Option Request → Bool
may_work_of number request =
    option_map_or (λ (request : Request). request.session == number && may_work request.course) request false

-- the works that wait in a session's line
abbrev pub waiting_in : ℕ → tree.FinMap nat_cmp Session → List lines.Waiting
waiting_in number sessions = (unwrap_or (tree.get sessions number) new_session).inode_queue.waiting

-- no two are of one request
abbrev pub AreOfDifferentRequests : List lines.Waiting → Type 0
AreOfDifferentRequests [] = Unit {0}
AreOfDifferentRequests (waiting ∷ later) =
    ((other : lines.Waiting) → Contains later other → other.req ≢ waiting.req) × AreOfDifferentRequests later

-- an open work is of a request that may have one; a work that waits is of such a request of its session, which has none open and
-- waits once
pub record HaveOneWorkPerRequest (works : tree.FinMap nat_cmp Work) (requests : tree.FinMap nat_cmp Request)
    (sessions : tree.FinMap nat_cmp Session) : Type 0 where
  pub open_works : (req : ℕ) (work : Work) → tree.get works req ≡ Some work → may_work_at (tree.get requests req) ≡ true
  pub waiting_works : (number : ℕ) (waiting : lines.Waiting) → Contains (waiting_in number sessions) waiting
      → may_work_of number (tree.get requests waiting.req) ≡ true
  pub waiting_free : (number : ℕ) (waiting : lines.Waiting) → Contains (waiting_in number sessions) waiting
      → tree.get works waiting.req ≡ None
  pub apart : (number : ℕ) → AreOfDifferentRequests (waiting_in number sessions)

-- a number is of one work at most
abbrev pub NumbersAreOfOneWork : tree.FinMap nat_cmp Work → Type 0
NumbersAreOfOneWork works = (number one other : ℕ) (work later : Work) → tree.get works one ≡ Some work → tree.get works other ≡ Some later
    → is_awaited_in number work ≡ true → is_awaited_in number later ≡ true → one ≡ other

-- each number is below a count
abbrev pub NumbersAreBelow : ℕ → tree.FinMap nat_cmp Work → Type 0
NumbersAreBelow count works = (number req : ℕ) (work : Work) → tree.get works req ≡ Some work
    → is_awaited_in number work ≡ true → number < count

-- a node's gateway asks in the node's name, its works go with its requests, and each number that it waits for it gave, to one work or
-- to recoveries
pub record HasOneWorkPerRequest (node : Node) : Type 0 where
  pub own : node.gateway.me ≡ node.me
  pub driven : HaveOneWorkPerRequest node.gateway.works node.requests node.sessions
  pub once : NumbersAreOfOneWork node.gateway.works
  pub given : NumbersAreBelow node.sends node.gateway.works
  pub recovers : (number : ℕ) → gateways.gateway_awaits number node.gateway ≡ true → recoveries.recovery_awaits number node.recovery ≡ false
  pub recovering : (number : ℕ) → recoveries.recovery_awaits number node.recovery ≡ true → number < node.sends

-- a request without a work, open or in a line
pub record HasNoWork (req : ℕ) (works : tree.FinMap nat_cmp Work) (sessions : tree.FinMap nat_cmp Session) : Type 0 where
  pub idle : tree.get works req ≡ None
  pub out : (number : ℕ) (waiting : lines.Waiting) → Contains (waiting_in number sessions) waiting → waiting.req ≢ req
