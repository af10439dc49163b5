-- A session's queue has exactly its reads and writes without reply, and no more than there may be at once; any other request is alone in
-- its session. A read or write begins once it has no object in common with an earlier one.
use Rattle.std.specs.Prelude.{◌≡◌, ℕ, ◌≤◌, length, ◌==◌, ◌&&◌, Bool, true, false, List, Contains, Option, Some, IfSome, unwrap_or}
use Rattle.std.specs.Ordering.{nat_cmp}
use Rattle.std.specs.Option.{option_map_or}
use Rattle.std.specs.FinMap as tree
use Rattle.gateway_queue.specs.declared.queue.Queued.{Queued}
use Rattle.gateway_queue.specs.Queue.{may_run}
use Rattle.object_id.specs.declared.limits.TheConstants.{REQUESTS_AT_ONCE}
use Rattle.sheep_node.specs.declared.course.Course.{Course}
use Rattle.sheep_node.specs.declared.course.Request.{Request}
use Rattle.sheep_node.specs.declared.session.Session.{Session}
use Rattle.sheep_node.specs.declared.course.Course.TheVariants.{Waiting, Driving, Commanding, Checking, DoingWork, AwaitingDecision}
use Rattle.sheep_node.specs.State.{Node, new_session}
use Rattle.sheep_node.specs.May.{is_disk_course}

-- whether a request that was looked up is a read or write of a session
abbrev pub is_disk_request_of : ℕ → Option Request → Bool
is_disk_request_of number request =
    option_map_or (λ (request : Request). request.session == number && is_disk_course request.course) request false

-- the session of a number among some
abbrev pub session_among : ℕ → tree.FinMap nat_cmp Session → Session
session_among number sessions = unwrap_or (tree.get sessions number) new_session

abbrev pub queue_in : ℕ → tree.FinMap nat_cmp Session → List Queued
queue_in number sessions = (session_among number sessions).queue

-- a request stands in a queue
abbrev pub IsQueued : ℕ → List Queued → Type 0
IsQueued req queue = (one : Queued) × Contains queue one × (one.req ≡ req)

-- the queues have these requests, and all of them
pub record AreDiskRequests (requests : tree.FinMap nat_cmp Request) (sessions : tree.FinMap nat_cmp Session) : Type 0 where
  pub there : (number req : ℕ) → IsQueued req (queue_in number sessions) → is_disk_request_of number (tree.get requests req) ≡ true
  pub has : (number req : ℕ) → is_disk_request_of number (tree.get requests req) ≡ true → IsQueued req (queue_in number sessions)

-- none of the queues has more than may be without reply at once
abbrev pub HaveShortQueues : tree.FinMap nat_cmp Session → Type 0
HaveShortQueues sessions = (number : ℕ) → length (queue_in number sessions) ≤ REQUESTS_AT_ONCE

abbrev pub QueuesAreShort : Node → Type 0
QueuesAreShort node = HaveShortQueues node.sessions

-- a node's queues have its reads and writes without reply
abbrev pub QueuesAreDiskRequests : Node → Type 0
QueuesAreDiskRequests node = AreDiskRequests node.requests node.sessions

-- the request that is alone in a session, if there is one
abbrev pub command_in : ℕ → tree.FinMap nat_cmp Session → Option ℕ
command_in number sessions = (session_among number sessions).command

-- a request that was looked up is one of a session, and no read or write
abbrev pub IsSoleRequestOf : ℕ → Option Request → Type 0
IsSoleRequestOf number found =
    (request : Request) × (found ≡ Some request) × (request.session ≡ number) × (is_disk_course request.course ≡ false)

-- a request that is no read or write is its session's command, and a session that has a command has that request and no other
pub record HaveSoleCommands (requests : tree.FinMap nat_cmp Request) (sessions : tree.FinMap nat_cmp Session) : Type 0 where
  pub named : (req : ℕ) (request : Request) → tree.get requests req ≡ Some request → is_disk_course request.course ≡ false
      → command_in request.session sessions ≡ Some req
  pub alone : (number req other : ℕ) (request : Request) → command_in number sessions ≡ Some req
      → tree.get requests other ≡ Some request → request.session ≡ number → other ≡ req
  pub there : (number req : ℕ) → command_in number sessions ≡ Some req → IsSoleRequestOf number (tree.get requests req)

-- a node's requests are so
abbrev pub CommandsAreAlone : Node → Type 0
CommandsAreAlone node = HaveSoleCommands node.requests node.sessions

-- where a read or write has begun it has no object in common with an earlier one in this queue
abbrev pub IsInTurn : ℕ → List Queued → Course → Type 0
IsInTurn req queue (Waiting ask) = Unit {0}
IsInTurn req queue (Driving driver) = may_run req queue ≡ true
IsInTurn req queue (Commanding op) = Unit {0}
IsInTurn req queue (Checking check) = Unit {0}
IsInTurn req queue (DoingWork work) = Unit {0}
IsInTurn req queue (AwaitingDecision entry) = Unit {0}

-- each request is so in its session's queue
abbrev pub AreInTurn : tree.FinMap nat_cmp Request → tree.FinMap nat_cmp Session → Type 0
AreInTurn requests sessions = (req : ℕ) → IfSome (tree.get requests req) (λ (request : Request). IsInTurn req
    (queue_in request.session sessions) request.course)

-- and so are a node's
abbrev pub RequestsAreInTurn : Node → Type 0
RequestsAreInTurn node = AreInTurn node.requests node.sessions
