-- What is so of a client's asks in every world of a run: a request of session 0 is a read that a client asked, and has a number
-- above those of any script's requests; at most one node has it, and where that isn't lost it is the last ask, and has no reply. So where
-- the last ask has its reply, session 0 is free at each node that isn't lost.
use Rattle.std.specs.Prelude.{◌≡◌, ℕ, ◌<◌, true, false, [], Some, None}
use Rattle.std.specs.Ordering.{nat_cmp}
use Rattle.std.specs.FinMap as tree
use Rattle.object_id.specs.declared.limits.TheConstants.{REQUESTS_MAX}
use Rattle.sheep_node.specs.declared.ask.Ask.{Ask}
use Rattle.sheep_node.specs.declared.course.Course.{Course}
use Rattle.sheep_node.specs.declared.course.Course.TheVariants.{Waiting, Driving, Commanding, Checking, DoingWork, AwaitingDecision}
use Rattle.sheep_node.specs.declared.course.Request.{Request}
use Rattle.sheep_node.specs.declared.input.Input.TheVariants as inputs
use Rattle.sheep_node.specs.declared.session.Session.{Session}
use Rattle.sheep_node.specs.SessionQueues.{session_among}
use Rattle.sheep_world.specs.ClientAsks.{next_ask_number, is_read_work, is_read_ask}
use Rattle.sheep_world.specs.World.{Host, World, host_at}

-- ---- at a node

-- a client's read
abbrev pub IsReadCourse : Course → Type 0
IsReadCourse (Waiting ask) = ⊥
IsReadCourse (Driving driver) = ⊥
IsReadCourse (Commanding op) = ⊥
IsReadCourse (Checking check) = ⊥
IsReadCourse (DoingWork work) = is_read_work work ≡ true
IsReadCourse (AwaitingDecision entry) = ⊥

-- a request is of session 0 where its number is above those of scripts, and only there; it is a read then
pub record IsByNumber (number : ℕ) (request : Request) : Type 0 where
  pub above : request.session ≡ 0 → REQUESTS_MAX < number
  pub own : REQUESTS_MAX < number → request.session ≡ 0
  pub reads : REQUESTS_MAX < number → IsReadCourse request.course

-- so are a node's requests, and session 0 has no disk open and nothing in its queue
pub record ServesClients (requests : tree.FinMap nat_cmp Request) (sessions : tree.FinMap nat_cmp Session) : Type 0 where
  pub numbered : (number : ℕ) (request : Request) → tree.get requests number ≡ Some request → IsByNumber number request
  pub closed : (session_among 0 sessions).disk ≡ None
  pub idle : (session_among 0 sessions).queue ≡ []

-- what a node steps on is a request of a script's session, or a client's read
pub record AsksByNumber (number session : ℕ) (ask : Ask) : Type 0 where
  pub above : session ≡ 0 → REQUESTS_MAX < number
  pub own : REQUESTS_MAX < number → session ≡ 0
  pub reads : REQUESTS_MAX < number → is_read_ask ask ≡ true

-- ---- in the world

-- the node n, in this host, has a request of this number
pub record HasRequestOf (world : World) (number n : ℕ) (host : Host) : Type 0 where
  pub there : host_at n world ≡ Some host
  pub request : Request
  pub has : tree.get host.node.requests number ≡ Some request

-- each node serves clients so; each request has a number below that of the next ask; those above a script's are at one node each at most,
-- and a node that isn't lost has the last ask alone, while that has no reply
pub record ClientsAsk (world : World) : Type 0 where
  pub served : (n : ℕ) (host : Host) → host_at n world ≡ Some host → ServesClients host.node.requests host.node.sessions
  pub below : (n number : ℕ) (host : Host) → HasRequestOf world number n host → number < next_ask_number world
  pub alone : (n q number : ℕ) (host other : Host) → REQUESTS_MAX < number → HasRequestOf world number n host
      → HasRequestOf world number q other → n ≡ q
  pub waits : (n number : ℕ) (host : Host) → REQUESTS_MAX < number → HasRequestOf world number n host → host.is_lost ≡ false
      → world.asked ≡ Some (record { req = number; reply = None })
