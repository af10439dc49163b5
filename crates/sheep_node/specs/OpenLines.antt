-- The line of a session's works on its disk's inode goes with the gateway's works: the request in front has its work on an inode open, and
-- no other request of the session has; and what waits in the line are works on an inode.
use Rattle.std.specs.Prelude.{◌≡◌, ◌↔◌, ℕ, true, All, Some}
use Rattle.std.specs.Ordering.{nat_cmp}
use Rattle.std.specs.FinMap as tree
use Rattle.gateway.specs.State.{Work}
use Rattle.guest_driver.specs.InodeQueue as lines
use Rattle.guest_driver.specs.InodeQueue.{is_on_inode}
use Rattle.sheep_node.specs.declared.course.Request.{Request}
use Rattle.sheep_node.specs.declared.session.Session.{Session}
use Rattle.sheep_node.specs.State.{Node}
use Rattle.sheep_node.specs.OneWork.{waiting_in}
use Rattle.sheep_node.specs.SessionQueues.{session_among}

-- a request of a session has an open work on an inode
pub record HasInodeWork (number req : ℕ) (works : tree.FinMap nat_cmp Work) (requests : tree.FinMap nat_cmp Request) : Type 0 where
  pub work : Work
  pub there : tree.get works req ≡ Some work
  pub on_inode : is_on_inode work.work ≡ true
  pub request : Request
  pub asked : tree.get requests req ≡ Some request
  pub session : request.session ≡ number

abbrev pub IsOnInode : lines.Waiting → Type 0
IsOnInode waiting = is_on_inode waiting.work ≡ true

-- the lines go with the works
pub record LinesAreOpen (works : tree.FinMap nat_cmp Work) (requests : tree.FinMap nat_cmp Request)
    (sessions : tree.FinMap nat_cmp Session) : Type 0 where
  pub current : (number req : ℕ)
      → (session_among number sessions).inode_queue.current ≡ Some req ↔ HasInodeWork number req works requests
  pub waiting : (number : ℕ) → All IsOnInode (waiting_in number sessions)

-- a node's lines do
abbrev pub HasOpenLines : Node → Type 0
HasOpenLines node = LinesAreOpen node.gateway.works node.requests node.sessions
