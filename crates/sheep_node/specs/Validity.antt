-- What is asked, in some sense of valid, of what a node has at work, and when works, requests and sessions are valid in that sense.
use Rattle.std.specs.Prelude.{◌≡◌, ℕ, All, Some}
use Rattle.std.specs.Ordering.{nat_cmp}
use Rattle.std.specs.Option.{IfSome}
use Rattle.std.specs.FinMap as tree
use Rattle.object_id.specs.declared.entry.Entry.{Entry}
use Rattle.inode.specs.Layout.{Content}
use Rattle.peer_proto.specs.declared.work.ObjWork.{ObjWork}
use Rattle.gateway.specs.State.{Work}
use Rattle.guest_driver.specs.declared.disk.Disk.{Disk}
use Rattle.guest_driver.specs.InodeQueue as lines
use Rattle.sheep_node.specs.declared.course.Course.{Course}
use Rattle.sheep_node.specs.declared.course.Request.{Request}
use Rattle.sheep_node.specs.declared.session.Session.{Session}

-- what is asked of the inode of an open disk, of a work, of a work that a gateway has, of a course, and of an entry that is to be put
pub record Validity : Type 1 where
  pub inode : Content → Type 0
  pub asked : ObjWork → Type 0
  pub at_gateway : Work → Type 0
  pub course : Course → Type 0
  pub put : Entry → Type 0

-- each value of a map is so
abbrev pub EachIs : {V : Type 0} → (V → Type 0) → tree.FinMap nat_cmp V → Type 0
EachIs {V} P map = (key : ℕ) (value : V) → tree.get map key ≡ Some value → P value

-- the disk that a session has open, and the works that wait in its line, are valid
pub record IsValidSessionBy (v : Validity) (session : Session) : Type 0 where
  pub disk : IfSome session.disk (λ (disk : Disk). v.inode disk.inode)
  pub waiting : All (λ (waiting : lines.Waiting). v.asked waiting.work) session.inode_queue.waiting

-- works, requests and sessions are
pub record AreValidBy (v : Validity) (works : tree.FinMap nat_cmp Work) (requests : tree.FinMap nat_cmp Request)
    (sessions : tree.FinMap nat_cmp Session) : Type 0 where
  pub open_works : EachIs v.at_gateway works
  pub courses : EachIs (λ (request : Request). v.course request.course) requests
  pub each_session : EachIs (IsValidSessionBy v) sessions
