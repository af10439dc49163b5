-- A read or write is on the disk that its session has open.
use Rattle.std.specs.Prelude.{ℕ, IsTrue, Option, Some, None, IfSome}
use Rattle.std.specs.Ordering.{nat_cmp}
use Rattle.std.specs.FinMap as tree
use Rattle.inode.specs.Layout.{Content}
use Rattle.guest_driver.specs.Pieces.{is_ask}
use Rattle.guest_driver.specs.OnDisk.{IsDriverOn}
use Rattle.sheep_node.specs.declared.course.Course.{Course}
use Rattle.sheep_node.specs.declared.course.Request.{Request}
use Rattle.sheep_node.specs.declared.session.Session.{Session}
use Rattle.sheep_node.specs.declared.course.Course.TheVariants.{Waiting, Driving, Commanding, Checking, DoingWork, AwaitingDecision}
use Rattle.sheep_node.specs.State.{Node}
use Rattle.sheep_node.specs.Courses.{inode_open}
use Rattle.sheep_node.specs.SessionQueues.{session_among}

-- where a read or write waits it asks for whole blocks, and where it began it is on the open disk; any other request may be anywhere
abbrev pub IsCourseOn : Option Content → Course → Type 0
IsCourseOn inode (Waiting ask) = IsTrue (is_ask ask)
IsCourseOn None (Driving driver) = ⊥
IsCourseOn (Some inode) (Driving driver) = IsDriverOn inode driver
IsCourseOn inode (Commanding op) = Unit {0}
IsCourseOn inode (Checking check) = Unit {0}
IsCourseOn inode (DoingWork asked) = Unit {0}
IsCourseOn inode (AwaitingDecision entry) = Unit {0}

-- each request is so
abbrev pub AreOnDisks : tree.FinMap nat_cmp Request → tree.FinMap nat_cmp Session → Type 0
AreOnDisks requests sessions = (req : ℕ) → IfSome (tree.get requests req) (λ (request : Request). IsCourseOn
    (inode_open (session_among request.session sessions).disk) request.course)

-- and so are a node's
abbrev pub RequestsAreOnDisks : Node → Type 0
RequestsAreOnDisks node = AreOnDisks node.requests node.sessions
