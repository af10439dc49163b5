-- A request's work, open or in its session's line, is the one that its course waits for.
use Rattle.std.specs.Prelude.{◌≡◌, ℕ, ◌⊎◌, List, Contains, Option, Some, None, IfSome}
use Rattle.std.specs.Ordering.{nat_cmp}
use Rattle.std.specs.FinMap as tree
use Rattle.inode.specs.Layout.{Content}
use Rattle.peer_proto.specs.declared.work.ObjWork.{ObjWork}
use Rattle.gateway.specs.State.{Work}
use Rattle.guest_driver.specs.declared.act.DriverAct.TheVariants as driver_acts
use Rattle.guest_driver.specs.Pieces.{Piece}
use Rattle.guest_driver.specs.PieceWorks.{read_piece, write_piece, read_object, write_entry}
use Rattle.guest_driver.specs.Course.{Creates}
use Rattle.guest_driver.specs.Driver as drivers
use Rattle.guest_driver.specs.Driver.{DriverStage, InPlace, Fetching, Creating, Entering, Driver, Reads, Writes}
use Rattle.disk_check.specs.Check as checks
use Rattle.disk_check.specs.Check.{CheckStage, Comparing, WritingBack, Check, read_copies, write_value}
use Rattle.vdi_ops.specs.declared.act.OpAct.TheVariants as op_acts
use Rattle.vdi_ops.specs.Op.{IsAwaitedAtOpStage}
use Rattle.sheep_node.specs.declared.course.Course.{Course}
use Rattle.sheep_node.specs.declared.course.Request.{Request}
use Rattle.sheep_node.specs.declared.session.Session.{Session}
use Rattle.sheep_node.specs.declared.course.Course.TheVariants.{Waiting, Driving, Commanding, Checking, DoingWork, AwaitingDecision}
use Rattle.sheep_node.specs.State.{Node}
use Rattle.sheep_node.specs.OneWork.{waiting_in}
use Rattle.sheep_node.specs.Courses.{inode_open}
use Rattle.sheep_node.specs.SessionQueues.{session_among}

-- a work is that of a write, where this is its inode; which disk's object is read whole was looked up as the work began
abbrev pub IsWorkOfWrite : Content → List ℕ → Piece → ObjWork → DriverStage → Type 0
IsWorkOfWrite inode payload piece work InPlace = work ≡ write_piece inode payload piece
IsWorkOfWrite inode payload piece work Fetching = (vid : ℕ) × (work ≡ read_object inode piece vid)
IsWorkOfWrite inode payload piece work Creating = Creates inode piece (driver_acts.Work work)
IsWorkOfWrite inode payload piece work Entering = work ≡ write_entry inode piece

-- a work is that of a read or write; none where that has its reply
abbrev pub IsWorkOfDriver : Content → Driver → ObjWork → Type 0
IsWorkOfDriver inode (Reads told piece rest) work = (vid : ℕ) × (work ≡ read_piece inode piece vid)
IsWorkOfDriver inode (Writes payload stage piece rest) work = IsWorkOfWrite inode payload piece work stage
IsWorkOfDriver inode drivers.Answered work = ⊥

-- a work is that of a check
abbrev pub IsWorkOfCheck : Check → CheckStage → ObjWork → Type 0
IsWorkOfCheck check (Comparing index later) work = work ≡ read_copies check index
IsWorkOfCheck check (WritingBack later) work = (index : ℕ) × (value : List ℕ) × (work ≡ write_value check index value)
IsWorkOfCheck check checks.Answered work = ⊥

-- a course waits for a work, on the disk that its session has open
abbrev pub IsWorkWanted : Option Content → Course → ObjWork → Type 0
IsWorkWanted inode (Waiting ask) work = ⊥
IsWorkWanted None (Driving driver) work = ⊥
IsWorkWanted (Some inode) (Driving driver) work = IsWorkOfDriver inode driver work
IsWorkWanted inode (Commanding op) work = IsAwaitedAtOpStage (op_acts.Work work) op.stage
IsWorkWanted inode (Checking check) work = IsWorkOfCheck check check.stage work
IsWorkWanted inode (DoingWork asked) work = work ≡ asked
IsWorkWanted inode (AwaitingDecision entry) work = ⊥

-- a request that was looked up waits for a work, if it is there
abbrev pub IsWantedAt : tree.FinMap nat_cmp Session → Option Request → ObjWork → Type 0
IsWantedAt sessions request work =
    IfSome request (λ (request : Request). IsWorkWanted (inode_open (session_among request.session sessions).disk) request.course work)

-- a request has this work: open, or in a line
abbrev pub HasWork : ℕ → ObjWork → tree.FinMap nat_cmp Work → tree.FinMap nat_cmp Session → Type 0
HasWork req work works sessions =
    ((one : Work) × (tree.get works req ≡ Some one) × (one.work ≡ work))
    ⊎ ((number : ℕ) × Contains (waiting_in number sessions) (record { req = req; work = work }))

-- each work is what its request waits for
abbrev pub HaveWantedWorks : tree.FinMap nat_cmp Work → tree.FinMap nat_cmp Request → tree.FinMap nat_cmp Session → Type 0
HaveWantedWorks works requests sessions =
    (req : ℕ) (work : ObjWork) → HasWork req work works sessions → IsWantedAt sessions (tree.get requests req) work

-- a node's works are
abbrev pub WorksAreWanted : Node → Type 0
WorksAreWanted node = HaveWantedWorks node.gateway.works node.requests node.sessions
