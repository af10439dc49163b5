-- What a node has of disks is valid: policies and names are such as there may be. So an attempt has no more than 31 messages, and what
-- the node puts may stand in the log.
use Rattle.std.specs.Prelude.{All}
use Rattle.std.specs.Ordering.{nat_cmp}
use Rattle.std.specs.Option.{IfSome}
use Rattle.std.specs.FinMap as tree
use Rattle.object_id.specs.Policy.{IsPolicy}
use Rattle.object_id.specs.Spec.{IsName}
use Rattle.epoch_log.specs.Appending.{IsReservable}
use Rattle.inode.specs.Layout.{Content}
use Rattle.peer_proto.specs.Work.{policy_of}
use Rattle.peer_proto.specs.declared.work.ObjWork.{ObjWork}
use Rattle.vdi_directory.specs.declared.header.Header.{Header}
use Rattle.gateway.specs.State.{Work}
use Rattle.vdi_ops.specs.Op.{Task, Opening, WritingBack, Tagging, Copying, Making, DiskChange, Stays, Opens, Closes}
use Rattle.vdi_ops.specs.Op.{OpStage, Asked, Working, Publishing, Answered}
use Rattle.vdi_ops.specs.Entries.{IsVdiAsk}
use Rattle.sheep_node.specs.declared.ask.Ask.{Ask}
use Rattle.sheep_node.specs.declared.ask.Ask.TheVariants as asks
use Rattle.sheep_node.specs.declared.input.Input.{Input}
use Rattle.sheep_node.specs.declared.input.Input.TheVariants as inputs
use Rattle.sheep_node.specs.declared.course.Course.{Course}
use Rattle.sheep_node.specs.declared.course.Request.{Request}
use Rattle.sheep_node.specs.declared.session.Session.{Session}
use Rattle.sheep_node.specs.declared.course.Course.TheVariants.{Waiting, Driving, Commanding, Checking, DoingWork, AwaitingDecision}
use Rattle.sheep_node.specs.State.{Node}
use Rattle.sheep_node.specs.Validity.{Validity, AreValidBy}

abbrev pub WorkHasPolicy : ObjWork → Type 0
WorkHasPolicy work = IsPolicy (policy_of work)

abbrev pub IsValidInode : Content → Type 0
IsValidInode inode = IsPolicy inode.spec.policy × IsName inode.name

abbrev pub IsValidHeader : Header → Type 0
IsValidHeader header = IsPolicy header.spec.policy × IsName header.name

-- what a command has is valid, and so is its entry
abbrev pub IsValidTask : Task → Type 0
IsValidTask (Opening snapshot ids header) = IsValidHeader header
IsValidTask (WritingBack inode) = IsValidInode inode
IsValidTask (Tagging old inode) = IsValidInode inode
IsValidTask (Copying ids header) = IsValidHeader header
IsValidTask (Making entry opened) = IsReservable entry × IfSome opened IsValidInode

-- and what it leaves open
abbrev pub IsValidChange : DiskChange → Type 0
IsValidChange Stays = Unit {0}
IsValidChange (Opens snapshot inode) = IsValidInode inode
IsValidChange Closes = Unit {0}

abbrev pub IsValidStage : OpStage → Type 0
IsValidStage (Asked entry) = Unit {0}
IsValidStage (Working vid task) = IsValidTask task
IsValidStage (Publishing entry opened) = IfSome opened IsValidInode
IsValidStage (Answered change) = IsValidChange change

abbrev pub IsValidCourse : Course → Type 0
IsValidCourse (Waiting ask) = Unit {0}
IsValidCourse (Driving driver) = Unit {0}
IsValidCourse (Commanding op) = IsValidStage op.stage
IsValidCourse (Checking check) = IsPolicy check.spec.policy
IsValidCourse (DoingWork work) = Unit {0}
IsValidCourse (AwaitingDecision entry) = Unit {0}

-- in this sense
abbrev pub disk_validity : Validity
disk_validity = record {
  inode = IsValidInode;
  asked = WorkHasPolicy;
  at_gateway = λ (work : Work). WorkHasPolicy work.work;
  course = IsValidCourse;
  put = IsReservable;
}

-- works, requests and sessions are valid
abbrev pub HaveValidDisks : tree.FinMap nat_cmp Work → tree.FinMap nat_cmp Request → tree.FinMap nat_cmp Session → Type 0
HaveValidDisks = AreValidBy disk_validity

-- a node's are, and the entries that it has read, and those that it has still to put, reserve only for such disks
pub record HasValidDisks (node : Node) : Type 0 where
  pub read : All IsReservable node.peer.entries
  pub to_put : All IsReservable node.outbox
  pub kept : HaveValidDisks node.gateway.works node.requests node.sessions

-- what is asked is valid
abbrev pub IsValidAsk : Ask → Type 0
IsValidAsk (asks.Disk ask) = Unit {0}
IsValidAsk (asks.Vdi ask) = IsVdiAsk ask
IsValidAsk (asks.Object work) = WorkHasPolicy work
IsValidAsk (asks.Entry entry) = IsReservable entry

-- and so is what an input brings to be read
abbrev pub IsValidInput : Input → Type 0
IsValidInput (inputs.Guest req session ask) = IsValidAsk ask
IsValidInput (inputs.Request request) = Unit {0}
IsValidInput (inputs.Reply rsp) = Unit {0}
IsValidInput (inputs.Lost number) = Unit {0}
IsValidInput (inputs.LogEntry entry) = IsReservable entry
IsValidInput inputs.Put = Unit {0}
IsValidInput inputs.RecoverTick = Unit {0}
IsValidInput inputs.RetryTick = Unit {0}
IsValidInput (inputs.Back entries) = All IsReservable entries
