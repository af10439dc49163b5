-- What a node has at work is sound: each work is one that a gateway takes and that can be asked for, the messages of an open attempt are
-- those of its work, and what requests have, and what sessions have open, leads to such works alone.
use Rattle.std.specs.Prelude.{◌≤◌, ◌<◌, ℕ, List, length, All}
use Rattle.std.specs.Option.{IfSome}
use Rattle.object_id.specs.declared.limits.TheConstants.{OBJECTS_MAX}
use Rattle.object_id.specs.declared.oid.Vid.{Vid}
use Rattle.object_id.specs.Oid.{IsVid}
use Rattle.object_id.specs.Spec.{IsSpec}
use Rattle.inode.specs.Layout.{Content, IsFieldText, HasIds}
use Rattle.peer_proto.specs.declared.work.ObjWork.{ObjWork}
use Rattle.gateway.specs.Messages.{AreMessagesFor}
use Rattle.gateway.specs.State.{WorkStage, Open, Ended, WaitsForMembers, Work}
use Rattle.guest_driver.specs.BegunWorks.{GoesByBlocks}
use Rattle.vdi_ops.specs.Kept.{IsInodeHeader, EntryHasTag}
use Rattle.vdi_ops.specs.Op.{Task, Opening, WritingBack, Tagging, Copying, Making, DiskChange, Stays, Opens, Closes}
use Rattle.vdi_ops.specs.Op.{OpStage, Asked, Working, Publishing, Answered}
use Rattle.disk_check.specs.Check.{Check, left_of}
use Rattle.sheep_node.specs.declared.course.Course.{Course}
use Rattle.sheep_node.specs.declared.course.Course.TheVariants as courses
use Rattle.sheep_node.specs.State.{Node}
use Rattle.sheep_node.specs.Validity.{Validity, AreValidBy}
use Rattle.sheep_node.specs.WorkRange.{IsWorkInRange}

-- the messages of an open attempt are those of its work: the pieces that came are as long as what was asked for
abbrev pub HasMessagesFor : ObjWork → WorkStage → Type 0
HasMessagesFor work (Open attempt) = AreMessagesFor work attempt.messages
HasMessagesFor work Ended = Unit {0}
HasMessagesFor work (WaitsForMembers epoch) = Unit {0}

-- a work at the gateway
pub record IsSoundWork (work : Work) : Type 0 where
  pub range : IsWorkInRange work.work
  pub messages : HasMessagesFor work.work work.stage

-- an inode that a session has open, or is to have open: it was made as disks are, with ids, and a table no longer than there may be objects
pub record IsSoundInode (inode : Content) : Type 0 where
  pub spec : IsSpec inode.spec
  pub ids : HasIds inode
  pub count : length inode.table ≤ OBJECTS_MAX

-- what a command has for the id that it was granted
abbrev pub IsSoundTaskOn : Vid → Task → Type 0
IsSoundTaskOn vid (Opening snapshot ids header) = IsVid vid.0 × IsInodeHeader header × All IsVid ids
IsSoundTaskOn vid (WritingBack inode) = IsSoundInode inode
IsSoundTaskOn vid (Tagging old inode) = IsSoundInode inode × IsFieldText inode.name × IsFieldText inode.tag
IsSoundTaskOn vid (Copying ids header) = IsVid vid.0 × IsInodeHeader header × All IsVid ids
IsSoundTaskOn vid (Making entry opened) = IfSome opened IsSoundInode

-- what it leaves open
abbrev pub IsSoundChange : DiskChange → Type 0
IsSoundChange Stays = Unit {0}
IsSoundChange (Opens snapshot inode) = IsSoundInode inode
IsSoundChange Closes = Unit {0}

-- what it waits for
abbrev pub IsSoundStage : OpStage → Type 0
IsSoundStage (Asked entry) = EntryHasTag entry
IsSoundStage (Working vid task) = IsSoundTaskOn vid task
IsSoundStage (Publishing entry opened) = IfSome opened IsSoundInode
IsSoundStage (Answered change) = IsSoundChange change

-- a check is of a disk that there may be, and has own objects left that there may be
pub record IsSoundCheck (check : Check) : Type 0 where
  pub vid : IsVid check.vid
  pub spec : IsSpec check.spec
  pub within : All (λ index. index < OBJECTS_MAX) (left_of check.stage)

abbrev pub IsSoundCourse : Course → Type 0
IsSoundCourse (courses.Waiting ask) = Unit {0}
IsSoundCourse (courses.Driving driver) = GoesByBlocks driver
IsSoundCourse (courses.Commanding op) = IsSoundStage op.stage
IsSoundCourse (courses.Checking check) = IsSoundCheck check
IsSoundCourse (courses.DoingWork work) = Unit {0}
IsSoundCourse (courses.AwaitingDecision entry) = Unit {0}

-- in this sense; of what is to be put nothing is asked
abbrev pub work_validity : Validity
work_validity = record {
  inode = IsSoundInode;
  asked = IsWorkInRange;
  at_gateway = IsSoundWork;
  course = IsSoundCourse;
  put = λ entry. Unit {0};
}

-- a node's works, requests and sessions are sound
abbrev pub HasSoundWorks : Node → Type 0
HasSoundWorks node = AreValidBy work_validity node.gateway.works node.requests node.sessions
