-- A command on disks: what it waits for, and what it has come to.
use Rattle.std.specs.Prelude.{◌≡◌, ℕ, Bool, List, Option, Some, None}
use Rattle.object_id.specs.declared.oid.Vid.{Vid}
use Rattle.object_id.specs.declared.node.NodeId.{NodeId}
use Rattle.object_id.specs.declared.entry.Entry.{Entry}
use Rattle.inode.specs.Layout.{Content}
use Rattle.peer_proto.specs.declared.guest.GuestRsp.{GuestRsp}
use Rattle.peer_proto.specs.declared.work.ObjWork.{ObjWork}
use Rattle.vdi_directory.specs.declared.header.Header.{Header}
use Rattle.vdi_ops.specs.declared.act.OpAct.{OpAct}
use Rattle.vdi_ops.specs.declared.act.OpAct.TheVariants.{Append, Work, Reply}
use Rattle.vdi_ops.specs.InodeWorks.{written_bytes, read_inode}
use Rattle.vdi_ops.specs.TaskWorks.{IsWrittenBack, IsTagWritten, IsBaseRead, IsInodeCreated}

-- the work that a command waits for, on the way to what it was granted
pub data Task : Type 0 where
  -- the inode of a disk, or of a snapshot, is read: which it is, the ids whose entries count, and the header
  Opening : Bool → List ℕ → Header → Task
  -- the inode of the opened disk is written back
  WritingBack : Content → Task
  -- the open disk's inode gets the tag: which disk that is, and the inode that is to be made
  Tagging : Vid → Content → Task
  -- the inode of a clone's base is read: the ids whose entries count, and the clone's header
  Copying : List ℕ → Header → Task
  -- an inode object is created: the entry that publishes it, and the inode that the session then has open
  Making : Entry → Option Content → Task

-- what a command leaves of what its session has open
pub data DiskChange : Type 0 where
  -- it stays open
  Stays : DiskChange
  -- this inode is open, whether of a snapshot or of a disk
  Opens : Bool → Content → DiskChange
  -- nothing is open
  Closes : DiskChange

-- what a command waits for
pub data OpStage : Type 0 where
  -- the decision on its first entry, which says what was asked
  Asked : Entry → OpStage
  -- a work; the id that was granted
  Working : Vid → Task → OpStage
  -- the decision on its last entry, and the inode that the session then has open
  Publishing : Entry → Option Content → OpStage
  -- nothing: it has its reply
  Answered : DiskChange → OpStage

-- a command: the node and the session that it is of, and what it waits for
pub record Op : Type 0 where
  pub by : NodeId
  pub session : ℕ
  pub stage : OpStage

-- what a step leads to, and what is to be done
pub record OpStep : Type 0 where
  pub op : Op
  pub act : OpAct

-- what becomes of the open disk, by what a command waits for: with the reply
abbrev pub disk_change_at : OpStage → DiskChange
disk_change_at (Asked entry) = Stays
disk_change_at (Working vid task) = Stays
disk_change_at (Publishing entry opened) = Stays
disk_change_at (Answered change) = change

-- what a step of a command leaves of what its session has open
abbrev pub disk_change : OpStep → DiskChange
disk_change step = disk_change_at step.op.stage

-- the entry that is waited for
abbrev pub entry_wanted_at : OpStage → Option Entry
entry_wanted_at (Asked entry) = Some entry
entry_wanted_at (Working vid task) = None
entry_wanted_at (Publishing entry opened) = Some entry
entry_wanted_at (Answered change) = None

-- the entry whose decision a command waits for
abbrev pub entry_wanted : Op → Option Entry
entry_wanted op = entry_wanted_at op.stage

-- how many bytes a task's work gives
abbrev pub bytes_of_task : Task → ℕ
bytes_of_task (Opening snapshot ids header) = written_bytes header.spec
bytes_of_task (WritingBack inode) = 0
bytes_of_task (Tagging old inode) = 0
bytes_of_task (Copying ids header) = written_bytes header.spec
bytes_of_task (Making entry opened) = 0

-- how many bytes are waited for
abbrev pub op_stage_bytes : OpStage → Option ℕ
op_stage_bytes (Asked entry) = None
op_stage_bytes (Working vid task) = Some (bytes_of_task task)
op_stage_bytes (Publishing entry opened) = None
op_stage_bytes (Answered change) = None

-- how many bytes the work gives that a command waits for; none where it waits for no work
abbrev pub op_bytes_wanted : Op → Option ℕ
op_bytes_wanted op = op_stage_bytes op.stage

-- a work is that of a task, for the id that was granted
abbrev pub IsWorkOfTask : Vid → Task → ObjWork → Type 0
IsWorkOfTask vid (Opening snapshot ids header) work = work ≡ read_inode vid.0 header.spec
IsWorkOfTask vid (WritingBack inode) work = IsWrittenBack inode work
IsWorkOfTask vid (Tagging old inode) work = IsTagWritten old inode work
IsWorkOfTask vid (Copying ids header) work = IsBaseRead header.parent header work
IsWorkOfTask vid (Making entry opened) work = IsInodeCreated opened work

-- the act is what is waited for: that entry was put, that work was begun, or else the reply was given
abbrev pub IsAwaitedAtOpStage : OpAct → OpStage → Type 0
IsAwaitedAtOpStage act (Asked entry) = act ≡ Append entry
IsAwaitedAtOpStage act (Working vid task) = (work : ObjWork) × (act ≡ Work work) × IsWorkOfTask vid task work
IsAwaitedAtOpStage act (Publishing entry opened) = act ≡ Append entry
IsAwaitedAtOpStage act (Answered change) = (reply : GuestRsp) × (act ≡ Reply reply)

-- a step's act is what the command then waits for
abbrev pub IsAwaitedByCommand : OpStep → Type 0
IsAwaitedByCommand step = IsAwaitedAtOpStage step.act step.op.stage
