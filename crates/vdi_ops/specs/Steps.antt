-- The steps of a command, from the request to the reply, by entries and works.
use Rattle.std.specs.Prelude.{ℕ, true, false, List, ◌∷◌, Option, Some, None, is_some, option_map}
use Rattle.std.specs.Option.{option_map_or, option_and_then}
use Rattle.object_id.specs.declared.oid.Vid.{Vid}
use Rattle.object_id.specs.declared.node.NodeId.{NodeId}
use Rattle.object_id.specs.declared.cause.Cause.{Cause}
use Rattle.object_id.specs.declared.entry.Entry.{Entry}
use Rattle.object_id.specs.declared.entry.Entry.TheVariants as entries
use Rattle.object_id.specs.declared.entry.Origin.TheVariants.{Fresh, SnapshotOf, CloneOf}
use Rattle.inode.specs.Layout.{Content}
use Rattle.peer_proto.specs.declared.guest.VdiAsk.{VdiAsk}
use Rattle.peer_proto.specs.declared.guest.GuestRsp.{GuestRsp}
use Rattle.peer_proto.specs.declared.guest.GuestRsp.TheVariants.{Done, Refused}
use Rattle.peer_proto.specs.declared.work.ObjWork.{ObjWork}
use Rattle.vdi_directory.specs.declared.header.Header.{Header}
use Rattle.vdi_directory.specs.declared.effect.Effect.{Effect}
use Rattle.vdi_directory.specs.declared.decision.Decision.{Decision}
use Rattle.vdi_directory.specs.declared.decision.Decision.TheVariants as decisions
use Rattle.vdi_directory.specs.Effects.{header_of}
use Rattle.vdi_ops.specs.declared.act.OpAct.TheVariants.{Append, Work, Reply}
use Rattle.vdi_ops.specs.declared.end.OpEnd.{OpEnd}
use Rattle.vdi_ops.specs.Entries.{first_entry, unlock_of}
use Rattle.vdi_directory.specs.Chains.{chain_of}
use Rattle.vdi_ops.specs.Tables.{table_in, holes, inode_by}
use Rattle.vdi_ops.specs.InodeWorks.{read_inode, create_inode, write_back, write_tag}
use Rattle.vdi_ops.specs.Op.{Task, Opening, WritingBack, Tagging, Copying, Making, DiskChange, Stays, Opens, Closes}
use Rattle.vdi_ops.specs.Op.{OpStage, Asked, Working, Publishing, Answered, Op, OpStep}

-- an entry is put, and the command waits for its decision
abbrev pub appends : Op → OpStage → Entry → OpStep
appends op stage entry = record { op = record op { stage = stage }; act = Append entry }

-- a work begins for the id that was granted
abbrev pub works : Op → Vid → Task → ObjWork → OpStep
works op vid task work = record { op = record op { stage = Working vid task }; act = Work work }

-- the command ends with a reply, and leaves this of what its session has open
abbrev pub replies : Op → GuestRsp → DiskChange → OpStep
replies op reply change = record { op = record op { stage = Answered change }; act = Reply reply }

-- a command's first step: this entry is put, and the command waits for its decision
abbrev pub first_step : NodeId → ℕ → Entry → OpStep
first_step by session entry = record { op = record { by = by; session = session; stage = Asked entry }; act = Append entry }

-- a command begins with its first entry; none where it is about the open disk, and there is none, and for a check, which has
-- steps of its own
unfoldable pub begin_command : NodeId → ℕ → VdiAsk → Option Content → Option OpStep
begin_command by session ask disk = option_map (first_step by session) (first_entry by session disk ask)

-- a snapshot's tag is written to the open disk's inode; the granted id is to take its place, with its table
abbrev pub tag_step : Op → Vid → List ℕ → Header → Content → OpStep
tag_step op vid tag header old =
    works op vid (Tagging (record { 0 = old.vid }) (inode_by header vid.0 old.table)) (write_tag old tag)

-- a clone reads the inode of its parent
abbrev pub copy_step : Op → Vid → List ℕ → Header → Vid → OpStep
copy_step op vid chain header parent = works op vid (Copying chain header) (read_inode parent.0 header.spec)

-- what a command leaves open that is granted nothing: a close leaves none
abbrev pub change_without_grant : Entry → DiskChange
change_without_grant (entries.Unlock by session vid) = Closes
change_without_grant _ = Stays

-- what comes after a grant, by the entry that was decided, with the granted id's parent chain and header, and the inode of the
-- session's open disk; other entries grant nothing
abbrev pub step_after_grant : Op → Vid → List ℕ → Option Content → Entry → Header → Option OpStep
step_after_grant op vid chain disk (entries.Reserve by session name (Fresh spec)) header = Some (works
    op
    vid
    (Making (entries.Publish op.by vid) None)
    (create_inode (inode_by header vid.0 (holes header.spec))))
step_after_grant op vid chain disk (entries.Reserve by session name (SnapshotOf tag)) header = option_map (tag_step op vid tag header) disk
step_after_grant op vid chain disk (entries.Reserve by session name (CloneOf base tag)) header =
    option_map (copy_step op vid chain header) header.parent
step_after_grant op vid chain disk (entries.Lock by session name tag) header =
    Some (works op vid (Opening (is_some tag) (vid.0 ∷ chain) header) (read_inode vid.0 header.spec))
step_after_grant op vid chain disk (entries.Unlock by session id) header = Some (replies op Done Closes)
step_after_grant op vid chain disk (entries.Delete by session name tag) header = Some (replies op Done Stays)
step_after_grant op vid chain disk _ header = None

-- a command's first entry is decided: it is refused, or goes on with what it was granted, which the directory knows; an unlock
-- grants nothing
abbrev pub step_after_decision : List Effect → Option Content → Op → Entry → Decision → Option OpStep
step_after_decision known disk op entry decisions.None = Some (replies op Done (change_without_grant entry))
step_after_decision known disk op entry (decisions.Granted vid) =
    option_and_then (step_after_grant op vid (chain_of known vid.0) disk entry) (header_of known vid.0)
step_after_decision known disk op entry (decisions.Refused cause) = Some (replies op (Refused cause) (change_without_grant entry))

-- an entry is decided, by what the command waits for: its last entry is only awaited, and an inode that is then open is that
-- of a disk
abbrev pub decided_at : List Effect → Option Content → Decision → Op → OpStage → Option OpStep
decided_at known disk decision op (Asked entry) = step_after_decision known disk op entry decision
decided_at known disk decision op (Working vid task) = None
decided_at known disk decision op (Publishing entry opened) = Some (replies op Done (option_map_or (Opens false) opened Stays))
decided_at known disk decision op (Answered change) = None

-- the node has read the entry that the command waits for, and the directory decided it. What the entries did is known, this
-- one's effect too, and the inode of the session's open disk; none where the command waits for no entry
unfoldable pub on_decision : List Effect → Option Content → Decision → Op → Option OpStep
on_decision known disk decision op = decided_at known disk decision op op.stage

-- a work is done, and gave these bytes: a snapshot is open once its inode was read, a disk once it was written back too;
-- what was created is published
abbrev pub task_done : Op → Vid → List ℕ → Task → OpStep
task_done op vid bytes (Opening true ids header) =
    replies op Done (Opens true (inode_by header vid.0 (table_in ids header.spec bytes)))
task_done op vid bytes (Opening false ids header) = works
    op
    vid
    (WritingBack (inode_by header vid.0 (table_in ids header.spec bytes)))
    (write_back (inode_by header vid.0 (table_in ids header.spec bytes)) bytes)
task_done op vid bytes (WritingBack inode) = replies op Done (Opens false inode)
task_done op vid bytes (Tagging old inode) =
    works op vid (Making (entries.Snapshot op.by old vid) (Some inode)) (create_inode inode)
task_done op vid bytes (Copying ids header) = works
    op
    vid
    (Making (entries.Clone op.by vid) None)
    (create_inode (inode_by header vid.0 (table_in ids header.spec bytes)))
task_done op vid bytes (Making entry opened) = appends op (Publishing entry opened) entry

-- a work is done, by what the command waits for
abbrev pub done_at : List ℕ → Op → OpStage → Option OpStep
done_at bytes op (Asked entry) = None
done_at bytes op (Working vid task) = Some (task_done op vid bytes task)
done_at bytes op (Publishing entry opened) = None
done_at bytes op (Answered change) = None

-- the work that the command waits for is done; none where it waits for no work
unfoldable pub op_on_done : List ℕ → Op → Option OpStep
op_on_done bytes op = done_at bytes op op.stage

-- a command ends with the refusal of its work, and the granted id is given back
abbrev pub refused_at : Cause → Op → OpStage → Option OpEnd
refused_at cause op (Asked entry) = None
refused_at cause op (Working vid task) =
    Some (record { unlock = Some (unlock_of op.by op.session vid.0); reply = Refused cause })
refused_at cause op (Publishing entry opened) = None
refused_at cause op (Answered change) = None

-- the work that the command waits for was refused; none where it waits for no work
unfoldable pub on_refusal : Cause → Op → Option OpEnd
on_refusal cause op = refused_at cause op op.stage
