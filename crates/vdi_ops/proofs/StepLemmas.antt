-- The act of each step of a command is what it then waits for.
use Rattle.std.proofs.Common.{◌≡◌, ℕ, true, false, List, Option, Some, None, refl, sym, is_some, option_map, IfSome}
use Rattle.std.specs.Option.{option_and_then}
use Rattle.std.proofs.lemmas.Option.{same_Some}
use Rattle.object_id.specs.declared.oid.Vid.{Vid}
use Rattle.object_id.specs.declared.node.NodeId.{NodeId}
use Rattle.object_id.specs.declared.cause.Cause.{Cause}
use Rattle.object_id.specs.declared.entry.Entry.{Entry}
use Rattle.object_id.specs.declared.entry.Entry.TheVariants.{Format, Join, Leave, Reweight, Recovered, Reserve, Publish, Clone, Snapshot, Delete, Lock, Unlock}
use Rattle.object_id.specs.declared.entry.Origin.TheVariants.{Fresh, SnapshotOf, CloneOf}
use Rattle.inode.specs.Layout.{Content}
use Rattle.peer_proto.specs.declared.guest.VdiAsk.{VdiAsk}
use Rattle.peer_proto.specs.declared.guest.GuestRsp.TheVariants.{Done, Refused}
use Rattle.vdi_directory.specs.declared.header.Header.{Header}
use Rattle.vdi_directory.specs.declared.effect.Effect.{Effect}
use Rattle.vdi_directory.specs.declared.decision.Decision.{Decision}
use Rattle.vdi_directory.specs.declared.decision.Decision.TheVariants as decisions
use Rattle.vdi_directory.specs.Effects.{header_of}
use Rattle.vdi_ops.specs.Entries.{first_entry}
use Rattle.vdi_directory.specs.Chains.{chain_of}
use Rattle.vdi_ops.specs.Tables.{table_in, holes, inode_by}
use Rattle.vdi_ops.specs.TaskWorks.{IsInodeCreated}
use Rattle.vdi_ops.specs.InodeWorks.{read_inode, create_inode, write_back, write_tag}
use Rattle.vdi_ops.specs.Op.{Task, Opening, WritingBack, Tagging, Copying, Making, OpStage, Asked, Working, Publishing, Answered, Op, op_stage_bytes, op_bytes_wanted, entry_wanted_at, entry_wanted, IsAwaitedByCommand}
use Rattle.vdi_ops.specs.Steps.{first_step, begin_command, tag_step, copy_step, step_after_grant, step_after_decision, decided_at, on_decision, task_done, done_at, op_on_done, refused_at, on_refusal}

begun_awaited : (by : NodeId) (session : ℕ) (entry : Option Entry) → IfSome (option_map (first_step by session) entry) IsAwaitedByCommand
begun_awaited by session None = tt
begun_awaited by session (Some entry) = refl

pub begin_awaited : (by : NodeId) (session : ℕ) (ask : VdiAsk) (disk : Option Content) → IfSome (begin_command by session ask disk) IsAwaitedByCommand
unfolding begin_command
begin_awaited by session ask disk = begun_awaited by session (first_entry by session disk ask)

taken_awaited : (op : Op) (vid : Vid) (tag : List ℕ) (header : Header) (disk : Option Content)
    → IfSome (option_map (tag_step op vid tag header) disk) IsAwaitedByCommand
taken_awaited op vid tag header None = tt
taken_awaited op vid tag header (Some old) =
    (write_tag old tag, refl, record { inode = old; tag = tag; same = refl; table = refl; work_of = refl })

copied_awaited : (op : Op) (vid : Vid) (chain : List ℕ) (header : Header) (parent : Option Vid) → header.parent ≡ parent
    → IfSome (option_map (copy_step op vid chain header) parent) IsAwaitedByCommand
copied_awaited op vid chain header None is = tt
copied_awaited op vid chain header (Some parent) is =
    (read_inode parent.0 header.spec, refl, record { vid = parent; there = is; work_of = refl })

-- an inode that isn't the session's is created
made_apart : (inode : Content) → IsInodeCreated None (create_inode inode)
made_apart inode = record { inode = inode; work_of = refl; same = λ content is. absurd (cc (is)) }

granted_awaited : (op : Op) (vid : Vid) (chain : List ℕ) (disk : Option Content) (entry : Entry) (header : Header)
    → IfSome (step_after_grant op vid chain disk entry header) IsAwaitedByCommand
granted_awaited op vid chain disk (Reserve by session name (Fresh spec)) header =
    (create_inode (inode_by header vid.0 (holes header.spec)), refl, made_apart (inode_by header vid.0 (holes header.spec)))
granted_awaited op vid chain disk (Reserve by session name (SnapshotOf tag)) header = taken_awaited op vid tag header disk
granted_awaited op vid chain disk (Reserve by session name (CloneOf base tag)) header = copied_awaited op vid chain header header.parent refl
granted_awaited op vid chain disk (Lock by session name tag) header = (read_inode vid.0 header.spec, refl, refl)
granted_awaited op vid chain disk (Unlock by session id) header = (Done, refl)
granted_awaited op vid chain disk (Delete by session name tag) header = (Done, refl)
granted_awaited op vid chain disk (Format members) header = tt
granted_awaited op vid chain disk (Join node zone vnodes) header = tt
granted_awaited op vid chain disk (Leave node) header = tt
granted_awaited op vid chain disk (Reweight node vnodes) header = tt
granted_awaited op vid chain disk (Recovered node epoch) header = tt
granted_awaited op vid chain disk (Publish by id) header = tt
granted_awaited op vid chain disk (Clone by id) header = tt
granted_awaited op vid chain disk (Snapshot by old id) header = tt

known_awaited : (op : Op) (vid : Vid) (chain : List ℕ) (disk : Option Content) (entry : Entry) (header : Option Header)
    → IfSome (option_and_then (step_after_grant op vid chain disk entry) header) IsAwaitedByCommand
known_awaited op vid chain disk entry None = tt
known_awaited op vid chain disk entry (Some header) = granted_awaited op vid chain disk entry header

decided_awaited : (before : List Effect) (disk : Option Content) (op : Op) (entry : Entry) (decision : Decision)
    → IfSome (step_after_decision before disk op entry decision) IsAwaitedByCommand
decided_awaited before disk op entry decisions.None = (Done, refl)
decided_awaited before disk op entry (decisions.Granted vid) =
    known_awaited op vid (chain_of before vid.0) disk entry (header_of before vid.0)
decided_awaited before disk op entry (decisions.Refused cause) = (Refused cause, refl)

at_decision : (before : List Effect) (disk : Option Content) (decision : Decision) (op : Op) (stage : OpStage)
    → IfSome (decided_at before disk decision op stage) IsAwaitedByCommand
at_decision before disk decision op (Asked entry) = decided_awaited before disk op entry decision
at_decision before disk decision op (Working vid task) = tt
at_decision before disk decision op (Publishing entry opened) = (Done, refl)
at_decision before disk decision op (Answered change) = tt

pub decision_awaited : (before : List Effect) (disk : Option Content) (decision : Decision) (op : Op)
    → IfSome (on_decision before disk decision op) IsAwaitedByCommand
unfolding on_decision
decision_awaited before disk decision op = at_decision before disk decision op op.stage

task_awaited : (op : Op) (vid : Vid) (bytes : List ℕ) (task : Task)
    → IsAwaitedByCommand (task_done op vid bytes task)
task_awaited op vid bytes (Opening true ids header) = (Done, refl)
task_awaited op vid bytes (Opening false ids header) = (
  write_back (inode_by header vid.0 (table_in ids header.spec bytes)) bytes,
  refl,
  record { bytes = bytes; ids = ids; work_of = refl; table = refl },
)
task_awaited op vid bytes (WritingBack inode) = (Done, refl)
task_awaited op vid bytes (Tagging old inode) = (
  create_inode inode,
  refl,
  record { inode = inode; work_of = refl; same = λ content is. sym (same_Some inode content is) },
)
task_awaited op vid bytes (Copying ids header) = (
  create_inode (inode_by header vid.0 (table_in ids header.spec bytes)),
  refl,
  made_apart (inode_by header vid.0 (table_in ids header.spec bytes)),
)
task_awaited op vid bytes (Making entry opened) = refl

at_done : (bytes : List ℕ) (op : Op) (stage : OpStage)
    → IfSome (done_at bytes op stage) IsAwaitedByCommand
at_done bytes op (Asked entry) = tt
at_done bytes op (Working vid task) = task_awaited op vid bytes task
at_done bytes op (Publishing entry opened) = tt
at_done bytes op (Answered change) = tt

pub done_awaited : (bytes : List ℕ) (op : Op)
    → IfSome (op_on_done bytes op) IsAwaitedByCommand
unfolding op_on_done
done_awaited bytes op = at_done bytes op op.stage

works_at : (bytes : List ℕ) (op : Op) (stage : OpStage) → is_some (done_at bytes op stage) ≡ is_some (op_stage_bytes stage)
works_at bytes op (Asked entry) = refl
works_at bytes op (Working vid task) = refl
works_at bytes op (Publishing entry opened) = refl
works_at bytes op (Answered change) = refl

pub goes_on : (bytes : List ℕ) (op : Op) → is_some (op_on_done bytes op) ≡ is_some (op_bytes_wanted op)
unfolding op_on_done
goes_on bytes op = works_at bytes op op.stage

ends_at : (cause : Cause) (op : Op) (stage : OpStage) → is_some (refused_at cause op stage) ≡ is_some (op_stage_bytes stage)
ends_at cause op (Asked entry) = refl
ends_at cause op (Working vid task) = refl
ends_at cause op (Publishing entry opened) = refl
ends_at cause op (Answered change) = refl

pub may_be_refused : (cause : Cause) (op : Op) → is_some (on_refusal cause op) ≡ is_some (op_bytes_wanted op)
unfolding on_refusal
may_be_refused cause op = ends_at cause op op.stage

waits_at : (before : List Effect) (disk : Option Content) (decision : Decision) (op : Op) (stage : OpStage)
    → is_some (decided_at before disk decision op stage) ≡ true → is_some (entry_wanted_at stage) ≡ true
waits_at before disk decision op (Asked entry) there = refl
waits_at before disk decision op (Working vid task) there = there
waits_at before disk decision op (Publishing entry opened) there = refl
waits_at before disk decision op (Answered change) there = there

pub waits_for_entry : (before : List Effect) (disk : Option Content) (decision : Decision) (op : Op)
    → is_some (on_decision before disk decision op) ≡ true → is_some (entry_wanted op) ≡ true
unfolding on_decision
waits_for_entry before disk decision op there = waits_at before disk decision op op.stage there
