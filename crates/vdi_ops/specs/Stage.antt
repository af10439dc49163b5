-- What a command waits for, as its code keeps it.
use Rattle.std.specs.Prelude.{ℕ, List, ◌∷◌, map}
use Rattle.object_id.specs.declared.oid.Vid.{Vid}
use Rattle.object_id.specs.declared.node.NodeId.{NodeId}
use Rattle.object_id.specs.declared.entry.Entry.{Entry}
use Rattle.object_id.specs.declared.entry.Entry.TheVariants as entries
use Rattle.vdi_ops.specs.declared.stage.LastEntry.{LastEntry}
use Rattle.vdi_ops.specs.declared.stage.LastEntry.TheVariants as lasts
use Rattle.vdi_ops.specs.declared.stage.Task.{Task as KeptTask}
use Rattle.vdi_ops.specs.declared.stage.Task.TheVariants as tasks
use Rattle.vdi_ops.specs.declared.stage.Change.{Change}
use Rattle.vdi_ops.specs.declared.stage.Change.TheVariants as changes
use Rattle.vdi_ops.specs.declared.stage.Stage.{Stage}
use Rattle.vdi_ops.specs.declared.stage.Stage.TheVariants as stages
use Rattle.vdi_ops.specs.declared.stage.Next.{Next}
use Rattle.vdi_ops.specs.Op.{Task, Opening, WritingBack, Tagging, Copying, Making, DiskChange, Stays, Opens, Closes}
use Rattle.vdi_ops.specs.Op.{OpStage, Asked, Working, Publishing, Answered, Op, OpStep}

-- the entry that ends a command
abbrev pub entry_of_last : LastEntry → Entry
entry_of_last (lasts.Publish by vid) = entries.Publish by vid
entry_of_last (lasts.Clone by vid) = entries.Clone by vid
entry_of_last (lasts.Snapshot by old vid) = entries.Snapshot by old vid

-- the numbers of ids
abbrev pub id_numbers : List Vid → List ℕ
id_numbers ids = map (λ (id : Vid). id.0) ids

-- a task, for the id that was granted: an opening counts that id's own entries too
abbrev pub op_task : Vid → KeptTask → Task
op_task vid (tasks.Opening snapshot chain header) = Opening snapshot (vid.0 ∷ id_numbers chain) header
op_task vid (tasks.WritingBack inode) = WritingBack inode
op_task vid (tasks.Tagging old inode) = Tagging old inode
op_task vid (tasks.Copying chain header) = Copying (id_numbers chain) header
op_task vid (tasks.Making entry opened) = Making (entry_of_last entry) opened

-- what is left of what a session has open
abbrev pub op_change : Change → DiskChange
op_change changes.Stays = Stays
op_change (changes.Opens snapshot inode) = Opens snapshot inode
op_change changes.Closes = Closes

-- a stage of a command
abbrev pub op_stage : Stage → OpStage
op_stage (stages.Asked entry) = Asked entry
op_stage (stages.Working vid task) = Working vid (op_task vid task)
op_stage (stages.Publishing entry opened) = Publishing (entry_of_last entry) opened
op_stage (stages.Answered change) = Answered (op_change change)

-- the step to what comes next
abbrev pub step_to : Op → Next → OpStep
step_to op next = record { op = record op { stage = op_stage next.stage }; act = next.act }

-- a command of a node that waits for nothing: what a step makes of it tells what it makes of any command of the node
abbrev pub bare_op : NodeId → Op
bare_op by = record { by = by; session = 0; stage = Answered Stays }
