-- Who takes a disk from its holder.
use Rattle.std.specs.Prelude.{ℕ, ◌==◌, ◌&&◌, Bool, false, Some}
use Rattle.object_id.specs.declared.node.NodeId.{NodeId}
use Rattle.object_id.specs.declared.entry.Entry.{Entry}
use Rattle.object_id.specs.declared.entry.Entry.TheVariants as entries
use Rattle.disk_lock.specs.declared.holder.Holder.{Holder}
use Rattle.vdi_directory.specs.declared.effect.Effect.{Effect}
use Rattle.vdi_directory.specs.declared.effect.Effect.TheVariants.{Snapped, Freed, Left}
use Rattle.vdi_directory.specs.Decisions.{is_held_by}

-- whether an effect takes the disk from a session of the node: the disk becomes a snapshot, its lock is freed, or the node leaves
abbrev pub takes_disk : ℕ → NodeId → Effect → Bool
takes_disk vid node (Snapped snap) = snap.old.0 == vid
takes_disk vid node (Freed of) = of.0 == vid
takes_disk vid node (Left of) = node.0 == of.0
takes_disk vid node _ = false

-- whether an entry can take the disk from its holder: the leave of its node, a snapshot of the disk, and the holder's own unlock
abbrev pub may_take_disk : ℕ → Holder → Entry → Bool
may_take_disk vid holder (entries.Leave node) = holder.node.0 == node.0
may_take_disk vid holder (entries.Snapshot by old of) = old.0 == vid
may_take_disk vid holder (entries.Unlock by session of) = of.0 == vid && is_held_by by session (Some holder)
may_take_disk vid holder _ = false
