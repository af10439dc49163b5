-- Locks: a finite map from the ids of the disks that are held to their holders.
use Rattle.std.specs.Prelude.{ℕ, ◌==◌, Bool, Option, Some, None, if◌then◌else◌}
use Rattle.std.specs.Ordering.{nat_cmp}
use Rattle.std.specs.FinMap as tree
use Rattle.disk_lock.specs.declared.holder.Holder.{Holder}

abbrev pub Holders : Type 0
Holders = tree.FinMap nat_cmp Holder

-- whether the holder is a session of the node
abbrev pub is_of_node : ℕ → Holder → Bool
is_of_node node holder = holder.node.0 == node

-- who holds a disk once a node holds nothing
abbrev pub without_node : ℕ → Option Holder → Option Holder
without_node node None = None
without_node node (Some holder) = if is_of_node node holder then None else Some holder
