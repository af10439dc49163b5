use Rattle.std.proofs.Common.{◌≡◌, ℕ, false, length}
use Rattle.std.specs.Map.{lookup}
use Rattle.std.specs.BTreeMap.{is_at}
use Rattle.std.specs.Ordering.{nat_cmp}
use Rattle.object_store.specs.Objects.{is_block_of}
use Rattle.object_store.proofs.row_store.RowStore.drop_blocks.Given as goal

-- the other objects are as they were
abbrev pub invariant-loop-oid : goal.invariant-loop-oid
invariant-loop-oid g l =
    (q : ℕ) → is_block_of l.vid.0 q ≡ false → lookup (is_at (nat_cmp q)) l.self ≡ lookup (is_at (nat_cmp q)) l.fn.self

abbrev pub decreases-loop-oid : goal.decreases-loop-oid
decreases-loop-oid g l = length l.self
