use Rattle.std.proofs.Common.{◌≡◌, ◌≤◌, length, take}
use Rattle.object_store.specs.Bytes.{trimmed_bytes}
use Rattle.object_store.proofs.plain_row.trimmed_len.Given as goal

abbrev pub invariant-loop-end : goal.invariant-loop-end
invariant-loop-end l = record {
  value : trimmed_bytes (take l.end l.bytes) ≡ trimmed_bytes l.bytes;
  within : l.end ≤ length l.bytes;
}

abbrev pub decreases-loop-end : goal.decreases-loop-end
decreases-loop-end l = l.end
