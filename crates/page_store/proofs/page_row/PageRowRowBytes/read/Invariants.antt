use Rattle.std.proofs.Common.{◌≡◌, ◌≤◌, ◌-◌, length, take}
use Rattle.object_store.specs.Bytes.{piece_at}
use Rattle.page_store.proofs.page_row.PageRowRowBytes.read.Given as goal

-- the first bytes are read
abbrev pub invariant-loop-done : goal.invariant-loop-done
invariant-loop-done l = record {
  so_far : take l.done l.out ≡ piece_at l.self.bytes l.offset l.done;
  within : l.done ≤ length l.out;
}

abbrev pub decreases-loop-done : goal.decreases-loop-done
decreases-loop-done l = length l.out - l.done
