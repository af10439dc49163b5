use Rattle.std.proofs.Common.{◌≡◌, ◌≤◌, ◌-◌, take}
use Rattle.object_id.specs.Hash.{fnv1a_of}
use Rattle.page_store.proofs.page_row.PageRowRowBytes.hash.Given as goal

-- the first bytes are hashed
abbrev pub invariant-loop-done : goal.invariant-loop-done
invariant-loop-done l = record {
  so_far : l.hash ≡ fnv1a_of (take l.done l.self.bytes);
  within : l.done ≤ l.end;
}

abbrev pub decreases-loop-done : goal.decreases-loop-done
decreases-loop-done l = l.end - l.done
