use Rattle.std.proofs.Common.{◌≡◌, length, reverse}
use Rattle.disk_history.specs.CheckerState.{fate_of, items_from, IsWithin}
use Rattle.disk_history.proofs.ItemLemmas.{steps_left}
use Rattle.disk_history.proofs.writes.unrefused.Given as goal

-- what was passed over is no item
abbrev pub invariant-loop-at : goal.invariant-loop-at
invariant-loop-at l = record {
  within : IsWithin l.at (length l.writes);
  same : items_from (fate_of l.requests) (reverse l.writes) l.at ≡ items_from (fate_of l.fn.requests) (reverse l.fn.writes) l.fn.newest;
}

abbrev pub decreases-loop-at : goal.decreases-loop-at
decreases-loop-at l = steps_left l.at
