use Rattle.std.proofs.Common.{◌≡◌, length, reverse}
use Rattle.disk_history.specs.CheckerState.{fate_of, items_from, IsWithin, may_give as gives}
use Rattle.disk_history.proofs.ItemLemmas.{steps_left}
use Rattle.disk_history.proofs.writes.may_give.Given as goal

-- what is left of the walk gives the answer
abbrev pub invariant-loop-at : goal.invariant-loop-at
invariant-loop-at l = record {
  within : IsWithin l.at (length l.writes);
  same : gives (items_from (fate_of l.requests) (reverse l.writes) l.at) l.bytes ≡ gives (items_from (fate_of l.fn.requests) (reverse l.fn.writes) l.fn.newest) l.fn.bytes;
}

abbrev pub decreases-loop-at : goal.decreases-loop-at
decreases-loop-at l = steps_left l.at
