use Rattle.sheep_world.proofs.RecoveryRangeOpening.{range-opening}
use Rattle.sheep_world.proofs.RangeAtEvents.{recoveries_in_range}
use Rattle.sheep_world.proofs.laws.recoveries_stay_in_range.Goals as goal

pub returns : goal.returns
returns c = record { opening = range-opening; began = recoveries_in_range }
