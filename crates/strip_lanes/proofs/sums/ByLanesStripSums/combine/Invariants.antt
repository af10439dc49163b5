use Rattle.std.proofs.Common.{◌*◌, length}
use Rattle.strip_coding.specs.Sums.{sum_at}
use Rattle.strip_lanes.specs.Lanes.{IsSummed}
use Rattle.strip_lanes.proofs.sums.ByLanesStripSums.combine.Given as goal

-- the sum up to here
abbrev pub invariant-loop-turn : goal.invariant-loop-turn
invariant-loop-turn l = IsSummed (sum_at l.coefficients l.places l.strips (length l.fn.sum)) l.fn.sum l.sum 0 (l.turn * 32)
