use Rattle.std.proofs.Common.{length}
use Rattle.strip_coding.specs.Sums.{sum_at}
use Rattle.strip_lanes.specs.Lanes.{IsSummed}
use Rattle.strip_lanes.proofs.sums.put_rest.Given as goal

-- the sum up to here
abbrev pub invariant-loop-at : goal.invariant-loop-at
invariant-loop-at l = IsSummed (sum_at l.coefficients l.places l.strips (length l.fn.sum)) l.fn.sum l.sum l.from l.at
