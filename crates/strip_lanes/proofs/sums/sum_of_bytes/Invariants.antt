use Rattle.std.proofs.Common.{◌≡◌, take}
use Rattle.strip_coding.specs.Sums.{sum_at}
use Rattle.strip_lanes.proofs.sums.sum_of_bytes.Given as goal

-- the sum over the strips so far
abbrev pub invariant-loop-m : goal.invariant-loop-m
invariant-loop-m l = l.total ≡ sum_at (take l.m l.coefficients) (take l.m l.places) l.strips l.width l.at
