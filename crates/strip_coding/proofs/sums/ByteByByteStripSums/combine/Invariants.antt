use Rattle.std.proofs.Common.{◌≡◌, ℕ, ◌<◌, length, take, get_or}
use Rattle.strip_coding.specs.Sums.{sum_at}
use Rattle.strip_coding.proofs.sums.ByteByByteStripSums.combine.Given as goal

-- the sum over the strips so far
abbrev pub invariant-loop-m : goal.invariant-loop-m
invariant-loop-m l =
    (k : ℕ) → k < length l.fn.sum → get_or l.sum k 0 ≡ sum_at (take l.m l.coefficients) (take l.m l.places) l.strips (length l.fn.sum) k
