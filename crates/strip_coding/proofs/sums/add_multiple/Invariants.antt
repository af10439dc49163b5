use Rattle.std.proofs.Common.{◌≡◌, ℕ, ◌<◌, ◌≤◌, get_or}
use Rattle.gf256.specs.Field.{plus, times}
use Rattle.strip_coding.proofs.sums.add_multiple.Given as goal

-- up to k the multiple is added, from there on the sum is as it was
abbrev pub invariant-loop-k : goal.invariant-loop-k
invariant-loop-k l = record {
  done : (j : ℕ) → j < l.k → get_or l.sum j 0 ≡ plus (get_or l.initial.sum j 0) (times l.coefficient (get_or l.piece j 0));
  left : (j : ℕ) → l.k ≤ j → get_or l.sum j 0 ≡ get_or l.initial.sum j 0;
}
