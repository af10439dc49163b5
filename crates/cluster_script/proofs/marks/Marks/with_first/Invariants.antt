use Rattle.std.proofs.Common.{◌≡◌, ℕ, nat_lt, true, if◌then◌else◌}
use Rattle.cluster_script.specs.Marks.{is_marked}
use Rattle.cluster_script.proofs.marks.Marks.with_first.Given as goal

-- the numbers below the present one are marked
abbrev pub invariant-loop-number : goal.invariant-loop-number
invariant-loop-number l = (k : ℕ) → is_marked k l.all ≡ (if nat_lt k l.number then true else is_marked k l.fn.self)
