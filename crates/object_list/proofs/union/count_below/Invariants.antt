use Rattle.std.proofs.Common.{ℕ, ◌<◌, get_or}
use Rattle.object_list.proofs.union.count_below.Given as goal

abbrev pub invariant-loop-place : goal.invariant-loop-place
invariant-loop-place l = (k : ℕ) → k < l.place → get_or l.oids k 0 < l.oid
