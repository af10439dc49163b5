use Rattle.std.proofs.Common.{◌≡◌, ℕ, ◌<◌, ◌≤◌, ◌++◌, length, take, get_or, All}
use Rattle.object_list.specs.Union.{union}
use Rattle.object_list.proofs.union.union.Given as goal

abbrev pub invariant-loop-oid : goal.invariant-loop-oid
invariant-loop-oid l = record {
  sum : l.all.items ++ l.rest ≡ union l.oids (take l.oid-index l.others);
  below : (k : ℕ) → l.oid-index ≤ k → k < length l.others → All (λ other. other < get_or l.others k 0) l.all.items;
}
