use Rattle.std.proofs.Common.{◌≡◌, take, fold}
use Rattle.sheep_world.specs.MembershipChanges.{weight_after}
use Rattle.sheep_world.proofs.cluster_log.ClusterLog.last_weight.Given as goal

abbrev pub invariant-loop-entry : goal.invariant-loop-entry
invariant-loop-entry l = l.weight ≡ fold (weight_after l.node) 0 (take l.entry-index l.entry-items)
