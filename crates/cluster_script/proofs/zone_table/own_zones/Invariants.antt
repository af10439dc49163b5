use Rattle.std.proofs.Common.{◌≡◌, ℕ, ◌<◌, length}
use Rattle.std.specs.Prelude.{slice_index_or}
use Rattle.object_id.specs.declared.limits.TheConstants.{NODES_MAX}
use Rattle.cluster_script.proofs.zone_table.own_zones.Given as goal

-- the nodes so far have their own zones
abbrev pub invariant-loop-node : goal.invariant-loop-node
invariant-loop-node l = record {
  long : length l.zones ≡ NODES_MAX;
  own : (node : ℕ) → node < l.node → slice_index_or l.zones node 0 ≡ node;
}
