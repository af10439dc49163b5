use Rattle.std.proofs.Common.{◌≡◌, ℕ, ◌<◌, ◌-◌, drop, length}
use Rattle.std.specs.Prelude.{slice_index_or}
use Rattle.object_id.specs.declared.limits.TheConstants.{NODES_MAX}
use Rattle.cluster_script.specs.Settings.{zone_of}
use Rattle.cluster_script.proofs.zone_table.zones_in.Given as goal

-- the zones are those of the last statements, so many of them
abbrev pub invariant-loop-count : goal.invariant-loop-count
invariant-loop-count l =
    (node : ℕ) → node < NODES_MAX → slice_index_or l.zones node 0 ≡ zone_of (drop (length l.statements - l.count) l.statements) node
