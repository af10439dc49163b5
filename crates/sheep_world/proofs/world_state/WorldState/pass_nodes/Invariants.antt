use Rattle.std.proofs.Common.{◌≡◌, flat_map}
use Rattle.std.specs.FinMap as tree
use Rattle.sheep_world.specs.Enabled.{node_events}
use Rattle.sheep_world.specs.EnabledPlaces.{place_behind_enabled}
use Rattle.sheep_world.proofs.world_state.WorldState.pass_nodes.Given as goal

-- the nodes that are left go on from the place that is left
abbrev pub invariant-loop-node : goal.invariant-loop-node
invariant-loop-node l =
    place_behind_enabled l.script l.self (flat_map node_events l.node-iterator) l.left
    ≡ place_behind_enabled l.script l.self (flat_map node_events (tree.keys l.self.hosts)) l.place
