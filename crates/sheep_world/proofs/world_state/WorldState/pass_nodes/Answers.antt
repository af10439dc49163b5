use Rattle.std.proofs.Common.{ℕ, List, flat_map, ap, sym, ◌∙◌}
use Rattle.std.specs.FinMap as tree
use Rattle.sheep_world.specs.World.{World}
use Rattle.sheep_world.specs.Enabled.{node_events}
use Rattle.sheep_world.specs.EnabledPlaces.{place_behind_enabled}
use Rattle.sheep_world.proofs.EnabledPlaces.{behind-on, behind-found}
use Rattle.sheep_world.proofs.world_state.WorldState.pass_nodes.Goals as goal

pub loop-node-init : goal.loop-node-init
loop-node-init c =
    ap (λ (numbers : List ℕ). place_behind_enabled c.args.script.now c.args.self.now (flat_map node_events numbers) c.args.place)
    (c.into_iter-node-iterator.ensures.into_iter_gives ∙ c.numbers-node-items.ensures
    ∙ ap (λ (world : World). tree.keys world.hosts) c.self.view_is)

pub loop-node-preserved : goal.loop-node-preserved
loop-node-preserved c =
    behind-on c.args.script.now c.args.self.now (node_events c.in-Some.node.now) (flat_map node_events c.next.new.self) c.loop-node.left
    c.in-Continue.behind (sym c.in-Continue.is ∙ c.pass_node.ensures)
    ∙ ap (λ (numbers : List ℕ). place_behind_enabled c.args.script.now c.args.self.now (flat_map node_events numbers) c.loop-node.left)
    (sym c.in-Some.ensures.steps)
    ∙ c.loop-node.invariant

pub returns : goal.returns
returns c =
    ap (λ (numbers : List ℕ). place_behind_enabled c.args.script.now c.args.self.now (flat_map node_events numbers) c.loop-node.left)
    (sym c.in-None.ensures.steps.0)
    ∙ c.loop-node.invariant

pub returns-in-Break : goal.returns-in-Break
returns-in-Break c =
    behind-found c.args.script.now c.args.self.now (node_events c.in-Some.node.now) (flat_map node_events c.next.new.self) c.loop-node.left
    c.in-Break.event (sym c.in-Break.is ∙ c.pass_node.ensures)
    ∙ ap (λ (numbers : List ℕ). place_behind_enabled c.args.script.now c.args.self.now (flat_map node_events numbers) c.loop-node.left)
    (sym c.in-Some.ensures.steps)
    ∙ c.loop-node.invariant
