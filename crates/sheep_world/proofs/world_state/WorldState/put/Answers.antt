use Rattle.std.proofs.Common.{◌≡◌, List, IfOk, ap, subst, ◌∙◌}
use Rattle.object_id.specs.declared.entry.Entry.{Entry}
use Rattle.sheep_node.specs.declared.input.Input.TheVariants as inputs
use Rattle.sheep_world.specs.World.{World}
use Rattle.sheep_world.specs.Granted.{put_adds}
use Rattle.sheep_world.proofs.StepsInParts.{node_stepped-log}
use Rattle.sheep_world.proofs.world_state.WorldState.put.Goals as goal

pub returns-clause-grown : goal.returns-clause-grown
returns-clause-grown c =
    subst (λ (log : List Entry). IfOk c.put_done.result (λ made. made.1 ≡ put_adds log made.0.outputs.put))
    (ap (λ (world : World). world.log) c.in_ok-node_stepped.ensures
    ∙ node_stepped-log c.args.script.now c.args.node inputs.Put c.at_rest.result
    ∙ ap (λ (world : World). world.log) c.at_rest.ensures)
    c.put_done.ensures.grown
