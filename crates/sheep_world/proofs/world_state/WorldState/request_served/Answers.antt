use Rattle.std.proofs.Common.{◌≡◌, List, ◌++◌, None, ap, ◌∙◌}
use Rattle.disk_history.specs.declared.event.HistEvent.{HistEvent}
use Rattle.sheep_node.specs.declared.input.Input.TheVariants as inputs
use Rattle.sheep_world.specs.World.{World}
use Rattle.sheep_world.specs.NodeSteps.{node_stepped, at_rest}
use Rattle.sheep_world.specs.Messages.{reply_sent}
use Rattle.sheep_world.specs.HistoryAdditions.{replies_grown}
use Rattle.sheep_world.proofs.DeliveredHistory.{request-history}
use Rattle.sheep_world.proofs.world_state.WorldState.request_served.Goals as goal

pub returns-clause-world : goal.returns-clause-world
returns-clause-world c =
    c.in_ok-world.ensures
    ∙ ap (reply_sent c.args.name c.args.to)
    (c.in_ok-served.ensures.world
    ∙ ap (node_stepped c.args.script.now c.args.to.0 (inputs.Request c.args.request)) c.at_rest.ensures)

pub returns-clause-grown : goal.returns-clause-grown
returns-clause-grown c =
    request-history c.args.script.now c.args.name c.args.self c.args.to c.args.request c.in_ok-served.served c.in_ok-world.world
    c.in_ok-served.grown
    (c.in_ok-served.ensures.world
    ∙ ap (node_stepped c.args.script.now c.args.to.0 (inputs.Request c.args.request)) c.at_rest.ensures)
    c.in_ok-world.ensures
    (c.in_ok-served.ensures.grown
    ∙ ap (λ (earlier : List HistEvent). earlier ++ replies_grown c.args.script.now c.at_rest.result None c.in_ok-served.served)
    c.new-none.ensures
    ∙ ap (λ (world : World). replies_grown c.args.script.now world None c.in_ok-served.served) c.at_rest.ensures)
