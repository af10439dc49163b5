use Rattle.std.proofs.Common.{Option, [], sym, ap, ◌∙◌}
use Rattle.std.specs.Ordering.{nat_cmp}
use Rattle.std.specs.FinMap as tree
use Rattle.sheep_world.specs.World.{Host, World}
use Rattle.sheep_world.specs.StepsInParts.{with_client_outputs}
use Rattle.sheep_world.proofs.StepsInParts.{node_stepped-none, node_stepped-some}
use Rattle.sheep_world.proofs.DrivenEvents.{outputs-without_script}
use Rattle.sheep_world.proofs.world_state.WorldState.stepped_for_client.Goals as goal

pub returns-in_default : goal.returns-in_default
returns-in_default c =
    let host_in : World → Option Host = λ world. tree.get world.hosts c.args.node in
    let left : World → tree.FinMap nat_cmp Host = λ world. tree.remove world.hosts c.args.node in
    ap (λ (world : World). record world { hosts = c.take.new.self }) c.self.view_is
    ∙ node_stepped-none [] c.args.node c.args.input c.args.self c.take.new.self (c.take.ensures.others ∙ ap left c.self.view_is)
    (sym (c.take.ensures.value ∙ ap host_in c.self.view_is) ∙ c.in_default.is)

pub returns : goal.returns
returns c =
    let host_in : World → Option Host = λ world. tree.get world.hosts c.args.node in
    let left : World → tree.FinMap nat_cmp Host = λ world. tree.remove world.hosts c.args.node in
    c.in_ok-world.ensures
    ∙ ap (λ (world : World). with_client_outputs c.in_ok-kept.kept c.in_ok-host.outputs (record world { hosts = c.put.new.self }))
    c.self.view_is
    ∙ outputs-without_script c.in_ok-kept.kept c.in_ok-host.outputs (record c.args.self { hosts = c.put.new.self })
    ∙ node_stepped-some [] c.args.node c.args.input c.args.self c.in-Some.host c.in_ok-host.host c.take.new.self
    c.put.new.self c.in_ok-kept.kept c.in_ok-host.outputs (sym (c.take.ensures.value ∙ ap host_in c.self.view_is) ∙ c.in-Some.is)
    (c.take.ensures.others ∙ ap left c.self.view_is) c.in_ok-host.ensures.host c.in_ok-host.ensures.outputs c.in_ok-put.ensures
    c.in_ok-kept.ensures
