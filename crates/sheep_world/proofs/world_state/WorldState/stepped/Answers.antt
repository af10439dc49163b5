use Rattle.std.proofs.Common.{Option, refl, sym, ap, ◌∙◌}
use Rattle.std.specs.Ordering.{nat_cmp}
use Rattle.std.specs.FinMap as tree
use Rattle.sheep_world.specs.World.{Host, World}
use Rattle.sheep_world.specs.StepsInParts.{with_outputs}
use Rattle.sheep_world.proofs.StepsInParts.{node_stepped-none, node_stepped-some}
use Rattle.sheep_world.proofs.RepliesInParts.{replies-added}
use Rattle.sheep_world.proofs.world_state.WorldState.stepped.Goals as goal

pub returns-in_default-clause-world : goal.returns-in_default-clause-world
returns-in_default-clause-world c =
    let host_in : World → Option Host = λ world. tree.get world.hosts c.args.node in
    let left : World → tree.FinMap nat_cmp Host = λ world. tree.remove world.hosts c.args.node in
    ap (λ (world : World). record world { hosts = c.take.new.self }) c.self.view_is
    ∙ node_stepped-none c.args.script.now c.args.node c.args.input c.args.self c.take.new.self
    (c.take.ensures.others ∙ ap left c.self.view_is)
    (sym (c.take.ensures.value ∙ ap host_in c.self.view_is) ∙ c.in_default.is)

pub returns-in_default-clause-grown : goal.returns-in_default-clause-grown
returns-in_default-clause-grown c =
    replies-added c.args.script.now c.args.self (record c.args.self { outputs = c.self.inside.outputs }) c.self.inside.guests
    c.in_ok-written.written c.args.write c.self.inside.outputs.replies c.args.earlier c.in_ok-events.events
    (ap (λ (world : World). world.guests) c.self.view_is) c.in_ok-written.ensures refl c.in_ok-events.ensures

pub returns-clause-world : goal.returns-clause-world
returns-clause-world c =
    let host_in : World → Option Host = λ world. tree.get world.hosts c.args.node in
    let left : World → tree.FinMap nat_cmp Host = λ world. tree.remove world.hosts c.args.node in
    c.in_ok-world.ensures
    ∙ ap (λ (world : World).
    with_outputs c.args.script.now c.in_ok-kept.kept c.in_ok-host.outputs (record world { hosts = c.put.new.self })) c.self.view_is
    ∙ node_stepped-some c.args.script.now c.args.node c.args.input c.args.self c.in-Some.host c.in_ok-host.host c.take.new.self
    c.put.new.self c.in_ok-kept.kept c.in_ok-host.outputs (sym (c.take.ensures.value ∙ ap host_in c.self.view_is) ∙ c.in-Some.is)
    (c.take.ensures.others ∙ ap left c.self.view_is) c.in_ok-host.ensures.host c.in_ok-host.ensures.outputs c.in_ok-put.ensures
    c.in_ok-kept.ensures

pub returns-clause-grown : goal.returns-clause-grown
returns-clause-grown c =
    replies-added c.args.script.now c.args.self c.in_ok-world.world c.self.inside.guests c.in_ok-written.written c.args.write
    c.in_ok-host.outputs.replies c.args.earlier c.in_ok-grown.grown (ap (λ (world : World). world.guests) c.self.view_is) c.in_ok-written.ensures
    (sym (ap (λ (world : World). world.outputs.replies) c.in_ok-world.ensures)) c.in_ok-grown.ensures
