use Rattle.std.proofs.Common.{◌≡◌, ℕ, Option, Some, None, sym, ap, ◌∙◌}
use Rattle.std.specs.Ordering.{nat_cmp}
use Rattle.std.specs.FinMap as tree
use Rattle.sheep_world.specs.World.{Host, World}
use Rattle.sheep_world.specs.MembershipChanges.{lost_host}
use Rattle.sheep_world.proofs.StepsInParts.{host_changed-none, host_changed-some}
use Rattle.sheep_world.proofs.world_state.WorldState.host_lost.Goals as goal

pub returns-in_default : goal.returns-in_default
returns-in_default c =
    let host_in : World → Option Host = λ world. tree.get world.hosts c.args.node in
    let left : World → tree.FinMap nat_cmp Host = λ world. tree.remove world.hosts c.args.node in
    ap (λ (world : World). record world { hosts = c.take.new.self }) c.self.view_is
    ∙ host_changed-none lost_host c.args.node c.args.self c.take.new.self (c.take.ensures.others ∙ ap left c.self.view_is)
    (sym (c.take.ensures.value ∙ ap host_in c.self.view_is) ∙ c.in_default.is)

pub returns : goal.returns
returns c =
    let host_in : World → Option Host = λ world. tree.get world.hosts c.args.node in
    let left : World → tree.FinMap nat_cmp Host = λ world. tree.remove world.hosts c.args.node in
    ap (λ (world : World). record world { hosts = c.put.new.self }) c.self.view_is
    ∙ host_changed-some lost_host c.args.node c.args.self c.in-Some.host c.lose.result c.take.new.self c.put.new.self
    (sym (c.take.ensures.value ∙ ap host_in c.self.view_is) ∙ c.in-Some.is) (c.take.ensures.others ∙ ap left c.self.view_is)
    c.lose.ensures c.in_ok-put.ensures
