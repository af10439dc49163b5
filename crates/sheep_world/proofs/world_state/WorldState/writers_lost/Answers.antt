use Rattle.std.proofs.Common.{◌≤◌, List, length, subst, ◌∙◌}
use Rattle.cluster_script.specs.declared.statement.Statement.{Statement}
use Rattle.sheep_world.proofs.LostWriters.{first_lost-more, first_lost-all}
use Rattle.sheep_world.proofs.world_state.WorldState.writers_lost.Goals as goal

pub loop-place-preserved : goal.loop-place-preserved
loop-place-preserved c =
    c.in_ok-add_lost_writer.ensures
    ∙ first_lost-more c.args.script.now c.args.self.now c.args.node c.args.host.now c.loop-place.place c.loop-place.events
    c.loop-place.invariant

pub returns : goal.returns
returns c =
    c.loop-place.invariant
    ∙ first_lost-all c.args.script.now c.args.self.now c.args.node c.args.host.now c.loop-place.place
    (subst (λ (statements : List Statement). length statements ≤ c.loop-place.place) c.statements.ensures.statements
    c.loop-place-test.false)
