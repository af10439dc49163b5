use Rattle.std.proofs.Common.{None}
use Rattle.sheep_world.specs.Opening.{no_outputs}
use Rattle.sheep_world.proofs.StepHistories.{replies-before}
use Rattle.sheep_world.proofs.world_state.WorldState.log_next.Goals as goal

pub returns-in-Some-clause-grown : goal.returns-in-Some-clause-grown
returns-in-Some-clause-grown c =
    replies-before c.args.script.now c.args.self c.args.self.wire c.args.self.losses None no_outputs c.replied.result c.at_rest.result
    c.new-none.result c.at_rest.ensures c.new-none.ensures c.replied.ensures.grown
