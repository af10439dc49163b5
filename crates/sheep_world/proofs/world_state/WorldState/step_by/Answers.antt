use Rattle.sheep_world.proofs.MadeWorlds.{event-made}
use Rattle.sheep_world.proofs.world_state.WorldState.step_by.Goals as goal

pub returns : goal.returns
returns c =
    event-made c.args.script.now c.args.event c.args.self c.in_ok-world.world c.in_ok-world.grown c.requires
    c.in_ok-world.ensures.world c.in_ok-world.ensures.grown
