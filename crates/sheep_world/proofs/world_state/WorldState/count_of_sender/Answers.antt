use Rattle.std.proofs.Common.{length, ap, ◌∙◌}
use Rattle.sheep_world.specs.World.{World}
use Rattle.sheep_world.specs.EnabledPlaces.{messages_of_sender}
use Rattle.sheep_world.proofs.world_state.WorldState.count_of_sender.Goals as goal

pub returns : goal.returns
returns c = c.count_at.ensures ∙ ap (λ (world : World). length (messages_of_sender c.args.sender world)) c.self.view_is
