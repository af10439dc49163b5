use Rattle.sheep_world.proofs.EventInversion.{happens}
use Rattle.sheep_world.proofs.laws.each_event_is_of_a_kind.Goals as goal

pub returns : goal.returns
returns c = happens
