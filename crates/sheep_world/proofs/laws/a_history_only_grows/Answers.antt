use Rattle.sheep_world.proofs.RunLaws.{history-grows}
use Rattle.sheep_world.proofs.laws.a_history_only_grows.Goals as goal

pub returns : goal.returns
returns c = history-grows
