use Rattle.sheep_world.proofs.EnabledLaws.{is_some-step}
use Rattle.sheep_world.proofs.laws.what_may_happen_is_made.Goals as goal

pub returns : goal.returns
returns c = is_some-step
