use Rattle.sheep_world.proofs.DrivenEvents.{ask-may}
use Rattle.sheep_world.proofs.laws.a_node_may_step_on_an_ask.Goals as goal

pub returns : goal.returns
returns c = ask-may
