use Rattle.sheep_world.proofs.AskedInputs.{is_some-input_of, input_of-parts}
use Rattle.sheep_world.proofs.laws.requests_have_inputs.Goals as goal

pub returns : goal.returns
returns c = record { has = is_some-input_of; session = input_of-parts }
