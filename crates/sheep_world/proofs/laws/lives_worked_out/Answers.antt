use Rattle.sheep_world.proofs.AskedInputs.{first_incarnation, second_incarnation, weight_kept}
use Rattle.sheep_world.proofs.laws.lives_worked_out.Goals as goal

pub returns : goal.returns
returns c = record { first = first_incarnation; second = second_incarnation; weight = weight_kept }
