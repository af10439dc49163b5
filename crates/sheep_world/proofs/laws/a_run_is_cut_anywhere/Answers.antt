use Rattle.sheep_world.proofs.RunLaws.{run-prefix}
use Rattle.sheep_world.proofs.laws.a_run_is_cut_anywhere.Goals as goal

pub returns : goal.returns
returns c = run-prefix
