use Rattle.sheep_world.proofs.LogFrontLaws.{all_read}
use Rattle.sheep_world.proofs.laws.nodes_have_read_fronts_of_the_log.Goals as goal

pub returns : goal.returns
returns c = all_read
