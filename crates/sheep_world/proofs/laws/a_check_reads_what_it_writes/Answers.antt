use Rattle.sheep_world.proofs.ClientLaws.{checked-block}
use Rattle.sheep_world.proofs.laws.a_check_reads_what_it_writes.Goals as goal

pub returns : goal.returns
returns c = checked-block
