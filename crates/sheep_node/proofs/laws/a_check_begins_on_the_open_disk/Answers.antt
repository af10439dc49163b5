use Rattle.sheep_node.proofs.OutsideAskLaws.{check_begins}
use Rattle.sheep_node.proofs.laws.a_check_begins_on_the_open_disk.Goals as goal

pub returns : goal.returns
returns c = check_begins
