use Rattle.sheep_node.proofs.OutsideAskLaws.{check_writes, written-on}
use Rattle.sheep_node.proofs.laws.the_history_has_the_write_of_a_check.Goals as goal

pub returns : goal.returns
returns c = record { work = check_writes; disk = written-on }
