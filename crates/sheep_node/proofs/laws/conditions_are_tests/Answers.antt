use Rattle.sheep_node.proofs.MayTestLaws.{guest_ask_tested, read_tested, back_tested, may_tested}
use Rattle.sheep_node.proofs.laws.conditions_are_tests.Goals as goal

pub returns : goal.returns
returns c = record { may = may_tested; guest_ask = guest_ask_tested; read = read_tested; come_back = back_tested }
