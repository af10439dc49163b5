use Rattle.sheep_node.proofs.StartLaws.{touched_start}
use Rattle.sheep_node.proofs.laws.a_touched_work_is_not_refused.Goals as goal

pub returns : goal.returns
returns c = touched_start
