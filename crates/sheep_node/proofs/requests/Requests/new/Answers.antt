use Rattle.sheep_node.proofs.RequestMarks.{AreRequestMarks-empty}
use Rattle.sheep_node.proofs.requests.Requests.new.Goals as goal

pub invariant_of-result : goal.invariant_of-result
invariant_of-result c = AreRequestMarks-empty c.new-2.result c.new.result.entries c.new-2.ensures.empty c.new.ensures.empty
