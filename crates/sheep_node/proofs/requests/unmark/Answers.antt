use Rattle.std.proofs.Common.{false}
use Rattle.sheep_node.proofs.RequestMarks.{contains-changed}
use Rattle.sheep_node.proofs.requests.unmark.Goals as goal

pub returns : goal.returns
returns c =
    contains-changed c.args.marks.now c.remove.new.self c.args.awaited c.in-Some.number c.args.req false c.in-Some.is c.remove.ensures.updates.0
