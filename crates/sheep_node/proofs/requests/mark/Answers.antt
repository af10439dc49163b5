use Rattle.std.proofs.Common.{true}
use Rattle.sheep_node.proofs.RequestMarks.{contains-changed}
use Rattle.sheep_node.proofs.requests.mark.Goals as goal

pub returns-in_ok-insert-in-Some-clause-ok : goal.returns-in_ok-insert-in-Some-clause-ok
returns-in_ok-insert-in-Some-clause-ok c =
    contains-changed c.args.marks.now c.insert.new.self c.args.awaited c.in-Some.number c.args.req true c.in-Some.is c.in_ok-insert-in-Some.ensures.updates.0
