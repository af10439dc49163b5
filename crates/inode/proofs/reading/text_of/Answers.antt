use Rattle.std.proofs.Common.{sym}
use Rattle.inode.proofs.TextLemmas.{cut-ends}
use Rattle.inode.proofs.reading.text_of.Goals as goal

pub returns-in-Some-clause-ends : goal.returns-in-Some-clause-ends
returns-in-Some-clause-ends c = cut-ends c.args.field.now c.in-Some.end (sym c.in-Some.ensures)
