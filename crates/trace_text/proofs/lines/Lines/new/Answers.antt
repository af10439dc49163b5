use Rattle.trace_text.proofs.LineLaws.{lines-fit}
use Rattle.trace_text.proofs.lines.Lines.new.Goals as goal

pub returns-clause-bound : goal.returns-clause-bound
returns-clause-bound c = lines-fit c.args.text.now
