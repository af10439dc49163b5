use Rattle.cluster_script.proofs.ReadLemmas.{what-reads}
use Rattle.cluster_script.proofs.line.statement_in.Goals as goal

pub returns-clause-follows : goal.returns-clause-follows
returns-clause-follows c = (what-reads c.args.before.now c.in_ok-first.first.now _ c.in_ok-s.s c.in_ok-s.ensures).1
