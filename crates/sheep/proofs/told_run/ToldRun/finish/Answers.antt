use Rattle.sheep.proofs.ToldRuns.{told-last}
use Rattle.sheep.proofs.told_run.ToldRun.finish.Goals as goal

pub returns : goal.returns
returns c = told-last c.args.script.now c.args.self c.in_ok-report.report c.requires c.in_ok-report.ensures
