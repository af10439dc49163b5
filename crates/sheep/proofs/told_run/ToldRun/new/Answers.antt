use Rattle.sheep.proofs.ToldRuns.{told-first}
use Rattle.sheep.proofs.told_run.ToldRun.new.Goals as goal

pub returns-clause-told : goal.returns-clause-told
returns-clause-told c =
    told-first c.args.script.now (record { world = c.in_ok-world.world; reporter = c.new-reporter.result; events = c.new-events.result })
    c.in_ok-world.ensures c.new-events.ensures (c.new-reporter.ensures c.args.script.now)
