use Rattle.std.proofs.Common.{refl}
use Rattle.sheep.proofs.ToldRuns.{told-next}
use Rattle.sheep.proofs.told_run.ToldRun.go_on.Goals as goal

pub returns-clause-told : goal.returns-clause-told
returns-clause-told c =
    told-next c.args.script.now c.args.self.now
    (record { world = c.apply.new.self; reporter = c.add_made.new.self; events = c.push.new.self }) c.args.event
    (record { world = c.apply.new.self.world; grown = c.in-Ok._grown }) c.tell_before.new.self c.requires.told c.in-Ok.ensures.made
    c.in-Ok.ensures.live refl c.in_ok-push.ensures.ok c.in_ok-tell_before.ensures
    (λ report. c.in_ok-add_made.ensures c.args.script.now report (record { world = c.apply.new.self.world; grown = c.in-Ok._grown }) refl)

pub returns-clause-made : goal.returns-clause-made
returns-clause-made c = (c.in-Ok._grown, c.in-Ok.ensures.made)
