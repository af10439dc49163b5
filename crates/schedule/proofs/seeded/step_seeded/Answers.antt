use Rattle.std.proofs.Common.{Err, ap}
use Rattle.schedule.proofs.NextEvent.{chosen-enabled, not-false, wants-memory}
use Rattle.schedule.proofs.seeded.step_seeded.Goals as goal

pub returns-in-Err-clause-spent : goal.returns-in-Err-clause-spent
returns-in-Err-clause-spent c few =
    wants-memory c.in-Err.field-0 _
    (chosen-enabled c.args.script.now
    (record { world = c.args.world.now.world; rng = c.args.rng.now; taken = c.args.taken }) c.in_ok-event.event c.next_choice.new.rng
    c.in_ok-event._taken (not-false _ c.requires.unfinished) c.in_ok-event.ensures.choice)
    (λ refused. c.in-Err.ensures.refused.0 (ap Err refused)) (λ wants. c.in-Err.ensures.spent (ap Err wants))
