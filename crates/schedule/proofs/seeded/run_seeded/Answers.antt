use Rattle.std.proofs.Common.{sym, ap, ◌∙◌}
use Rattle.sheep_world.specs.SpentWorld.{WorldOrSpent}
use Rattle.sheep_world.specs.Opening.{initial_world}
use Rattle.schedule.specs.Schedule.{Schedule, draft_in}
use Rattle.schedule.proofs.SeededRuns.{front-whole}
use Rattle.schedule.proofs.NextEvent.{not-true, not-false, less-next, front-opening, front-grown}
use Rattle.schedule.proofs.seeded.run_seeded.Goals as goal

pub loop-schedule-init : goal.loop-schedule-init
loop-schedule-init c = (
  ap (λ (w : WorldOrSpent). w.spent) c.in_ok-world.ensures,
  front-opening c.args.script.now c.args.seed c.new-run.result (draft_in c.in_ok-world.world.world c.new-schedule.result) c.new-run.ensures
      (ap (λ (w : WorldOrSpent). draft_in w.world c.new-schedule.result) c.in_ok-world.ensures
      ∙ ap (λ (s : Schedule). draft_in (initial_world c.args.script.now) s) c.new-schedule.ensures),
)

pub loop-schedule-smaller : goal.loop-schedule-smaller
loop-schedule-smaller c =
    less-next c.args.script.now (draft_in c.loop-schedule.world.world c.loop-schedule.schedule) c.in_ok-event.event c.next_event.new.self.rng
    c.next_event.new.self.taken c.loop-schedule.run (record { world = c.go_on.new.world.world; history = c.go_on.new.self.history })
    (not-false _ (sym c.loop-schedule-test.ensures)) c.in_ok-event.ensures.choice c.in-Ok.ensures.made

pub loop-schedule-preserved : goal.loop-schedule-preserved
loop-schedule-preserved c = (
  c.in-Ok.ensures.live,
  front-grown c.args.script.now c.args.seed (draft_in c.loop-schedule.world.world c.loop-schedule.schedule) c.in_ok-event.event
      c.next_event.new.self.rng c.next_event.new.self.taken c.loop-schedule.run c.go_on.new.self c.go_on.new.world.world c.loop-schedule.invariant.1
      (not-false _ (sym c.loop-schedule-test.ensures)) c.in_ok-event.ensures.choice c.in-Ok.ensures.events c.in-Ok.ensures.made,
)

pub returns-clause-events : goal.returns-clause-events
returns-clause-events c =
    (front-whole c.args.script.now c.args.seed c.loop-schedule.run (draft_in c.loop-schedule.world.world c.loop-schedule.schedule) c.loop-schedule.invariant.1
    (not-true _ (sym c.loop-schedule-test.ensures))).0

pub returns-clause-kept : goal.returns-clause-kept
returns-clause-kept c =
    (front-whole c.args.script.now c.args.seed c.loop-schedule.run (draft_in c.loop-schedule.world.world c.loop-schedule.schedule) c.loop-schedule.invariant.1
    (not-true _ (sym c.loop-schedule-test.ensures))).1
