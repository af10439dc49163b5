use Rattle.std.proofs.Common.{◌≡◌, Some, rules, sym, ap, ◌∙◌}
use Rattle.sheep_world.specs.SpentWorld.{WorldOrSpent}
use Rattle.trace_text.specs.Lines.{lines_in}
use Rattle.trace_text.specs.Replay.{Takes}
use Rattle.trace_text.proofs.ReplayedRuns.{replayed-opening, replayed-next, replayed-whole, replayed-bad, taken-found, told-place}
use Rattle.trace_text.proofs.trace_replay.replay.Goals as goal

pub loop-run-init : goal.loop-run-init
loop-run-init c = (
  ap (λ (w : WorldOrSpent). w.spent) c.in_ok-world.ensures,
  replayed-opening c.args.script.now (lines_in c.args.text.now) c.in_ok-world.world.world c.new-run.result c.new-rest.result
      (ap (λ (w : WorldOrSpent). w.world) c.in_ok-world.ensures) c.new-run.ensures c.new-rest.ensures,
)

pub returns-in_err-event-clause-bad : goal.returns-in_err-event-clause-bad
returns-in_err-event-clause-bad c = λ place is.
    replayed-bad c.args.script.now (lines_in c.args.text.now) c.loop-run.world.world c.loop-run.run c.loop-run.rest place
    c.loop-run.invariant.1 c.in_err-event.ensures.bad.1
    (sym (told-place c.from_residual-in_err-event.result c.in_err-event.field-0.0 place c.from_residual-in_err-event.ensures.1 is)
    ∙ c.in_err-event.ensures.bad.0)

pub loop-run-preserved : goal.loop-run-preserved
loop-run-preserved c =
    let found = c.in-Some.is in
    let is : c.in_ok-event.field-0 ≡ Some c.in-Some.event = cc in (
      c.in-Ok.ensures.live,
      replayed-next c.args.script.now (lines_in c.args.text.now) c.loop-run.world.world c.go_on.new.world.world c.loop-run.run c.go_on.new.self
          c.loop-run.rest c.next_event.new.self c.in-Some.event c.loop-run.invariant.1
          (taken-found _ (λ event. Takes c.args.script.now c.loop-run.world.world c.loop-run.rest event c.next_event.new.self) c.in_ok-event.field-0
          c.in-Some.event is c.in_ok-event.ensures.next) c.in-Ok.ensures.events c.in-Ok.ensures.made,
    )

pub returns-clause-good : goal.returns-clause-good
returns-clause-good c =
    (replayed-whole c.args.script.now (lines_in c.args.text.now) c.loop-run.world.world c.loop-run.run c.loop-run.rest
    c.loop-run.invariant.1 (search rules) (search rules)).good

pub returns-clause-whole : goal.returns-clause-whole
returns-clause-whole c =
    (replayed-whole c.args.script.now (lines_in c.args.text.now) c.loop-run.world.world c.loop-run.run c.loop-run.rest
    c.loop-run.invariant.1 (search rules) (search rules)).whole
