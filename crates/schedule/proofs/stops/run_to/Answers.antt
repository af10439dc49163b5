use Rattle.std.proofs.Common.{◌≡◌, ℕ, ◌+◌, Err, Some, refl, sym, ap, ◌∙◌}
use Rattle.sheep_node.specs.declared.event.Event.TheVariants as events
use Rattle.sheep_world.specs.SpentWorld.{WorldOrSpent}
use Rattle.schedule.specs.declared.fault.RunFault.TheVariants as faults
use Rattle.schedule.proofs.MadeRuns.{made-opening, made-more, made-end}
use Rattle.schedule.proofs.stops.run_to.Goals as goal

pub loop-event-init : goal.loop-event-init
loop-event-init c = (
  ap (λ (w : WorldOrSpent). w.spent) c.in_ok-world.ensures,
  refl,
  made-opening c.args.script.now c.in_ok-world.world.world c.new-run.result (ap (λ (w : WorldOrSpent). w.world) c.in_ok-world.ensures) c.new-run.ensures,
)

pub loop-event-preserved : goal.loop-event-preserved
loop-event-preserved c = (
  c.in-Ok.ensures.live,
  ap (λ (n : ℕ). n + 1) c.loop-event.invariant.1,
  made-more c.args.script.now c.args.events.now c.loop-event.event-index (events.Guest 0) c.loop-event.world.world c.go_on.new.world.world
      c.loop-event.run c.go_on.new.self c.loop-event-test.true c.loop-event.invariant.2 c.in-Ok.ensures.events c.in-Ok.ensures.made,
)

pub returns-in-Err-clause-stop : goal.returns-in-Err-clause-stop
returns-in-Err-clause-stop c = λ place is.
    let told : c.fault_at.result ≡ faults.NotEnabled place = cc in
    let what = c.fault_at.ensures place told in
    made-end c.args.script.now c.args.events.now c.loop-event.event-index (events.Guest 0) c.loop-event.world.world c.loop-event.run
    c.loop-event-test.true c.loop-event.invariant.2 (c.in-Err.ensures.refused.0 (ap Err what.1))
    ∙ ap Some (sym (what.0 ∙ c.loop-event.invariant.1))
