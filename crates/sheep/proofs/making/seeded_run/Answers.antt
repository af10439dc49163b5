use Rattle.std.proofs.Common.{List, sym, subst}
use Rattle.std.specs.Prelude.{IfOk}
use Rattle.sheep_node.specs.declared.event.Event.{Event}
use Rattle.schedule.proofs.NextEvent.{not-true, not-false}
use Rattle.sheep.specs.ToldRun.{TellsRun}
use Rattle.sheep.proofs.MakingRuns.{seeded-first, seeded-next, seeded-less, seeded-enabled, seeded-last}
use Rattle.sheep.proofs.making.seeded_run.Goals as goal

pub loop-alloc-init : goal.loop-alloc-init
loop-alloc-init c =
    seeded-first c.args.script.now c.args.seed c.in_ok-told.told c.new-schedule.result c.in_ok-told.ensures.told c.in_ok-told.ensures.world
    c.in_ok-told.ensures.events c.new-schedule.ensures

pub ended-requires : goal.ended-requires
ended-requires c = c.loop-alloc.invariant.tells.live

pub next_event-requires : goal.next_event-requires
next_event-requires c = c.loop-alloc.invariant.tells.live

pub go_on-requires-clause-told : goal.go_on-requires-clause-told
go_on-requires-clause-told c = c.loop-alloc.invariant.tells

pub go_on-requires-clause-enabled : goal.go_on-requires-clause-enabled
go_on-requires-clause-enabled c =
    seeded-enabled c.args.script.now c.loop-alloc.told c.loop-alloc.schedule c.in_ok-event.event c.next_event.new.self.rng
    c.next_event.new.self.taken (not-false _ (sym c.loop-alloc-test.ensures)) c.in_ok-event.ensures.choice

pub loop-alloc-smaller : goal.loop-alloc-smaller
loop-alloc-smaller c =
    seeded-less c.args.script.now c.args.seed c.loop-alloc.told c.go_on.new.self c.loop-alloc.schedule c.next_event.new.self c.in_ok-event.event
    c.in_ok-go_on.ensures.made.0 c.loop-alloc.invariant (not-false _ (sym c.loop-alloc-test.ensures)) c.in_ok-event.ensures.choice
    c.in_ok-go_on.ensures.made.1

pub loop-alloc-preserved : goal.loop-alloc-preserved
loop-alloc-preserved c =
    seeded-next c.args.script.now c.args.seed c.loop-alloc.told c.go_on.new.self c.loop-alloc.schedule c.next_event.new.self c.in_ok-event.event
    c.in_ok-go_on.ensures.made.0 c.loop-alloc.invariant (not-false _ (sym c.loop-alloc-test.ensures)) c.in_ok-event.ensures.choice
    c.in_ok-go_on.ensures.told c.in_ok-go_on.ensures.events c.in_ok-go_on.ensures.made.1

pub finish-requires : goal.finish-requires
finish-requires c = c.loop-alloc.invariant.tells

pub returns : goal.returns
returns c =
    subst (λ (events : List Event). IfOk c.finish.result (TellsRun c.args.script.now events))
    (seeded-last c.args.script.now c.args.seed c.loop-alloc.told c.loop-alloc.schedule c.loop-alloc.invariant
    (not-true _ (sym c.loop-alloc-test.ensures))) c.finish.ensures
