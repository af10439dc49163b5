use Rattle.std.proofs.Common.{◌≡◌, Some, rules, ◌∙◌}
use Rattle.trace_text.specs.Lines.{lines_in}
use Rattle.trace_text.specs.Replay.{Takes}
use Rattle.trace_text.proofs.ReplayedRuns.{taken-found}
use Rattle.sheep.proofs.MakingRuns.{retold-first, retold-next, retold-last, retold-bad, told-bad_place}
use Rattle.sheep.proofs.making.replayed_run.Goals as goal

pub loop-told-init : goal.loop-told-init
loop-told-init c =
    retold-first c.args.script.now (lines_in c.args.trace.now) c.in_ok-told.told c.new-replay.result c.in_ok-told.ensures.told
    c.in_ok-told.ensures.world c.in_ok-told.ensures.events c.new-replay.ensures

pub next_event-requires : goal.next_event-requires
next_event-requires c = c.loop-told.invariant.tells.live

pub go_on-requires-clause-told : goal.go_on-requires-clause-told
go_on-requires-clause-told c = c.loop-told.invariant.tells

pub go_on-requires-clause-enabled : goal.go_on-requires-clause-enabled
go_on-requires-clause-enabled c =
    let found = c.in-Some.is in
    let is : c.in_ok-event.field-0 ≡ Some c.in-Some.event = cc in
    (taken-found _ (λ event. Takes c.args.script.now c.loop-told.told.world.world c.loop-told.replay event c.next_event.new.self)
    c.in_ok-event.field-0 c.in-Some.event is c.in_ok-event.ensures.next).enabled

pub loop-told-preserved : goal.loop-told-preserved
loop-told-preserved c =
    let found = c.in-Some.is in
    let is : c.in_ok-event.field-0 ≡ Some c.in-Some.event = cc in
    retold-next c.args.script.now (lines_in c.args.trace.now) c.loop-told.told c.go_on.new.self c.loop-told.replay c.next_event.new.self
    c.in-Some.event c.in_ok-go_on.ensures.made.0 c.loop-told.invariant
    (taken-found _ (λ event. Takes c.args.script.now c.loop-told.told.world.world c.loop-told.replay event c.next_event.new.self)
    c.in_ok-event.field-0 c.in-Some.event is c.in_ok-event.ensures.next)
    c.in_ok-go_on.ensures.told c.in_ok-go_on.ensures.events c.in_ok-go_on.ensures.made.1

pub returns-in_err-event-clause-bad : goal.returns-in_err-event-clause-bad
returns-in_err-event-clause-bad c = λ place is.
    retold-bad c.args.script.now (lines_in c.args.trace.now) c.loop-told.told c.loop-told.replay place c.loop-told.invariant
    c.in_err-event.ensures.bad.1
    (told-bad_place c.from_residual-in_err-event.result c.in_err-event.field-0.0 place c.from_residual-in_err-event.ensures.1 is
    ∙ c.in_err-event.ensures.bad.0)

pub finish-requires : goal.finish-requires
finish-requires c = c.loop-told.invariant.tells

pub returns-clause-told : goal.returns-clause-told
returns-clause-told c =
    (retold-last c.args.script.now (lines_in c.args.trace.now) c.loop-told.told c.loop-told.replay c.in_ok-finish.field-0 c.loop-told.invariant
    (search rules) (search rules) c.in_ok-finish.ensures).tells

pub returns-clause-good : goal.returns-clause-good
returns-clause-good c =
    (retold-last c.args.script.now (lines_in c.args.trace.now) c.loop-told.told c.loop-told.replay c.in_ok-finish.field-0 c.loop-told.invariant
    (search rules) (search rules) c.in_ok-finish.ensures).good
