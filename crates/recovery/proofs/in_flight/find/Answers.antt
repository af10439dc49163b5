use Rattle.std.proofs.Common.{sym, arith}
use Rattle.recovery.proofs.FlightLemmas.{Sent, node-at, no-node}
use Rattle.recovery.proofs.in_flight.find.Goals as goal
use Rattle.recovery.proofs.in_flight.find.Goals.{else-place-sent-via-then-place-sent+else-sent-place, else-place-sent-via-else-place-sent}

abbrev none : Sent
none = (0, record { 0 = 0 })

pub returns-then-sent-place : goal.returns-then-sent-place
returns-then-sent-place c =
    sym (node-at c.args.number c.place_of-place.result c.args.sent.now none (λ k below. c.place_of-place.ensures.before k none below)
    (λ k from within. c.place_of-place.ensures.behind k none from within) c.requires
    c.if-place-sent.true c.if-sent-place.true)

pub returns-else-place-sent : goal.returns-else-place-sent
returns-else-place-sent c =
    sym (no-node c.args.number c.place_of-place.result c.args.sent.now none (λ k below. c.place_of-place.ensures.before k none below)
    (λ k from within. c.place_of-place.ensures.behind k none from within) c.requires
    (λ within same. elim c.else-place-sent.branch [
      | else-place-sent-via-then-place-sent+else-sent-place w ↦ absurd (w.if-sent-place.false same)
      | else-place-sent-via-else-place-sent w ↦ (let past = w.if-place-sent.false in absurd (omega (arith, past, within)))
    ]))
