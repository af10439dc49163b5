use Rattle.std.proofs.Common.{ap, subst}
use Rattle.stamp_clock.specs.declared.rule.View.{View}
use Rattle.stamp_clock.specs.Steps.{IsShown}
use Rattle.stamp_clock.proofs.SeatLemmas.{seats_joined}
use Rattle.stamp_clock.proofs.clock.Clock.join.Goals as goal

pub invariant_of-seat : goal.invariant_of-seat
invariant_of-seat c =
    let looked = c.look.ensures.looked in
    let P : View → Type 0 = λ view. IsShown view in
    let shown = subst P (ap (λ me. me.0) c.join.ensures.joined) looked.shown in
    rw (c.look.ensures.slots, looked.view, c.join.ensures.joined) (
      c.seat.invariant.0,
      seats_joined _ _ _ c.seat.inside.token.me.0 c.other.inside.token.me.0 c.seat.inside.spent c.other.inside.spent c.seat.invariant.1
          c.other.invariant.1 shown,
    )

pub returns-clause-once : goal.returns-clause-once
returns-clause-once c = rw c.look.ensures.looked.view c.look.ensures.looked.shown.once
