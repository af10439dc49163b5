use Rattle.std.proofs.Common.{ap}
use Rattle.stamp_clock.proofs.SeatLemmas.{seat_with_note}
use Rattle.stamp_clock.proofs.clock.Clock.learn.Goals as goal

pub invariant_of-seat : goal.invariant_of-seat
invariant_of-seat c =
    rw c.join.ensures.joined (
      c.seat.invariant.0,
      seat_with_note _ _ c.seat.inside.token.me.0 c.note.inside.token.me.0 c.seat.inside.spent c.seat.invariant.1
          (ap (λ me. me.0.mine) c.note.invariant),
    )
