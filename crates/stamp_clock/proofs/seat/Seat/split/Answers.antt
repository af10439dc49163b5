use Rattle.std.proofs.Common.{arith, ap}
use Rattle.stamp_clock.proofs.SeatLemmas.{seat_without_one}
use Rattle.stamp_clock.proofs.seat.Seat.split.Goals as goal

pub invariant_of-self : goal.invariant_of-self
invariant_of-self c =
    rw c.split_seat.ensures.left (
      c.self.invariant.0,
      seat_without_one _ _ c.self.inside.token.me.0 c.self.inside.spent c.self.invariant.1
          (omega (arith, ap (λ seat. seat.room) c.self.view_is, c.requires.room)),
    )
