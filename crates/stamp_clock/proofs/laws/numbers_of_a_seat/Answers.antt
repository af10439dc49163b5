use Rattle.std.proofs.Common.{subst}
use Rattle.stamp_clock.specs.Stamps.{HasNoneTwice}
use Rattle.stamp_clock.specs.Seat.{SeatState}
use Rattle.stamp_clock.proofs.laws.numbers_of_a_seat.Goals as goal

pub returns-clause-once : goal.returns-clause-once
returns-clause-once c = let P : SeatState → Type 0 = λ seat. HasNoneTwice seat.mine in subst P c.seat.view_is c.seat.invariant.1.once
