-- The seat of a worker's place draws a stamp, or none.
use Rattle.std.proofs.Common.{◌≡◌, ℕ, Bool, false, sym, subst}
use Rattle.stamp_clock.specs.Seat.{SeatState}
use Rattle.live_cells.specs.Seats.{HasDrawn}
use Rattle.live_workers.specs.PlaceSeats.{HasDrawnOne, IsSeatAfter, HasDrawnAtMostOne}

pub drawn_one : (last number : ℕ) (old new : SeatState) → HasDrawn last number old new → HasDrawnOne old new
drawn_one last number old new drew = record { stamp = number; live = drew.live; above = drew.above; drawn = drew.drawn }

-- letters leave the seat as it was
pub drawn_one_kept : (old drawn new : SeatState) → HasDrawnOne old drawn → new ≡ drawn → HasDrawnOne old new
drawn_one_kept old drawn new drew same = subst (λ (seat : SeatState). HasDrawnOne old seat) (sym same) drew

-- a seat that is as it was drew none
pub drawn_none : (old new : SeatState) → new ≡ old → HasDrawnAtMostOne old new
drawn_none old new same = record { made = false; seat = same }

-- a call that made a step, or none, behind one that left the seat as it was
pub drawn_behind : (made : Bool) (first second third : SeatState) → second ≡ first → IsSeatAfter made second third
    → HasDrawnAtMostOne first third
drawn_behind made first second third same after =
    record { made = made; seat = subst (λ (seat : SeatState). IsSeatAfter made seat third) same after }

pub at_most_one_behind : (first second third : SeatState) → second ≡ first → HasDrawnAtMostOne second third → HasDrawnAtMostOne first third
at_most_one_behind first second third same drew = drawn_behind drew.made first second third same drew.seat

pub drawn_after : (made : Bool) (old new : SeatState) → IsSeatAfter made old new → HasDrawnAtMostOne old new
drawn_after made old new after = record { made = made; seat = after }
