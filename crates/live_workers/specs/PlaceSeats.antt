-- What becomes of the seat of a worker's place at a call.
use Rattle.std.specs.Prelude.{◌≡◌, ◌+◌, ◌≤◌, ℕ, Bool, true, false, List, ◌∷◌, slice_get, slice_set, Some}
use Rattle.stamp_clock.specs.Seat.{SeatState}

-- it drew one stamp, not below what it had seen, and is else as it was
pub record HasDrawnOne (old new : SeatState) : Type 0 where
  pub stamp : ℕ
  pub live : old.spent ≡ false
  pub above : old.seen ≤ stamp
  pub drawn : new ≡ record old { mine = stamp ∷ old.mine; seen = stamp + 1 }

-- whether the call made a step: then the seat drew the step's stamp, and else it is as it was
abbrev pub IsSeatAfter : Bool → SeatState → SeatState → Type 0
IsSeatAfter true old new = HasDrawnOne old new
IsSeatAfter false old new = new ≡ old

-- the call made one step at the most
pub record HasDrawnAtMostOne (old new : SeatState) : Type 0 where
  pub made : Bool
  pub seat : IsSeatAfter made old new

-- of these seats the one at the place drew one stamp, and the others are as they were
pub record HasDrawnOneAt (place : ℕ) (old new : List SeatState) : Type 0 where
  pub before : SeatState
  pub after : SeatState
  pub at : slice_get old place ≡ Some before
  pub drawn : HasDrawnOne before after
  pub seats : new ≡ slice_set old place after
