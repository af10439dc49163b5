-- What becomes of a worker's seat.
use Rattle.std.specs.Prelude.{◌≡◌, ◌+◌, ◌<◌, ◌≤◌, ℕ, false, ◌∷◌}
use Rattle.stamp_clock.specs.Seat.{SeatState}

-- it learned what was brought: it has seen no less, and is else as it was
pub record IsInformed (old new : SeatState) : Type 0 where
  pub clock : new.clock ≡ old.clock
  pub mine : new.mine ≡ old.mine
  pub seen : old.seen ≤ new.seen
  pub room : new.room ≡ old.room
  pub spent : new.spent ≡ old.spent

-- it drew this number, which is below the clock's last one and not below what the seat had seen, and is else as it was
pub record HasDrawn (last number : ℕ) (old new : SeatState) : Type 0 where
  pub live : old.spent ≡ false
  pub below : number < last
  pub above : old.seen ≤ number
  pub drawn : new ≡ record old { mine = number ∷ old.mine; seen = number + 1 }
