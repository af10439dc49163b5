-- What contracts see of a seat, and what becomes of it.
use Rattle.std.specs.Prelude.{◌≡◌, ◌+◌, ◌-◌, ◌<◌, ◌≤◌, ℕ, max, Bool, true, false, ◌||◌, List, [], ◌∷◌, ◌++◌, All, replicate}
use Rattle.stamp_clock.specs.declared.rule.View.{View}
use Rattle.stamp_clock.specs.Clock.{ClockId}
use Rattle.stamp_clock.specs.Stamps.{seats_max, HasNoneTwice}
use Rattle.stamp_clock.specs.Steps.{view_after_draw}

-- the clock that it is of, the numbers that it and the seats joined into it drew, what it has seen, how many draws it may
-- still make past the last number, and whether one of these seats was answered that the clock is spent
pub record SeatState : Type 0 where
  pub clock : ClockId
  pub mine : List ℕ
  pub seen : ℕ
  pub room : ℕ
  pub spent : Bool

-- a seat with this view
abbrev pub seat_state : ClockId → View → Bool → SeatState
seat_state clock view spent =
    record { clock = clock; mine = view.mine; seen = view.seen; room = view.room; spent = spent }

abbrev pub view_of : SeatState → View
view_of seat = record { mine = seat.mine; seen = seat.seen; room = seat.room }

-- what holds of every seat: it has seen its numbers, no number is among them twice, and it has room while it isn't spent
pub record IsSeat (seat : SeatState) : Type 0 where
  pub below : All (λ number. number < seat.seen) seat.mine
  pub once : HasNoneTwice seat.mine
  pub room : seat.spent ≡ false → 0 < seat.room

-- a seat that has seen nothing
abbrev pub new_seat : ClockId → ℕ → SeatState
new_seat clock room = record { clock = clock; mine = []; seen = 0; room = room; spent = false }

-- the seats of a new clock: the first one begins with all the room, and gave one to each other
abbrev pub new_seats : ClockId → ℕ → List SeatState
new_seats clock count = new_seat clock (seats_max + 1 - count) ∷ replicate (count - 1) (new_seat clock 1)

-- a seat whose draw found this number
abbrev pub seat_after_draw : SeatState → ℕ → SeatState
seat_after_draw seat found = seat_state seat.clock (view_after_draw (view_of seat) found) seat.spent

-- a draw found a number that is past the last one: the seat is spent
abbrev pub IsSpentBy : ℕ → SeatState → SeatState → Type 0
IsSpentBy last old new =
    (found : ℕ) × (last ≤ found) × (old.seen ≤ found) × (new ≡ record (seat_after_draw old found) { spent = true })

-- what two seats make when they are joined
abbrev pub joined_seat : SeatState → SeatState → SeatState
joined_seat seat other =
    record {
      clock = seat.clock;
      mine = seat.mine ++ other.mine;
      seen = max seat.seen other.seen;
      room = seat.room + other.room;
      spent = seat.spent || other.spent;
    }
