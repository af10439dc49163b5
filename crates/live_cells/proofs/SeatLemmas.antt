-- A seat learns what was brought, and draws after that.
use Rattle.std.proofs.Common.{◌≡◌, ℕ, ◌+◌, ◌<◌, ◌≤◌, max, Bool, false, ◌∷◌, List, All, arith, refl, sym, ap, subst, ◌∙◌}
use Rattle.std.proofs.Math.Nat.{le-max_left, le-max_right}
use Rattle.std.proofs.lemmas.List.Elements.{All-weaker}
use Rattle.stamp_clock.specs.Clock.{ClockId}
use Rattle.stamp_clock.specs.Seat.{SeatState}
use Rattle.live_cells.specs.Seats.{IsInformed, HasDrawn}

-- a seat that learned a note
module _ (old : SeatState) (seen : ℕ) (new : SeatState) (learned : new ≡ record old { seen = max old.seen seen }) where
  now_seen : max old.seen seen ≡ new.seen
  now_seen = sym (ap (λ (seat : SeatState). seat.seen) learned)

  pub informed : IsInformed old new
  informed = record {
    clock = ap (λ (seat : SeatState). seat.clock) learned;
    mine = ap (λ (seat : SeatState). seat.mine) learned;
    seen = subst (λ (n : ℕ). old.seen ≤ n) now_seen (le-max_left old.seen seen);
    room = ap (λ (seat : SeatState). seat.room) learned;
    spent = ap (λ (seat : SeatState). seat.spent) learned;
  }

  -- is above what the note has seen
  pub above_note : (stamp : ℕ) → stamp < seen → stamp < new.seen
  above_note stamp below = subst (λ (n : ℕ). stamp < n) now_seen (let least = le-max_right old.seen seen in omega arith)

-- one that learned twice learned
pub informed_twice : (old between new : SeatState) → IsInformed old between → IsInformed between new → IsInformed old new
informed_twice old between new first second = record {
  clock = second.clock ∙ first.clock;
  mine = second.mine ∙ first.mine;
  seen = (let early = first.seen in let late = second.seen in omega arith);
  room = second.room ∙ first.room;
  spent = second.spent ∙ first.spent;
}

-- and one that learned nothing is as it was
pub informed_of_nothing : (seat : SeatState) → IsInformed seat seat
informed_of_nothing seat = record { clock = refl; mine = refl; seen = omega arith; room = refl; spent = refl }

-- the seats that learned are equal but for what they have seen
abbrev seat_drawn : ℕ → ClockId → List ℕ → ℕ → Bool → SeatState
seat_drawn number clock mine room spent = record { clock = clock; mine = number ∷ mine; seen = number + 1; room = room; spent = spent }

-- a number drawn after that
pub drawn_after : (last number : ℕ) (old between new : SeatState) → IsInformed old between → HasDrawn last number between new
    → HasDrawn last number old new
drawn_after last number old between new learned drawn = record {
  live = sym learned.spent ∙ drawn.live;
  below = drawn.below;
  above = (let early = learned.seen in let late = drawn.above in omega arith);
  drawn = drawn.drawn
      ∙ ap (λ (clock : ClockId). seat_drawn number clock between.mine between.room between.spent) learned.clock
      ∙ ap (λ (mine : List ℕ). seat_drawn number old.clock mine between.room between.spent) learned.mine
      ∙ ap (λ (room : ℕ). seat_drawn number old.clock old.mine room between.spent) learned.room
      ∙ ap (λ (spent : Bool). seat_drawn number old.clock old.mine old.room spent) learned.spent;
}

pub below_seen : (number : ℕ) (old new : SeatState) → new ≡ record old { mine = number ∷ old.mine; seen = number + 1 } → number < new.seen
below_seen number old new drawn = subst (λ (n : ℕ). number < n) (sym (ap (λ (seat : SeatState). seat.seen) drawn)) (omega arith)

pub all_below : (seen number : ℕ) (stamps : List ℕ) → seen ≤ number → All (λ (stamp : ℕ). stamp < seen) stamps
    → All (λ (stamp : ℕ). stamp < number) stamps
all_below seen number stamps most =
    All-weaker (λ (stamp : ℕ). stamp < seen) (λ (stamp : ℕ). stamp < number) (λ stamp below. omega arith) stamps
