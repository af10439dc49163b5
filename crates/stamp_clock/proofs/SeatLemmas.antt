-- What holds of every seat still holds when it learns, is joined or gives room away.
use Rattle.std.proofs.Common.{arith, ◌≡◌, ◌+◌, ◌-◌, ◌<◌, ◌≤◌, ℕ, max, Bool, true, false, ◌||◌, [], ◌∷◌, ◌++◌, set, ap, refl}
use Rattle.std.proofs.lemmas.List.{append-nil, replicate-append-replicate}
use Rattle.stamp_clock.specs.declared.rule.View.{View}
use Rattle.stamp_clock.specs.Clock.{ClockId}
use Rattle.stamp_clock.specs.Stamps.{seats_max}
use Rattle.stamp_clock.specs.Steps.{view_without_seat, joined_view, IsShown}
use Rattle.stamp_clock.specs.Seat.{IsSeat, seat_state, new_seat, new_seats}
use Rattle.stamp_clock.proofs.TimesLemmas.{below_more}

-- a seat that has more than one room gives one away
pub seat_without_one : (clock later : ClockId) (view : View) (spent : Bool) → IsSeat (seat_state clock view spent) → 1 < view.room
    → IsSeat (seat_state later (view_without_seat view) spent)
seat_without_one clock later view spent is some_room = record { below = is.below; once = is.once; room = λ unspent. omega arith }

-- a note has no numbers
pub seat_with_note : (clock later : ClockId) (view note : View) (spent : Bool) → IsSeat (seat_state clock view spent) → note.mine ≡ []
    → IsSeat (seat_state later (joined_view view note) spent)
seat_with_note clock later view note spent is none =
    let same : view.mine ++ note.mine ≡ view.mine = rw none (append-nil view.mine) in
    record {
      below = rw same (below_more view.seen (max view.seen note.seen) view.mine (omega arith) is.below);
      once = rw same is.once;
      room = λ unspent. let some_room = is.room unspent in omega arith;
    }

-- while neither of two seats is spent, either has room
pub seats_joined : (clock other_clock later : ClockId) (view other : View) (spent other_spent : Bool)
    → IsSeat (seat_state clock view spent) → IsSeat (seat_state other_clock other other_spent) → IsShown (joined_view view other)
    → IsSeat (seat_state later (joined_view view other) (spent || other_spent))
seats_joined clock other_clock later view other true other_spent is other_is shown =
    record { below = shown.below; once = shown.once; room = λ unspent. absurd (cc) }
seats_joined clock other_clock later view other false other_spent is other_is shown =
    record { below = shown.below; once = shown.once; room = λ unspent. let some_room = is.room refl in omega arith }

-- the first seat gives one of its room to a seat behind the others
pub new_seats_more : (clock : ClockId) (count : ℕ) → 1 ≤ count
    → set (new_seats clock count) 0 (new_seat clock (seats_max + 1 - count - 1)) ++ new_seat clock 1 ∷ [] ≡ new_seats clock (count + 1)
new_seats_more clock count some =
    let room : seats_max + 1 - count - 1 ≡ seats_max + 1 - (count + 1) = omega arith in
    let others : (count - 1) + 1 ≡ count + 1 - 1 = omega arith in
    rw (← room, ← others) (ap (λ rest. new_seat clock (seats_max + 1 - count - 1) ∷ rest) (replicate-append-replicate (count - 1) 1 (new_seat clock 1)))
