-- The four kinds of step, and what each makes of the views and tells.
use Rattle.std.specs.Prelude.{◌≡◌, ◌+◌, ◌-◌, ◌<◌, ◌≤◌, ℕ, max, nat_lt, [], ◌∷◌, ◌++◌, All, if◌then◌else◌}
use Rattle.stamp_clock.specs.declared.rule.View.{View}
use Rattle.stamp_clock.specs.Stamps.{numbers_end, seats_max, HasNoneTwice}

-- with this view a clock begins
abbrev pub first_view : View
first_view = record { mine = []; seen = 0; room = seats_max }

-- fetch_add: the number found is drawn; past the last number it takes from the room instead
abbrev pub view_after_draw : View → ℕ → View
view_after_draw view found =
    if nat_lt found numbers_end
    then record { mine = found ∷ view.mine; seen = found + 1; room = view.room }
    else record { mine = view.mine; seen = found + 1; room = view.room - 1 }

-- split: a note has seen as much, and has no room
abbrev pub view_of_note : View → View
view_of_note view = record { mine = []; seen = view.seen; room = 0 }

-- split: a further seat has seen as much, and gets one of the room
abbrev pub view_of_seat : View → View
view_of_seat view = record { mine = []; seen = view.seen; room = 1 }

-- what is left where a seat was split off
abbrev pub view_without_seat : View → View
view_without_seat view = record view { room = view.room - 1 }

-- join: what either knows
abbrev pub joined_view : View → View → View
joined_view view other =
    record { mine = view.mine ++ other.mine; seen = max view.seen other.seen; room = view.room + other.room }

-- join: nothing is left to the other
abbrev pub empty_view : View
empty_view = record { mine = []; seen = 0; room = 0 }

-- a step shows that the numbers of a view were seen, and that none was drawn twice
pub record IsShown (view : View) : Type 0 where
  pub below : All (λ number. number < view.seen) view.mine
  pub once : HasNoneTwice view.mine

-- what a draw tells
pub record IsDraw (before : View) (found : ℕ) (after : View) : Type 0 where
  pub view : after ≡ view_after_draw before found
  pub seen : before.seen ≤ found
  pub shown : IsShown after

-- what a load tells
pub record IsLook (before : View) (word : ℕ) (after : View) : Type 0 where
  pub view : after ≡ before
  pub seen : before.seen ≤ word
  pub shown : IsShown before
