-- The rule of stamps. A clock has one word, the next number. Each of its seats and notes has a view: the numbers that it
-- drew, what it has seen, and how many draws it may still make past the last number.
use Rattle.std.specs.Prelude.{◌≡◌, ◌+◌, ◌^◌, ◌<◌, ◌≤◌, ◌==◌, ℕ, List, All, count_by, sum_by, slice_get, Some}
use Rattle.stamp_clock.specs.declared.rule.View.{View}

-- numbers from here on are no stamps
abbrev pub numbers_end : ℕ
numbers_end = 2 ^ 62

-- how many seats a clock may have, each with one draw past the last number
abbrev pub seats_max : ℕ
seats_max = 1024

-- how often a number stands in a list
abbrev pub occurrences : ℕ → List ℕ → ℕ
occurrences number numbers = count_by (λ other. other == number) numbers

-- no number stands twice
abbrev pub HasNoneTwice : List ℕ → Type 0
HasNoneTwice numbers = (number : ℕ) → occurrences number numbers ≤ 1

-- how often a number was drawn, over all views
abbrev pub draws_of : ℕ → List View → ℕ
draws_of number views = sum_by (λ view. occurrences number view.mine) views

-- the room of all views
abbrev pub room_of : List View → ℕ
room_of views = sum_by (λ view. view.room) views

-- the view has seen nothing past the word, and has seen the numbers that it drew
pub record HasSeenUpTo (word : ℕ) (view : View) : Type 0 where
  pub seen : view.seen ≤ word
  pub mine : All (λ number. number < view.seen) view.mine

-- the rule: no number was drawn twice, in one view or in two, and the word never comes near its end
pub record AreStamps (word : ℕ) (views : List View) : Type 0 where
  pub each : All (HasSeenUpTo word) views
  pub once : (number : ℕ) → draws_of number views ≤ 1
  pub room : room_of views ≤ seats_max
  pub ends : word + room_of views ≤ numbers_end + seats_max

-- the rule holds, and the view stands at this place
pub record IsViewAt (word : ℕ) (views : List View) (place : ℕ) (view : View) : Type 0 where
  pub rule : AreStamps word views
  pub stands : slice_get views place ≡ Some view
