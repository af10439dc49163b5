-- Each kind of step keeps the rule of stamps, and shows what it tells.
use Rattle.std.proofs.Common.{arith, ◌≡◌, ◌+◌, ◌-◌, ◌^◌, ◌%◌, ◌<◌, ◌≤◌, ◌==◌, ℕ, max, Bool, true, false, cond, List, [], ◌∷◌, ◌++◌, All, set, sym, refl, subst, ◌∙◌, nat_lt}
use Rattle.std.proofs.lemmas.Bool.{eqb-true, ltb-true}
use Rattle.std.proofs.lemmas.List.Elements.{All-nil, All-cons, All-append, All-push}
use Rattle.std.proofs.lemmas.List.Sums.{sum_by_push}
use mathlib.Core.Option.{some}
use lib.ListN.{get_elem?}
use Rattle.atomic_table.proofs.Lists.{set_else, set_again}
use Rattle.stamp_clock.specs.declared.rule.View.{View}
use Rattle.stamp_clock.specs.Stamps.{numbers_end, occurrences, draws_of, HasSeenUpTo, AreStamps}
use Rattle.stamp_clock.specs.Steps.{view_after_draw, view_of_note, view_of_seat, view_without_seat, joined_view, empty_view, IsShown, IsDraw}
use Rattle.stamp_clock.proofs.TimesLemmas.{once_if, occurrences-cons, occurrences-append, below_more}
use Rattle.stamp_clock.proofs.ViewLemmas.{sum_by-set_view, view-le-sum_by, up_to_at, up_to-set, draws_of-word}

-- each view under the rule
pub shown_at : (word : ℕ) (views : List View) (at : ℕ) (view : View) → AreStamps word views → get_elem? views at ≡ some view → IsShown view
shown_at word views at view rule is = record {
  below = (up_to_at word views at view rule.each is).mine;
  once = λ number. omega (arith, view-le-sum_by (λ other. occurrences number other.mine) views at view is, rule.once number);
}

-- what a draw leaves: the rule at the next word, and what it shows
abbrev IsKept : ℕ → List View → ℕ → View → Type 0
IsKept word views at new = AreStamps (word + 1) (set views at new) × IsShown new

-- a view that drew this number as well
abbrev with_number : View → ℕ → View
with_number view number = record { mine = number ∷ view.mine; seen = number + 1; room = view.room }

-- where the next number is drawn, each number still stands once at the most
drawn_once : (word : ℕ) (views : List View) (at : ℕ) (view : View) → AreStamps word views → get_elem? views at ≡ some view
    → (number : ℕ) → (draws_of number (set views at (with_number view word)) ≤ 1) × (occurrences number (word ∷ view.mine) ≤ 1)
drawn_once word views at view rule is number =
    go (sum_by-set_view (λ other. occurrences number other.mine) views at view (with_number view word) is) (occurrences-cons number word view.mine)
    (view-le-sum_by (λ other. occurrences number other.mine) views at view is) (rule.once number) (word == number) refl
  where
    go : draws_of number (set views at (with_number view word)) + occurrences number view.mine ≡ draws_of number views + occurrences number (word ∷ view.mine)
        → occurrences number (word ∷ view.mine) ≡ once_if (word == number) + occurrences number view.mine
        → occurrences number view.mine ≤ draws_of number views → draws_of number views ≤ 1
        → (b : Bool) → (word == number) ≡ b
        → (draws_of number (set views at (with_number view word)) ≤ 1) × (occurrences number (word ∷ view.mine) ≤ 1)
    go change one part once true c =
        let same : word ≡ number = eqb-true word number c in
        let P : ℕ → Type 0 = λ other. draws_of other views ≡ 0 in
        let none : draws_of number views ≡ 0 = subst P same (draws_of-word word views rule.each) in
        let here : once_if (word == number) ≡ 1 = rw c refl in
        (omega (arith, change, one, part, none, here), omega (arith, one, part, none, here))
    go change one part once false c =
        let here : once_if (word == number) ≡ 0 = rw c refl in
        (omega (arith, change, one, part, once, here), omega (arith, one, part, once, here))

-- a number below the end is drawn
draws_number : (word : ℕ) (views : List View) (at : ℕ) (view : View) → AreStamps word views → get_elem? views at ≡ some view
    → word < numbers_end → IsKept word views at (with_number view word)
draws_number word views at view rule is low =
    let new : View = with_number view word in
    let up = up_to_at word views at view rule.each is in
    let room = sum_by-set_view (λ other. other.room) views at view new is in
    let below : All (λ number. number < word + 1) (word ∷ view.mine) =
    All-cons (λ number. number < word + 1) word view.mine (omega arith) (below_more view.seen (word + 1) view.mine (omega (arith, up.seen)) up.mine) in (
      record {
        each = up_to-set word (word + 1) views at new (omega arith) rule.each (record { seen = omega arith; mine = below });
        once = λ number. (drawn_once word views at view rule is number).0;
        room = omega (arith, room, rule.room);
        ends = omega (arith, room, rule.room, low);
      },
      record { below = below; once = λ number. (drawn_once word views at view rule is number).1 },
    )

-- past the last number a draw takes from the room
takes_room : (word : ℕ) (views : List View) (at : ℕ) (view : View) → AreStamps word views → get_elem? views at ≡ some view
    → 0 < view.room → IsKept word views at record { mine = view.mine; seen = word + 1; room = view.room - 1 }
takes_room word views at view rule is some_room =
    let new : View = record { mine = view.mine; seen = word + 1; room = view.room - 1 } in
    let up = up_to_at word views at view rule.each is in
    let room = sum_by-set_view (λ other. other.room) views at view new is in
    let below = below_more view.seen (word + 1) view.mine (omega (arith, up.seen)) up.mine in (
      record {
        each = up_to-set word (word + 1) views at new (omega arith) rule.each (record { seen = omega arith; mine = below });
        once = λ number. let same = sum_by-set_view (λ other. occurrences number other.mine) views at view new is in omega (arith, same, rule.once number);
        room = omega (arith, room, rule.room);
        ends = omega (arith, room, rule.ends, some_room);
      },
      record { below = below; once = (shown_at word views at view rule is).once },
    )

pub draw_keeps : (word : ℕ) (views : List View) (at : ℕ) (view : View) → AreStamps word views → get_elem? views at ≡ some view
    → 0 < view.room → AreStamps (word + 1) (set views at (view_after_draw view word)) × IsDraw view word (view_after_draw view word)
draw_keeps word views at view rule is some_room =
    let kept = go (nat_lt word numbers_end) refl in
    (kept.0, record { view = refl; seen = (up_to_at word views at view rule.each is).seen; shown = kept.1 })
  where
    go : (b : Bool) → nat_lt word numbers_end ≡ b
        → IsKept word views at (cond b (with_number view word) record { mine = view.mine; seen = word + 1; room = view.room - 1 })
    go true c = draws_number word views at view rule is (ltb-true word numbers_end c)
    go false c = takes_room word views at view rule is some_room

-- the word never wraps
pub word-no_wrap : (word : ℕ) (views : List View) → AreStamps word views → (word + 1) % 2 ^ 64 ≡ word + 1
word-no_wrap word views rule = grind (arith, rule.ends)

-- a view is split in two, which together have its numbers and no more room
splits : (word : ℕ) (views : List View) (at : ℕ) (view left right : View) → AreStamps word views → get_elem? views at ≡ some view
    → left.mine ≡ view.mine → left.seen ≡ view.seen → right.mine ≡ [] → right.seen ≡ view.seen → left.room + right.room ≤ view.room
    → AreStamps word (set views at left ++ right ∷ [])
splits word views at view left right rule is same_mine same_seen none as_much rooms =
    let up = up_to_at word views at view rule.each is in
    let set_room = sum_by-set_view (λ other. other.room) views at view left is in
    let more_room = sum_by_push (λ (other : View). other.room) (set views at left) right in
    let up_left : HasSeenUpTo word left = record { seen = omega (arith, same_seen, up.seen); mine = rw (same_mine, same_seen) up.mine } in
    let up_right : HasSeenUpTo word right = record { seen = omega (arith, as_much, up.seen); mine = rw none (All-nil (λ number. number < right.seen)) } in
    record {
      each = All-push (HasSeenUpTo word) (set views at left) right (up_to-set word word views at left (omega arith) rule.each up_left) up_right;
      once = λ number.
          let set_draws = sum_by-set_view (λ other. occurrences number other.mine) views at view left is in
          let more_draws = sum_by_push (λ (other : View). occurrences number other.mine) (set views at left) right in
          let same_draws : occurrences number left.mine ≡ occurrences number view.mine = rw same_mine refl in
          let no_draws : occurrences number right.mine ≡ 0 = rw none refl in
          omega (arith, set_draws, more_draws, same_draws, no_draws, rule.once number);
      room = omega (arith, set_room, more_room, rooms, rule.room);
      ends = omega (arith, set_room, more_room, rooms, rule.ends);
    }

pub note_keeps : (word : ℕ) (views : List View) (at : ℕ) (view : View) → AreStamps word views → get_elem? views at ≡ some view
    → AreStamps word (set views at view ++ view_of_note view ∷ [])
note_keeps word views at view rule is = splits word views at view view (view_of_note view) rule is refl refl refl refl (omega arith)

pub seat_keeps : (word : ℕ) (views : List View) (at : ℕ) (view : View) → AreStamps word views → get_elem? views at ≡ some view
    → 1 < view.room → AreStamps word (set views at (view_without_seat view) ++ view_of_seat view ∷ [])
seat_keeps word views at view rule is some_room =
    splits word views at view (view_without_seat view) (view_of_seat view) rule is refl refl refl refl (omega arith)

pub join_keeps : (word : ℕ) (views : List View) (at other_at : ℕ) (view other : View) → AreStamps word views → get_elem? views at ≡ some view
    → ¬ (other_at ≡ at) → get_elem? (set views at (joined_view view other)) other_at ≡ some other
    → AreStamps word (set (set views at (joined_view view other)) other_at empty_view)
join_keeps word views at other_at view other rule is apart other_is =
    let there : get_elem? views other_at ≡ some other = sym (set_else views at other_at (joined_view view other) apart) ∙ other_is in
    let up = up_to_at word views at view rule.each is in
    let other_up = up_to_at word views other_at other rule.each there in
    let both : HasSeenUpTo word (joined_view view other) = record {
      seen = omega (arith, up.seen, other_up.seen);
      mine = All-append (λ number. number < max view.seen other.seen) view.mine other.mine
          (below_more view.seen (max view.seen other.seen) view.mine (omega arith) up.mine)
          (below_more other.seen (max view.seen other.seen) other.mine (omega arith) other_up.mine);
    } in
    let empty : HasSeenUpTo word empty_view = record { seen = omega arith; mine = All-nil (λ number. number < 0) } in
    let joined_room = sum_by-set_view (λ v. v.room) views at view (joined_view view other) is in
    let left_room = sum_by-set_view (λ v. v.room) (set views at (joined_view view other)) other_at other empty_view other_is in
    record {
      each = up_to-set word word (set views at (joined_view view other)) other_at empty_view (omega arith)
          (up_to-set word word views at (joined_view view other) (omega arith) rule.each both) empty;
      once = λ number.
          let joined_draws = sum_by-set_view (λ v. occurrences number v.mine) views at view (joined_view view other) is in
          let left_draws = sum_by-set_view (λ v. occurrences number v.mine) (set views at (joined_view view other)) other_at other empty_view other_is in
          omega (arith, joined_draws, left_draws, occurrences-append number view.mine other.mine, rule.once number);
      room = omega (arith, joined_room, left_room, rule.room);
      ends = omega (arith, joined_room, left_room, rule.ends);
    }

pub look_keeps : (word : ℕ) (views : List View) (at : ℕ) (view : View) → AreStamps word views → get_elem? views at ≡ some view
    → AreStamps word (set views at view) × (view.seen ≤ word) × IsShown view
look_keeps word views at view rule is =
    let same : set views at view ≡ views = set_again views at view is in
    (rw same rule, (up_to_at word views at view rule.each is).seen, shown_at word views at view rule is)
