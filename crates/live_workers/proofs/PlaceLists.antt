-- The places of workers, by their numbers from 0, and the seats of which one draws the first stamp.
use Rattle.std.proofs.Common.{◌≡◌, ◌<◌, ℕ, zero, suc, ◌+◌, List, [], ◌∷◌, ◌++◌, length, map, All, Some, arith, refl, sym, ap, subst, ◌∙◌}
use Rattle.std.specs.Prelude.{slice_index_or, slice_set}
use Rattle.std.specs.List.{range_with_len}
use Rattle.std.proofs.lemmas.List.{map-append}
use Rattle.std.proofs.lemmas.List.Elements.{All-set}
use Rattle.std.proofs.lemmas.Option.{slice_get-get_or}
use Rattle.stamp_clock.specs.Clock.{ClockId}
use Rattle.stamp_clock.specs.Seat.{SeatState}
use Rattle.live_workers.specs.PlaceSeats.{HasDrawnOne, HasDrawnOneAt}

range_more : (first count : ℕ) → range_with_len first (count + 1) ≡ range_with_len first count ++ (first + count) ∷ []
range_more first zero = let same : first ≡ first + 0 = omega arith in ap (λ (n : ℕ). n ∷ []) same
range_more first (suc count) =
    let next : suc count + 1 ≡ suc (count + 1) = omega arith in
    let last : first + 1 + count ≡ first + suc count = omega arith in
    ap (range_with_len first) next
    ∙ ap (λ (rest : List ℕ). first ∷ rest) (range_more (first + 1) count
    ∙ ap (λ (n : ℕ). range_with_len (first + 1) count ++ n ∷ []) last)

module _ {X : Type 0} (number : X → ℕ) (places : List X) (place : X) (count : ℕ) where
  pub numbers_more : map number places ≡ range_with_len 0 count → number place ≡ count
      → map number (places ++ place ∷ []) ≡ range_with_len 0 (count + 1)
  numbers_more before is =
      let same : number place ≡ 0 + count = omega (arith, is) in
      map-append number places (place ∷ [])
      ∙ ap (λ (numbers : List ℕ). numbers ++ number place ∷ []) before
      ∙ ap (λ (n : ℕ). range_with_len 0 count ++ n ∷ []) same
      ∙ sym (range_more 0 count)

pub length_more : {X : Type 0} (places : List X) (place : X) → length (places ++ place ∷ []) ≡ length places + 1
length_more [] place = refl
length_more (first ∷ later) place = let rest = length_more later place in omega (arith, rest)

pub list_more : {X Y : Type 0} (f : X → Y) (places : List X) (place : X) (seats : List Y) (seat : Y) → map f places ≡ seats → f place ≡ seat
    → map f (places ++ place ∷ []) ≡ seats ++ seat ∷ []
list_more f places place seats seat before is =
    map-append f places (place ∷ []) ∙ ap (λ (list : List _). list ++ f place ∷ []) before ∙ ap (λ one. seats ++ one ∷ []) is

-- one of some seats draws
pub drawn_at : (place : ℕ) (seats : List SeatState) (before after : SeatState) → place < length seats
    → before ≡ slice_index_or seats place before → HasDrawnOne before after → HasDrawnOneAt place seats (slice_set seats place after)
drawn_at place seats before after within there drew = record {
  before = before;
  after = after;
  at = slice_get-get_or seats place before within ∙ ap Some (sym there);
  drawn = drew;
  seats = refl;
}

pub drawn_at_kept : (place : ℕ) (old new same : List SeatState) → HasDrawnOneAt place old new → same ≡ new → HasDrawnOneAt place old same
drawn_at_kept place old new same drew is = subst (HasDrawnOneAt place old) (sym is) drew

pub clocks_stay : (clock : ClockId) (place : ℕ) (seats : List SeatState) (after : SeatState) → after.clock ≡ clock
    → All (λ seat. seat.clock ≡ clock) seats → All (λ seat. seat.clock ≡ clock) (slice_set seats place after)
clocks_stay clock place seats after is all = All-set (λ (seat : SeatState). seat.clock ≡ clock) seats place after is all
