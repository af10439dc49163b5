-- The choice of the first distinct indexes, one index after another.
use Rattle.std.proofs.Common.{◌≡◌, ℕ, ◌+◌, ◌<◌, ◌≤◌, Bool, true, false, List, [], ◌∷◌, ◌++◌, length, get_or, set, map, take, drop, sym, ap, ap₂, ◌∙◌, subst, arith, append_assoc, append-nil, length-append, if◌then◌else◌}
use Rattle.std.specs.Prelude.{◌==◌, slice_index}
use Rattle.std.specs.List.{list_any}
use Rattle.std.proofs.lemmas.List.{drop_more, take_more_set, take_at, length-take-le, map_push, drop_all, length-set}
use Rattle.strip_coding.specs.Choice.{places_after, distinct_places, chosen_places}

-- whether an index is among those seen
abbrev pub is_seen : ℕ → List ℕ → Bool
is_seen index seen = list_any (λ i. i == index) seen

pub seen_step : (seen indexes : List ℕ) (place index : ℕ) → is_seen index seen ≡ true
    → places_after seen place (index ∷ indexes) ≡ places_after seen (place + 1) indexes
unfolding places_after
seen_step seen indexes place index e =
    ap
    (λ b.
    if b then places_after seen (place + 1) indexes
    else place ∷ places_after (seen ++ index ∷ []) (place + 1) indexes)
    e

pub new_step : (seen indexes : List ℕ) (place index : ℕ) → is_seen index seen ≡ false
    → places_after seen place (index ∷ indexes) ≡ place ∷ places_after (seen ++ index ∷ []) (place + 1) indexes
unfolding places_after
new_step seen indexes place index e =
    ap
    (λ b.
    if b then places_after seen (place + 1) indexes
    else place ∷ places_after (seen ++ index ∷ []) (place + 1) indexes)
    e

-- the places so far, and those that the rest of the indexes adds
abbrev pub all_places : ℕ → List ℕ → List ℕ → ℕ → List ℕ → List ℕ
all_places count points places place indexes =
    take count places ++ places_after (take count points) place (drop place indexes)

pub past_seen : (count : ℕ) (points places : List ℕ) (place : ℕ) (indexes : List ℕ) → place < length indexes
    → is_seen (get_or indexes place 0) (take count points) ≡ true
    → all_places count points places (place + 1) indexes ≡ all_places count points places place indexes
past_seen count points places place indexes l e =
    ap (◌++◌ (take count places))
    (sym
    (ap (places_after (take count points) place) (drop_more indexes place 0 l)
    ∙ seen_step (take count points) (drop (place + 1) indexes) place (get_or indexes place 0) e))

pub past_new : (count : ℕ) (points places : List ℕ) (place : ℕ) (indexes : List ℕ) → place < length indexes
    → count < length points → count < length places
    → is_seen (get_or indexes place 0) (take count points) ≡ false
    → all_places (count + 1) (set points count (get_or indexes place 0)) (set places count place) (place + 1) indexes
    ≡ all_places count points places place indexes
past_new count points places place indexes l p q e =
    let index : ℕ = get_or indexes place 0 in
    let rest : List ℕ = drop (place + 1) indexes in
    ap₂ (λ front seen. front ++ places_after seen (place + 1) rest)
    (take_more_set places count place q)
    (take_more_set points count index p)
    ∙ append_assoc (take count places) (place ∷ []) (places_after (take count points ++ index ∷ []) (place + 1) rest)
    ∙ ap (◌++◌ (take count places))
    (sym
    (ap (places_after (take count points) place) (drop_more indexes place 0 l)
    ∙ new_step (take count points) rest place index e))

-- the points are the indexes at the places
pub points_new : (count : ℕ) (points places : List ℕ) (place : ℕ) (indexes : List ℕ)
    → count < length points → count < length places
    → take count points ≡ map (slice_index indexes) (take count places)
    → take (count + 1) (set points count (get_or indexes place 0))
    ≡ map (slice_index indexes) (take (count + 1) (set places count place))
points_new count points places place indexes p q e =
    take_more_set points count (get_or indexes place 0) p
    ∙ ap (λ front. front ++ get_or indexes place 0 ∷ []) e
    ∙ sym
    (ap (map (slice_index indexes)) (take_more_set places count place q)
    ∙ map_push (slice_index indexes) (take count places) place)

-- with d places they are those chosen
pub chosen_at : (d : ℕ) (points places : List ℕ) (place : ℕ) (indexes : List ℕ) → d ≤ length places
    → all_places d points places place indexes ≡ distinct_places indexes
    → take d places ≡ chosen_places d indexes
chosen_at d points places place indexes l e =
    sym (take_at (take d places) (places_after (take d points) place (drop place indexes)) d (length-take-le d places l))
    ∙ ap (take d) e

pub enough_at : (d : ℕ) (points places : List ℕ) (place : ℕ) (indexes : List ℕ) → d ≤ length places
    → all_places d points places place indexes ≡ distinct_places indexes
    → d ≤ length (distinct_places indexes)
enough_at d points places place indexes l e =
    let long : length (take d places) ≡ d = length-take-le d places l in
    subst (λ xs. d ≤ length xs) e
    (omega (arith, length-append (take d places) (places_after (take d points) place (drop place indexes))))

-- after the last index the places so far are all
pub few_at_end : (count : ℕ) (points places : List ℕ) (place : ℕ) (indexes : List ℕ) → count ≤ length places
    → length indexes ≤ place
    → all_places count points places place indexes ≡ distinct_places indexes
    → length (distinct_places indexes) ≡ count
unfolding places_after
few_at_end count points places place indexes l end e =
    let long : length (take count places) ≡ count = length-take-le count places l in
    ap length
    (sym e ∙ ap (λ xs. take count places ++ places_after (take count points) place xs) (drop_all place indexes end)
    ∙ append-nil (take count places))
    ∙ long

-- the choice after some of the indexes, while there are fewer than d
pub record IsSoFar (d count : ℕ) (points places : List ℕ) (place : ℕ) (indexes : List ℕ) : Type 0 where
  pub fewer : count < d
  pub of_points : length points ≡ 16
  pub of_places : length places ≡ 16
  pub chosen : all_places count points places place indexes ≡ distinct_places indexes
  pub pointed : take count points ≡ map (slice_index indexes) (take count places)

pub one_seen : (d count : ℕ) (points places : List ℕ) (place : ℕ) (indexes : List ℕ) → d ≤ 16
    → place < length indexes → IsSoFar d count points places place indexes
    → is_seen (get_or indexes place 0) (take count points) ≡ true
    → IsSoFar d count points places (place + 1) indexes
one_seen d count points places place indexes most l so_far e =
    record {
      fewer = so_far.fewer;
      of_points = so_far.of_points;
      of_places = so_far.of_places;
      chosen = past_seen count points places place indexes l e ∙ so_far.chosen;
      pointed = so_far.pointed;
    }

-- one more place
pub record IsOneMore (count : ℕ) (points places : List ℕ) (place : ℕ) (indexes : List ℕ) : Type 0 where
  pub of_points : length points ≡ 16
  pub of_places : length places ≡ 16
  pub chosen : all_places count points places place indexes ≡ distinct_places indexes
  pub pointed : take count points ≡ map (slice_index indexes) (take count places)

pub one_new : (d count : ℕ) (points places : List ℕ) (place : ℕ) (indexes : List ℕ) → d ≤ 16
    → place < length indexes → IsSoFar d count points places place indexes
    → is_seen (get_or indexes place 0) (take count points) ≡ false
    → IsOneMore (count + 1) (set points count (get_or indexes place 0)) (set places count place) (place + 1) indexes
one_new d count points places place indexes most l so_far e =
    let few = so_far.fewer in
    let long_points = so_far.of_points in
    let long_places = so_far.of_places in
    let p : count < length points = omega arith in
    let q : count < length places = omega arith in
    record {
      of_points = length-set points count (get_or indexes place 0) ∙ so_far.of_points;
      of_places = length-set places count place ∙ so_far.of_places;
      chosen = past_new count points places place indexes l p q e ∙ so_far.chosen;
      pointed = points_new count points places place indexes p q so_far.pointed;
    }
