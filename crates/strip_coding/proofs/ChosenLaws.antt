-- The chosen places lie within the indexes, and the indexes there all differ.
use Rattle.std.proofs.Common.{◌≡◌, ◌≢◌, ℕ, zero, suc, ◌+◌, ◌^◌, ◌<◌, ◌≤◌, Bool, true, false, List, [], ◌∷◌, ◌++◌, length, get_or, map, take, drop, refl, sym, ap, ap₂, ◌∙◌, subst, arith, if◌then◌else◌, eq-eqb, add-zero, true≢false, suc-mul, ◌*◌, ◌/◌, ne_eqb, inl, inr, ⊎_elim, ◌⊎◌, eqb-true}
use Rattle.std.proofs.lemmas.Bool.{cases_lt, or_right}
use Rattle.std.specs.List.{Contains}
use Rattle.gf256.proofs.Interpolation.{IsAmong}
use Rattle.std.proofs.lemmas.List.{get_or_default}
use Rattle.std.proofs.Math.Nat.{zero-mul}
use Rattle.std.specs.Prelude.{◌==◌, ◌||◌, slice_index}
use Rattle.std.specs.List.{All}
use Rattle.std.proofs.lemmas.List.{get_or-drop, drop-drop, take-map, take_at, drop_at}
use Rattle.std.proofs.lemmas.List.Elements.{All-nil, All-cons, All-take}
use Rattle.object_id.specs.Fields.{AreBytes}
use Rattle.gf256.specs.Polynomial.{ArePoints}
use Rattle.gf256.proofs.Points.{Bytes, Avoids, Points, bytes_from, bytes_of_all, points_from, points_to}
use Rattle.gf256.specs.Strip.{strip}
use Rattle.gf256.proofs.StripLaws.{length-strip}
use Rattle.std.specs.List.{flat_map, range_with_len}
use Rattle.std.proofs.Math.Bool.{or-false}
use Rattle.proof_tools.proofs.Lists.{Contains-cons}
use Rattle.strip_coding.specs.Choice.{places_after, distinct_places, chosen_places, strip_at, HasStrips}
use Rattle.strip_coding.proofs.ChoiceLaws.{is_seen, seen_step, new_step}

-- the indexes that are not among those seen before them
new_indexes : List ℕ → List ℕ → List ℕ
new_indexes seen [] = []
new_indexes seen (i ∷ is) = if is_seen i seen then new_indexes seen is else i ∷ new_indexes (seen ++ i ∷ []) is

new-seen : (seen is : List ℕ) (i : ℕ) → is_seen i seen ≡ true → new_indexes seen (i ∷ is) ≡ new_indexes seen is
unfolding new_indexes
new-seen seen is i e = ap (λ b. if b then new_indexes seen is else i ∷ new_indexes (seen ++ i ∷ []) is) e

new-new : (seen is : List ℕ) (i : ℕ) → is_seen i seen ≡ false
    → new_indexes seen (i ∷ is) ≡ i ∷ new_indexes (seen ++ i ∷ []) is
unfolding new_indexes
new-new seen is i e = ap (λ b. if b then new_indexes seen is else i ∷ new_indexes (seen ++ i ∷ []) is) e

-- the indexes at the places

first_left : (whole rest : List ℕ) (place i : ℕ) → drop place whole ≡ i ∷ rest → get_or whole place 0 ≡ i
first_left whole rest place i e =
    ap (λ k. get_or whole k 0) (sym (add-zero place)) ∙ sym (get_or-drop place whole 0 0) ∙ ap (λ xs. get_or xs 0 0) e

rest_left : (whole rest : List ℕ) (place i : ℕ) → drop place whole ≡ i ∷ rest → drop (place + 1) whole ≡ rest
rest_left whole rest place i e = sym (drop-drop 1 place whole) ∙ ap (drop 1) e

indexes_at_end : (whole seen : List ℕ) (place : ℕ)
    → map (slice_index whole) (places_after seen place []) ≡ new_indexes seen []
unfolding places_after new_indexes
indexes_at_end whole seen place = refl

indexes_at_next : (whole seen rest : List ℕ) (place i : ℕ) → drop place whole ≡ i ∷ rest
    → ((before : List ℕ) → map (slice_index whole) (places_after before (place + 1) rest) ≡ new_indexes before rest)
    → (b : Bool) → is_seen i seen ≡ b
    → map (slice_index whole) (places_after seen place (i ∷ rest)) ≡ new_indexes seen (i ∷ rest)
indexes_at_next whole seen rest place i e later true h =
    ap (map (slice_index whole)) (seen_step seen rest place i h) ∙ later seen ∙ sym (new-seen seen rest i h)
indexes_at_next whole seen rest place i e later false h =
    ap (map (slice_index whole)) (new_step seen rest place i h)
    ∙ ap₂ ◌∷◌ (first_left whole rest place i e) (later (seen ++ i ∷ []))
    ∙ sym (new-new seen rest i h)

indexes_at : (whole seen rest : List ℕ) (place : ℕ) → drop place whole ≡ rest
    → map (slice_index whole) (places_after seen place rest) ≡ new_indexes seen rest
indexes_at whole seen [] place e = indexes_at_end whole seen place
indexes_at whole seen (i ∷ rest) place e =
    indexes_at_next whole seen rest place i e
    (λ before. indexes_at whole before rest (place + 1) (rest_left whole rest place i e)) (is_seen i seen) refl

-- the places lie below the end of the indexes

no_places : (seen : List ℕ) (place : ℕ) → places_after seen place [] ≡ []
unfolding places_after
no_places seen place = refl

places_below_next : (seen rest : List ℕ) (place end i : ℕ) → place < end
    → ((before : List ℕ) → All (λ p. p < end) (places_after before (place + 1) rest))
    → (b : Bool) → is_seen i seen ≡ b
    → All (λ p. p < end) (places_after seen place (i ∷ rest))
places_below_next seen rest place end i h later true e =
    subst (All (λ p. p < end)) (sym (seen_step seen rest place i e)) (later seen)
places_below_next seen rest place end i h later false e =
    subst (All (λ p. p < end)) (sym (new_step seen rest place i e))
    (All-cons (λ p. p < end) place (places_after (seen ++ i ∷ []) (place + 1) rest) h (later (seen ++ i ∷ [])))

places_below : (seen rest : List ℕ) (place end : ℕ) → place + length rest ≤ end
    → All (λ p. p < end) (places_after seen place rest)
places_below seen [] place end h =
    subst (All (λ p. p < end)) (sym (no_places seen place)) (All-nil (λ p. p < end))
places_below seen (i ∷ rest) place end h =
    places_below_next seen rest place end i (omega arith)
    (λ before. places_below before rest (place + 1) end (omega arith)) (is_seen i seen) refl

-- the new indexes differ from those seen and from each other

either_more : (b c d : Bool) → (c ≡ true → d ≡ true) → (b || c) ≡ true → (b || d) ≡ true
either_more true c d f h = refl
either_more false c d f h = f h

seen_more : (i j : ℕ) (seen : List ℕ) → is_seen i seen ≡ true → is_seen i (seen ++ j ∷ []) ≡ true
seen_more i j [] h = cc
seen_more i j (s ∷ seen) h =
    either_more (s == i) (is_seen i seen) (is_seen i (seen ++ j ∷ [])) (λ e. seen_more i j seen e) h

seen_last : (i : ℕ) (seen : List ℕ) → is_seen i (seen ++ i ∷ []) ≡ true
seen_last i [] = ap (λ b. b || false) (eq-eqb i i refl)
seen_last i (s ∷ seen) = or_right (s == i) (is_seen i (seen ++ i ∷ [])) (seen_last i seen)

no_new : (seen : List ℕ) → new_indexes seen [] ≡ []
unfolding new_indexes
no_new seen = refl

new_avoid_next : (p : ℕ) (seen rest : List ℕ) (i : ℕ) → is_seen p seen ≡ true
    → ((before : List ℕ) → is_seen p before ≡ true → Avoids p (new_indexes before rest))
    → (b : Bool) → is_seen i seen ≡ b → Avoids p (new_indexes seen (i ∷ rest))
new_avoid_next p seen rest i h later true e =
    subst (Avoids p) (sym (new-seen seen rest i e)) (later seen h)
new_avoid_next p seen rest i h later false e =
    let n : i ≢ p = λ same. true≢false (sym h ∙ ap (λ q. is_seen q seen) (sym same) ∙ e) in
    subst (Avoids p) (sym (new-new seen rest i e)) (n, later (seen ++ i ∷ []) (seen_more p i seen h))

new_avoid : (p : ℕ) (seen rest : List ℕ) → is_seen p seen ≡ true → Avoids p (new_indexes seen rest)
new_avoid p seen [] h = subst (Avoids p) (sym (no_new seen)) tt
new_avoid p seen (i ∷ rest) h =
    new_avoid_next p seen rest i h (λ before e. new_avoid p before rest e) (is_seen i seen) refl

new_points_next : (seen rest : List ℕ) (i : ℕ) → i < 2 ^ 8
    → ((before : List ℕ) → Points (new_indexes before rest))
    → (b : Bool) → is_seen i seen ≡ b → Points (new_indexes seen (i ∷ rest))
new_points_next seen rest i h later true e = subst Points (sym (new-seen seen rest i e)) (later seen)
new_points_next seen rest i h later false e =
    subst Points (sym (new-new seen rest i e))
    (h, new_avoid i (seen ++ i ∷ []) rest (seen_last i seen), later (seen ++ i ∷ []))

new_points : (seen rest : List ℕ) → Bytes rest → Points (new_indexes seen rest)
new_points seen [] h = subst Points (sym (no_new seen)) tt
new_points seen (i ∷ rest) h =
    new_points_next seen rest i h.0 (λ before. new_points before rest h.1) (is_seen i seen) refl

avoids_take : (d p : ℕ) (ps : List ℕ) → Avoids p ps → Avoids p (take d ps)
avoids_take zero p ps h = tt
avoids_take (suc d) p [] h = tt
avoids_take (suc d) p (q ∷ qs) h = (h.0, avoids_take d p qs h.1)

points_take : (d : ℕ) (ps : List ℕ) → Points ps → Points (take d ps)
points_take zero ps h = tt
points_take (suc d) [] h = tt
points_take (suc d) (p ∷ ps) h = (h.0, avoids_take d p ps h.1, points_take d ps h.2)

-- the chosen indexes are points
pub chosen_points : (d : ℕ) (indexes : List ℕ) → All (λ index. index < 31) indexes
    → ArePoints (map (slice_index indexes) (chosen_places d indexes))
chosen_points d indexes h =
    let bytes : AreBytes indexes = bytes_of_all indexes (λ k x l. (let b : get_or indexes k x < 31 = h k x l in omega arith)) in
    points_to (map (slice_index indexes) (chosen_places d indexes))
    (subst Points
    (sym (sym (take-map (slice_index indexes) d (distinct_places indexes)) ∙ ap (take d) (indexes_at indexes [] indexes 0 refl)))
    (points_take d (new_indexes [] indexes) (new_points [] indexes (bytes_from indexes bytes))))

-- the chosen places are places of the indexes
pub chosen_within : (d : ℕ) (indexes : List ℕ) → All (λ place. place < length indexes) (chosen_places d indexes)
chosen_within d indexes =
    All-take (λ place. place < length indexes) d (distinct_places indexes)
    (places_below [] indexes 0 (length indexes) (omega arith))

-- indexes that all differ are all chosen

-- none of them is seen
Fresh : List ℕ → List ℕ → Type 0
Fresh seen [] = Unit {0}
Fresh seen (i ∷ is) = (is_seen i seen ≡ false) × Fresh seen is

neither : (b c d : Bool) → (c ≡ false → d ≡ false) → (b || c) ≡ false → (b || d) ≡ false
neither true c d f h = cc
neither false c d f h = f h

not_seen_more : (i j : ℕ) (seen : List ℕ) → j ≢ i → is_seen i seen ≡ false → is_seen i (seen ++ j ∷ []) ≡ false
not_seen_more i j [] n h = ap (λ b. b || false) (ne_eqb j i n)
not_seen_more i j (s ∷ seen) n h =
    neither (s == i) (is_seen i seen) (is_seen i (seen ++ j ∷ [])) (λ e. not_seen_more i j seen n e) h

fresh_more : (i : ℕ) (seen rest : List ℕ) → Avoids i rest → Fresh seen rest → Fresh (seen ++ i ∷ []) rest
unfolding Fresh
fresh_more i seen [] a h = tt
fresh_more i seen (q ∷ rest) a h = (not_seen_more q i seen (λ e. a.0 (sym e)) h.0, fresh_more i seen rest a.1 h.1)

fresh_none : (rest : List ℕ) → Fresh [] rest
unfolding Fresh
fresh_none [] = tt
fresh_none (i ∷ rest) = (refl, fresh_none rest)

places_fresh : (seen rest : List ℕ) (place : ℕ) → Points rest → Fresh seen rest
    → places_after seen place rest ≡ range_with_len place (length rest)
unfolding Fresh
places_fresh seen [] place points h = no_places seen place
places_fresh seen (i ∷ rest) place points h =
    new_step seen rest place i h.0
    ∙ ap (◌∷◌ place)
    (places_fresh (seen ++ i ∷ []) rest (place + 1) points.2 (fresh_more i seen rest points.1 h.1))

pub all_places_differ : (indexes : List ℕ) → ArePoints indexes
    → distinct_places indexes ≡ range_with_len 0 (length indexes)
all_places_differ indexes distinct = places_fresh [] indexes 0 (points_from indexes distinct) (fresh_none indexes)

-- a block has its own strips

own_strip : (d : ℕ) (block indexes : List ℕ) (place : ℕ) → place < length indexes
    → strip_at d (flat_map (strip d block) indexes) place ≡ strip d block (get_or indexes place 0)
own_strip d block [] place h = absurd (omega arith)
own_strip d block (i ∷ indexes) zero h =
    ap (λ n. take (512 / d) (drop n (strip d block i ++ flat_map (strip d block) indexes))) (zero-mul (512 / d))
    ∙ take_at (strip d block i) (flat_map (strip d block) indexes) (512 / d) (length-strip d block i)
own_strip d block (i ∷ indexes) (suc place) h =
    let w : ℕ = 512 / d in
    let rest : List ℕ = flat_map (strip d block) indexes in
    let from : suc place * w ≡ w + place * w = omega (arith, suc-mul place w) in
    ap (take w)
    (ap (λ n. drop n (strip d block i ++ rest)) from
    ∙ sym (drop-drop (place * w) w (strip d block i ++ rest))
    ∙ ap (drop (place * w)) (drop_at (strip d block i) rest w (length-strip d block i)))
    ∙ own_strip d block indexes place (omega arith)

pub own_strips : (d : ℕ) (indexes block : List ℕ) → HasStrips d indexes (flat_map (strip d block) indexes) block
own_strips d indexes block =
    λ k x l.
    sym (own_strip d block indexes (get_or (chosen_places d indexes) k x) (chosen_within d indexes k x l))

-- the chosen places are those at which an index stands first

-- every index before a place is among those seen
SeenBefore : List ℕ → ℕ → List ℕ → Type 0
SeenBefore whole place seen = (k : ℕ) → k < place → is_seen (get_or whole k 0) seen ≡ true

-- no earlier place has the same index
abbrev pub StandsFirst : List ℕ → ℕ → Type 0
StandsFirst whole place = (k : ℕ) → k < place → slice_index whole k ≢ slice_index whole place

seen_one_more : (whole seen : List ℕ) (place : ℕ) → SeenBefore whole place seen
    → is_seen (get_or whole place 0) seen ≡ true → SeenBefore whole (place + 1) seen
unfolding SeenBefore
seen_one_more whole seen place h e =
    λ k l.
    elim (cases_lt k place) [
      | inl before ↦ h k before
      | inr after ↦ (let here : place ≡ k = omega arith in subst (λ j. is_seen (get_or whole j 0) seen ≡ true) here e)
    ]

seen_and_new : (whole seen : List ℕ) (place i : ℕ) → SeenBefore whole place seen → SeenBefore whole place (seen ++ i ∷ [])
unfolding SeenBefore
seen_and_new whole seen place i h = λ k l. seen_more (get_or whole k 0) i seen (h k l)

stands_first : (whole seen : List ℕ) (place i : ℕ) → SeenBefore whole place seen → get_or whole place 0 ≡ i
    → is_seen i seen ≡ false → StandsFirst whole place
unfolding SeenBefore
stands_first whole seen place i h here e =
    λ k l same. true≢false (sym (h k l) ∙ ap (λ j. is_seen j seen) (same ∙ here) ∙ e)

places_first_next : (whole seen rest : List ℕ) (place i : ℕ) → get_or whole place 0 ≡ i → SeenBefore whole place seen
    → ((before : List ℕ) → SeenBefore whole (place + 1) before → All (StandsFirst whole) (places_after before (place + 1) rest))
    → (b : Bool) → is_seen i seen ≡ b → All (StandsFirst whole) (places_after seen place (i ∷ rest))
places_first_next whole seen rest place i here h later true e =
    subst (All (StandsFirst whole)) (sym (seen_step seen rest place i e))
    (later seen (seen_one_more whole seen place h (ap (λ j. is_seen j seen) here ∙ e)))
places_first_next whole seen rest place i here h later false e =
    subst (All (StandsFirst whole)) (sym (new_step seen rest place i e))
    (All-cons (StandsFirst whole) place (places_after (seen ++ i ∷ []) (place + 1) rest)
    (stands_first whole seen place i h here e)
    (later (seen ++ i ∷ [])
    (seen_one_more whole (seen ++ i ∷ []) place (seen_and_new whole seen place i h)
    (ap (λ j. is_seen j (seen ++ i ∷ [])) here ∙ seen_last i seen))))

places_first : (whole seen rest : List ℕ) (place : ℕ) → drop place whole ≡ rest → SeenBefore whole place seen
    → All (StandsFirst whole) (places_after seen place rest)
places_first whole seen [] place e h =
    subst (All (StandsFirst whole)) (sym (no_places seen place)) (All-nil (StandsFirst whole))
places_first whole seen (i ∷ rest) place e h =
    places_first_next whole seen rest place i (first_left whole rest place i e) h
    (λ before. places_first whole before rest (place + 1) (rest_left whole rest place i e)) (is_seen i seen) refl

none_before : (whole : List ℕ) → SeenBefore whole 0 []
unfolding SeenBefore
none_before whole = λ k l. absurd (omega arith)

pub distinct_first : (indexes : List ℕ) → All (StandsFirst indexes) (distinct_places indexes)
distinct_first indexes = places_first indexes [] indexes 0 refl (none_before indexes)

-- every index stands at one of them

either : (b c d : Bool) (P : Type 0) → (d ≡ true → (c ≡ true) ⊎ P) → (b || d) ≡ true → ((b || c) ≡ true) ⊎ P
either true c d P f h = inl refl
either false c d P f h = f h

last_or_seen : (i j : ℕ) (seen : List ℕ) → is_seen i (seen ++ j ∷ []) ≡ true → (is_seen i seen ≡ true) ⊎ (j ≡ i)
last_or_seen i j [] h = inr (eqb-true j i (sym (or-false (j == i)) ∙ h))
last_or_seen i j (s ∷ seen) h = either (s == i) (is_seen i seen) (is_seen i (seen ++ j ∷ [])) (j ≡ i) (λ e. last_or_seen i j seen e) h

new_has_next : (seen rest : List ℕ) (i x : ℕ)
    → ((before : List ℕ) → (is_seen x before ≡ true) ⊎ IsAmong x (new_indexes before rest))
    → (b : Bool) → is_seen i seen ≡ b → (is_seen x seen ≡ true) ⊎ IsAmong x (new_indexes seen (i ∷ rest))
new_has_next seen rest i x later true e = subst (λ news. (is_seen x seen ≡ true) ⊎ IsAmong x news) (sym (new-seen seen rest i e)) (later seen)
new_has_next seen rest i x later false e =
    subst (λ news. (is_seen x seen ≡ true) ⊎ IsAmong x news) (sym (new-new seen rest i e))
    (⊎_elim
    (λ h. ⊎_elim (λ s. inl s) (λ same. inr (inl same)) (last_or_seen x i seen h))
    (λ a. inr (inr a))
    (later (seen ++ i ∷ [])))

new_has_first : (seen rest : List ℕ) (i : ℕ) → (b : Bool) → is_seen i seen ≡ b
    → (is_seen i seen ≡ true) ⊎ IsAmong i (new_indexes seen (i ∷ rest))
new_has_first seen rest i true e = inl e
new_has_first seen rest i false e = inr (subst (IsAmong i) (sym (new-new seen rest i e)) (inl refl))

new_has : (seen rest : List ℕ) (k : ℕ) → k < length rest
    → (is_seen (get_or rest k 0) seen ≡ true) ⊎ IsAmong (get_or rest k 0) (new_indexes seen rest)
new_has seen [] k l = absurd (omega arith)
new_has seen (i ∷ rest) zero l = new_has_first seen rest i (is_seen i seen) refl
new_has seen (i ∷ rest) (suc k) l =
    new_has_next seen rest i (get_or rest k 0) (λ before. new_has before rest k (omega arith)) (is_seen i seen) refl

among_contains : (x : ℕ) (ys : List ℕ) → IsAmong x ys → Contains ys x
among_contains x [] h = absurd h
among_contains x (y ∷ ys) h =
    ⊎_elim (λ e. (0, omega arith, e)) (λ a. Contains-cons y ys x (among_contains x ys a)) h

pub distinct_complete : (indexes : List ℕ)
    → All (Contains (map (slice_index indexes) (distinct_places indexes))) indexes
distinct_complete indexes =
    λ k d l.
    (let there : get_or indexes k 0 ≡ get_or indexes k d = get_or_default indexes k 0 d l in
    subst (Contains (map (slice_index indexes) (distinct_places indexes))) there
    (subst (λ xs. Contains xs (get_or indexes k 0)) (sym (indexes_at indexes [] indexes 0 refl))
    (among_contains (get_or indexes k 0) (new_indexes [] indexes)
    (⊎_elim (λ e. absurd (true≢false (sym e))) (λ a. a) (new_has [] indexes k l)))))
