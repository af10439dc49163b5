-- Ascending ids, with one more.
use Rattle.std.proofs.Common.{◌≡◌, ◌≢◌, ◌⊎◌, inl, inr, ℕ, zero, suc, ◌<◌, ◌≤◌, ◌-◌, ◌==◌, not, Bool, true, false, cond, List, [], ◌∷◌, ◌++◌, length, get_or, take, drop, filter, fold, refl, ap, sym, ◌∙◌, subst, arith}
use Rattle.std.specs.List.{list_any}
use Rattle.std.specs.List.Sorted.{IsNonDecreasing}
use Rattle.std.proofs.lemmas.Bool.{le-ltb, lt-ltb, cases_lt, eqb-true, eqb-false, eq-eqb, ne_eqb, or_left, or_right, or_from}
use Rattle.vdi_directory.specs.declared.effect.Effect.{Effect}
use Rattle.vdi_directory.specs.declared.effect.Effect.TheVariants.{Published, Snapped, Deleted}
use Rattle.vdi_directory.specs.Effects.{ids_with, live_after, live_of}

pub ids_with-at : (vid place : ℕ) (live : List ℕ) → place ≤ length live
    → ((k d : ℕ) → k < place → get_or live k d ≤ vid) → ((k d : ℕ) → place ≤ k → k < length live → vid < get_or live k d)
    → ids_with vid live ≡ take place live ++ vid ∷ drop place live
ids_with-at vid zero [] within before behind = refl
ids_with-at vid (suc place) [] within before behind = absurd (omega arith)
ids_with-at vid zero (first ∷ rest) within before behind =
    ap (λ b. cond b (vid ∷ first ∷ rest) (first ∷ ids_with vid rest)) (lt-ltb vid first (behind 0 0 (omega arith) (omega arith)))
ids_with-at vid (suc place) (first ∷ rest) within before behind =
    ap (λ b. cond b (vid ∷ first ∷ rest) (first ∷ ids_with vid rest)) (le-ltb vid first (before 0 0 (omega arith)))
    ∙ ap (λ more. first ∷ more) (ids_with-at vid place rest (omega arith)
    (λ k d below. before (suc k) d (omega arith)) (λ k d from within. behind (suc k) d (omega arith) (omega arith)))

-- ascending from a number on
AscendFrom : ℕ → List ℕ → Type 0
AscendFrom low [] = Unit {0}
AscendFrom low (first ∷ rest) = (low ≤ first) × AscendFrom first rest

above-low : (low : ℕ) (live : List ℕ) → AscendFrom low live → (k d : ℕ) → k < length live → low ≤ get_or live k d
unfolding AscendFrom
above-low low [] up k d within = absurd (omega arith)
above-low low (first ∷ rest) up zero d within = up.0
above-low low (first ∷ rest) up (suc k) d within =
    let more = above-low first rest up.1 k d (omega arith) in
    let from : low ≤ first = up.0 in
    omega arith

ascend-far : (low : ℕ) (live : List ℕ) → AscendFrom low live → IsNonDecreasing live
unfolding AscendFrom
ascend-far low [] up i j d upto within = absurd (omega arith)
ascend-far low (first ∷ rest) up zero zero d upto within = omega arith
ascend-far low (first ∷ rest) up zero (suc j) d upto within = above-low first rest up.1 j d (omega arith)
ascend-far low (first ∷ rest) up (suc i) zero d upto within = absurd (omega arith)
ascend-far low (first ∷ rest) up (suc i) (suc j) d upto within = ascend-far first rest up.1 i j d (omega arith) (omega arith)

ascend-less : (low high : ℕ) (live : List ℕ) → high ≤ low → AscendFrom low live → AscendFrom high live
unfolding AscendFrom
ascend-less low high [] less up = tt
ascend-less low high (first ∷ rest) less up = let from : low ≤ first = up.0 in (omega arith, up.1)

ascend-ids_with : (low vid : ℕ) (live : List ℕ) → low ≤ vid → AscendFrom low live → AscendFrom low (ids_with vid live)
unfolding AscendFrom
ascend-ids_with low vid [] from up = (from, tt)
ascend-ids_with low vid (first ∷ rest) from up = by_place (cases_lt vid first) (λ before. ascend-ids_with first vid rest before up.1)
  where
    by_place : (vid < first) ⊎ (first ≤ vid) → (first ≤ vid → AscendFrom first (ids_with vid rest)) → AscendFrom low (ids_with vid (first ∷ rest))
    by_place (inl below) later =
        subst (λ b. AscendFrom low (cond b (vid ∷ first ∷ rest) (first ∷ ids_with vid rest))) (sym (lt-ltb vid first below)) (from, (omega arith, up.1))
    by_place (inr above) later =
        subst (λ b. AscendFrom low (cond b (vid ∷ first ∷ rest) (first ∷ ids_with vid rest))) (sym (le-ltb vid first above)) (up.0, later above)

ascend-filter : (keep : ℕ → Bool) (low : ℕ) (live : List ℕ) → AscendFrom low live → AscendFrom low (filter keep live)
unfolding AscendFrom
ascend-filter keep low [] up = tt
ascend-filter keep low (first ∷ rest) up = by_test (keep first) (ascend-filter keep first rest up.1)
  where
    by_test : (b : Bool) → AscendFrom first (filter keep rest) → AscendFrom low (cond b (first ∷ filter keep rest) (filter keep rest))
    by_test true later = (up.0, later)
    by_test false later = ascend-less first low (filter keep rest) up.0 later

ascend-after : (live : List ℕ) (effect : Effect) → AscendFrom 0 live → AscendFrom 0 (live_after live effect)
ascend-after live (Published vid name) up = ascend-ids_with 0 vid.0 live (omega arith) up
ascend-after live (Snapped snap) up = ascend-ids_with 0 snap.vid.0 live (omega arith) up
ascend-after live (Deleted vid name) up = ascend-filter (λ other. not (other == vid.0)) 0 live up
ascend-after live effect up = up

ascend-fold : (effects : List Effect) (live : List ℕ) → AscendFrom 0 live → AscendFrom 0 (fold live_after live effects)
ascend-fold [] live up = up
ascend-fold (effect ∷ effects) live up = ascend-fold effects (live_after live effect) (ascend-after live effect up)

none-ascend : AscendFrom 0 []
unfolding AscendFrom
none-ascend = tt

pub live_of-sorted : (effects : List Effect) → IsNonDecreasing (live_of effects)
unfolding live_of
live_of-sorted effects = ascend-far 0 (fold live_after [] effects) (ascend-fold effects [] none-ascend)

-- an ascending list has an id where the last one up to it is the id itself
has-at : (vid : ℕ) (live : List ℕ) (k : ℕ) → k < length live → get_or live k 0 ≡ vid → list_any (λ other. other == vid) live ≡ true
has-at vid [] k within is = absurd (omega (arith, within))
has-at vid (first ∷ rest) zero within is = or_left (first == vid) (list_any (λ other. other == vid) rest) (eq-eqb first vid is)
has-at vid (first ∷ rest) (suc k) within is =
    or_right (first == vid) (list_any (λ other. other == vid) rest) (has-at vid rest k (omega (arith, within)) is)

has-none : (vid : ℕ) (live : List ℕ) → ((k : ℕ) → k < length live → get_or live k 0 ≢ vid) → list_any (λ other. other == vid) live ≡ false
has-none vid [] none = refl
has-none vid (first ∷ rest) none =
    or_from (first == vid) (list_any (λ other. other == vid) rest) (ne_eqb first vid (none 0 (omega arith)))
    (has-none vid rest (λ k within. none (suc k) (omega (arith, within))))

module _ (vid place : ℕ) (live : List ℕ) (up : IsNonDecreasing live) (within : place ≤ length live)
    (low : (k d : ℕ) → k < place → get_or live k d ≤ vid) (high : (k d : ℕ) → place ≤ k → k < length live → vid < get_or live k d) where
  pub has-last : 0 < place → (get_or live (place - 1) 0 == vid) ≡ list_any (λ other. other == vid) live
  has-last some = by_test (get_or live (place - 1) 0 == vid) refl
    where
      by_test : (b : Bool) → (get_or live (place - 1) 0 == vid) ≡ b → (get_or live (place - 1) 0 == vid) ≡ list_any (λ other. other == vid) live
      by_test true here =
          here ∙ sym (has-at vid live (place - 1) (omega (arith, some, within)) (eqb-true (get_or live (place - 1) 0) vid here))
      by_test false apart = apart ∙ sym (has-none vid live (λ k inside same. by_place k inside same (cases_lt k place)))
        where
          by_place : (k : ℕ) → k < length live → get_or live k 0 ≡ vid → (k < place) ⊎ (place ≤ k) → ⊥
          by_place k inside same (inl below) =
              let last : get_or live (place - 1) 0 ≤ vid = low (place - 1) 0 (omega (arith, some)) in
              let more : get_or live k 0 ≤ get_or live (place - 1) 0 = up k (place - 1) 0 (omega (arith, below)) (omega (arith, some, within)) in
              eqb-false (get_or live (place - 1) 0) vid apart (omega (arith, last, more, same))
          by_place k inside same (inr above) = let far : vid < get_or live k 0 = high k 0 above inside in absurd (omega (arith, far, same))

  pub has-nothing-low : place ≤ 0 → false ≡ list_any (λ other. other == vid) live
  has-nothing-low none =
      sym (has-none vid live (λ k inside same. (let far : vid < get_or live k 0 = high k 0 (omega (arith, none)) inside in absurd (omega (arith, far, same)))))

  pub is-last : list_any (λ other. other == vid) live ≡ true → (0 < place) × (get_or live (place - 1) 0 ≡ vid)
  is-last has = elim (cases_lt 0 place) [
    | inl some ↦ (some, eqb-true (get_or live (place - 1) 0) vid (has-last some ∙ has))
    | inr none ↦ (let nothing : false ≡ list_any (λ other. other == vid) live = has-nothing-low none in cc)
  ]
