-- What the operations on vectors of 32 bytes hold at each lane.
use Rattle.std.proofs.Common.{◌≡◌, ◌∙◌, ◌<◌, ◌+◌, ◌*◌, ◌%◌, ◌/◌, ◌^◌, ℕ, List, length, get_or, replicate, refl, ap, sym, arith, w8, Fits, bit_and}
use Rattle.std.specs.Simd.Lanes.{zip2, Each1}
use Rattle.std.proofs.lemmas.Nat.{and_mask}
use Rattle.std.proofs.lemmas.Simd.{SwzOk, swz_l, SwzOk-from_below, Each1-from_get_or, Each1-get_or, length-zip2, length-swz_l, get_or-swz_l_below, get_or-zip2, get_or-replicate}
use Rattle.strip_lanes.specs.Lanes.{HasLanes}

-- an operator on two vectors
pub HasLanes-zip2 : (op : ℕ → ℕ → ℕ) (a b : List ℕ) (f g : ℕ → ℕ) → HasLanes a f → HasLanes b g → HasLanes (zip2 op a b) (λ k. op (f k) (g k))
HasLanes-zip2 op a b f g in_a in_b = record {
  long = length-zip2 op a b (in_a.long ∙ sym in_b.long) ∙ in_a.long;
  each = λ k l.
      get_or-zip2 op a b k 0 0 0 (omega (arith, in_a.long)) (omega (arith, in_b.long))
      ∙ ap (λ x. op x (get_or b k 0)) (in_a.each k l)
      ∙ ap (op (f k)) (in_b.each k l);
}

HasLanes-splat : (x : ℕ) → HasLanes (replicate 32 x) (λ k. x)
HasLanes-splat x = record { long = refl; each = λ k l. get_or-replicate 32 k x 0 l }

HasLanes-own : (v : List ℕ) → length v ≡ 32 → HasLanes v (λ k. get_or v k 0)
HasLanes-own v long = record { long = long; each = λ k l. refl }

-- the same values in other words
pub HasLanes-same : (v : List ℕ) (f g : ℕ → ℕ) → HasLanes v f → ((k : ℕ) → k < 32 → f k ≡ g k) → HasLanes v g
HasLanes-same v f g h same = record { long = h.long; each = λ k l. h.each k l ∙ same k l }

-- the halves of bytes
pub low_halves : (v : List ℕ) → length v ≡ 32 → HasLanes (zip2 bit_and v (replicate 32 15)) (λ k. get_or v k 0 % 16)
low_halves v long =
    HasLanes-same _ _ _ (HasLanes-zip2 bit_and v (replicate 32 15) _ _ (HasLanes-own v long) (HasLanes-splat 15))
    (λ k l. and_mask (get_or v k 0) 4)

pub high_halves : (v : List ℕ) → length v ≡ 32 → HasLanes (zip2 (λ a b. a / 2 ^ b) v (replicate 32 4)) (λ k. get_or v k 0 / 16)
high_halves v long = HasLanes-zip2 (λ a b. a / 2 ^ b) v (replicate 32 4) _ _ (HasLanes-own v long) (HasLanes-splat 4)

pub high_halves-small : (v : List ℕ) → length v ≡ 32 → Each1 (Fits w8) v → (k : ℕ) → k < 32 → get_or v k 0 / 16 < 16
high_halves-small v long fits k l = omega (arith, (Each1-get_or (Fits w8) v k 0 (omega (arith, long)) fits).fits)

module _ (js : List ℕ) (f : ℕ → ℕ) (h : HasLanes js f) (small : (k : ℕ) → k < 32 → f k < 16) where
  -- places below 16 may be looked up
  pub places_ok : SwzOk w8 16 32 0 js
  places_ok =
      let long = h.long in
      SwzOk-from_below w8 16 2 32 0 js refl (omega arith)
      (Each1-from_get_or (λ j. j < 16) js 0 (λ i l. omega (arith, h.each i (omega arith), small i (omega arith))))

  -- what is found at them in a row that stands there twice
  pub looked_up : (rows : List ℕ) (g : ℕ → ℕ) → HasLanes rows (λ k. g (k % 16)) → HasLanes (swz_l w8 16 rows 0 js) (λ k. g (f k))
  looked_up rows g twice =
      let long = h.long in
      record {
        long = length-swz_l w8 16 rows 0 js ∙ long;
        each = λ k l.
            let below = small k l in
            let here = h.each k l in
            get_or-swz_l_below w8 16 rows 0 js k (omega arith) (omega arith)
            ∙ ap (λ j. get_or rows j 0) {x = 16 * ((0 + k) / 16) + get_or js k 0} {y = 16 * (k / 16) + f k} (omega arith)
            ∙ twice.each (16 * (k / 16) + f k) (omega arith)
            ∙ ap g (omega arith);
      }
