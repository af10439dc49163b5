-- Weighted sums, one strip after another.
use Rattle.std.proofs.Common.{◌≡◌, ℕ, ◌+◌, ◌-◌, ◌*◌, ◌<◌, List, [], ◌∷◌, ◌++◌, length, get_or, map, take, drop, refl, sym, ap, ap₂, ◌∙◌, arith}
use Rattle.std.specs.Int.Bits.{xor_assoc, xor_zero_r}
use Rattle.std.proofs.lemmas.List.{take_more, map_push, length-map, length-take-le, get_or-take, get_or-drop}
use Rattle.gf256.specs.Field.{plus, times}
use Rattle.gf256.specs.Strip.{weighted_sum}

weighted_sum-push : (cs vs : List ℕ) (c v : ℕ) → length cs ≡ length vs
    → weighted_sum (cs ++ c ∷ []) (vs ++ v ∷ []) ≡ plus (weighted_sum cs vs) (times c v)
unfolding weighted_sum
weighted_sum-push [] [] c v e = xor_zero_r (times c v)
weighted_sum-push [] (y ∷ vs) c v e = absurd (omega arith)
weighted_sum-push (x ∷ cs) [] c v e = absurd (omega arith)
weighted_sum-push (x ∷ cs) (y ∷ vs) c v e =
    ap (plus (times x y)) (weighted_sum-push cs vs c v (omega arith))
    ∙ sym (xor_assoc (times x y) (weighted_sum cs vs) (times c v))

-- the sum of no strips
pub weighted_sum-nil : (vs : List ℕ) → weighted_sum [] vs ≡ 0
unfolding weighted_sum
weighted_sum-nil vs = refl

-- one strip more
pub weighted_sum-more : (cs places : List ℕ) (f : ℕ → ℕ) (m : ℕ) → m < length cs → m < length places
    → weighted_sum (take (m + 1) cs) (map f (take (m + 1) places))
    ≡ plus (weighted_sum (take m cs) (map f (take m places))) (times (get_or cs m 0) (f (get_or places m 0)))
weighted_sum-more cs places f m h l =
    let e : length (take m cs) ≡ length (map f (take m places)) =
    length-take-le m cs (omega arith)
    ∙ sym (length-map (take m places) f ∙ length-take-le m places (omega arith)) in
    ap₂ weighted_sum
    (take_more cs m 0 h)
    (ap (map f) (take_more places m 0 l) ∙ map_push f (take m places) (get_or places m 0))
    ∙ weighted_sum-push (take m cs) (map f (take m places)) (get_or cs m 0) (f (get_or places m 0)) e

-- a byte of a part of a list
pub part_at : (xs : List ℕ) (from width k : ℕ) → k < width
    → get_or (take (from + width - from) (drop from xs)) k 0 ≡ get_or xs (from + k) 0
part_at xs from width k h =
    get_or-take (from + width - from) (drop from xs) k 0 (omega arith) ∙ get_or-drop from xs k 0

-- a sum to which the multiple of one strip more is added
pub add_strip : (cs places strips : List ℕ) (m width long : ℕ) (old new : List ℕ)
    → m < length cs → length cs ≡ length places → long ≡ width
    → ((k : ℕ) → k < width
    → get_or old k 0 ≡ weighted_sum (take m cs) (map (λ place. get_or strips (place * width + k) 0) (take m places)))
    → ((k : ℕ) → k < long
    → get_or new k 0 ≡ plus (get_or old k 0)
    (times (get_or cs m 0)
    (get_or (take (get_or places m 0 * long + long - get_or places m 0 * long) (drop (get_or places m 0 * long) strips)) k 0)))
    → (k : ℕ) → k < width
    → get_or new k 0
    ≡ weighted_sum (take (m + 1) cs) (map (λ place. get_or strips (place * width + k) 0) (take (m + 1) places))
add_strip cs places strips m width long old new h both e before added k below =
    let l : k < long = omega arith in
    added k l
    ∙ ap₂ plus
    (before k below)
    (ap (times (get_or cs m 0))
    (part_at strips (get_or places m 0 * long) long k l
    ∙ ap (λ w. get_or strips (get_or places m 0 * w + k) 0) e))
    ∙ sym (weighted_sum-more cs places (λ place. get_or strips (place * width + k) 0) m h (omega arith))
