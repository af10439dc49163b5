-- What the sums of strips are: a parity strip, and the strips of the block that is decoded.
use Rattle.std.proofs.Common.{◌≡◌, ℕ, ◌+◌, ◌-◌, ◌*◌, ◌/◌, ◌<◌, ◌≤◌, ◌^◌, List, length, get_or, map, take, drop, refl, sym, ap, ap₂, ◌∙◌, subst, arith, IsTrue, zero-add, le_refl, add-mul, one-mul, eqb-true}
use Rattle.std.proofs.lemmas.Nat.{row_fits}
use Rattle.std.specs.Prelude.{◌==◌, position, Some}
use Rattle.std.specs.List.{All}
use Rattle.std.proofs.lemmas.List.{length-map, ext_get_or, get_or-map}
use Rattle.std.proofs.lemmas.List.Elements.{All-map}
use Rattle.std.proofs.lemmas.List.Quantifiers.{position-Some}
use Rattle.std.proofs.lemmas.List.FromFn.{length-range_with_len, get_or-range_with_len}
use Rattle.object_id.specs.Policy.{is_width}
use Rattle.gf256.specs.Strip.{coefficients, weighted_sum, lagrange, data_points, column, strip, row, IsBlock}
use Rattle.object_id.specs.Fields.{AreBytes}
use Rattle.gf256.specs.Polynomial.{ArePoints}
use Rattle.gf256.proofs.Points.{bytes_from, bytes_at, bytes_of_all}
use Rattle.gf256.proofs.Interpolation.{lagrange_value}
use Rattle.gf256.proofs.StripLaws.{length-strip, strip_place, data_strip}
use Rattle.strip_coding.specs.declared.coding.TheConstants.{IN_ORDER}
use Rattle.gf256.proofs.Widths.{by_cases, divides}
use Rattle.strip_coding.proofs.WeightedSums.{part_at}

length-coefficients : (all points : List ℕ) (x : ℕ) → length (coefficients all points x) ≡ length points
unfolding coefficients
length-coefficients all points x = length-map points _

-- the places of the data strips
pub in_order : (d : ℕ) → IsTrue (is_width d) → take d IN_ORDER ≡ data_points d
in_order = by_cases (λ d. take d IN_ORDER ≡ data_points d) refl refl refl refl

pub rows_fit : (d index : ℕ) (row : List ℕ) → IsTrue (is_width d)
    → row ≡ coefficients (data_points d) (data_points d) index → length row ≡ length (take d IN_ORDER)
rows_fit d index row width e =
    ap length e ∙ length-coefficients (data_points d) (data_points d) index ∙ ap length (sym (in_order d width))

-- each data strip lies within the block
pub data_within : (d width long : ℕ) → IsTrue (is_width d) → width ≡ 512 / d → long ≡ 512
    → All (λ place. (place + 1) * width ≤ long) (take d IN_ORDER)
data_within d width long is e whole =
    subst (λ places. All (λ place. (place + 1) * width ≤ long) places) (sym (in_order d is))
    (λ k x l.
    let place : ℕ = get_or (data_points d) k x in
    let below : k < d = subst (λ n. k < n) (length-range_with_len 0 d) l in
    let here : place ≡ k = get_or-range_with_len 0 d k x below ∙ zero-add k in
    let fits : k * (512 / d) + 512 / d ≤ d * (512 / d) = row_fits k (512 / d) d (512 / d) below (le_refl (512 / d)) in
    let full : d * (512 / d) ≡ 512 = (divides d is).whole in
    let product : (place + 1) * width ≡ k * (512 / d) + 512 / d =
    ap₂ (λ p w. (p + 1) * w) here e ∙ add-mul k 1 (512 / d) ∙ ap (λ n. k * (512 / d) + n) (one-mul (512 / d)) in
    omega arith)

-- the sum of the data strips by the coefficients of an index is its strip
pub encoded : (d index long : ℕ) (block row out : List ℕ) → IsTrue (is_width d)
    → row ≡ coefficients (data_points d) (data_points d) index → long ≡ 512 / d → length out ≡ long
    → ((k : ℕ) → k < long
    → get_or out k 0 ≡ weighted_sum row (map (λ place. get_or block (place * long + k) 0) (take d IN_ORDER)))
    → out ≡ strip d block index
unfolding lagrange column
encoded d index long block row out is e wide kept sums =
    ext_get_or 0 out (strip d block index)
    (kept ∙ wide ∙ sym (length-strip d block index))
    (λ k l.
    let h : k < 512 / d = omega arith in
    sums k (omega arith)
    ∙ ap (λ w. weighted_sum row (map (λ place. get_or block (place * w + k) 0) (take d IN_ORDER))) wide
    ∙ ap₂ (λ cs places. weighted_sum cs (map (λ place. get_or block (place * (512 / d) + k) 0) places)) e (in_order d is)
    ∙ sym (strip_place d block index k h))

-- a data strip is a part of the block
pub copied : (d index long : ℕ) (block out : List ℕ) → IsTrue (is_width d) → IsBlock block → index < d
    → long ≡ 512 / d → out ≡ take (index * long + long - index * long) (drop (index * long) block)
    → out ≡ strip d block index
copied d index long block out is is_block below wide e =
    let width : index * long + long - index * long ≡ 512 / d = omega arith in
    e
    ∙ ap₂ (λ n w. take n (drop (index * w) block)) width wide
    ∙ sym (data_strip d block index (divides d is) is_block below)

-- the sum of the strips at some points by the coefficients of an index
pub summed : (points row : List ℕ) (index : ℕ) (values : List ℕ)
    → row ≡ coefficients points points index → weighted_sum row values ≡ lagrange points values index
unfolding lagrange
summed points row index values e = ap (λ cs. weighted_sum cs values) e

position_at : (points : List ℕ) (index m : ℕ) → position (λ point. point == index) points ≡ Some m
    → (m < length points) × (get_or points m 0 ≡ index)
position_at points index m e =
    let found = position-Some (λ point. point == index) points m 0 e in
    (found.0, eqb-true (get_or points m 0) index found.1)

-- a strip that is among those at hand is Lagrange's sum at its point
pub at_hand : (points places strips : List ℕ) (index m long k : ℕ) → ArePoints points
    → length points ≡ length places → AreBytes strips
    → position (λ point. point == index) points ≡ Some m → k < long
    → get_or (take (get_or places m 0 * long + long - get_or places m 0 * long) (drop (get_or places m 0 * long) strips)) k 0
    ≡ lagrange points (map (λ place. get_or strips (place * long + k) 0) places) index
at_hand points places strips index m long k distinct both bytes e h =
    let f : ℕ → ℕ = λ place. get_or strips (place * long + k) 0 in
    let there = position_at points index m e in
    let within : m < length points = there.0 in
    part_at strips (get_or places m 0 * long) long k h
    ∙ sym (get_or-map f places m 0 0 (omega arith))
    ∙ sym
    (ap (lagrange points (map f places)) (sym there.1)
    ∙ lagrange_value points (map f places) m distinct
    (bytes_of_all (map f places)
    (All-map (λ b. b < 2 ^ 8) f places (λ j x l. bytes_at strips (get_or places j x * long + k) (bytes_from strips bytes))))
    (length-map places f ∙ sym both) within)
