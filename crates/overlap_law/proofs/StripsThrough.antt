-- The block through d strips has, at every index, the strip of the bytes that these are strips of: each place of a strip is the value of
-- one polynomial of degree below d, and d values determine that. So the strip that is made by d rows has, at each unit, the strip of what
-- the rows have there.
use Rattle.std.proofs.Common.{◌≡◌, arith, ℕ, zero, suc, ◌+◌, ◌*◌, ◌/◌, ◌%◌, ◌<◌, ◌≤◌, min, List, [], ◌∷◌, ◌++◌, length, map, take}
use Rattle.std.proofs.Common.{drop, get_or, refl, sym, ap, ap₂, subst, ◌∙◌, zero-add, length-append, suc-mul, le_refl}
use Rattle.std.proofs.lemmas.List.{ext_get_or, drop-drop, take_at, drop_at, length-take, length-drop, length-map}
use Rattle.std.proofs.lemmas.List.FromFn.{length-range_with_len, length-map-range_with_len, get_or-map-range_with_len}
use Rattle.std.proofs.lemmas.Nat.{div-mul-add, mod-mul-add, row_fits}
use Rattle.std.proofs.Math.Nat.{zero-mul}
use Rattle.std.specs.Prelude.{slice_index}
use Rattle.object_id.specs.declared.oid.Kind.TheVariants.{Block}
use Rattle.object_id.specs.declared.policy.Policy.TheVariants.{Coded}
use Rattle.object_id.specs.Policy.{IsPolicy}
use Rattle.object_store.specs.declared.row.RowCopy.{RowCopy}
use Rattle.object_store.specs.Store.{row_bytes}
use Rattle.gf256.specs.Part.{part, bytes_of_parts, blocks_through, first_part}
use Rattle.gf256.specs.Polynomial.{ArePoints, IsPolynomial}
use Rattle.gf256.specs.Strip.{lagrange, Divides, strip_bytes, data_points, column, strip, row, block_through}
use Rattle.gf256.proofs.Interpolation.{lagrange_polynomial, lagrange_is}
use Rattle.gf256.proofs.PartLaws.{part-piece, part_of_block}
use Rattle.gf256.proofs.Points.{points_from, range_points}
use Rattle.gf256.proofs.StripLaws.{length-strip, strip_place, column_place, length-block_through, block_place}
use Rattle.gf256.proofs.Widths as widths
use Rattle.recovery.specs.Level.{indexes_of, part_from_rows}
use Rattle.recovery.proofs.TakenParts.{Each}
use Rattle.overlap_law.specs.Units.{row_bytes_at}

-- ---- one block

row-of_strips : (d : ℕ) (bytes points : List ℕ) (j : ℕ) → j < 512 / d
    → row j (map (strip d bytes) points) ≡ map (lagrange (data_points d) (column d bytes j)) points
row-of_strips d bytes [] j below = refl
row-of_strips d bytes (p ∷ points) j below = ap₂ ◌∷◌ (strip_place d bytes p j below) (row-of_strips d bytes points j below)

column_long : (d : ℕ) (bytes : List ℕ) (j : ℕ) → length (column d bytes j) ≡ d
unfolding column
column_long d bytes j = length-map-range_with_len (λ (i : ℕ). slice_index bytes (i * strip_bytes d + j)) 0 d

module _ (d : ℕ) (bytes points : List ℕ) (divides : Divides d) (distinct : ArePoints points) (count : length points ≡ d) where
  abbrev through : List ℕ
  through = block_through d points (map (strip d bytes) points)

  -- the values of a place of the strips
  abbrev value : ℕ → ℕ → ℕ
  value j = lagrange (data_points d) (column d bytes j)

  value_is : (j : ℕ) → IsPolynomial (length (data_points d)) (value j)
  value_is j = lagrange_polynomial (data_points d) (column d bytes j)

  value_at : (j i : ℕ) → j < 512 / d → i < d → get_or through (i * (512 / d) + j) 0 ≡ value j i
  value_at j i below inside =
      let fits : i * (512 / d) + 512 / d ≤ 512
      = subst (λ (n : ℕ). i * (512 / d) + 512 / d ≤ n) divides.whole (row_fits i (512 / d) d (512 / d) inside (le_refl (512 / d))) in
      let degree : IsPolynomial (length points) (value j)
      = subst (λ (n : ℕ). IsPolynomial n (value j)) (length-range_with_len 0 d ∙ sym count) (value_is j) in
      block_place d points (map (strip d bytes) points) (i * (512 / d) + j) (omega (arith, fits, below))
      ∙ ap₂ (λ (m q : ℕ). lagrange points (row m (map (strip d bytes) points)) q) (mod-mul-add i (512 / d) j below)
      (div-mul-add i (512 / d) j below)
      ∙ ap (λ (vs : List ℕ). lagrange points vs i) (row-of_strips d bytes points j below)
      ∙ lagrange_is points (value j) (points_from points distinct) degree i

  column-through : (j : ℕ) → j < 512 / d → column d through j ≡ map (value j) (data_points d)
  column-through j below =
      ext_get_or 0 (column d through j) (map (value j) (data_points d))
      (column_long d through j ∙ sym (length-map-range_with_len (value j) 0 d))
      (λ i within.
      let inside : i < d = subst (λ (n : ℕ). i < n) (column_long d through j) within in
      column_place d through j i inside ∙ value_at j i below inside
      ∙ sym (get_or-map-range_with_len (value j) 0 d i i 0 inside (zero-add i)))

  -- it has their strip at every index
  pub strip-through : (index : ℕ) → strip d through index ≡ strip d bytes index
  strip-through index =
      ext_get_or 0 (strip d through index) (strip d bytes index) (length-strip d through index ∙ sym (length-strip d bytes index))
      (λ j within.
      let below : j < 512 / d = subst (λ (n : ℕ). j < n) (length-strip d through index) within in
      strip_place d through index j below
      ∙ ap (λ (c : List ℕ). lagrange (data_points d) c index) (column-through j below)
      ∙ lagrange_is (data_points d) (value j) (range_points 0 d (let few = divides.few in omega (arith, few))) (value_is j) index
      ∙ sym (strip_place d bytes index j below))

-- ---- blocks, one after the other

length-blocks : (d : ℕ) (points : List ℕ) (blocks : ℕ) (parts : List (List ℕ))
    → length (blocks_through d points blocks parts) ≡ blocks * 512
unfolding blocks_through
length-blocks d points zero parts = sym (zero-mul 512)
length-blocks d points (suc blocks) parts =
    length-append (block_through d points (map (take (strip_bytes d)) parts))
    (blocks_through d points blocks (map (drop (strip_bytes d)) parts))
    ∙ ap₂ ◌+◌ (length-block_through d points (map (take (strip_bytes d)) parts))
    (length-blocks d points blocks (map (drop (strip_bytes d)) parts))
    ∙ (let next : 512 + blocks * 512 ≡ suc blocks * 512 = omega arith in next)

-- the parts from a later strip on
later_parts : (w unit : ℕ) (parts : List (List ℕ))
    → map (λ (p : List ℕ). take w (drop (unit * w) p)) (map (drop w) parts) ≡ map (λ (p : List ℕ). take w (drop (suc unit * w) p)) parts
later_parts w unit [] = refl
later_parts w unit (p ∷ parts) =
    ap₂ ◌∷◌
    (ap (take w)
    (drop-drop (unit * w) w p
    ∙ ap (λ (k : ℕ). drop k p) (let more : w + unit * w ≡ suc unit * w = omega (arith, suc-mul unit w) in more)))
    (later_parts w unit parts)

first_parts : (w : ℕ) (parts : List (List ℕ)) → map (take w) parts ≡ map (λ (p : List ℕ). take w (drop (zero * w) p)) parts
first_parts w parts = ap (λ (k : ℕ). map (λ (p : List ℕ). take w (drop k p)) parts) (sym (zero-mul w))

pub piece-through : (d : ℕ) (points : List ℕ) (blocks unit : ℕ) (parts : List (List ℕ)) → unit < blocks
    → take 512 (drop (unit * 512) (blocks_through d points blocks parts))
    ≡ block_through d points (map (λ (p : List ℕ). take (512 / d) (drop (unit * (512 / d)) p)) parts)
unfolding blocks_through
piece-through d points zero unit parts less = absurd (omega (arith, less))
piece-through d points (suc blocks) zero parts less =
    let first : List ℕ = block_through d points (map (take (512 / d)) parts) in
    let rest : List ℕ = blocks_through d points blocks (map (drop (512 / d)) parts) in
    ap (λ (k : ℕ). take 512 (drop k (first ++ rest))) (zero-mul 512)
    ∙ take_at first rest 512 (length-block_through d points (map (take (512 / d)) parts))
    ∙ ap (block_through d points) (first_parts (512 / d) parts)
piece-through d points (suc blocks) (suc unit) parts less =
    let first : List ℕ = block_through d points (map (take (512 / d)) parts) in
    let rest : List ℕ = blocks_through d points blocks (map (drop (512 / d)) parts) in
    ap (λ (k : ℕ). take 512 (drop k (first ++ rest)))
    (let more : suc unit * 512 ≡ 512 + unit * 512 = omega arith in more)
    ∙ ap (take 512)
    (sym (drop-drop (unit * 512) 512 (first ++ rest))
    ∙ ap (drop (unit * 512)) (drop_at first rest 512 (length-block_through d points (map (take (512 / d)) parts))))
    ∙ piece-through d points blocks unit (map (drop (512 / d)) parts) (omega (arith, less))
    ∙ ap (block_through d points) (later_parts (512 / d) unit parts)

-- ---- by widths

offset_so : (d p unit : ℕ) → IsPolicy (Coded d p) → 512 * unit / d ≡ unit * (512 / d)
offset_so d p unit is =
    widths.by_cases (λ (n : ℕ). 512 * unit / n ≡ unit * (512 / n)) (omega arith) (omega arith) (omega arith) (omega arith) d is.0

pub blocks_most : (d p unit long : ℕ) → IsPolicy (Coded d p) → unit * (512 / d) + 512 / d ≤ long → unit < long / (512 / d)
blocks_most d p unit long is =
    widths.by_cases (λ (n : ℕ). unit * (512 / n) + 512 / n ≤ long → unit < long / (512 / n)) (λ fits. omega (arith, fits))
    (λ fits. omega (arith, fits)) (λ fits. omega (arith, fits)) (λ fits. omega (arith, fits)) d is.0

pub width_some : (d p : ℕ) → IsPolicy (Coded d p) → 1 ≤ 512 / d
width_some d p is = widths.by_cases (λ (n : ℕ). 1 ≤ 512 / n) (omega arith) (omega arith) (omega arith) (omega arith) d is.0

-- ---- the strip that rows make

-- of each row the unit is the strip of the same bytes
abbrev pub HaveStrips : ℕ → ℕ → ℕ → List ℕ → List RowCopy → Type 0
HaveStrips d p unit bytes rows =
    Each (λ (one : RowCopy). row_bytes_at (Coded d p) Block unit (row_bytes one) ≡ strip d bytes one.index) rows

strips_of_rows : (d p unit : ℕ) → IsPolicy (Coded d p) → (bytes : List ℕ) (rows : List RowCopy) → HaveStrips d p unit bytes rows
    → map (λ (part : List ℕ). take (512 / d) (drop (unit * (512 / d)) part)) (map row_bytes rows) ≡ map (strip d bytes) (indexes_of rows)
strips_of_rows d p unit is bytes [] have = refl
strips_of_rows d p unit is bytes (one ∷ rows) have =
    ap₂ ◌∷◌ (ap (λ (k : ℕ). take (512 / d) (drop k (row_bytes one))) (sym (offset_so d p unit is)) ∙ have.0)
    (strips_of_rows d p unit is bytes rows have.1)

-- the first row reaches over the unit
first_reaches : (d p unit : ℕ) → IsPolicy (Coded d p) → (bytes : List ℕ) (rows : List RowCopy) → length rows ≡ d
    → HaveStrips d p unit bytes rows → unit < length (first_part (map row_bytes rows)) / (512 / d)
first_reaches d p unit is bytes [] count have =
    let some = widths.divides d is.0 in let more = some.some in absurd (omega (arith, more, count))
first_reaches d p unit is bytes (one ∷ rows) count have =
    let own : List ℕ = row_bytes one in
    let piece : length (take (512 / d) (drop (unit * (512 / d)) own)) ≡ 512 / d
    = ap (λ (k : ℕ). length (take (512 / d) (drop k own))) (sym (offset_so d p unit is))
    ∙ ap (λ (part : List ℕ). length part) have.0 ∙ length-strip d bytes one.index in
    let cut : length (take (512 / d) (drop (unit * (512 / d)) own)) ≡ min (512 / d) (length (drop (unit * (512 / d)) own))
    = length-take (512 / d) (drop (unit * (512 / d)) own) in
    let left = length-drop (unit * (512 / d)) own in
    let some = width_some d p is in
    blocks_most d p unit (length own) is (omega (arith, piece, cut, left, some))

pub strip-of_rows : (d p index unit : ℕ) (bytes : List ℕ) (rows : List RowCopy) → IsPolicy (Coded d p) → ArePoints (indexes_of rows)
    → length rows ≡ d → HaveStrips d p unit bytes rows
    → row_bytes_at (Coded d p) Block unit (part_from_rows (Coded d p) Block index rows) ≡ strip d bytes index
unfolding bytes_of_parts
strip-of_rows d p index unit bytes rows is distinct count have =
    let points : List ℕ = indexes_of rows in
    let parts : List (List ℕ) = map row_bytes rows in
    let blocks : ℕ = length (first_part parts) / strip_bytes d in
    let whole : List ℕ = blocks_through d points blocks parts in
    let inside : unit < blocks = first_reaches d p unit is bytes rows count have in
    let long : length whole ≡ blocks * 512 = length-blocks d points blocks parts in
    let counted : length points ≡ d = length-map rows (λ (one : RowCopy). one.index) ∙ count in
    let block : take 512 (drop (512 * unit) whole) ≡ through d bytes points (widths.divides d is.0) distinct counted
    = ap (λ (k : ℕ). take 512 (drop k whole)) (let turned : 512 * unit ≡ unit * 512 = omega arith in turned)
    ∙ piece-through d points blocks unit parts inside
    ∙ ap (block_through d points) (strips_of_rows d p unit is bytes rows have) in
    sym (part-piece (Coded d p) Block index whole (512 * unit) 512 is (let none : 512 * unit % 512 ≡ 0 = omega arith in none) refl
    (omega (arith, inside, long)))
    ∙ ap (part (Coded d p) Block index) block
    ∙ part_of_block d p index (block_through d points (map (strip d bytes) points))
    (length-block_through d points (map (strip d bytes) points))
    ∙ strip-through d bytes points (widths.divides d is.0) distinct counted index
