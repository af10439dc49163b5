-- Strips of a block: their lengths, the data strips, and that d strips of a block at different points
-- are those of one block alone.
use Rattle.std.proofs.Common.{◌≡◌, ℕ, zero, suc, ◌+◌, ◌-◌, ◌*◌, ◌/◌, ◌%◌, ◌^◌, ◌<◌, ◌≤◌, List, [], ◌∷◌, length, get_or, map, take, drop, refl, sym, ap, ap₂, ◌∙◌, subst, arith, zero-add, le_refl, mul-zero, replicate, inl, inr}
use Rattle.std.specs.Prelude.{slice_index}
use Rattle.std.specs.List.{range_with_len}
use Rattle.std.proofs.lemmas.List.{get_or-map, length-map, ext_get_or, length-take-le, length-drop, get_or-take, get_or-drop, get_or-replicate, get_or_past, length-replicate}
use Rattle.std.proofs.lemmas.Bool.{cases_lt}
use Rattle.std.proofs.lemmas.List.Elements.{All-map}
use Rattle.std.proofs.lemmas.List.FromFn.{length-range_with_len, get_or-range_with_len, length-map-range_with_len, get_or-map-range_with_len}
use Rattle.std.proofs.lemmas.Nat.{div-mul-add, mod-mul-add, row_fits, div_below, mod_below, div-add-mod'}
use Rattle.object_id.specs.Fields.{AreBytes}
use Rattle.gf256.specs.Polynomial.{IsPolynomial, ArePoints}
use Rattle.gf256.specs.Field.{plus, times}
use Rattle.gf256.proofs.FieldLaws.{times-zero}
use Rattle.gf256.specs.Strip.{lagrange, strip_bytes, data_points, column, strip, row, block_through, IsBlock, AreStrips, Divides, coefficients, weighted_sum}
use Rattle.gf256.proofs.Points.{Bytes, Points, bytes_from, bytes_at, bytes_of_all, points_from, range_points}
use Rattle.gf256.proofs.Interpolation.{lagrange_polynomial, lagrange_byte, lagrange_at, lagrange_is, mapped_bytes}

pub strip_some : (d : ℕ) → Divides d → 0 < 512 / d
strip_some d divides = positive d (512 / d) divides.whole
  where
    positive : (d w : ℕ) → d * w ≡ 512 → 0 < w
    positive d zero e = absurd (let z : d * 0 ≡ 0 = mul-zero d in omega arith)
    positive d (suc w) e = omega arith

-- lengths and places

pub length-strip : (d : ℕ) (block : List ℕ) (i : ℕ) → length (strip d block i) ≡ 512 / d
unfolding strip
length-strip d block i =
    length-map-range_with_len (λ j. lagrange (data_points d) (column d block j) i) 0 (512 / d)

pub strip_place : (d : ℕ) (block : List ℕ) (i j : ℕ) → j < 512 / d
    → get_or (strip d block i) j 0 ≡ lagrange (data_points d) (column d block j) i
unfolding strip
strip_place d block i j h =
    get_or-map-range_with_len (λ j. lagrange (data_points d) (column d block j) i) 0 (512 / d) j j 0 h (zero-add j)

pub strip_is_bytes : (d : ℕ) (block : List ℕ) (i : ℕ) → AreBytes (strip d block i)
unfolding strip
strip_is_bytes d block i =
    bytes_of_all (map (λ j. lagrange (data_points d) (column d block j) i) (range_with_len 0 (512 / d)))
    (All-map (λ b. b < 2 ^ 8) (λ j. lagrange (data_points d) (column d block j) i) (range_with_len 0 (512 / d))
    (λ k e l. lagrange_byte (data_points d) (column d block (get_or (range_with_len 0 (512 / d)) k e)) i))

length-column : (d : ℕ) (block : List ℕ) (j : ℕ) → length (column d block j) ≡ d
unfolding column
length-column d block j =
    length-map-range_with_len (λ i. slice_index block (i * strip_bytes d + j)) 0 d

pub column_place : (d : ℕ) (block : List ℕ) (j i : ℕ) → i < d
    → get_or (column d block j) i 0 ≡ get_or block (i * (512 / d) + j) 0
unfolding column
column_place d block j i h =
    get_or-map-range_with_len (λ i. slice_index block (i * strip_bytes d + j)) 0 d i i 0 h (zero-add i)

column_bytes : (d : ℕ) (block : List ℕ) (j : ℕ) → Bytes block → Bytes (column d block j)
unfolding column
column_bytes d block j h = mapped_bytes (λ i. get_or block (i * (512 / d) + j) 0) (data_points d) (λ i. bytes_at block (i * (512 / d) + j) h)

data_points_are : (d : ℕ) → d ≤ 2 ^ 8 → Points (data_points d)
data_points_are d h = range_points 0 d (omega arith)

-- the column's sum at a data point
column_at : (d : ℕ) (block : List ℕ) (j i : ℕ) → d ≤ 2 ^ 8 → Bytes block → i < d
    → lagrange (data_points d) (column d block j) i ≡ get_or block (i * (512 / d) + j) 0
column_at d block j i few bytes h =
    let l : i < length (data_points d) = subst (λ n. i < n) (sym (length-range_with_len 0 d)) h in
    ap (lagrange (data_points d) (column d block j)) (sym (get_or-range_with_len 0 d i 0 h ∙ zero-add i))
    ∙ lagrange_at (data_points d) (column d block j) i (data_points_are d few) (column_bytes d block j bytes)
    (length-column d block j ∙ sym (length-range_with_len 0 d)) l
    ∙ column_place d block j i h

-- a data strip lies within the block
strip_fits : (d i : ℕ) → Divides d → i < d → i * (512 / d) + 512 / d ≤ 512
strip_fits d i divides h =
    subst (λ n. i * (512 / d) + 512 / d ≤ n) divides.whole (row_fits i (512 / d) d (512 / d) h (le_refl (512 / d)))

-- a data strip is the block's bytes at its place
pub data_strip : (d : ℕ) (block : List ℕ) (i : ℕ) → Divides d → IsBlock block → i < d
    → strip d block i ≡ take (512 / d) (drop (i * (512 / d)) block)
data_strip d block i divides is_block h =
    let w : ℕ = 512 / d in
    let fits : i * w + w ≤ 512 = strip_fits d i divides h in
    let dropped : length (drop (i * w) block) ≡ 512 - i * w = length-drop (i * w) block ∙ ap (λ n. n - i * w) is_block.1 in
    ext_get_or 0 (strip d block i) (take w (drop (i * w) block))
    (length-strip d block i ∙ sym (length-take-le w (drop (i * w) block) (omega arith)))
    (λ j l.
    let k : j < w = subst (λ n. j < n) (length-strip d block i) l in
    strip_place d block i j k
    ∙ column_at d block j i divides.few (bytes_from block is_block.0) h
    ∙ sym (get_or-take w (drop (i * w) block) j 0 k ∙ get_or-drop (i * w) block j 0))

-- a list of a function's values, at a point of the list
map_same : (f g : ℕ → ℕ) (ps : List ℕ) → ((k : ℕ) → k < length ps → f (get_or ps k 0) ≡ g (get_or ps k 0))
    → map f ps ≡ map g ps
map_same f g [] h = refl
map_same f g (p ∷ ps) h = ap₂ ◌∷◌ (h 0 (omega arith)) (map_same f g ps (λ k l. h (suc k) (omega arith)))

-- the block through strips at points

pub length-block_through : (d : ℕ) (points : List ℕ) (strips : List (List ℕ)) → length (block_through d points strips) ≡ 512
unfolding block_through
length-block_through d points strips =
    length-map-range_with_len
    (λ place. lagrange points (row (place % strip_bytes d) strips) (place / strip_bytes d)) 0 512

pub block_place : (d : ℕ) (points : List ℕ) (strips : List (List ℕ)) (place : ℕ) → place < 512
    → get_or (block_through d points strips) place 0
    ≡ lagrange points (row (place % (512 / d)) strips) (place / (512 / d))
unfolding block_through
block_place d points strips place h =
    get_or-map-range_with_len
    (λ place. lagrange points (row (place % strip_bytes d) strips) (place / strip_bytes d))
    0 512 place place 0 h (zero-add place)

pub block_through_is_block : (d : ℕ) (points : List ℕ) (strips : List (List ℕ)) → IsBlock (block_through d points strips)
unfolding block_through
block_through_is_block d points strips = (
  bytes_of_all (map (λ place. lagrange points (row (place % strip_bytes d) strips) (place / strip_bytes d)) (range_with_len 0 512))
      (All-map (λ b. b < 2 ^ 8)
      (λ place. lagrange points (row (place % strip_bytes d) strips) (place / strip_bytes d)) (range_with_len 0 512)
      (λ k e l.
      let place : ℕ = get_or (range_with_len 0 512) k e in
      lagrange_byte points (row (place % strip_bytes d) strips) (place / strip_bytes d))),
  length-block_through d points strips,
)

-- its columns are Lagrange's sum through the strips
column_through : (d : ℕ) (points : List ℕ) (strips : List (List ℕ)) (j : ℕ) → Divides d → j < 512 / d
    → column d (block_through d points strips) j ≡ map (lagrange points (row j strips)) (data_points d)
unfolding column
column_through d points strips j divides h =
    map_same
    (λ i. get_or (block_through d points strips) (i * (512 / d) + j) 0)
    (lagrange points (row j strips))
    (data_points d)
    (λ k l.
    let i : ℕ = get_or (data_points d) k 0 in
    let here : i ≡ k =
    get_or-range_with_len 0 d k 0 (subst (λ n. k < n) (length-range_with_len 0 d) l) ∙ zero-add k in
    let below : i < d = subst (λ n. n < d) (sym here) (subst (λ n. k < n) (length-range_with_len 0 d) l) in
    let fits : i * (512 / d) + 512 / d ≤ 512 = strip_fits d i divides below in
    block_place d points strips (i * (512 / d) + j) (omega arith)
    ∙ ap₂ (λ m q. lagrange points (row m strips) q) (mod-mul-add i (512 / d) j h) (div-mul-add i (512 / d) j h))

row_bytes : (w j : ℕ) (strips : List (List ℕ)) → AreStrips w strips → Bytes (row j strips)
row_bytes w j [] h = tt
row_bytes w j (s ∷ strips) h =
    (bytes_at s j (bytes_from s (h 0 [] (omega arith)).0), row_bytes w j strips (λ k d l. h (suc k) d (omega arith)))

-- the block through strips has these strips
pub strip-block_through : (d : ℕ) (points : List ℕ) (strips : List (List ℕ)) (m : ℕ)
    → Divides d → ArePoints points → length points ≡ d → length strips ≡ d → AreStrips (512 / d) strips → m < d
    → strip d (block_through d points strips) (get_or points m 0) ≡ get_or strips m []
strip-block_through d points strips m divides distinct count given each h =
    let inside : m < length strips = subst (λ n. m < n) (sym given) h in
    let pointed : m < length points = subst (λ n. m < n) (sym count) h in
    let p : ℕ = get_or points m 0 in
    let block : List ℕ = block_through d points strips in
    ext_get_or 0 (strip d block p) (get_or strips m [])
    (length-strip d block p ∙ sym ((each m [] inside).1))
    (λ j l.
    let k : j < 512 / d = subst (λ n. j < n) (length-strip d block p) l in
    let f : ℕ → ℕ = lagrange points (row j strips) in
    let degree : IsPolynomial (length (data_points d)) f =
    subst (λ n. IsPolynomial n f) (count ∙ sym (length-range_with_len 0 d)) (lagrange_polynomial points (row j strips)) in
    strip_place d block p j k
    ∙ ap (λ c. lagrange (data_points d) c p) (column_through d points strips j divides k)
    ∙ lagrange_is (data_points d) f (data_points_are d divides.few) degree p
    ∙ lagrange_at points (row j strips) m (points_from points distinct) (row_bytes (512 / d) j strips each)
    (length-map strips (λ s. get_or s j 0) ∙ given ∙ sym count) pointed
    ∙ get_or-map (λ s. get_or s j 0) strips m [] 0 inside)

row-strips : (d : ℕ) (block points : List ℕ) (j : ℕ) → j < 512 / d
    → row j (map (strip d block) points) ≡ map (lagrange (data_points d) (column d block j)) points
row-strips d block [] j h = refl
row-strips d block (p ∷ points) j h = ap₂ ◌∷◌ (strip_place d block p j h) (row-strips d block points j h)

-- a block is the one through any d of its strips
pub block_through-strips : (d : ℕ) (block points : List ℕ)
    → Divides d → ArePoints points → length points ≡ d → IsBlock block
    → block_through d points (map (strip d block) points) ≡ block
block_through-strips d block points divides distinct count is_block =
    ext_get_or 0 (block_through d points (map (strip d block) points)) block
    (length-block_through d points (map (strip d block) points) ∙ sym is_block.1)
    (λ place l.
    let h : place < 512 = subst (λ n. place < n) (length-block_through d points (map (strip d block) points)) l in
    let w : ℕ = 512 / d in
    let wide : 0 < w = strip_some d divides in
    let i : ℕ = place / w in
    let j : ℕ = place % w in
    let below : j < w = mod_below place w wide in
    let inside : i < d = div_below place w d wide (subst (λ n. place < n) (sym divides.whole) h) in
    let f : ℕ → ℕ = lagrange (data_points d) (column d block j) in
    let degree : IsPolynomial (length points) f =
    subst (λ n. IsPolynomial n f) (length-range_with_len 0 d ∙ sym count)
    (lagrange_polynomial (data_points d) (column d block j)) in
    block_place d points (map (strip d block) points) place h
    ∙ ap (λ r. lagrange points r i) (row-strips d block points j below)
    ∙ lagrange_is points f (points_from points distinct) degree i
    ∙ column_at d block j i divides.few (bytes_from block is_block.0) inside
    ∙ ap (λ n. get_or block n 0) (div-add-mod' place w))

-- strips that are equal at d different points are of equal blocks
pub one_block : (d : ℕ) (points block other : List ℕ)
    → Divides d → ArePoints points → length points ≡ d → IsBlock block → IsBlock other
    → map (strip d block) points ≡ map (strip d other) points → block ≡ other
one_block d points block other divides distinct count is_block is_other e =
    sym (block_through-strips d block points divides distinct count is_block)
    ∙ ap (block_through d points) e
    ∙ block_through-strips d other points divides distinct count is_other

-- strips of zeros

weighted_sum-zeros : (cs xs : List ℕ) (f : ℕ → ℕ) → ((x : ℕ) → f x ≡ 0) → weighted_sum cs (map f xs) ≡ 0
unfolding weighted_sum
weighted_sum-zeros [] xs f h = refl
weighted_sum-zeros (c ∷ cs) [] f h = refl
weighted_sum-zeros (c ∷ cs) (x ∷ xs) f h =
    ap₂ plus (ap (times c) (h x) ∙ times-zero c) (weighted_sum-zeros cs xs f h)

zero_at : (n k : ℕ) → get_or {A = ℕ} (replicate n 0) k 0 ≡ 0
zero_at n k =
    elim (cases_lt k n) [
      | inl l ↦ get_or-replicate n k 0 0 l
      | inr g ↦ get_or_past (replicate n 0) k 0 (subst (λ m. m ≤ k) (sym (length-replicate n 0)) g)
    ]

map-zeros : (f : ℕ → ℕ) (from n : ℕ) → ((x : ℕ) → f x ≡ 0) → map f (range_with_len from n) ≡ replicate n 0
map-zeros f from zero h = refl
map-zeros f from (suc n) h = ap₂ ◌∷◌ (h from) (map-zeros f (from + 1) n h)

pub strip-zeros : (d n i : ℕ) → strip d (replicate n 0) i ≡ replicate (512 / d) 0
unfolding strip column lagrange
strip-zeros d n i =
    map-zeros (λ j. lagrange (data_points d) (column d (replicate n 0) j) i) 0 (512 / d)
    (λ j.
    weighted_sum-zeros (coefficients (data_points d) (data_points d) i) (data_points d)
    (λ k. get_or (replicate n 0) (k * (512 / d) + j) 0) (λ k. zero_at n (k * (512 / d) + j)))
