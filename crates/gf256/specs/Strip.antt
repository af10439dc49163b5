-- Strips of a block. Each byte column of the d data strips is the values of one polynomial of degree
-- below d at the points 0 to d - 1, and strip i has its values at point i.
use Rattle.std.specs.Prelude.{◌≡◌, ℕ, length, ◌+◌, ◌*◌, ◌/◌, ◌%◌, ◌^◌, ◌<◌, ◌≤◌, ◌==◌, if◌then◌else◌, List, [], ◌∷◌, map, slice_index}
use Rattle.std.specs.List.{All, range_with_len}
use Rattle.object_id.specs.declared.limits.TheConstants.{BLOCK_BYTES}
use Rattle.gf256.specs.Field.{plus, times, inverse}
use Rattle.object_id.specs.Fields.{AreBytes}

-- the product, over the other points m, of (x - m) / (point - m): 1 at its own point, 0 at the others
unfoldable pub basis : List ℕ → ℕ → ℕ → ℕ
basis [] point x = 1
basis (m ∷ others) point x =
    if m == point
    then basis others point x
    else times (times (plus x m) (inverse (plus point m))) (basis others point x)

-- what the values at some points count for at x, where all points are given
unfoldable pub coefficients : List ℕ → List ℕ → ℕ → List ℕ
coefficients all points x = map (λ point. basis all point x) points

-- the sum of the values, each by its coefficient
unfoldable pub weighted_sum : List ℕ → List ℕ → ℕ
weighted_sum [] values = 0
weighted_sum (c ∷ cs) [] = 0
weighted_sum (c ∷ cs) (v ∷ vs) = plus (times c v) (weighted_sum cs vs)

-- Lagrange's sum: the value at x of the polynomial that has these values at these points
unfoldable pub lagrange : List ℕ → List ℕ → ℕ → ℕ
lagrange points values x = weighted_sum (coefficients points points x) values

-- the bytes of a block
abbrev pub IsBlock : List ℕ → Type 0
IsBlock block = AreBytes block × (length block ≡ BLOCK_BYTES)

-- the bytes of a strip
abbrev pub strip_bytes : ℕ → ℕ
strip_bytes d = BLOCK_BYTES / d

-- the points of the data strips
abbrev pub data_points : ℕ → List ℕ
data_points d = range_with_len 0 d

-- byte column j of a block: one byte of each data strip
unfoldable pub column : ℕ → List ℕ → ℕ → List ℕ
column d block j = map (λ i. slice_index block (i * strip_bytes d + j)) (data_points d)

-- strip i of a block: at each place, the value at point i
unfoldable pub strip : ℕ → List ℕ → ℕ → List ℕ
strip d block i =
    map (λ j. lagrange (data_points d) (column d block j) i) (range_with_len 0 (strip_bytes d))

-- byte j of each strip
abbrev pub row : ℕ → List (List ℕ) → List ℕ
row j strips = map (λ s. slice_index s j) strips

-- the block through these strips at these points: at each place, the value at the point of the place's
-- data strip
unfoldable pub block_through : ℕ → List ℕ → List (List ℕ) → List ℕ
block_through d points strips =
    map
    (λ place. lagrange points (row (place % strip_bytes d) strips) (place / strip_bytes d))
    (range_with_len 0 BLOCK_BYTES)

-- strips of some length
abbrev pub AreStrips : ℕ → List (List ℕ) → Type 0
AreStrips width strips = All (λ s. AreBytes s × (length s ≡ width)) strips

-- d strips of equal length make up a block
pub record Divides (d : ℕ) : Type 0 where
  pub whole : d * strip_bytes d ≡ BLOCK_BYTES
  pub some : 0 < d
  pub few : d ≤ 2 ^ 8
