-- The tables of parity coefficients are those of Lagrange's sum.
use Rattle.std.proofs.Common.{◌≡◌, ℕ, ◌+◌, ◌-◌, ◌<◌, ◌≤◌, List, [], map, get_or, refl, sym, ap, ◌∙◌, arith}
use Rattle.std.specs.List.{range_with_len}
use Rattle.std.proofs.lemmas.List.FromFn.{get_or-map-range_with_len}
use Rattle.gf256.specs.Field.{coefficient, product, remainder, times, squares, inverse}
use Rattle.gf256.specs.Strip.{basis, coefficients, data_points}
use Rattle.strip_coding.specs.declared.rows.TheConstants.{PARITY_2, PARITY_4, PARITY_8, PARITY_16}

-- the rows of the parity strips of d data strips
abbrev pub parity_rows : ℕ → ℕ → List (List ℕ)
parity_rows d count = map (coefficients (data_points d) (data_points d)) (range_with_len d count)

pub rows_of_2 : PARITY_2 ≡ parity_rows 2 29
unfolding coefficients basis inverse squares times product remainder coefficient
rows_of_2 = refl

pub rows_of_4 : PARITY_4 ≡ parity_rows 4 27
unfolding coefficients basis inverse squares times product remainder coefficient
rows_of_4 = refl

pub rows_of_8 : PARITY_8 ≡ parity_rows 8 23
unfolding coefficients basis inverse squares times product remainder coefficient
rows_of_8 = refl

pub rows_of_16 : PARITY_16 ≡ parity_rows 16 15
unfolding coefficients basis inverse squares times product remainder coefficient
rows_of_16 = refl

-- a row of a table
pub row_of : (n count : ℕ) (table : List (List ℕ)) (d index : ℕ) → table ≡ parity_rows n count → d ≡ n → d ≤ index → index < n + count
    → get_or table (index - n) [] ≡ coefficients (data_points d) (data_points d) index
row_of n count table d index is same from below =
    ap (λ rows. get_or rows (index - n) []) is
    ∙ get_or-map-range_with_len (coefficients (data_points n) (data_points n)) n count (index - n) index [] (omega arith) (omega arith)
    ∙ ap (λ m. coefficients (data_points m) (data_points m) index) (sym same)
