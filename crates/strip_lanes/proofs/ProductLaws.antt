-- The tables of products, and a product as the sum of the products of a byte's halves.
use Rattle.std.proofs.Common.{◌≡◌, ℕ, ◌+◌, ◌*◌, ◌/◌, ◌%◌, ◌<◌, get_or, map, refl, sym, ap, ap₂, ◌∙◌, arith}
use Rattle.std.specs.List.{range_with_len}
use Rattle.std.specs.Int.Bits.{xor_comm, xor_shifted}
use Rattle.std.proofs.lemmas.List.FromFn.{get_or-map-range_with_len}
use Rattle.std.proofs.lemmas.Nat.{div-mul-add, mod-mul-add, shr_split}
use Rattle.gf256.specs.Field.{coefficient, product, remainder, plus, times}
use Rattle.gf256.proofs.FieldLaws.{times-plus}
use Rattle.strip_lanes.specs.declared.low_products.TheConstants.{LOW_PRODUCTS}
use Rattle.strip_lanes.specs.declared.high_products.TheConstants.{HIGH_PRODUCTS}

-- the product that stands at a place of each table
abbrev pub low_product : ℕ → ℕ
low_product place = times (place / 16) (place % 16)

abbrev pub high_product : ℕ → ℕ
high_product place = times (place / 16) (place % 16 * 16)

low_products_are : LOW_PRODUCTS ≡ map low_product (range_with_len 0 4096)
unfolding times product remainder coefficient
low_products_are = refl

high_products_are : HIGH_PRODUCTS ≡ map high_product (range_with_len 0 4096)
unfolding times product remainder coefficient
high_products_are = refl

pub low_product_at : (element n : ℕ) → element < 256 → n < 16 → get_or LOW_PRODUCTS (element * 16 + n) 0 ≡ times element n
low_product_at element n below small =
    ap (λ table. get_or table (element * 16 + n) 0) low_products_are
    ∙ get_or-map-range_with_len low_product 0 4096 (element * 16 + n) (element * 16 + n) 0 (omega arith) (omega arith)
    ∙ ap₂ times (div-mul-add element 16 n small) (mod-mul-add element 16 n small)

pub high_product_at : (element n : ℕ) → element < 256 → n < 16 → get_or HIGH_PRODUCTS (element * 16 + n) 0 ≡ times element (n * 16)
high_product_at element n below small =
    ap (λ table. get_or table (element * 16 + n) 0) high_products_are
    ∙ get_or-map-range_with_len high_product 0 4096 (element * 16 + n) (element * 16 + n) 0 (omega arith) (omega arith)
    ∙ ap₂ (λ c half. times c (half * 16)) (div-mul-add element 16 n small) (mod-mul-add element 16 n small)

pub product_of_halves : (element byte : ℕ)
    → plus (times element (byte % 16)) (times element (byte / 16 * 16)) ≡ times element byte
product_of_halves element byte =
    let small : byte % 16 < 16 = omega arith in
    xor_comm (times element (byte % 16)) (times element (byte / 16 * 16))
    ∙ sym (times-plus element (byte / 16 * 16) (byte % 16))
    ∙ ap (times element) (xor_shifted (byte / 16) 4 (byte % 16) small ∙ shr_split byte 4)
