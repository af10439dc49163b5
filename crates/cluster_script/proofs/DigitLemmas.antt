-- The number that digits are doesn't fall with a digit more.
use Rattle.std.proofs.Common.{◌≡◌, ℕ, ◌+◌, ◌-◌, ◌*◌, ◌≤◌, ◌<◌, ◌^◌, List, [], ◌∷◌, length, take, drop, get_or, Some, None, refl, sym, ap, subst, ◌∙◌, arith}
use Rattle.std.specs.Prelude.{fold, nat_lt, if◌then◌else◌}
use Rattle.std.proofs.lemmas.Bool.{le-ltb}
use Rattle.std.proofs.lemmas.List.{take-append-drop}
use Rattle.std.proofs.lemmas.List.Sums.{fold-append, fold_more}
use Rattle.cluster_script.specs.Numbers.{digits_value}

abbrev step : ℕ → ℕ → ℕ
step value digit = value * 10 + (digit - 48)

grows : (digits : List ℕ) (value : ℕ) → value ≤ fold step value digits
grows [] value = omega arith
grows (digit ∷ digits) value = omega (arith, grows digits (step value digit))

-- the digits up to a place are no more than all of them
front_at_most : (digits : List ℕ) (i : ℕ) → digits_value (take i digits) ≤ digits_value digits
front_at_most digits i =
    let whole : digits_value digits ≡ fold step (digits_value (take i digits)) (drop i digits) =
    ap digits_value (sym (take-append-drop i digits)) ∙ fold-append step 0 (take i digits) (drop i digits) in
    subst (λ (n : ℕ). digits_value (take i digits) ≤ n) (sym whole) (grows (drop i digits) (digits_value (take i digits)))

-- where the next digit takes the value to 2^64, no 64 bits hold the number
pub too_great : (digits : List ℕ) (i : ℕ) → i < length digits → 2 ^ 64 ≤ digits_value (take i digits) * 10 + (get_or digits i 0 - 48)
    → None ≡ (if nat_lt (digits_value digits) (2 ^ 64) then Some (digits_value digits) else None)
too_great digits i lt great =
    let next : digits_value (take (i + 1) digits) ≡ step (digits_value (take i digits)) (get_or digits i 0) = fold_more step 0 digits i 0 lt in
    let least : 2 ^ 64 ≤ digits_value digits = omega (arith, front_at_most digits (i + 1), next, great) in
    rw (le-ltb (digits_value digits) (2 ^ 64) least) refl
