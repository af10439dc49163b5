-- A basis polynomial's value, one factor after another.
use Rattle.std.proofs.Common.{◌≡◌, ◌≢◌, ℕ, ◌+◌, ◌^◌, ◌<◌, ◌≤◌, List, length, get_or, drop, sym, ap, ◌∙◌, ◌-◌, eq-eqb, true≢false, arith, Bool}
use Rattle.std.proofs.lemmas.List.{drop_more, drop_all}
use Rattle.std.proofs.lemmas.List.Sums.{fails_before_first}
use Rattle.std.proofs.lemmas.Grind.{common_steps}
use Rattle.std.specs.List.{position_or_len}
use Rattle.std.specs.List.{All}
use Rattle.std.specs.Prelude.{◌==◌, position, None}
use Rattle.std.specs.Int.Bits.{xor_lt}
use Rattle.gf256.specs.Field.{plus, times, inverse, power}
use Rattle.gf256.proofs.Logarithms.{power-add, power-quotient}
use Rattle.gf256.specs.Strip.{basis}
use Rattle.gf256.proofs.Xor.{xor_zero}
use Rattle.gf256.proofs.FieldLaws.{times_assoc, times-one, times-one_left}
use Rattle.gf256.proofs.Interpolation.{basis-own, basis-other, basis_byte}

-- the product so far times that of the points left
abbrev pub whole : ℕ → List ℕ → ℕ → ℕ → ℕ → ℕ
whole product points at point x = times product (basis (drop at points) point x)

pub whole_first : (points : List ℕ) (point x : ℕ) → whole 1 points 0 point x ≡ basis points point x
whole_first points point x = times-one_left (basis points point x) (basis_byte points point x)

pub whole_last : (product : ℕ) (points : List ℕ) (at point x : ℕ) → product < 2 ^ 8 → length points ≤ at
    → whole product points at point x ≡ product
unfolding basis
whole_last product points at point x byte end =
    ap (λ rest. times product (basis rest point x)) (drop_all at points end) ∙ times-one product byte

-- its own point is left out
pub whole_own : (product : ℕ) (points : List ℕ) (at point x : ℕ) → at < length points → get_or points at 0 ≡ point
    → whole product points (at + 1) point x ≡ whole product points at point x
whole_own product points at point x l e =
    sym
    (ap (λ rest. times product (basis rest point x)) (drop_more points at 0 l)
    ∙ ap (times product) (basis-own (get_or points at 0) point x (drop (at + 1) points) e))

-- each other point's factor is multiplied in
pub whole_other : (product : ℕ) (points : List ℕ) (at point x : ℕ) → at < length points → get_or points at 0 ≢ point
    → whole (times product (times (plus x (get_or points at 0)) (inverse (plus point (get_or points at 0))))) points (at + 1) point x
    ≡ whole product points at point x
whole_other product points at point x l n =
    let other : ℕ = get_or points at 0 in
    let rest : List ℕ = drop (at + 1) points in
    times_assoc product (times (plus x other) (inverse (plus point other))) (basis rest point x)
    ∙ sym
    (ap (λ left. times product (basis left point x)) (drop_more points at 0 l)
    ∙ ap (times product) (basis-other other point x rest n))

pub differ : (point other : ℕ) → other ≢ point → plus point other ≢ 0
differ point other n e = n (sym (xor_zero point other e))

-- the exponent of one factor more
pub one_factor : (exponent point x other k l : ℕ) → point < 2 ^ 8 → x < 2 ^ 8 → other < 2 ^ 8 → other ≢ point
    → power k ≡ plus x other → power l ≡ plus point other → l < 255
    → power (exponent + (k + 255 - l)) ≡ times (power exponent) (times (plus x other) (inverse (plus point other)))
one_factor exponent point x other k l hp hx ho n ek el low =
    power-add exponent (k + 255 - l)
    ∙ ap (times (power exponent))
    (power-quotient (plus x other) (plus point other) k l (xor_lt 8 x other hx ho) (xor_lt 8 point other hp ho)
    (differ point other n) ek el low)

-- no place is found only where none passes
none_passes : (p : ℕ → Bool) (xs : List ℕ) → position p xs ≡ None → length xs ≤ position_or_len p xs
none_passes p xs e = grind (arith, common_steps)

-- an index that stands nowhere is none of the points
pub apart_from : (points : List ℕ) (index : ℕ) → position (λ point. point == index) points ≡ None
    → All (λ other. other ≢ index) points
apart_from points index e =
    λ k d l same.
    true≢false
    (sym (eq-eqb (get_or points k d) index same) ∙ fails_before_first (λ point. point == index) points k d
    (let past = none_passes (λ point. point == index) points e in omega arith))
