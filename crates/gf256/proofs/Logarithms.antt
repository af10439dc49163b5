-- The two tables hold what they say, so a product and an inverse are found in them.
use Rattle.std.proofs.Common.{◌≡◌, ◌≢◌, ℕ, zero, suc, ◌+◌, ◌-◌, ◌*◌, ◌/◌, ◌%◌, ◌^◌, ◌<◌, ◌≤◌, Bool, true, ◌&&◌, refl, sym, ap, ap₂, ◌∙◌, arith, eqb-true, ltb-true, get_or, zero-add, suc-add, add_comm}
use Rattle.std.specs.Prelude.{nat_eq, nat_lt}
use Rattle.std.proofs.lemmas.Bool.{and_parts}
use Rattle.gf256.specs.Field.{coefficient, product, remainder, times, squares, inverse, power}
use Rattle.gf256.specs.declared.tables.TheConstants.{POWERS, LOGARITHMS}
use Rattle.gf256.proofs.Below.{each_below, each_below_at}
use Rattle.gf256.proofs.FieldLaws.{times-zero_left, times-zero, times_assoc, times-one_left, times-one, times_byte, times_cancel, inverse_byte}

pub power_byte : (k : ℕ) → power k < 2 ^ 8
unfolding power
power_byte zero = omega arith
power_byte (suc k) = times_byte 2 (power k)

pub power-add : (i j : ℕ) → power (i + j) ≡ times (power i) (power j)
unfolding power
power-add zero j = ap power (zero-add j) ∙ sym (times-one_left (power j) (power_byte j))
power-add (suc i) j =
    ap power (suc-add i j) ∙ ap (times 2) (power-add i j) ∙ sym (times_assoc 2 (power i) (power j))

-- the table of powers, entry by entry

pub doubles_at : ℕ → Bool
doubles_at k = nat_eq (get_or POWERS (suc k) 0) (times 2 (get_or POWERS k 0))

all_double : each_below 509 doubles_at ≡ true
unfolding doubles_at times product remainder coefficient
all_double = refl

pub power_at : (k : ℕ) → k < 510 → get_or POWERS k 0 ≡ power k
unfolding power doubles_at
power_at zero h = refl
power_at (suc k) h =
    eqb-true _ _ (each_below_at 509 doubles_at all_double k (omega arith)) ∙ ap (times 2) (power_at k (omega arith))

pub vanishes_at : ℕ → Bool
vanishes_at k = nat_eq (get_or POWERS (k + 510) 0) 0

all_vanish : each_below 511 vanishes_at ≡ true
unfolding vanishes_at
all_vanish = refl

pub zero_power_at : (k : ℕ) → k < 511 → get_or POWERS (k + 510) 0 ≡ 0
unfolding vanishes_at
zero_power_at k h = eqb-true _ _ (each_below_at 511 vanishes_at all_vanish k h)

-- the table of logarithms, entry by entry

pub undone_at : ℕ → Bool
undone_at a = nat_lt (get_or LOGARITHMS (suc a) 0) 255 && nat_eq (get_or POWERS (get_or LOGARITHMS (suc a) 0) 0) (suc a)

all_undone : each_below 255 undone_at ≡ true
unfolding undone_at
all_undone = refl

pub logarithm_below : (a : ℕ) → suc a < 2 ^ 8 → get_or LOGARITHMS (suc a) 0 < 255
unfolding undone_at
logarithm_below a h = ltb-true _ _ (and_parts _ _ (each_below_at 255 undone_at all_undone a (omega arith))).0

pub power_of_logarithm : (a : ℕ) → suc a < 2 ^ 8 → power (get_or LOGARITHMS (suc a) 0) ≡ suc a
unfolding undone_at
power_of_logarithm a h =
    let l = logarithm_below a h in
    sym (power_at (get_or LOGARITHMS (suc a) 0) (omega arith))
    ∙ eqb-true _ _ (and_parts _ _ (each_below_at 255 undone_at all_undone a (omega arith))).1

-- a logarithm, also that which stands for 0, is at most 510
pub logarithm_most : (a : ℕ) → a < 2 ^ 8 → get_or LOGARITHMS a 0 ≤ 510
logarithm_most zero h = omega arith
logarithm_most (suc a) h = let l = logarithm_below a h in omega arith

-- the product found by two logarithms
pub product_found : (a b : ℕ) → a < 2 ^ 8 → b < 2 ^ 8
    → get_or POWERS (get_or LOGARITHMS a 0 + get_or LOGARITHMS b 0) 0 ≡ times a b
product_found zero b ha hb =
    ap (λ k. get_or POWERS k 0) (add_comm 510 (get_or LOGARITHMS b 0))
    ∙ zero_power_at (get_or LOGARITHMS b 0) (let l = logarithm_most b hb in omega arith)
    ∙ sym (times-zero_left b)
product_found (suc a) zero ha hb =
    zero_power_at (get_or LOGARITHMS (suc a) 0) (let l = logarithm_most (suc a) ha in omega arith)
    ∙ sym (times-zero (suc a))
product_found (suc a) (suc b) ha hb =
    let la = logarithm_below a ha in
    let lb = logarithm_below b hb in
    power_at (get_or LOGARITHMS (suc a) 0 + get_or LOGARITHMS (suc b) 0) (omega arith)
    ∙ power-add (get_or LOGARITHMS (suc a) 0) (get_or LOGARITHMS (suc b) 0)
    ∙ ap₂ times (power_of_logarithm a ha) (power_of_logarithm b hb)

-- the inverse found by a logarithm

pub inverse_found_at : ℕ → Bool
inverse_found_at a = nat_eq (get_or POWERS (255 - get_or LOGARITHMS (suc a) 0) 0) (inverse (suc a))

all_inverses_found : each_below 255 inverse_found_at ≡ true
unfolding inverse_found_at inverse squares times product remainder coefficient
all_inverses_found = refl

pub inverse_found : (a : ℕ) → a < 2 ^ 8 → a ≢ 0 → get_or POWERS (255 - get_or LOGARITHMS a 0) 0 ≡ inverse a
unfolding inverse_found_at
inverse_found zero h n = absurd (n refl)
inverse_found (suc a) h n = eqb-true _ _ (each_below_at 255 inverse_found_at all_inverses_found a (omega arith))

pub inverse_place : (a : ℕ) → a < 2 ^ 8 → a ≢ 0 → get_or LOGARITHMS a 0 ≤ 255
inverse_place zero h n = absurd (n refl)
inverse_place (suc a) h n = let l = logarithm_below a h in omega arith

pub power-zero : power 0 ≡ 1
unfolding power
power-zero = refl

-- powers repeat after 255

power_of_period : power 255 ≡ 1
power_of_period = sym (power_at 255 (omega arith))

power_of_periods : (n : ℕ) → power (n * 255) ≡ 1
unfolding power
power_of_periods zero = refl
power_of_periods (suc n) =
    ap power (let e : suc n * 255 ≡ 255 + n * 255 = omega arith in e)
    ∙ power-add 255 (n * 255)
    ∙ ap₂ times power_of_period (power_of_periods n)
    ∙ times-one_left 1 (omega arith)

pub power-mod : (n : ℕ) → power (n % 255) ≡ power n
power-mod n =
    sym (times-one_left (power (n % 255)) (power_byte (n % 255)))
    ∙ ap (λ z. times z (power (n % 255))) (sym (power_of_periods (n / 255)))
    ∙ sym (power-add (n / 255 * 255) (n % 255))
    ∙ ap power (let e : n / 255 * 255 + n % 255 ≡ n = omega arith in e)

pub power_found : (n : ℕ) → get_or POWERS (n % 255) 0 ≡ power n
power_found n = power_at (n % 255) (omega arith) ∙ power-mod n

pub logarithm_is : (a : ℕ) → a < 2 ^ 8 → a ≢ 0 → (power (get_or LOGARITHMS a 0) ≡ a) × (get_or LOGARITHMS a 0 < 255)
logarithm_is zero h n = absurd (n refl)
logarithm_is (suc a) h n = (power_of_logarithm a h, logarithm_below a h)

-- the exponents of a quotient
pub power-quotient : (a b k l : ℕ) → a < 2 ^ 8 → b < 2 ^ 8 → b ≢ 0 → power k ≡ a → power l ≡ b → l < 255
    → power (k + 255 - l) ≡ times a (inverse b)
power-quotient a b k l ha hb n ea eb low =
    let rest : ℕ = 255 - l in
    let one : times b (power rest) ≡ 1 =
    ap (λ z. times z (power rest)) (sym eb)
    ∙ sym (power-add l rest)
    ∙ ap power (let e : l + rest ≡ 255 = omega arith in e)
    ∙ power_of_period in
    let undone : power rest ≡ inverse b =
    sym (times_cancel b (power rest) hb (power_byte rest) n)
    ∙ ap (times (inverse b)) one
    ∙ times-one (inverse b) (inverse_byte b) in
    ap power (let e : k + 255 - l ≡ k + rest = omega arith in e)
    ∙ power-add k rest
    ∙ ap₂ times ea undone
