-- The laws of the field, for all numbers where they hold so.
use Rattle.std.proofs.Common.{◌≡◌, ◌≢◌, ℕ, zero, suc, ◌+◌, ◌*◌, ◌%◌, ◌^◌, ◌<◌, ◌⊎◌, Bool, true, refl, sym, ap, ap₂, ◌∙◌, subst, arith, inl, inr, eqb-true, ltb-true, mod-eq_of_lt}
use Rattle.std.specs.Prelude.{bit_xor, nat_eq, nat_lt}
use Rattle.std.specs.Int.Bits.{xor_self, xor_mod, xor_lt}
use Rattle.std.proofs.lemmas.Bool.{cases_eq}
use Rattle.gf256.specs.Field.{modulus, coefficient, product, remainder, plus, times, squares, inverse}
use Rattle.gf256.proofs.Xor.{xor_medial, xor_shift, xor_scale, scale_xor, coefficient_bit, coefficient_xor, by_bits}
use Rattle.gf256.proofs.Below.{each_below, each_below_at}

-- products and remainders of sums

product_xor_left : (k a b c : ℕ) → product k (bit_xor a b) c ≡ bit_xor (product k a c) (product k b c)
unfolding product
product_xor_left zero a b c = refl
product_xor_left (suc k) a b c =
    ap₂ bit_xor
    (product_xor_left k a b c)
    (ap (λ x. coefficient c k * x) (xor_shift a b k)
    ∙ scale_xor (coefficient c k) (a * 2 ^ k) (b * 2 ^ k) (coefficient_bit c k))
    ∙ xor_medial (product k a c) (product k b c) (coefficient c k * (a * 2 ^ k)) (coefficient c k * (b * 2 ^ k))

product_xor_right : (k a b c : ℕ) → product k a (bit_xor b c) ≡ bit_xor (product k a b) (product k a c)
unfolding product
product_xor_right zero a b c = refl
product_xor_right (suc k) a b c =
    ap₂ bit_xor
    (product_xor_right k a b c)
    (ap (λ x. x * (a * 2 ^ k)) (coefficient_xor b c k)
    ∙ xor_scale (coefficient b k) (coefficient c k) (a * 2 ^ k) (coefficient_bit b k) (coefficient_bit c k))
    ∙ xor_medial (product k a b) (product k a c) (coefficient b k * (a * 2 ^ k)) (coefficient c k * (a * 2 ^ k))

remainder_xor : (k a b : ℕ) → remainder k (bit_xor a b) ≡ bit_xor (remainder k a) (remainder k b)
unfolding remainder
remainder_xor zero a b = refl
remainder_xor (suc k) a b =
    let m : ℕ = modulus * 2 ^ k in
    ap (λ x. remainder k (bit_xor (bit_xor a b) (x * m))) (coefficient_xor a b (8 + k))
    ∙ ap (λ x. remainder k (bit_xor (bit_xor a b) x))
    (xor_scale (coefficient a (8 + k)) (coefficient b (8 + k)) m (coefficient_bit a (8 + k)) (coefficient_bit b (8 + k)))
    ∙ ap (remainder k) (xor_medial a b (coefficient a (8 + k) * m) (coefficient b (8 + k) * m))
    ∙ remainder_xor k (bit_xor a (coefficient a (8 + k) * m)) (bit_xor b (coefficient b (8 + k) * m))

-- the two distributive laws

pub times-plus_left : (a b c : ℕ) → times (plus a b) c ≡ plus (times a c) (times b c)
unfolding times
times-plus_left a b c =
    ap (λ x. remainder 7 (product 8 x (c % 2 ^ 8))) (xor_mod a b 8)
    ∙ ap (remainder 7) (product_xor_left 8 (a % 2 ^ 8) (b % 2 ^ 8) (c % 2 ^ 8))
    ∙ remainder_xor 7 (product 8 (a % 2 ^ 8) (c % 2 ^ 8)) (product 8 (b % 2 ^ 8) (c % 2 ^ 8))

pub times-plus : (a b c : ℕ) → times a (plus b c) ≡ plus (times a b) (times a c)
unfolding times
times-plus a b c =
    ap (λ x. remainder 7 (product 8 (a % 2 ^ 8) x)) (xor_mod b c 8)
    ∙ ap (remainder 7) (product_xor_right 8 (a % 2 ^ 8) (b % 2 ^ 8) (c % 2 ^ 8))
    ∙ remainder_xor 7 (product 8 (a % 2 ^ 8) (b % 2 ^ 8)) (product 8 (a % 2 ^ 8) (c % 2 ^ 8))

-- products with 0

zero_of_double : (z : ℕ) → z ≡ bit_xor z z → z ≡ 0
zero_of_double z e = e ∙ xor_self z

pub times-zero_left : (a : ℕ) → times 0 a ≡ 0
times-zero_left a = zero_of_double (times 0 a) (times-plus_left 0 0 a)

pub times-zero : (a : ℕ) → times a 0 ≡ 0
times-zero a = zero_of_double (times a 0) (times-plus a 0 0)

-- only the low byte of a factor counts

mod_twice : (a : ℕ) → a % 2 ^ 8 % 2 ^ 8 ≡ a % 2 ^ 8
mod_twice a = mod-eq_of_lt (omega arith)

pub times-low_left : (a b : ℕ) → times (a % 2 ^ 8) b ≡ times a b
unfolding times
times-low_left a b = ap (λ x. remainder 7 (product 8 x (b % 2 ^ 8))) (mod_twice a)

pub times-low : (a b : ℕ) → times a (b % 2 ^ 8) ≡ times a b
unfolding times
times-low a b = ap (λ x. remainder 7 (product 8 (a % 2 ^ 8) x)) (mod_twice b)

low : (a : ℕ) → a % 2 ^ 8 < 2 ^ 8
low a = omega arith

-- a product is a byte

pub is_byte_at : ℕ → ℕ → Bool
is_byte_at i j = nat_lt (times (2 ^ i) (2 ^ j)) 256

all_bytes : each_below 8 (λ i. each_below 8 (is_byte_at i)) ≡ true
unfolding is_byte_at times product remainder coefficient
all_bytes = refl

byte_at : (i j : ℕ) → i < 8 → j < 8 → times (2 ^ i) (2 ^ j) < 2 ^ 8
unfolding is_byte_at
byte_at i j hi hj =
    ltb-true _ _ (each_below_at 8 (is_byte_at i) (each_below_at 8 (λ i. each_below 8 (is_byte_at i)) all_bytes i hi) j hj)

times_low_byte : (a b : ℕ) → a < 2 ^ 8 → b < 2 ^ 8 → times a b < 2 ^ 8
times_low_byte a b ha hb =
    by_bits (λ a. times a b < 2 ^ 8)
    (let e : times 0 b ≡ 0 = times-zero_left b in omega arith)
    (λ x y hx hy. subst (λ z. z < 2 ^ 8) (sym (times-plus_left x y b)) (xor_lt 8 (times x b) (times y b) hx hy))
    8
    (λ i hi. by_bits (λ b. times (2 ^ i) b < 2 ^ 8)
    (let e : times (2 ^ i) 0 ≡ 0 = times-zero (2 ^ i) in omega arith)
    (λ x y hx hy. subst (λ z. z < 2 ^ 8) (sym (times-plus (2 ^ i) x y)) (xor_lt 8 (times (2 ^ i) x) (times (2 ^ i) y) hx hy))
    8
    (λ j hj. byte_at i j hi hj)
    b hb)
    a ha

pub times_byte : (a b : ℕ) → times a b < 2 ^ 8
times_byte a b =
    subst (λ z. z < 2 ^ 8) (times-low_left a (b % 2 ^ 8) ∙ times-low a b)
    (times_low_byte (a % 2 ^ 8) (b % 2 ^ 8) (low a) (low b))

-- products commute

pub commutes_at : ℕ → ℕ → Bool
commutes_at i j = nat_eq (times (2 ^ i) (2 ^ j)) (times (2 ^ j) (2 ^ i))

all_commute : each_below 8 (λ i. each_below 8 (commutes_at i)) ≡ true
unfolding commutes_at times product remainder coefficient
all_commute = refl

comm_at : (i j : ℕ) → i < 8 → j < 8 → times (2 ^ i) (2 ^ j) ≡ times (2 ^ j) (2 ^ i)
unfolding commutes_at
comm_at i j hi hj =
    eqb-true _ _ (each_below_at 8 (commutes_at i) (each_below_at 8 (λ i. each_below 8 (commutes_at i)) all_commute i hi) j hj)

times_low_comm : (a b : ℕ) → a < 2 ^ 8 → b < 2 ^ 8 → times a b ≡ times b a
times_low_comm a b ha hb =
    by_bits (λ a. times a b ≡ times b a)
    (times-zero_left b ∙ sym (times-zero b))
    (λ x y hx hy. times-plus_left x y b ∙ ap₂ bit_xor hx hy ∙ sym (times-plus b x y))
    8
    (λ i hi. by_bits (λ b. times (2 ^ i) b ≡ times b (2 ^ i))
    (times-zero (2 ^ i) ∙ sym (times-zero_left (2 ^ i)))
    (λ x y hx hy. times-plus (2 ^ i) x y ∙ ap₂ bit_xor hx hy ∙ sym (times-plus_left x y (2 ^ i)))
    8
    (λ j hj. comm_at i j hi hj)
    b hb)
    a ha

pub times_comm : (a b : ℕ) → times a b ≡ times b a
times_comm a b =
    sym (times-low_left a (b % 2 ^ 8) ∙ times-low a b)
    ∙ times_low_comm (a % 2 ^ 8) (b % 2 ^ 8) (low a) (low b)
    ∙ (times-low_left b (a % 2 ^ 8) ∙ times-low b a)

-- products associate

pub associates_at : ℕ → ℕ → ℕ → Bool
associates_at i j k = nat_eq (times (times (2 ^ i) (2 ^ j)) (2 ^ k)) (times (2 ^ i) (times (2 ^ j) (2 ^ k)))

all_associate : each_below 8 (λ i. each_below 8 (λ j. each_below 8 (associates_at i j))) ≡ true
unfolding associates_at times product remainder coefficient
all_associate = refl

assoc_at : (i j k : ℕ) → i < 8 → j < 8 → k < 8
    → times (times (2 ^ i) (2 ^ j)) (2 ^ k) ≡ times (2 ^ i) (times (2 ^ j) (2 ^ k))
unfolding associates_at
assoc_at i j k hi hj hk =
    eqb-true _ _
    (each_below_at 8 (associates_at i j)
    (each_below_at 8 (λ j. each_below 8 (associates_at i j))
    (each_below_at 8 (λ i. each_below 8 (λ j. each_below 8 (associates_at i j))) all_associate i hi)
    j hj)
    k hk)

times_low_assoc : (a b c : ℕ) → a < 2 ^ 8 → b < 2 ^ 8 → c < 2 ^ 8 → times (times a b) c ≡ times a (times b c)
times_low_assoc a b c ha hb hc =
    by_bits (λ a. times (times a b) c ≡ times a (times b c))
    (ap (λ z. times z c) (times-zero_left b) ∙ times-zero_left c ∙ sym (times-zero_left (times b c)))
    (λ x y hx hy.
    ap (λ z. times z c) (times-plus_left x y b) ∙ times-plus_left (times x b) (times y b) c
    ∙ ap₂ bit_xor hx hy ∙ sym (times-plus_left x y (times b c)))
    8
    (λ i hi. by_bits (λ b. times (times (2 ^ i) b) c ≡ times (2 ^ i) (times b c))
    (ap (λ z. times z c) (times-zero (2 ^ i)) ∙ times-zero_left c
    ∙ sym (ap (times (2 ^ i)) (times-zero_left c) ∙ times-zero (2 ^ i)))
    (λ x y hx hy.
    ap (λ z. times z c) (times-plus (2 ^ i) x y) ∙ times-plus_left (times (2 ^ i) x) (times (2 ^ i) y) c
    ∙ ap₂ bit_xor hx hy
    ∙ sym (ap (times (2 ^ i)) (times-plus_left x y c) ∙ times-plus (2 ^ i) (times x c) (times y c)))
    8
    (λ j hj. by_bits (λ c. times (times (2 ^ i) (2 ^ j)) c ≡ times (2 ^ i) (times (2 ^ j) c))
    (times-zero (times (2 ^ i) (2 ^ j)) ∙ sym (ap (times (2 ^ i)) (times-zero (2 ^ j)) ∙ times-zero (2 ^ i)))
    (λ x y hx hy.
    times-plus (times (2 ^ i) (2 ^ j)) x y ∙ ap₂ bit_xor hx hy
    ∙ sym (ap (times (2 ^ i)) (times-plus (2 ^ j) x y) ∙ times-plus (2 ^ i) (times (2 ^ j) x) (times (2 ^ j) y)))
    8
    (λ k hk. assoc_at i j k hi hj hk)
    c hc)
    b hb)
    a ha

pub times_assoc : (a b c : ℕ) → times (times a b) c ≡ times a (times b c)
times_assoc a b c =
    let e : times (a % 2 ^ 8) (b % 2 ^ 8) ≡ times a b = times-low_left a (b % 2 ^ 8) ∙ times-low a b in
    let f : times (b % 2 ^ 8) (c % 2 ^ 8) ≡ times b c = times-low_left b (c % 2 ^ 8) ∙ times-low b c in
    sym (ap (λ z. times z (c % 2 ^ 8)) e ∙ times-low (times a b) c)
    ∙ times_low_assoc (a % 2 ^ 8) (b % 2 ^ 8) (c % 2 ^ 8) (low a) (low b) (low c)
    ∙ (times-low_left a (times (b % 2 ^ 8) (c % 2 ^ 8)) ∙ ap (times a) f)

pub times_left_comm : (a b c : ℕ) → times a (times b c) ≡ times b (times a c)
times_left_comm a b c = sym (times_assoc a b c) ∙ ap (λ z. times z c) (times_comm a b) ∙ times_assoc b a c

-- one, and inverses

pub is_one_at : ℕ → Bool
is_one_at i = nat_eq (times 1 (2 ^ i)) (2 ^ i)

all_one : each_below 8 is_one_at ≡ true
unfolding is_one_at times product remainder coefficient
all_one = refl

one_at : (i : ℕ) → i < 8 → times 1 (2 ^ i) ≡ 2 ^ i
unfolding is_one_at
one_at i hi = eqb-true _ _ (each_below_at 8 is_one_at all_one i hi)

pub times-one_left : (a : ℕ) → a < 2 ^ 8 → times 1 a ≡ a
times-one_left a h =
    by_bits (λ a. times 1 a ≡ a) (times-zero 1) (λ x y hx hy. times-plus 1 x y ∙ ap₂ bit_xor hx hy) 8 one_at a h

pub times-one : (a : ℕ) → a < 2 ^ 8 → times a 1 ≡ a
times-one a h = times_comm a 1 ∙ times-one_left a h

pub inverts_at : ℕ → Bool
inverts_at a = nat_eq (times (suc a) (inverse (suc a))) 1

all_invert : each_below 255 inverts_at ≡ true
unfolding inverts_at inverse squares times product remainder coefficient
all_invert = refl

pub times-inverse : (a : ℕ) → a < 2 ^ 8 → a ≢ 0 → times a (inverse a) ≡ 1
unfolding inverts_at
times-inverse zero h n = absurd (n refl)
times-inverse (suc a) h n = eqb-true _ _ (each_below_at 255 inverts_at all_invert a (omega arith))

pub inverse_byte : (a : ℕ) → inverse a < 2 ^ 8
unfolding inverse squares
inverse_byte a = times_byte (times a a) (squares 6 (times a a))

-- a product with an element that is not 0 can be undone
pub times_cancel : (a b : ℕ) → a < 2 ^ 8 → b < 2 ^ 8 → a ≢ 0 → times (inverse a) (times a b) ≡ b
times_cancel a b ha hb n =
    sym (times_assoc (inverse a) a b)
    ∙ ap (λ z. times z b) (times_comm (inverse a) a ∙ times-inverse a ha n)
    ∙ times-one_left b hb

-- a product is 0 only where a factor is
pub no_zero_divisors : (a b : ℕ) → a < 2 ^ 8 → b < 2 ^ 8 → times a b ≡ 0 → (a ≡ 0) ⊎ (b ≡ 0)
no_zero_divisors a b ha hb e =
    elim (cases_eq a 0) [
      | inl z ↦ inl z
      | inr n ↦ inr (sym (times_cancel a b ha hb n) ∙ ap (times (inverse a)) e ∙ times-zero (inverse a))
    ]
