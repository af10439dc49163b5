-- XOR on numbers: a sum of four in another order, and a bit times a number.
use Rattle.std.proofs.Common.{◌≡◌, ℕ, zero, suc, ◌+◌, ◌*◌, ◌/◌, ◌%◌, ◌^◌, ◌<◌, sym, ap, ap₂, ◌∙◌, subst, arith, add-zero, one-mul, pow_pos, mod-lt, pow-suc, mul_comm, lt-suc_self}
use Rattle.std.proofs.lemmas.Nat.{shr_split, div_below}
use Rattle.std.specs.Prelude.{bit_xor}
use Rattle.std.specs.Int.Bits.{xor_assoc, xor_comm, xor_self, xor_zero_r, xor_shifted, xor_block, xor_shr, xor_mod}
use Rattle.std.proofs.Math.Nat.{zero-mul}
use Rattle.gf256.specs.Field.{coefficient}

-- the two in the middle change places
pub xor_medial : (a b c d : ℕ) → bit_xor (bit_xor a b) (bit_xor c d) ≡ bit_xor (bit_xor a c) (bit_xor b d)
xor_medial a b c d =
    xor_assoc a b (bit_xor c d)
    ∙ ap (bit_xor a) (sym (xor_assoc b c d) ∙ ap (λ x. bit_xor x d) (xor_comm b c) ∙ xor_assoc c b d)
    ∙ sym (xor_assoc a c (bit_xor b d))

-- adding the same twice changes nothing
pub xor_twice : (a b : ℕ) → bit_xor a (bit_xor a b) ≡ b
xor_twice a b = sym (xor_assoc a a b) ∙ ap (λ x. bit_xor x b) (xor_self a)

-- two numbers whose XOR is 0 are one
pub xor_zero : (a b : ℕ) → bit_xor a b ≡ 0 → a ≡ b
xor_zero a b e = sym (xor_zero_r a) ∙ ap (bit_xor a) (sym e) ∙ xor_twice a b

-- a shift of a XOR
pub xor_shift : (a b k : ℕ) → bit_xor a b * 2 ^ k ≡ bit_xor (a * 2 ^ k) (b * 2 ^ k)
xor_shift a b k =
    let e : bit_xor (a * 2 ^ k + 0) (b * 2 ^ k + 0) ≡ bit_xor a b * 2 ^ k + 0 = xor_block k a b 0 0 (pow_pos k) (pow_pos k) in
    sym (sym (ap₂ bit_xor (add-zero (a * 2 ^ k)) (add-zero (b * 2 ^ k))) ∙ e ∙ add-zero (bit_xor a b * 2 ^ k))

-- a bit times a number, where the bit is a XOR of two
pub xor_scale : (c d x : ℕ) → c < 2 → d < 2 → bit_xor c d * x ≡ bit_xor (c * x) (d * x)
xor_scale zero d x hc hd = ap (λ z. bit_xor z (d * x)) (sym (zero-mul x))
xor_scale (suc zero) zero x hc hd =
    sym (xor_zero_r (1 * x)) ∙ ap (bit_xor (1 * x)) (sym (zero-mul x))
xor_scale (suc zero) (suc zero) x hc hd = zero-mul x ∙ sym (xor_self (1 * x))
xor_scale (suc zero) (suc (suc d)) x hc hd = absurd (omega arith)
xor_scale (suc (suc c)) d x hc hd = absurd (omega arith)

-- a bit times a XOR
pub scale_xor : (c x y : ℕ) → c < 2 → c * bit_xor x y ≡ bit_xor (c * x) (c * y)
scale_xor zero x y h = zero-mul (bit_xor x y) ∙ sym (ap₂ bit_xor (zero-mul x) (zero-mul y))
scale_xor (suc zero) x y h = one-mul (bit_xor x y) ∙ sym (ap₂ bit_xor (one-mul x) (one-mul y))
scale_xor (suc (suc c)) x y h = absurd (omega arith)

pub coefficient_bit : (n k : ℕ) → coefficient n k < 2
unfolding coefficient
coefficient_bit n k = omega arith

-- the coefficients of a sum
pub coefficient_xor : (a b k : ℕ) → coefficient (bit_xor a b) k ≡ bit_xor (coefficient a k) (coefficient b k)
unfolding coefficient
coefficient_xor a b k = ap (λ n. n % 2) (xor_shr a b k) ∙ xor_mod (a / 2 ^ k) (b / 2 ^ k) 1

-- what holds of 0, of the first k powers of 2, and with two numbers of their XOR, holds below 2^k
pub by_bits : (P : ℕ → Type 0) → P 0 → ((a b : ℕ) → P a → P b → P (bit_xor a b))
    → (k : ℕ) → ((i : ℕ) → i < k → P (2 ^ i)) → (n : ℕ) → n < 2 ^ k → P n
by_bits P none joined zero powers n h = let e : 0 ≡ n = omega arith in subst P e none
by_bits P none joined (suc k) powers n h =
    let low : P (n % 2 ^ k) =
    by_bits P none joined k (λ i l. powers i (omega arith)) (n % 2 ^ k) (mod-lt n (pow_pos k)) in
    let high : P (n / 2 ^ k * 2 ^ k) = top (n / 2 ^ k) (div_below n (2 ^ k) 2 (pow_pos k) (subst (λ m. n < m) (pow-suc 2 k ∙ mul_comm (2 ^ k) 2) h)) in
    subst P
    (xor_shifted (n / 2 ^ k) k (n % 2 ^ k) (mod-lt n (pow_pos k)) ∙ shr_split n k)
    (joined (n / 2 ^ k * 2 ^ k) (n % 2 ^ k) high low)
  where
    top : (q : ℕ) → q < 2 → P (q * 2 ^ k)
    top zero l = subst P (sym (zero-mul (2 ^ k))) none
    top (suc zero) l = subst P (sym (one-mul (2 ^ k))) (powers k (lt-suc_self k))
    top (suc (suc q)) l = absurd (omega arith)
