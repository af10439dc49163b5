-- The field of 256 elements. A byte is a polynomial over two elements, of degree below 8: bit k is the
-- coefficient of x^k. A sum is the XOR, and a product is taken modulo x^8 + x^4 + x^3 + x^2 + 1.
use Rattle.std.specs.Prelude.{ℕ, zero, suc, ◌+◌, ◌*◌, ◌/◌, ◌%◌, ◌^◌, bit_xor}

-- x^8 + x^4 + x^3 + x^2 + 1
abbrev pub modulus : ℕ
modulus = 0x11d

-- the coefficient of x^k
unfoldable pub coefficient : ℕ → ℕ → ℕ
coefficient polynomial k = polynomial / 2 ^ k % 2

-- the product of `a` with the terms of `b` below x^k: `a` by the power of x, for each term that `b` has
unfoldable pub product : ℕ → ℕ → ℕ → ℕ
product zero a b = 0
product (suc k) a b = bit_xor (product k a b) (coefficient b k * (a * 2 ^ k))

-- the remainder, by the modulus, of a polynomial of degree below 8 + k: highest term first, a multiple
-- of the modulus takes it away
unfoldable pub remainder : ℕ → ℕ → ℕ
remainder zero n = n
remainder (suc k) n = remainder k (bit_xor n (coefficient n (8 + k) * (modulus * 2 ^ k)))

-- the sum of two elements
abbrev pub plus : ℕ → ℕ → ℕ
plus a b = bit_xor a b

-- the product of two elements
unfoldable pub times : ℕ → ℕ → ℕ
times a b = remainder 7 (product 8 (a % 2 ^ 8) (b % 2 ^ 8))

-- a^2 * a^4 * .., the product of the first k of these squares of squares
unfoldable pub squares : ℕ → ℕ → ℕ
squares zero a = 1
squares (suc k) a = times (times a a) (squares k (times a a))

-- the inverse of an element that is not 0: a^254, since a^255 is 1 for each of the 255
unfoldable pub inverse : ℕ → ℕ
inverse a = squares 7 a

-- the powers of the element 2, of which each element but 0 is one
unfoldable pub power : ℕ → ℕ
power zero = 1
power (suc n) = times 2 (power n)
