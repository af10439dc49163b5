-- Polynomials over the field as functions, and that one with as many roots as its degree bounds is zero.
use Rattle.std.proofs.Common.{◌≡◌, ℕ, zero, suc, ◌^◌, ◌<◌, List, [], ◌∷◌, length, refl, sym, ap, ap₂, ◌∙◌, subst, arith, ⊎_elim}
use Rattle.std.specs.Int.Bits.{xor_comm, xor_assoc, xor_self, xor_zero_r, xor_lt}
use Rattle.gf256.specs.Field.{plus, times}
use Rattle.gf256.specs.Polynomial.{IsPolynomial}
use Rattle.gf256.proofs.Points.{Avoids, Points}
use Rattle.gf256.proofs.Xor.{xor_medial, xor_zero}
use Rattle.gf256.proofs.FieldLaws.{times-plus, times-plus_left, times-zero, times_assoc, times_left_comm, times_byte, no_zero_divisors}

pub value_byte : (d : ℕ) (f : ℕ → ℕ) → IsPolynomial d f → (x : ℕ) → f x < 2 ^ 8
value_byte zero f p x = subst (λ y. y < 2 ^ 8) (sym (p x)) (omega arith)
value_byte (suc d) f p x =
    subst (λ y. y < 2 ^ 8) (sym (p.4 x)) (xor_lt 8 p.0 (times x (p.1 x)) p.2 (times_byte x (p.1 x)))

pub same_values : (d : ℕ) (f g : ℕ → ℕ) → ((x : ℕ) → f x ≡ g x) → IsPolynomial d g → IsPolynomial d f
same_values zero f g e p = λ x. e x ∙ p x
same_values (suc d) f g e p = (p.0, p.1, p.2, p.3, λ x. e x ∙ p.4 x)

pub nothing : (d : ℕ) → IsPolynomial d (λ x. 0)
nothing zero = λ x. refl
nothing (suc d) = (0, (λ x. 0), omega arith, nothing d, λ x. sym (times-zero x))

pub weaker : (d : ℕ) (f : ℕ → ℕ) → IsPolynomial d f → IsPolynomial (suc d) f
weaker zero f p = same_values 1 f (λ x. 0) p (nothing 1)
weaker (suc d) f p = (p.0, p.1, p.2, weaker d p.1 p.3, p.4)

pub constant : (c : ℕ) → c < 2 ^ 8 → IsPolynomial 1 (λ x. c)
constant c h =
    (c, (λ x. 0), h, (λ x. refl), λ x. sym (ap (plus c) (times-zero x) ∙ xor_zero_r c))

-- sums, multiples, and products with a linear factor

pub added : (d : ℕ) (f g : ℕ → ℕ) → IsPolynomial d f → IsPolynomial d g → IsPolynomial d (λ x. plus (f x) (g x))
added zero f g p q = λ x. ap₂ plus (p x) (q x)
added (suc d) f g p q = (
  plus p.0 q.0,
  (λ x. plus (p.1 x) (q.1 x)),
  xor_lt 8 p.0 q.0 p.2 q.2,
  added d p.1 q.1 p.3 q.3,
  λ x. ap₂ plus (p.4 x) (q.4 x)
      ∙ xor_medial p.0 (times x (p.1 x)) q.0 (times x (q.1 x))
      ∙ ap (plus (plus p.0 q.0)) (sym (times-plus x (p.1 x) (q.1 x))),
)

pub scaled : (d : ℕ) (f : ℕ → ℕ) (a : ℕ) → IsPolynomial d f → IsPolynomial d (λ x. times a (f x))
scaled zero f a p = λ x. ap (times a) (p x) ∙ times-zero a
scaled (suc d) f a p = (
  times a p.0,
  (λ x. times a (p.1 x)),
  times_byte a p.0,
  scaled d p.1 a p.3,
  λ x. ap (times a) (p.4 x)
      ∙ times-plus a p.0 (times x (p.1 x))
      ∙ ap (plus (times a p.0)) (times_left_comm a x (p.1 x)),
)

pub risen : (d : ℕ) (f : ℕ → ℕ) → IsPolynomial d f → IsPolynomial (suc d) (λ x. times x (f x))
risen d f p = (0, f, omega arith, p, λ x. refl)

-- the product with (x - m) / s, given the inverse k of s
pub linear : (d : ℕ) (f : ℕ → ℕ) (m k : ℕ) → IsPolynomial d f
    → IsPolynomial (suc d) (λ x. times (times (plus x m) k) (f x))
linear d f m k p =
    same_values (suc d)
    (λ x. times (times (plus x m) k) (f x))
    (λ x. plus (times x (times k (f x))) (times (times m k) (f x)))
    (λ x. ap (λ z. times z (f x)) (times-plus_left x m k)
    ∙ times-plus_left (times x k) (times m k) (f x)
    ∙ ap (λ z. plus z (times (times m k) (f x))) (times_assoc x k (f x)))
    (added (suc d)
    (λ x. times x (times k (f x)))
    (λ x. times (times m k) (f x))
    (risen d (λ x. times k (f x)) (scaled d f k p))
    (weaker d (λ x. times (times m k) (f x)) (scaled d f (times m k) p)))

-- a polynomial less its value at r is x - r times another

abbrev pub Quotient : ℕ → (ℕ → ℕ) → ℕ → Type 0
Quotient d f r = (q : ℕ → ℕ) × IsPolynomial d q × ((x : ℕ) → plus (f x) (f r) ≡ times (plus x r) (q x))

-- the constant falls out
difference : (c a b : ℕ) → plus (plus c a) (plus c b) ≡ plus a b
difference c a b = xor_medial c a c b ∙ ap (λ z. plus z (plus a b)) (xor_self c)

step : (x r q gx gr : ℕ) → plus gx gr ≡ times (plus x r) q
    → plus (times x gx) (times r gr) ≡ times (plus x r) (plus gr (times x q))
step x r q gx gr e =
    let s : ℕ = plus x r in
    let split : gx ≡ plus (times s q) gr =
    sym (xor_zero_r gx) ∙ ap (plus gx) (sym (xor_self gr)) ∙ sym (xor_assoc gx gr gr) ∙ ap (λ z. plus z gr) e in
    let first : times x gx ≡ plus (times s (times x q)) (times x gr) =
    ap (times x) split ∙ times-plus x (times s q) gr ∙ ap (λ z. plus z (times x gr)) (times_left_comm x s q) in
    ap (λ z. plus z (times r gr)) first
    ∙ xor_assoc (times s (times x q)) (times x gr) (times r gr)
    ∙ ap (plus (times s (times x q))) (sym (times-plus_left x r gr))
    ∙ sym (times-plus s (times x q) gr)
    ∙ ap (times s) (xor_comm (times x q) gr)

pub divide : (d : ℕ) (f : ℕ → ℕ) (r : ℕ) → IsPolynomial (suc d) f → Quotient d f r
divide zero f r p = (
  (λ x. 0),
  (λ x. refl),
  λ x. ap₂ plus (p.4 x) (p.4 r)
      ∙ difference p.0 (times x (p.1 x)) (times r (p.1 r))
      ∙ ap₂ plus (ap (times x) (p.3 x) ∙ times-zero x) (ap (times r) (p.3 r) ∙ times-zero r)
      ∙ sym (times-zero (plus x r)),
)
divide (suc d) f r p =
    let h : Quotient d p.1 r = divide d p.1 r p.3 in (
      (λ x. plus (p.1 r) (times x (h.0 x))),
      (p.1 r, h.0, value_byte (suc d) p.1 p.3 r, h.1, λ x. refl),
      λ x. ap₂ plus (p.4 x) (p.4 r)
          ∙ difference p.0 (times x (p.1 x)) (times r (p.1 r))
          ∙ step x r (h.0 x) (p.1 x) (p.1 r) (h.2 x),
    )

-- zero at each of them
abbrev pub AreRoots : (ℕ → ℕ) → List ℕ → Type 0
AreRoots f [] = Unit {0}
AreRoots f (r ∷ rs) = (f r ≡ 0) × AreRoots f rs

-- the other roots are the quotient's
roots_left : (f q : ℕ → ℕ) (r : ℕ) (rs : List ℕ) → r < 2 ^ 8 → f r ≡ 0 → ((x : ℕ) → q x < 2 ^ 8)
    → ((x : ℕ) → plus (f x) (f r) ≡ times (plus x r) (q x))
    → Avoids r rs → Points rs → AreRoots f rs → AreRoots q rs
roots_left f q r [] hr e b t a ps fs = tt
roots_left f q r (s ∷ rs) hr e b t a ps fs =
    let product : times (plus s r) (q s) ≡ 0 = sym (t s) ∙ ap₂ plus fs.0 e in (
      ⊎_elim
          (λ z. absurd (a.0 (xor_zero s r z)))
          (λ z. z)
          (no_zero_divisors (plus s r) (q s) (xor_lt 8 s r ps.0 hr) (b s) product),
      roots_left f q r rs hr e b t a.1 ps.2 fs.1,
    )

pub no_more_roots : (rs : List ℕ) (f : ℕ → ℕ) → IsPolynomial (length rs) f → Points rs → AreRoots f rs
    → (x : ℕ) → f x ≡ 0
no_more_roots [] f p ps fs = p
no_more_roots (r ∷ rs) f p ps fs =
    let h : Quotient (length rs) f r = divide (length rs) f r p in
    let zero_quotient : (x : ℕ) → h.0 x ≡ 0 =
    no_more_roots rs h.0 h.1 ps.2
    (roots_left f h.0 r rs ps.0 fs.0 (value_byte (length rs) h.0 h.1) h.2 ps.1 ps.2 fs.1) in
    λ x. sym (xor_zero_r (f x)) ∙ ap (plus (f x)) (sym fs.0) ∙ h.2 x
    ∙ ap (times (plus x r)) (zero_quotient x) ∙ times-zero (plus x r)

-- equal at each of them
abbrev pub AreEqualAt : (ℕ → ℕ) → (ℕ → ℕ) → List ℕ → Type 0
AreEqualAt f g [] = Unit {0}
AreEqualAt f g (p ∷ ps) = (f p ≡ g p) × AreEqualAt f g ps

roots_of_difference : (f g : ℕ → ℕ) (ps : List ℕ) → AreEqualAt f g ps → AreRoots (λ x. plus (f x) (g x)) ps
roots_of_difference f g [] e = tt
roots_of_difference f g (p ∷ ps) e =
    (ap (λ z. plus z (g p)) e.0 ∙ xor_self (g p), roots_of_difference f g ps e.1)

-- two polynomials of degree below the number of points at which they are equal are one
pub one_polynomial : (ps : List ℕ) (f g : ℕ → ℕ) → IsPolynomial (length ps) f → IsPolynomial (length ps) g
    → Points ps → AreEqualAt f g ps → (x : ℕ) → f x ≡ g x
one_polynomial ps f g p q points e x =
    xor_zero (f x) (g x)
    (no_more_roots ps (λ x. plus (f x) (g x)) (added (length ps) f g p q) points (roots_of_difference f g ps e) x)
