-- Lagrange's sum is a polynomial of degree below the number of points, it has the given values there,
-- and it is the only one that has.
use Rattle.std.proofs.Common.{◌≡◌, ◌≢◌, ℕ, zero, suc, ◌^◌, ◌<◌, ◌⊎◌, List, [], ◌∷◌, length, get_or, map, refl, sym, ap, ap₂, ◌∙◌, arith, inl, inr, ⊎_elim, if◌then◌else◌, eq-eqb, ne_eqb}
use Rattle.std.specs.Prelude.{slice_index}
use Rattle.std.specs.List.{All}
use Rattle.std.specs.Int.Bits.{xor_self, xor_zero_r, xor_lt}
use Rattle.std.proofs.lemmas.Bool.{cases_eq}
use Rattle.std.proofs.lemmas.List.{get_or-map, length-map}
use Rattle.gf256.specs.Field.{plus, times, inverse}
use Rattle.object_id.specs.Fields.{AreBytes}
use Rattle.gf256.specs.Polynomial.{IsPolynomial, ArePoints}
use Rattle.gf256.specs.Strip.{basis, coefficients, weighted_sum, lagrange}
use Rattle.gf256.proofs.Points.{Bytes, Avoids, Points, points_bytes, points_from, bytes_from}
use Rattle.gf256.proofs.Xor.{xor_zero}
use Rattle.gf256.proofs.FieldLaws.{times-zero, times-zero_left, times_comm, times-one_left, times-inverse}
use Rattle.gf256.proofs.Polynomial.{same_values, nothing, weaker, constant, added, scaled, linear, value_byte, AreEqualAt, one_polynomial}

-- the two cases of a factor

pub basis-own : (m p x : ℕ) (ms : List ℕ) → m ≡ p → basis (m ∷ ms) p x ≡ basis ms p x
unfolding basis
basis-own m p x ms e =
    ap (λ b. if b then basis ms p x else times (times (plus x m) (inverse (plus p m))) (basis ms p x)) (eq-eqb m p e)

pub basis-other : (m p x : ℕ) (ms : List ℕ) → m ≢ p
    → basis (m ∷ ms) p x ≡ times (times (plus x m) (inverse (plus p m))) (basis ms p x)
unfolding basis
basis-other m p x ms n =
    ap (λ b. if b then basis ms p x else times (times (plus x m) (inverse (plus p m))) (basis ms p x)) (ne_eqb m p n)

-- one of the points
abbrev pub IsAmong : ℕ → List ℕ → Type 0
IsAmong p [] = ⊥
IsAmong p (m ∷ ms) = (m ≡ p) ⊎ IsAmong p ms

-- each product is a polynomial, of one degree less where its own point is left out

basis_wide : (ms : List ℕ) (p : ℕ) → IsPolynomial (suc (length ms)) (basis ms p)
unfolding basis
basis_wide [] p = constant 1 (omega arith)
basis_wide (m ∷ ms) p =
    elim (cases_eq m p) [
      | inl e ↦
          same_values (suc (suc (length ms))) (basis (m ∷ ms) p) (basis ms p)
          (λ x. basis-own m p x ms e) (weaker (suc (length ms)) (basis ms p) (basis_wide ms p))
      | inr n ↦
          same_values (suc (suc (length ms))) (basis (m ∷ ms) p)
          (λ x. times (times (plus x m) (inverse (plus p m))) (basis ms p x))
          (λ x. basis-other m p x ms n)
          (linear (suc (length ms)) (basis ms p) m (inverse (plus p m)) (basis_wide ms p))
    ]

basis_polynomial : (ms : List ℕ) (p : ℕ) → IsAmong p ms → IsPolynomial (length ms) (basis ms p)
basis_polynomial [] p h = absurd h
basis_polynomial (m ∷ ms) p h =
    elim (cases_eq m p) [
      | inl e ↦
          same_values (suc (length ms)) (basis (m ∷ ms) p) (basis ms p) (λ x. basis-own m p x ms e) (basis_wide ms p)
      | inr n ↦
          same_values (suc (length ms)) (basis (m ∷ ms) p)
          (λ x. times (times (plus x m) (inverse (plus p m))) (basis ms p x))
          (λ x. basis-other m p x ms n)
          (linear (length ms) (basis ms p) m (inverse (plus p m))
          (basis_polynomial ms p (⊎_elim (λ e. absurd (n e)) (λ z. z) h)))
    ]

-- its value is 1 at its own point and 0 at the others

basis_one : (ms : List ℕ) (p : ℕ) → p < 2 ^ 8 → Bytes ms → basis ms p p ≡ 1
unfolding basis
basis_one [] p hp hs = refl
basis_one (m ∷ ms) p hp hs =
    elim (cases_eq m p) [
      | inl e ↦ basis-own m p p ms e ∙ basis_one ms p hp hs.1
      | inr n ↦
          basis-other m p p ms n
          ∙ ap₂ times
          (times-inverse (plus p m) (xor_lt 8 p m hp hs.0) (λ z. n (sym (xor_zero p m z))))
          (basis_one ms p hp hs.1)
          ∙ times-one_left 1 (omega arith)
    ]

basis_zero : (ms : List ℕ) (p r : ℕ) → r ≢ p → IsAmong r ms → basis ms p r ≡ 0
basis_zero [] p r n h = absurd h
basis_zero (m ∷ ms) p r n h =
    elim (cases_eq m p) [
      | inl e ↦
          basis-own m p r ms e
          ∙ basis_zero ms p r n (⊎_elim (λ d. absurd (n (sym d ∙ e))) (λ z. z) h)
      | inr o ↦
          basis-other m p r ms o
          ∙ ⊎_elim
          (λ d.
          ap (λ z. times (times z (inverse (plus p m))) (basis ms p r)) (ap (plus r) d ∙ xor_self r)
          ∙ ap (λ z. times z (basis ms p r)) (times-zero_left (inverse (plus p m)))
          ∙ times-zero_left (basis ms p r))
          (λ z.
          ap (times (times (plus r m) (inverse (plus p m)))) (basis_zero ms p r n z)
          ∙ times-zero (times (plus r m) (inverse (plus p m))))
          h
    ]

pub basis_byte : (ms : List ℕ) (p x : ℕ) → basis ms p x < 2 ^ 8
basis_byte ms p x = value_byte (suc (length ms)) (basis ms p) (basis_wide ms p) x

-- the sum over some of the points

abbrev pub AreAmong : List ℕ → List ℕ → Type 0
AreAmong [] all = Unit {0}
AreAmong (p ∷ ps) all = IsAmong p all × AreAmong ps all

among_more : (ps all : List ℕ) (m : ℕ) → AreAmong ps all → AreAmong ps (m ∷ all)
among_more [] all m h = tt
among_more (p ∷ ps) all m h = (inr h.0, among_more ps all m h.1)

among_self : (ps : List ℕ) → AreAmong ps ps
among_self [] = tt
among_self (p ∷ ps) = (inl refl, among_more ps ps p (among_self ps))

sum_polynomial : (all ps vs : List ℕ) → AreAmong ps all
    → IsPolynomial (length all) (λ x. weighted_sum (coefficients all ps x) vs)
unfolding weighted_sum coefficients
sum_polynomial all [] vs h = nothing (length all)
sum_polynomial all (p ∷ ps) [] h = nothing (length all)
sum_polynomial all (p ∷ ps) (v ∷ vs) h =
    added (length all)
    (λ x. times (basis all p x) v)
    (λ x. weighted_sum (coefficients all ps x) vs)
    (same_values (length all) (λ x. times (basis all p x) v) (λ x. times v (basis all p x))
    (λ x. times_comm (basis all p x) v)
    (scaled (length all) (basis all p) v (basis_polynomial all p h.0)))
    (sum_polynomial all ps vs h.1)

sum_zero : (all ps vs : List ℕ) (r : ℕ) → IsAmong r all → Avoids r ps → weighted_sum (coefficients all ps r) vs ≡ 0
unfolding weighted_sum coefficients
sum_zero all [] vs r h a = refl
sum_zero all (p ∷ ps) [] r h a = refl
sum_zero all (p ∷ ps) (v ∷ vs) r h a =
    ap₂ plus
    (ap (λ z. times z v) (basis_zero all p r (λ e. a.0 (sym e)) h) ∙ times-zero_left v)
    (sum_zero all ps vs r h a.1)

avoids_at : (p : ℕ) (ps : List ℕ) (j : ℕ) → Avoids p ps → j < length ps → get_or ps j 0 ≢ p
avoids_at p [] j a h = absurd (omega arith)
avoids_at p (q ∷ ps) zero a h = a.0
avoids_at p (q ∷ ps) (suc j) a h = avoids_at p ps j a.1 (omega arith)

among_at : (ps all : List ℕ) (j : ℕ) → AreAmong ps all → j < length ps → IsAmong (get_or ps j 0) all
among_at [] all j a h = absurd (omega arith)
among_at (p ∷ ps) all zero a h = a.0
among_at (p ∷ ps) all (suc j) a h = among_at ps all j a.1 (omega arith)

sum_at_point : (all ps vs : List ℕ) (j : ℕ) → Bytes all → AreAmong ps all → Points ps → Bytes vs
    → length vs ≡ length ps → j < length ps
    → weighted_sum (coefficients all ps (get_or ps j 0)) vs ≡ get_or vs j 0
unfolding weighted_sum coefficients
sum_at_point all [] vs j ha hs hp hv e h = absurd (omega arith)
sum_at_point all (p ∷ ps) [] j ha hs hp hv e h = absurd (omega arith)
sum_at_point all (p ∷ ps) (v ∷ vs) zero ha hs hp hv e h =
    ap₂ plus
    (ap (λ z. times z v) (basis_one all p hp.0 ha) ∙ times-one_left v hv.0)
    (sum_zero all ps vs p hs.0 hp.1)
    ∙ xor_zero_r v
sum_at_point all (p ∷ ps) (v ∷ vs) (suc j) ha hs hp hv e h =
    let l : j < length ps = omega arith in
    let le : length vs ≡ length ps = omega arith in
    ap₂ plus
    (ap (λ z. times z v) (basis_zero all p (get_or ps j 0) (avoids_at p ps j hp.1 l) (among_at ps all j hs.1 l))
    ∙ times-zero_left v)
    (sum_at_point all ps vs j ha hs.1 hp.2 hv.1 le l)

-- Lagrange's sum

pub lagrange_polynomial : (ps vs : List ℕ) → IsPolynomial (length ps) (lagrange ps vs)
unfolding lagrange
lagrange_polynomial ps vs = sum_polynomial ps ps vs (among_self ps)

pub lagrange_byte : (ps vs : List ℕ) (x : ℕ) → lagrange ps vs x < 2 ^ 8
lagrange_byte ps vs x = value_byte (length ps) (lagrange ps vs) (lagrange_polynomial ps vs) x

-- it has the given values at the points
pub lagrange_at : (ps vs : List ℕ) (j : ℕ) → Points ps → Bytes vs → length vs ≡ length ps → j < length ps
    → lagrange ps vs (get_or ps j 0) ≡ get_or vs j 0
unfolding lagrange
lagrange_at ps vs j hp hv e h = sum_at_point ps ps vs j (points_bytes ps hp) (among_self ps) hp hv e h

equal_at : (f g : ℕ → ℕ) (ps : List ℕ)
    → ((j : ℕ) → j < length ps → f (get_or ps j 0) ≡ g (get_or ps j 0)) → AreEqualAt f g ps
equal_at f g [] h = tt
equal_at f g (p ∷ ps) h = (h 0 (omega arith), equal_at f g ps (λ j l. h (suc j) (omega arith)))

pub mapped_bytes : (f : ℕ → ℕ) (ps : List ℕ) → ((x : ℕ) → f x < 2 ^ 8) → Bytes (map f ps)
mapped_bytes f [] h = tt
mapped_bytes f (p ∷ ps) h = (h p, mapped_bytes f ps h)

-- a polynomial is Lagrange's sum of its values at as many points as its degree bounds
pub lagrange_is : (ps : List ℕ) (f : ℕ → ℕ) → Points ps → IsPolynomial (length ps) f
    → (x : ℕ) → lagrange ps (map f ps) x ≡ f x
lagrange_is ps f hp hf =
    one_polynomial ps (lagrange ps (map f ps)) f (lagrange_polynomial ps (map f ps)) hf hp
    (equal_at (lagrange ps (map f ps)) f ps
    (λ j l.
    lagrange_at ps (map f ps) j hp (mapped_bytes f ps (value_byte (length ps) f hf)) (length-map ps f) l
    ∙ get_or-map f ps j 0 0 l))

-- the laws, in the words of the contracts

pub lagrange_value : (points values : List ℕ) (k : ℕ) → ArePoints points → AreBytes values
    → length values ≡ length points → k < length points
    → lagrange points values (slice_index points k) ≡ slice_index values k
lagrange_value points values k distinct bytes e h =
    lagrange_at points values k (points_from points distinct) (bytes_from values bytes) e h

pub same_polynomial : (points : List ℕ) (f g : ℕ → ℕ) → ArePoints points
    → IsPolynomial (length points) f → IsPolynomial (length points) g → All (λ p. f p ≡ g p) points
    → (x : ℕ) → f x ≡ g x
same_polynomial points f g distinct hf hg e =
    one_polynomial points f g hf hg (points_from points distinct) (equal_at f g points (λ j l. e j 0 l))

pub roots_of_zero : (points : List ℕ) (f : ℕ → ℕ) → ArePoints points
    → IsPolynomial (length points) f → All (λ p. f p ≡ 0) points → (x : ℕ) → f x ≡ 0
roots_of_zero points f distinct hf e =
    same_polynomial points f (λ x. 0) distinct hf (nothing (length points)) e
