-- How often a number stands in a list of numbers.
use Rattle.std.proofs.Common.{arith, ◌≡◌, ◌+◌, ◌<◌, ◌≤◌, ◌==◌, ℕ, Bool, true, false, cond, List, [], ◌∷◌, ◌++◌, All, Contains, get_or, ap, eq-eqb, refl}
use Rattle.std.proofs.lemmas.Bool.{eqb-true}
use Rattle.std.proofs.lemmas.List.Elements.{All-head, All-tail, All-weaker}
use Rattle.std.proofs.lemmas.List.Sums.{sum_by-cons, sum_by-append, get_or-le-sum_by}
use Rattle.stamp_clock.specs.Stamps.{occurrences, HasNoneTwice}

-- once where the two numbers are the same
abbrev pub once_if : Bool → ℕ
once_if same = cond same 1 0

pub occurrences-cons : (number first : ℕ) (numbers : List ℕ) → occurrences number (first ∷ numbers) ≡ once_if (first == number) + occurrences number numbers
occurrences-cons number first numbers = sum_by-cons (λ other. once_if (other == number)) first numbers

pub occurrences-append : (number : ℕ) (xs ys : List ℕ) → occurrences number (xs ++ ys) ≡ occurrences number xs + occurrences number ys
occurrences-append number xs ys = sum_by-append (λ other. once_if (other == number)) xs ys

-- a number that is above all of a list stands nowhere in it
pub occurrences-above : (end number : ℕ) (numbers : List ℕ) → All (λ other. other < end) numbers → end ≤ number → occurrences number numbers ≡ 0
occurrences-above end number [] below past = refl
occurrences-above end number (x ∷ xs) below past =
    go (occurrences-above end number xs (All-tail (λ other. other < end) x xs below) past) (occurrences-cons number x xs) (x == number) refl
  where
    go : occurrences number xs ≡ 0 → occurrences number (x ∷ xs) ≡ once_if (x == number) + occurrences number xs → (b : Bool) → (x == number) ≡ b → occurrences number (x ∷ xs) ≡ 0
    go rest all true c = let same : x ≡ number = eqb-true x number c in absurd (omega (arith, All-head (λ other. other < end) x xs below))
    go rest all false c = let one : once_if (x == number) ≡ 0 = rw c refl in omega (arith, one, rest, all)

pub below_more : (end more : ℕ) (numbers : List ℕ) → end ≤ more → All (λ number. number < end) numbers → All (λ number. number < more) numbers
below_more end more numbers le below = All-weaker (λ number. number < end) (λ number. number < more) (λ number lt. omega arith) numbers below

pub occurrences-contains : (number : ℕ) (numbers : List ℕ) → Contains numbers number → 1 ≤ occurrences number numbers
occurrences-contains number numbers is =
    let here : once_if (get_or numbers is.0 number == number) ≡ once_if (number == number) = ap (λ other. once_if (other == number)) is.2 in
    let one : once_if (number == number) ≡ 1 = rw (eq-eqb number number refl) refl in
    omega (arith, here, one, get_or-le-sum_by (λ other. once_if (other == number)) numbers is.0 number is.1)

-- no number stands in both parts of a list that has none twice
pub parts_apart : (xs ys : List ℕ) → HasNoneTwice (xs ++ ys) → (number : ℕ) → Contains xs number → Contains ys number → ⊥
parts_apart xs ys once number left right =
    omega (arith, occurrences-append number xs ys, once number, occurrences-contains number xs left, occurrences-contains number ys right)
