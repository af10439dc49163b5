-- Bytes and points by recursion on their list, as the proofs on polynomials go, and from the words of
-- the contracts.
use Rattle.std.proofs.Common.{◌≢◌, ℕ, zero, suc, ◌+◌, ◌^◌, ◌<◌, ◌≤◌, List, [], ◌∷◌, length, get_or, All, sym, arith}
use Rattle.std.specs.List.{range_with_len}
use Rattle.object_id.specs.Fields.{AreBytes}
use Rattle.gf256.specs.Polynomial.{ArePoints}

abbrev pub Bytes : List ℕ → Type 0
Bytes [] = Unit {0}
Bytes (m ∷ ms) = (m < 2 ^ 8) × Bytes ms

-- none of them is p
abbrev pub Avoids : ℕ → List ℕ → Type 0
Avoids p [] = Unit {0}
Avoids p (q ∷ qs) = (q ≢ p) × Avoids p qs

-- bytes that differ from each other
abbrev pub Points : List ℕ → Type 0
Points [] = Unit {0}
Points (p ∷ ps) = (p < 2 ^ 8) × Avoids p ps × Points ps

pub bytes_from : (xs : List ℕ) → AreBytes xs → Bytes xs
bytes_from [] h = tt
bytes_from (x ∷ xs) h = (h 0, bytes_from xs (λ k. h (suc k)))

pub bytes_at : (vs : List ℕ) (j : ℕ) → Bytes vs → get_or vs j 0 < 2 ^ 8
bytes_at [] j h = omega arith
bytes_at (v ∷ vs) zero h = h.0
bytes_at (v ∷ vs) (suc j) h = bytes_at vs j h.1

-- each is a byte, as a fact of all places and of those of the list
pub bytes_of_all : (xs : List ℕ) → All (λ b. b < 2 ^ 8) xs → AreBytes xs
bytes_of_all [] h k = omega arith
bytes_of_all (x ∷ xs) h zero = h 0 0 (omega arith)
bytes_of_all (x ∷ xs) h (suc k) = bytes_of_all xs (λ i d l. h (suc i) d (omega arith)) k

pub all_of_bytes : (xs : List ℕ) → AreBytes xs → All (λ b. b < 2 ^ 8) xs
all_of_bytes [] h k d l = absurd (omega arith)
all_of_bytes (x ∷ xs) h zero d l = h 0
all_of_bytes (x ∷ xs) h (suc k) d l = all_of_bytes xs (λ i. h (suc i)) k d (omega arith)

avoids_from : (p : ℕ) (ps : List ℕ) → ((k : ℕ) → k < length ps → p ≢ get_or ps k 0) → Avoids p ps
avoids_from p [] h = tt
avoids_from p (q ∷ qs) h =
    ((λ e. h 0 (omega arith) (sym e)), avoids_from p qs (λ k l. h (suc k) (omega arith)))

pub points_from : (ps : List ℕ) → ArePoints ps → Points ps
points_from [] h = tt
points_from (p ∷ ps) h = (
  h.0 0,
  avoids_from p ps (λ k l. h.1 0 (suc k) 0 (omega arith) (omega arith)),
  points_from ps
      ((λ k. h.0 (suc k)), λ i j d l m. h.1 (suc i) (suc j) d (omega arith) (omega arith)),
)

pub points_bytes : (ps : List ℕ) → Points ps → Bytes ps
points_bytes [] h = tt
points_bytes (p ∷ ps) h = (h.0, points_bytes ps h.2)

-- the points a, a + 1, ..
range_avoids : (p a n : ℕ) → p < a → Avoids p (range_with_len a n)
range_avoids p a zero h = tt
range_avoids p a (suc n) h = ((λ e. absurd (omega arith)), range_avoids p (a + 1) n (omega arith))

pub range_points : (a n : ℕ) → a + n ≤ 2 ^ 8 → Points (range_with_len a n)
range_points a zero h = tt
range_points a (suc n) h =
    (omega arith, range_avoids a (a + 1) n (omega arith), range_points (a + 1) n (omega arith))

avoids_to : (p : ℕ) (ps : List ℕ) → Avoids p ps → (k d : ℕ) → k < length ps → p ≢ get_or ps k d
avoids_to p [] h k d l = absurd (omega arith)
avoids_to p (q ∷ qs) h zero d l = λ e. h.0 (sym e)
avoids_to p (q ∷ qs) h (suc k) d l = avoids_to p qs h.1 k d (omega arith)

differ_to : (ps : List ℕ) → Points ps → (i j d : ℕ) → i < j → j < length ps → get_or ps i d ≢ get_or ps j d
differ_to [] h i j d l m = absurd (omega arith)
differ_to (p ∷ ps) h i zero d l m = absurd (omega arith)
differ_to (p ∷ ps) h zero (suc j) d l m = avoids_to p ps h.1 j d (omega arith)
differ_to (p ∷ ps) h (suc i) (suc j) d l m = differ_to ps h.2 i j d (omega arith) (omega arith)

pub points_to : (ps : List ℕ) → Points ps → ArePoints ps
points_to ps h = ((λ k. bytes_at ps k (points_bytes ps h)), differ_to ps h)
