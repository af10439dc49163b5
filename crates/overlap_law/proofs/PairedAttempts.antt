-- Attempts as they were and as they are, one by one: what holds of each pair holds of the pairs on an object too. And where an attempt
-- stands among those on its object, the ones before it stand before it among all.
use Rattle.std.proofs.Common.{◌≡◌, arith, ℕ, zero, suc, ◌<◌, ◌==◌, Bool, true, false, cond, List, [], ◌∷◌, length, filter, slice_get}
use Rattle.std.proofs.Common.{Some, refl, ap, subst, ◌∙◌}
use Rattle.std.proofs.lemmas.Option.{same_Some}
use Rattle.overlap_law.specs.Attempts.{AttemptRecord, object_of, attempts_on}
use Rattle.overlap_law.proofs.OverlapLemmas.{filter-passed}

module _ (P : AttemptRecord → AttemptRecord → Type 0) where
  -- as many as there were, and each pair is so
  abbrev pub Paired : List AttemptRecord → List AttemptRecord → Type 0
  Paired [] [] = Unit {0}
  Paired [] (now ∷ more) = ⊥
  Paired (was ∷ attempts) [] = ⊥
  Paired (was ∷ attempts) (now ∷ more) = P was now × Paired attempts more

  pub pair_at : (attempts more : List AttemptRecord) → Paired attempts more → (j : ℕ) (now : AttemptRecord) → slice_get more j ≡ Some now
      → (was : AttemptRecord) × (slice_get attempts j ≡ Some was) × P was now
  pair_at [] [] pairs j now got = absurd (cc (got))
  pair_at [] (first ∷ more) pairs j now got = absurd pairs
  pair_at (was ∷ attempts) [] pairs j now got = absurd pairs
  pair_at (was ∷ attempts) (first ∷ more) pairs zero now got = (was, refl, subst (P was) (same_Some first now got) pairs.0)
  pair_at (was ∷ attempts) (first ∷ more) pairs (suc j) now got = pair_at attempts more pairs.1 j now got

  pub pairs_from : (attempts more : List AttemptRecord) → length attempts ≡ length more
      → ((j : ℕ) (was now : AttemptRecord) → slice_get attempts j ≡ Some was → slice_get more j ≡ Some now → P was now)
      → Paired attempts more
  pairs_from [] [] long so = tt
  pairs_from [] (now ∷ more) long so = absurd (cc (long))
  pairs_from (was ∷ attempts) [] long so = absurd (cc (long))
  pairs_from (was ∷ attempts) (now ∷ more) long so =
      (so 0 was now refl refl, pairs_from attempts more (cc (long)) (λ j one other at there. so (suc j) one other at there))

  pub pairs_on : ((was now : AttemptRecord) → P was now → object_of was ≡ object_of now) → (oid : ℕ) (attempts more : List AttemptRecord)
      → Paired attempts more → Paired (attempts_on oid attempts) (attempts_on oid more)
  pairs_on same oid [] [] pairs = tt
  pairs_on same oid [] (now ∷ more) pairs = absurd pairs
  pairs_on same oid (was ∷ attempts) [] pairs = absurd pairs
  pairs_on same oid (was ∷ attempts) (now ∷ more) pairs =
      subst (λ (b : Bool). Paired (attempts_on oid (was ∷ attempts)) (cond b (now ∷ attempts_on oid more) (attempts_on oid more)))
      (ap (λ (q : ℕ). q == oid) (same was now pairs.0))
      (by_test (object_of was == oid) (pairs_on same oid attempts more pairs.1))
    where
      by_test : (b : Bool) → Paired (attempts_on oid attempts) (attempts_on oid more)
          → Paired (cond b (was ∷ attempts_on oid attempts) (attempts_on oid attempts))
          (cond b (now ∷ attempts_on oid more) (attempts_on oid more))
      by_test true rest = (pairs.0, rest)
      by_test false rest = rest

-- ---- the order among those that pass

-- one stands at a place among those that passed: who passed behind it stands behind it, and who passed before it before it
pub record IsAmong (attempts passed : List AttemptRecord) (k : ℕ) (found : AttemptRecord) (place : ℕ) : Type 0 where
  pub at : slice_get passed place ≡ Some found
  pub later : (i : ℕ) (other : AttemptRecord) → slice_get passed i ≡ Some other → place < i
      → (b : ℕ) × (slice_get attempts b ≡ Some other) × (k < b)
  pub earlier : (i : ℕ) (other : AttemptRecord) → slice_get passed i ≡ Some other → i < place
      → (b : ℕ) × (slice_get attempts b ≡ Some other) × (b < k)

module _ (passes : AttemptRecord → Bool) where
  first_among : (attempt found : AttemptRecord) (attempts : List AttemptRecord) → attempt ≡ found → (b : Bool) → b ≡ true
      → IsAmong (attempt ∷ attempts) (cond b (attempt ∷ filter passes attempts) (filter passes attempts)) zero found zero
  first_among attempt found attempts same false is = absurd (cc (is))
  first_among attempt found attempts same true is = record {
    at = ap (λ (a : AttemptRecord). Some a) same;
    later = λ i other got less. behind i other got less;
    earlier = λ i other got less. absurd (omega (arith, less));
  }
    where
      behind : (i : ℕ) (other : AttemptRecord) → slice_get (attempt ∷ filter passes attempts) i ≡ Some other → zero < i
          → (b : ℕ) × (slice_get (attempt ∷ attempts) b ≡ Some other) × (zero < b)
      behind zero other got less = absurd (omega (arith, less))
      behind (suc i) other got less =
          let found = filter-passed passes attempts i other got in
          (suc found.place, found.there, let more : zero < suc found.place = omega arith in more)

  next_among : (attempt : AttemptRecord) (attempts : List AttemptRecord) (k : ℕ) (found : AttemptRecord) (place : ℕ)
      → IsAmong attempts (filter passes attempts) k found place → (b : Bool)
      → (at : ℕ) × IsAmong (attempt ∷ attempts) (cond b (attempt ∷ filter passes attempts) (filter passes attempts)) (suc k) found at
  next_among attempt attempts k found place is false = (
    place,
    record {
      at = is.at;
      later = λ i other got less.
          let (b, there, more) = is.later i other got less in (suc b, there, let above : suc k < suc b = omega (arith, more) in above);
      earlier = λ i other got less.
          let (b, there, more) = is.earlier i other got less in (suc b, there, let below : suc b < suc k = omega (arith, more) in below);
    },
  )
  next_among attempt attempts k found place is true = (
    suc place,
    record {
      at = is.at;
      later = λ i other got less. behind i other got less;
      earlier = λ i other got less. before i other got less;
    },
  )
    where
      behind : (i : ℕ) (other : AttemptRecord) → slice_get (attempt ∷ filter passes attempts) i ≡ Some other → suc place < i
          → (b : ℕ) × (slice_get (attempt ∷ attempts) b ≡ Some other) × (suc k < b)
      behind zero other got less = absurd (omega (arith, less))
      behind (suc i) other got less =
          let (b, there, more) = is.later i other got (omega (arith, less)) in
          (suc b, there, let above : suc k < suc b = omega (arith, more) in above)

      before : (i : ℕ) (other : AttemptRecord) → slice_get (attempt ∷ filter passes attempts) i ≡ Some other → i < suc place
          → (b : ℕ) × (slice_get (attempt ∷ attempts) b ≡ Some other) × (b < suc k)
      before zero other got less = (zero, got, let below : zero < suc k = omega arith in below)
      before (suc i) other got less =
          let (b, there, more) = is.earlier i other got (omega (arith, less)) in
          (suc b, there, let below : suc b < suc k = omega (arith, more) in below)

  pub filter-among : (attempts : List AttemptRecord) (k : ℕ) (found : AttemptRecord) → slice_get attempts k ≡ Some found
      → passes found ≡ true → (place : ℕ) × IsAmong attempts (filter passes attempts) k found place
  filter-among [] k found got passed = absurd (cc (got))
  filter-among (attempt ∷ attempts) zero found got passed =
      let same : attempt ≡ found = same_Some attempt found got in
      (zero, first_among attempt found attempts same (passes attempt) (ap passes same ∙ passed))
  filter-among (attempt ∷ attempts) (suc k) found got passed =
      let (place, is) = filter-among attempts k found got passed in
      next_among attempt attempts k found place is (passes attempt)
