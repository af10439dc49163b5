-- The attempts that pass a test stand among themselves in the order in which they stand among all.
use Rattle.std.proofs.Common.{◌≡◌, arith, ℕ, zero, suc, ◌<◌, Bool, true, false, cond, List, [], ◌∷◌, filter, slice_get, Some, refl, sym}
use Rattle.std.proofs.Common.{ap, ◌∙◌}
use Rattle.std.proofs.lemmas.Option.{same_Some}
use Rattle.overlap_law.specs.Attempts.{AttemptRecord}

module _ (passes : AttemptRecord → Bool) where
  -- the attempt stands among those that pass
  abbrev IsKept : List AttemptRecord → AttemptRecord → Type 0
  IsKept kept attempt = (place : ℕ) × (slice_get kept place ≡ Some attempt)

  -- what a test lets through stands among what it lets through
  pub filter-there : (attempts : List AttemptRecord) (k : ℕ) (attempt : AttemptRecord) → slice_get attempts k ≡ Some attempt
      → passes attempt ≡ true → IsKept (filter passes attempts) attempt
  filter-there [] k attempt at is = absurd (cc (at))
  filter-there (first ∷ attempts) k attempt at is =
      by_test (passes first) refl k at (λ i later. filter-there attempts i attempt later is)
    where
      by_test : (b : Bool) → passes first ≡ b → (k : ℕ) → slice_get (first ∷ attempts) k ≡ Some attempt
          → ((i : ℕ) → slice_get attempts i ≡ Some attempt → IsKept (filter passes attempts) attempt)
          → IsKept (cond b (first ∷ filter passes attempts) (filter passes attempts)) attempt
      by_test true so zero at rest = (zero, at)
      by_test true so (suc k) at rest = let found = rest k at in (suc found.0, found.1)
      by_test false so zero at rest = let same : first ≡ attempt = same_Some first attempt at in absurd (cc (same, so, is))
      by_test false so (suc k) at rest = rest k at

  -- one of those that pass, with its place among all, and each later one that passes stands behind it among them too
  pub record StandsAmongAll (attempts kept : List AttemptRecord) (a : ℕ) (attempt : AttemptRecord) : Type 0 where
    pub place : ℕ
    pub there : slice_get attempts place ≡ Some attempt
    pub passed : passes attempt ≡ true
    pub later : (k : ℕ) (other : AttemptRecord) → slice_get attempts k ≡ Some other → place < k → passes other ≡ true
        → (b : ℕ) × (slice_get kept b ≡ Some other) × (a < b)

  pub stands_among_all : (attempts : List AttemptRecord) (a : ℕ) (attempt : AttemptRecord)
      → slice_get (filter passes attempts) a ≡ Some attempt → StandsAmongAll attempts (filter passes attempts) a attempt
  stands_among_all [] a attempt at = absurd (cc (at))
  stands_among_all (first ∷ attempts) a attempt at =
      by_test (passes first) refl a at (λ i later. stands_among_all attempts i attempt later)
      (λ k other there is. filter-there attempts k other there is)
    where
      rest : List AttemptRecord
      rest = filter passes attempts

      KeptLater : Type 0
      KeptLater = (k : ℕ) (other : AttemptRecord) → slice_get attempts k ≡ Some other → passes other ≡ true → IsKept rest other

      here : KeptLater → (k : ℕ) (other : AttemptRecord) → slice_get (first ∷ attempts) k ≡ Some other → 0 < k → passes other ≡ true
          → (b : ℕ) × (slice_get (first ∷ rest) b ≡ Some other) × (0 < b)
      here kept zero other there less is = absurd (omega (arith, less))
      here kept (suc k) other there less is = let found = kept k other there is in (suc found.0, found.1, omega arith)

      behind_first : (i : ℕ) (s : StandsAmongAll attempts rest i attempt) (k : ℕ) (other : AttemptRecord)
          → slice_get (first ∷ attempts) k ≡ Some other → suc s.place < k → passes other ≡ true
          → (b : ℕ) × (slice_get (first ∷ rest) b ≡ Some other) × (suc i < b)
      behind_first i s zero other there less is = absurd (omega (arith, less))
      behind_first i s (suc k) other there less is =
          let found = s.later k other there (omega (arith, less)) is in
          let more = found.2 in
          (suc found.0, found.1, omega (arith, more))

      behind_none : (i : ℕ) (s : StandsAmongAll attempts rest i attempt) (k : ℕ) (other : AttemptRecord)
          → slice_get (first ∷ attempts) k ≡ Some other → suc s.place < k → passes other ≡ true
          → (b : ℕ) × (slice_get rest b ≡ Some other) × (i < b)
      behind_none i s zero other there less is = absurd (omega (arith, less))
      behind_none i s (suc k) other there less is = s.later k other there (omega (arith, less)) is

      by_test : (b : Bool) → passes first ≡ b → (a : ℕ) → slice_get (cond b (first ∷ rest) rest) a ≡ Some attempt
          → ((i : ℕ) → slice_get rest i ≡ Some attempt → StandsAmongAll attempts rest i attempt) → KeptLater
          → StandsAmongAll (first ∷ attempts) (cond b (first ∷ rest) rest) a attempt
      by_test true so zero at all kept =
          let same : first ≡ attempt = same_Some first attempt at in
          record { place = zero; there = at; passed = ap passes (sym same) ∙ so; later = here kept }
      by_test true so (suc i) at all kept =
          let s = all i at in record { place = suc s.place; there = s.there; passed = s.passed; later = behind_first i s }
      by_test false so a at all kept =
          let s = all a at in record { place = suc s.place; there = s.there; passed = s.passed; later = behind_none a s }
