-- Where the last of the attempts stands that pass a test, and that those behind a unit's own base are the later ones on the unit.
use Rattle.std.proofs.Common.{◌≡◌, ◌⊎◌, inl, inr, ⊎_elim, arith, ℕ, zero, suc, ◌<◌, ◌&&◌, Bool, true, false, cond, List, [], ◌∷◌}
use Rattle.std.proofs.Common.{◌++◌, length, filter, fold, Any, Option, Some, None, slice_get, refl, sym, subst}
use Rattle.std.specs.List.{last_or}
use Rattle.std.proofs.lemmas.Bool.{eqb-true}
use Rattle.std.proofs.lemmas.Option.{same_Some, slice_get_within, get_or_from_slice_get}
use Rattle.proof_tools.proofs.Lists.{filter-filter}
use Rattle.overlap_law.specs.Attempts.{AttemptRecord}
use Rattle.overlap_law.specs.Units.{covers_unit, covering}
use Rattle.overlap_law.specs.Words.{is_made, last_of, own_base_of, later_on, is_quiet}
use Rattle.overlap_law.proofs.AttemptLists.{got_still, got_last}

module _ (passes : AttemptRecord → Bool) where
  -- one passes, and none behind it
  pub record IsLast (attempts : List AttemptRecord) (found : AttemptRecord) : Type 0 where
    pub place : ℕ
    pub there : slice_get attempts place ≡ Some found
    pub passed : passes found ≡ true
    pub none : (k : ℕ) (later : AttemptRecord) → slice_get attempts k ≡ Some later → place < k → passes later ≡ false

  behind_first : (attempt : AttemptRecord) (attempts : List AttemptRecord)
      → ((k : ℕ) (later : AttemptRecord) → slice_get attempts k ≡ Some later → passes later ≡ false)
      → (k : ℕ) (later : AttemptRecord) → slice_get (attempt ∷ attempts) k ≡ Some later → 0 < k → passes later ≡ false
  behind_first attempt attempts none zero later at less = absurd (omega (arith, less))
  behind_first attempt attempts none (suc k) later at less = none k later at

  none_more : (attempt : AttemptRecord) (attempts : List AttemptRecord) → passes attempt ≡ false
      → ((k : ℕ) (later : AttemptRecord) → slice_get attempts k ≡ Some later → passes later ≡ false)
      → (k : ℕ) (later : AttemptRecord) → slice_get (attempt ∷ attempts) k ≡ Some later → passes later ≡ false
  none_more attempt attempts fails none zero later at = let same : attempt ≡ later = same_Some attempt later at in cc (same, fails)
  none_more attempt attempts fails none (suc k) later at = none k later at

  one_more : (attempt : AttemptRecord) (attempts : List AttemptRecord) (found : AttemptRecord) → IsLast attempts found
      → IsLast (attempt ∷ attempts) found
  one_more attempt attempts found last = record { place = suc last.place; there = last.there; passed = last.passed; none = shifted }
    where
      shifted : (k : ℕ) (later : AttemptRecord) → slice_get (attempt ∷ attempts) k ≡ Some later → suc last.place < k → passes later ≡ false
      shifted zero later at less = absurd (omega (arith, less))
      shifted (suc k) later at less = last.none k later at (omega (arith, less))

  -- it was found before, and none passes; or it is the last that does
  abbrev IsLastFrom : Option AttemptRecord → List AttemptRecord → AttemptRecord → Type 0
  IsLastFrom first attempts found =
      ((first ≡ Some found) × ((k : ℕ) (later : AttemptRecord) → slice_get attempts k ≡ Some later → passes later ≡ false))
      ⊎ IsLast attempts found

  last_if : (first : Option AttemptRecord) (attempt : AttemptRecord) (attempts : List AttemptRecord) (found : AttemptRecord)
      → ((o : Option AttemptRecord) → last_or o (filter passes attempts) ≡ Some found → IsLastFrom o attempts found) → (b : Bool)
      → passes attempt ≡ b → last_or first (cond b (attempt ∷ filter passes attempts) (filter passes attempts)) ≡ Some found
      → IsLastFrom first (attempt ∷ attempts) found
  last_if first attempt attempts found rest true is e = ⊎_elim
      (λ (one : (Some attempt ≡ Some found)
      × ((k : ℕ) (later : AttemptRecord) → slice_get attempts k ≡ Some later → passes later ≡ false)).
      let same : attempt ≡ found = same_Some attempt found one.0 in
      inr (record { place = 0; there = one.0; passed = cc (same, is); none = behind_first attempt attempts one.1 }))
      (λ (last : IsLast attempts found). inr (one_more attempt attempts found last))
      (rest (Some attempt) e)
  last_if first attempt attempts found rest false is e = ⊎_elim
      (λ (one : (first ≡ Some found)
      × ((k : ℕ) (later : AttemptRecord) → slice_get attempts k ≡ Some later → passes later ≡ false)).
      inl (one.0, none_more attempt attempts is one.1))
      (λ (last : IsLast attempts found). inr (one_more attempt attempts found last))
      (rest first e)

  last_from : (attempts : List AttemptRecord) (found : AttemptRecord) (first : Option AttemptRecord)
      → last_or first (filter passes attempts) ≡ Some found → IsLastFrom first attempts found
  last_from [] found first e = inl (e, λ k later at. absurd (cc (at)))
  last_from (attempt ∷ attempts) found first e =
      last_if first attempt attempts found (last_from attempts found) (passes attempt) refl e

  pub last_at : (attempts : List AttemptRecord) (found : AttemptRecord) → last_of (filter passes attempts) ≡ Some found
      → IsLast attempts found
  last_at attempts found e = ⊎_elim
      (λ (one : (None ≡ Some found)
      × ((k : ℕ) (later : AttemptRecord) → slice_get attempts k ≡ Some later → passes later ≡ false)). absurd (cc (one.0)))
      (λ (last : IsLast attempts found). last)
      (last_from attempts found None e)

module _ (passes : AttemptRecord → Bool) where
  abbrev pub NonePasses : List AttemptRecord → Type 0
  NonePasses attempts = (k : ℕ) (attempt : AttemptRecord) → slice_get attempts k ≡ Some attempt → passes attempt ≡ false

  abbrev pub LastOrNone : List AttemptRecord → Type 0
  LastOrNone attempts = ((found : AttemptRecord) × IsLast passes attempts found) ⊎ NonePasses attempts

  -- one of some attempts is the last that passes, or none does
  pub last_or_none : (attempts : List AttemptRecord) → LastOrNone attempts
  last_or_none [] = inr (λ k attempt at. absurd (cc (at)))
  last_or_none (attempt ∷ attempts) = ⊎_elim
      (λ (last : (found : AttemptRecord) × IsLast passes attempts found).
      inl (last.0, one_more passes attempt attempts last.0 last.1))
      (λ (none : NonePasses attempts). by_first none (passes attempt) refl)
      (last_or_none attempts)
    where
      by_first : NonePasses attempts → (b : Bool) → passes attempt ≡ b → LastOrNone (attempt ∷ attempts)
      by_first none true is =
          inl (attempt, record { place = 0; there = refl; passed = is; none = behind_first passes attempt attempts none })
      by_first none false is = inr (none_more passes attempt attempts is none)

  -- where one passes there is a last
  pub last_there : (attempts : List AttemptRecord) (k : ℕ) (attempt : AttemptRecord) → slice_get attempts k ≡ Some attempt
      → passes attempt ≡ true → (found : AttemptRecord) × IsLast passes attempts found
  last_there attempts k attempt at is = ⊎_elim
      (λ (last : (found : AttemptRecord) × IsLast passes attempts found). last)
      (λ (none : NonePasses attempts). let fails = none k attempt at in absurd (cc (is, fails)))
      (last_or_none attempts)

-- the last of those that pass two tests, one after the other
pub last_of_both : (one other : AttemptRecord → Bool) (attempts : List AttemptRecord) (found : AttemptRecord)
    → last_of (filter other (filter one attempts)) ≡ Some found → IsLast (λ (a : AttemptRecord). one a && other a) attempts found
last_of_both one other attempts found e =
    last_at (λ (a : AttemptRecord). one a && other a) attempts found
    (subst (λ (list : List AttemptRecord). last_of list ≡ Some found) (filter-filter one other attempts) e)

-- a unit's own base is the last made attempt that covers it
pub own_last : (unit : ℕ) (attempts : List AttemptRecord) (own : AttemptRecord) → own_base_of unit attempts ≡ Some own
    → IsLast (λ (a : AttemptRecord). covers_unit unit a && is_made a) attempts own
own_last unit attempts own e = last_of_both (covers_unit unit) is_made attempts own e

-- ---- the later attempts on a unit

module _ (P : AttemptRecord → Type 0) (unit : ℕ) where
  -- one of some attempts is so
  abbrev Some_of : List AttemptRecord → Type 0
  Some_of attempts = (k : ℕ) × (attempt : AttemptRecord) × (slice_get attempts k ≡ Some attempt) × P attempt

  abbrev further : List AttemptRecord → AttemptRecord → List AttemptRecord
  further later attempt = cond (is_made attempt) [] (later ++ attempt ∷ [])

  abbrev AreUnmade : List AttemptRecord → Type 0
  AreUnmade attempts = (k : ℕ) (attempt : AttemptRecord) → slice_get attempts k ≡ Some attempt → covers_unit unit attempt ≡ true
      → is_made attempt ≡ false

  goes_further : (later : List AttemptRecord) (attempt : AttemptRecord) → is_made attempt ≡ false → Some_of later
      → Some_of (further later attempt)
  goes_further later attempt unmade some =
      subst (λ (b : Bool). Some_of (cond b [] (later ++ attempt ∷ []))) (sym unmade)
      (some.0, some.1, got_still later attempt some.0 some.1 some.2, some.3)

  comes_in : (later : List AttemptRecord) (attempt : AttemptRecord) → is_made attempt ≡ false → P attempt → Some_of (further later attempt)
  comes_in later attempt unmade is =
      subst (λ (b : Bool). Some_of (cond b [] (later ++ attempt ∷ []))) (sym unmade) (length later, attempt, got_last later attempt, is)

  stays_if : (later : List AttemptRecord) (attempt : AttemptRecord) (attempts : List AttemptRecord)
      → ((list : List AttemptRecord) → Some_of list → Some_of (fold further list (covering unit attempts)))
      → (covers_unit unit attempt ≡ true → is_made attempt ≡ false) → Some_of later → (b : Bool) → covers_unit unit attempt ≡ b
      → Some_of (fold further later (cond b (attempt ∷ covering unit attempts) (covering unit attempts)))
  stays_if later attempt attempts rest unmade some true covers =
      rest (further later attempt) (goes_further later attempt (unmade covers) some)
  stays_if later attempt attempts rest unmade some false covers = rest later some

  stays_later : (attempts : List AttemptRecord) → AreUnmade attempts → (later : List AttemptRecord) → Some_of later
      → Some_of (fold further later (covering unit attempts))
  stays_later [] unmade later some = some
  stays_later (attempt ∷ attempts) unmade later some =
      stays_if later attempt attempts (stays_later attempts (λ k other at. unmade (suc k) other at)) (unmade 0 attempt refl) some
      (covers_unit unit attempt) refl

  -- where none made that covers the unit stands from a place on, the one that stands there is among the later ones
  abbrev AreUnmadeFrom : List AttemptRecord → ℕ → Type 0
  AreUnmadeFrom attempts place = (k : ℕ) (attempt : AttemptRecord) → slice_get attempts k ≡ Some attempt → place < suc k
      → covers_unit unit attempt ≡ true → is_made attempt ≡ false

  first_if : (later : List AttemptRecord) (attempt : AttemptRecord) (attempts : List AttemptRecord) → AreUnmadeFrom (attempt ∷ attempts) 0
      → P attempt → (b : Bool) → b ≡ true → covers_unit unit attempt ≡ b
      → Some_of (fold further later (cond b (attempt ∷ covering unit attempts) (covering unit attempts)))
  first_if later attempt attempts unmade is false so covers = absurd (cc (so))
  first_if later attempt attempts unmade is true so covers =
      stays_later attempts (λ k other at. unmade (suc k) other at (omega arith)) (further later attempt)
      (comes_in later attempt (unmade 0 attempt refl (omega arith) covers) is)

  next_if : (later : List AttemptRecord) (attempt : AttemptRecord) (attempts : List AttemptRecord)
      → ((list : List AttemptRecord) → Some_of (fold further list (covering unit attempts))) → (b : Bool)
      → Some_of (fold further later (cond b (attempt ∷ covering unit attempts) (covering unit attempts)))
  next_if later attempt attempts rest true = rest (further later attempt)
  next_if later attempt attempts rest false = rest later

  later_there : (attempts : List AttemptRecord) (k : ℕ) (found : AttemptRecord) → slice_get attempts k ≡ Some found
      → covers_unit unit found ≡ true → P found → AreUnmadeFrom attempts k → (later : List AttemptRecord)
      → Some_of (fold further later (covering unit attempts))
  later_there [] k found at covers is unmade later = absurd (cc (at))
  later_there (attempt ∷ attempts) zero found at covers is unmade later =
      let same : found ≡ attempt = sym (same_Some attempt found at) in
      first_if later attempt attempts unmade (subst P same is) (covers_unit unit attempt)
      (subst (λ (a : AttemptRecord). covers_unit unit a ≡ true) same covers) refl
  later_there (attempt ∷ attempts) (suc k) found at covers is unmade later =
      next_if later attempt attempts
      (later_there attempts k found at covers is (λ j other there below. unmade (suc j) other there (omega (arith, below))))
      (covers_unit unit attempt)

  pub behind_own : (attempts : List AttemptRecord) (own : AttemptRecord)
      → (last : IsLast (λ (a : AttemptRecord). covers_unit unit a && is_made a) attempts own) → (k : ℕ) (found : AttemptRecord)
      → slice_get attempts k ≡ Some found → last.place < k → covers_unit unit found ≡ true → P found → Some_of (later_on unit attempts)
  behind_own attempts own last k found at behind covers is = later_there attempts k found at covers is from []
    where
      from : AreUnmadeFrom attempts k
      from j other there below covering_it =
          unmade (covers_unit unit other) (is_made other) covering_it (last.none j other there (omega (arith, behind, below)))
        where
          unmade : (b c : Bool) → b ≡ true → (b && c) ≡ false → c ≡ false
          unmade true c so none = none
          unmade false c so none = absurd (cc (so))

-- so one of the own base and the later ones is so
pub own_or_later : (P : AttemptRecord → Type 0) (unit : ℕ) (attempts : List AttemptRecord) (own : AttemptRecord)
    → (last : IsLast (λ (a : AttemptRecord). covers_unit unit a && is_made a) attempts own) → (k : ℕ) (found : AttemptRecord)
    → slice_get attempts k ≡ Some found → last.place < k → covers_unit unit found ≡ true → P found → Any P (own ∷ later_on unit attempts)
own_or_later P unit attempts own last k found at behind covers is =
    let some = behind_own P unit attempts own last k found at behind covers is in (
      suc some.0,
      some.1,
      slice_get_within (own ∷ later_on unit attempts) (suc some.0) some.1 some.2,
      get_or_from_slice_get (own ∷ later_on unit attempts) (suc some.0) some.1 some.1 some.2,
      some.3,
    )

pub own_among : (P : AttemptRecord → Type 0) (own : AttemptRecord) (later : List AttemptRecord) → P own → Any P (own ∷ later)
own_among P own later is = (0, own, let within : 0 < length (own ∷ later) = omega arith in within, refl, is)

-- at a quiet unit none behind the own base covers it
pub quiet_behind : (unit : ℕ) (attempts : List AttemptRecord) (own : AttemptRecord)
    → (last : IsLast (λ (a : AttemptRecord). covers_unit unit a && is_made a) attempts own) → is_quiet unit attempts ≡ true → (k : ℕ)
    → (found : AttemptRecord) → slice_get attempts k ≡ Some found → last.place < k → covers_unit unit found ≡ true → ⊥
quiet_behind unit attempts own last quiet k found at behind covers =
    let some = behind_own (λ a. Unit {0}) unit attempts own last k found at behind covers tt in
    let within = slice_get_within (later_on unit attempts) some.0 some.1 some.2 in
    let none : length (later_on unit attempts) ≡ 0 = eqb-true (length (later_on unit attempts)) 0 quiet in
    omega (arith, within, none)
