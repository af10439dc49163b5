-- Attempts in a list that has one more, or of which the fate of one message is told.
use Rattle.std.proofs.Common.{◌≡◌, ◌≢◌, ◌⊎◌, inl, inr, arith, ℕ, zero, suc, ◌+◌, ◌-◌, ◌≤◌, ◌<◌, ◌==◌, nat_lt, nat_le, Bool, true, false}
use Rattle.std.proofs.Common.{◌&&◌, cond, List, [], ◌∷◌, ◌++◌, map, length, Contains, Some, option_map, slice_get, refl, sym, ap, ◌∙◌}
use Rattle.std.proofs.Common.{⊎_elim}
use Rattle.std.proofs.lemmas.Bool.{and_parts, eqb-true, eq-eqb, leb-true, le-leb, lt-ltb}
use Rattle.std.proofs.lemmas.Option.{same_Some}
use Rattle.proof_tools.proofs.Lists.{Contains-nil, Contains-cons_cases}
use Rattle.object_id.specs.declared.node.NodeId.{NodeId}
use Rattle.message_wire.specs.declared.name.MessageName.{MessageName}
use Rattle.overlap_law.specs.Attempts.{AttemptRecord, MessageFate, has_message, known_fate, fates_with, attempt_with_fate}
use Rattle.overlap_law.specs.Attempts.{attempts_with_fate}
use Rattle.overlap_law.specs.Packets.{message_name_at}

-- ---- lists

module _ {X : Type 0} where
  -- what is found behind one more was there, or is the new one
  pub got_more : (xs : List X) (x : X) (j : ℕ) (y : X) → slice_get (xs ++ x ∷ []) j ≡ Some y
      → (slice_get xs j ≡ Some y) ⊎ ((j ≡ length xs) × (x ≡ y))
  got_more [] x zero y got = inr (refl, same_Some x y got)
  got_more [] x (suc j) y got = absurd (cc (got))
  got_more (z ∷ xs) x zero y got = inl got
  got_more (z ∷ xs) x (suc j) y got = ⊎_elim
      (λ (old : slice_get xs j ≡ Some y). inl old)
      (λ (new : (j ≡ length xs) × (x ≡ y)). inr (ap suc new.0, new.1))
      (got_more xs x j y got)

  -- what was there is still, and the new one is the last
  pub got_still : (xs : List X) (x : X) (j : ℕ) (y : X) → slice_get xs j ≡ Some y → slice_get (xs ++ x ∷ []) j ≡ Some y
  got_still [] x j y got = absurd (cc (got))
  got_still (z ∷ xs) x zero y got = got
  got_still (z ∷ xs) x (suc j) y got = got_still xs x j y got

  pub got_last : (xs : List X) (x : X) → slice_get (xs ++ x ∷ []) (length xs) ≡ Some x
  got_last [] x = refl
  got_last (z ∷ xs) x = got_last xs x

  pub got_map : {Y : Type 0} (f : X → Y) (xs : List X) (j : ℕ) (y : Y) → slice_get (map f xs) j ≡ Some y
      → (x : X) × (slice_get xs j ≡ Some x) × (f x ≡ y)
  got_map f [] j y got = absurd (cc (got))
  got_map f (x ∷ xs) zero y got = (x, refl, same_Some (f x) y got)
  got_map f (x ∷ xs) (suc j) y got = got_map f xs j y got

  pub map_got : {Y : Type 0} (f : X → Y) (xs : List X) (j : ℕ) (x : X) → slice_get xs j ≡ Some x → slice_get (map f xs) j ≡ Some (f x)
  map_got f [] j x got = absurd (cc (got))
  map_got f (y ∷ xs) zero x got = ap (option_map f) got
  map_got f (y ∷ xs) (suc j) x got = map_got f xs j x got

  -- what is contained stands at some place
  pub place_of : (xs : List X) (x : X) → Contains xs x → (place : ℕ) × (slice_get xs place ≡ Some x)
  place_of [] x there = absurd (Contains-nil x there)
  place_of (y ∷ xs) x there = ⊎_elim
      (λ (same : y ≡ x). (zero, ap (λ (z : X). Some z) same))
      (λ (later : Contains xs x). let (place, at) = place_of xs x later in (suc place, at))
      (Contains-cons_cases y xs x there)

-- ---- what is told of a message

pub told_own : (place : ℕ) (told : MessageFate) (fates : List MessageFate)
    → slice_get (fates_with place told fates) place ≡ option_map (known_fate told) (slice_get fates place)
told_own place told [] = refl
told_own zero told (fate ∷ fates) = refl
told_own (suc place) told (fate ∷ fates) = told_own place told fates

told_other : (place p : ℕ) (told : MessageFate) (fates : List MessageFate) → place ≢ p
    → slice_get (fates_with p told fates) place ≡ slice_get fates place
told_other place p told [] apart = refl
told_other zero zero told (fate ∷ fates) apart = absurd (apart refl)
told_other (suc place) zero told (fate ∷ fates) apart = refl
told_other zero (suc p) told (fate ∷ fates) apart = refl
told_other (suc place) (suc p) told (fate ∷ fates) apart = told_other place p told fates (λ (same : place ≡ p). apart (ap suc same))

pub told-length : (place : ℕ) (told : MessageFate) (fates : List MessageFate) → length (fates_with place told fates) ≡ length fates
told-length place told [] = refl
told-length zero told (fate ∷ fates) = refl
told-length (suc place) told (fate ∷ fates) = ap suc (told-length place told fates)

-- an attempt of which one message's fate is told differs in its fates alone
abbrev pub fates_told : MessageFate → NodeId → ℕ → AttemptRecord → List MessageFate
fates_told told sender number attempt =
    cond (has_message sender number attempt) (fates_with (number - attempt.first) told attempt.fates) attempt.fates

shape_if : (attempt : AttemptRecord) (fates : List MessageFate) (b : Bool)
    → cond b (record attempt { fates = fates }) attempt ≡ record attempt { fates = cond b fates attempt.fates }
shape_if attempt fates true = refl
shape_if attempt fates false = refl

pub marked_shape : (told : MessageFate) (sender : NodeId) (number : ℕ) (attempt : AttemptRecord)
    → attempt_with_fate told sender number attempt ≡ record attempt { fates = fates_told told sender number attempt }
marked_shape told sender number attempt =
    shape_if attempt (fates_with (number - attempt.first) told attempt.fates) (has_message sender number attempt)

pub got_marked : (told : MessageFate) (sender : NodeId) (number : ℕ) (attempts : List AttemptRecord) (j : ℕ) (now : AttemptRecord)
    → slice_get (attempts_with_fate told sender number attempts) j ≡ Some now
    → (was : AttemptRecord) × (slice_get attempts j ≡ Some was) × (record was { fates = fates_told told sender number was } ≡ now)
unfolding attempts_with_fate
got_marked told sender number attempts j now got =
    let (was, there, is) = got_map (attempt_with_fate told sender number) attempts j now got in
    (was, there, sym (marked_shape told sender number was) ∙ is)

-- an attempt is there still, with its fates as they are then
pub marked_there : (told : MessageFate) (sender : NodeId) (number : ℕ) (attempts : List AttemptRecord) (j : ℕ) (attempt : AttemptRecord)
    → slice_get attempts j ≡ Some attempt
    → (fates : List MessageFate) × (slice_get (attempts_with_fate told sender number attempts) j ≡ Some (record attempt { fates = fates }))
unfolding attempts_with_fate
marked_there told sender number attempts j attempt there = (
  fates_told told sender number attempt,
  map_got (attempt_with_fate told sender number) attempts j attempt there
      ∙ ap (λ (a : AttemptRecord). Some a) (marked_shape told sender number attempt),
)

-- ---- the message of an attempt that a name is of

module _ (attempt : AttemptRecord) (name : MessageName) where
  abbrev sender : NodeId
  sender = name.sender

  abbrev number : ℕ
  number = name.number

  pub has_own : (place : ℕ) → place < length attempt.targets → message_name_at attempt place ≡ name
      → has_message sender number attempt ≡ true
  has_own place within same =
      let gateway : attempt.gateway.0 ≡ sender.0 = ap (λ (q : MessageName). q.sender.0) same in
      let at : attempt.first + place ≡ number = ap (λ (q : MessageName). q.number) same in
      ap (λ (b : Bool). b && nat_le attempt.first number && nat_lt number (attempt.first + length attempt.targets))
      (eq-eqb attempt.gateway.0 sender.0 gateway)
      ∙ ap (λ (b : Bool). b && nat_lt number (attempt.first + length attempt.targets)) (leb-is (omega (arith, at)))
      ∙ ltb-is (omega (arith, at, within))
    where
      leb-is : attempt.first ≤ number → nat_le attempt.first number ≡ true
      leb-is h = le-leb attempt.first number h

      ltb-is : number < attempt.first + length attempt.targets → nat_lt number (attempt.first + length attempt.targets) ≡ true
      ltb-is h = lt-ltb number (attempt.first + length attempt.targets) h

  pub own_place : (place : ℕ) → message_name_at attempt place ≡ name → number - attempt.first ≡ place
  own_place place same = let at : attempt.first + place ≡ number = ap (λ (q : MessageName). q.number) same in omega (arith, at)

  -- a message of another name keeps its fate
  pub other_place : (told : MessageFate) (place : ℕ) → message_name_at attempt place ≢ name
      → slice_get (fates_told told sender number attempt) place ≡ slice_get attempt.fates place
  other_place told place apart = by_has (has_message sender number attempt) refl
    where
      by_has : (b : Bool) → has_message sender number attempt ≡ b
          → slice_get (cond b (fates_with (number - attempt.first) told attempt.fates) attempt.fates) place ≡ slice_get attempt.fates place
      by_has false has = refl
      by_has true has = told_other place (number - attempt.first) told attempt.fates (λ (is : place ≡ number - attempt.first).
          let both = (and_parts (attempt.gateway.0 == sender.0 && nat_le attempt.first number)
          (nat_lt number (attempt.first + length attempt.targets)) has).0 in
          let parts = and_parts (attempt.gateway.0 == sender.0) (nat_le attempt.first number) both in
          let gateway = eqb-true attempt.gateway.0 sender.0 parts.0 in
          let above = leb-true attempt.first number parts.1 in
          let at : attempt.first + place ≡ number = omega (arith, is, above) in
          apart (λ i. record { sender = record { 0 = gateway i }; number = at i }))
