-- What the made attempts on an object come to, laid over each other in their order: at a unit the bytes of the last that covers it.
use Rattle.std.proofs.Common.{◌≡◌, ◌⊎◌, inl, inr, ⊎_elim, arith, ℕ, zero, suc, ◌+◌, ◌<◌, ◌≤◌, ◌==◌, nat_le, Bool, true, false, cond}
use Rattle.std.proofs.Common.{List, [], ◌∷◌, length, filter, fold, Option, Some, None, slice_get, refl, sym, ap, subst, ◌∙◌}
use Rattle.std.specs.List.{last_or, AllByRecursion}
use Rattle.std.proofs.lemmas.Bool.{and_parts, eq-eqb, eqb-true, le-leb, leb-true}
use Rattle.std.proofs.lemmas.List.{length-replicate}
use Rattle.std.proofs.lemmas.Option.{same_Some}
use Rattle.object_id.specs.declared.oid.Kind.{Kind}
use Rattle.object_id.specs.Fields.{zeros}
use Rattle.object_id.specs.Oid.{kind_of}
use Rattle.object_store.proofs.CallLaws.{length-laid_over}
use Rattle.peer_proto.specs.declared.work.ObjWork.{ObjWork}
use Rattle.peer_proto.specs.declared.work.ObjWork.TheVariants.{Create, Write, Read, ReadAll}
use Rattle.peer_proto.specs.Work.{oid_of}
use Rattle.overlap_law.specs.Attempts.{AttemptRecord, object_of, attempts_on}
use Rattle.overlap_law.specs.Fates.{AreUnits, IsWhole, IsCreated, CreatesComeFirst}
use Rattle.overlap_law.specs.Holders.{is_create_work, creates}
use Rattle.overlap_law.specs.Units.{unit_start, unit_size, unit_end, unit_bytes, covers_by, covers_unit, covering, laid_by}
use Rattle.overlap_law.specs.Units.{laid_over_in_order, bytes_by}
use Rattle.overlap_law.specs.Words.{is_made, own_base_of}
use Rattle.overlap_law.proofs.UnitPieces.{piece-inside, piece-beside, unit-among}

-- ---- one work

-- a work may be laid over bytes of the object's length, and a create over any
abbrev pub MayLay : ℕ → ObjWork → List ℕ → Type 0
MayLay size work bytes = (is_create_work work ≡ true) ⊎ (length bytes ≡ size)

module _ (size : ℕ) where
  -- what comes of it has the object's length
  laid_length : (work : ObjWork) (bytes : List ℕ) → IsWhole size work → MayLay size work bytes → length (laid_by bytes work) ≡ size
  laid_length (Create oid policy long offset piece) bytes whole may =
      let full : length (zeros long) ≡ long = length-replicate long 0 in
      let same : long ≡ size = whole.0 in
      let within : offset + length piece ≤ size = whole.1 in
      length-laid_over (zeros long) offset piece (omega (arith, full, same, within)) ∙ full ∙ same
  laid_length (Write oid policy offset piece) bytes whole (inl creates_it) = absurd (cc (creates_it))
  laid_length (Write oid policy offset piece) bytes whole (inr full) =
      let within : offset + length piece ≤ size = whole.0 in
      length-laid_over bytes offset piece (omega (arith, full, within)) ∙ full
  laid_length (Read oid policy offset long) bytes whole (inl creates_it) = absurd (cc (creates_it))
  laid_length (Read oid policy offset long) bytes whole (inr full) = full
  laid_length (ReadAll oid policy long) bytes whole (inl creates_it) = absurd (cc (creates_it))
  laid_length (ReadAll oid policy long) bytes whole (inr full) = full

  -- a unit that it covers ends inside the object
  pub covered_within : (unit : ℕ) (work : ObjWork) → IsWhole size work → covers_by unit work ≡ true
      → unit_end (kind_of (oid_of work)) unit ≤ size
  covered_within unit (Create oid policy long offset piece) whole covers =
      let same : long ≡ size = whole.0 in
      let within = leb-true (unit_end (kind_of oid) unit) long covers in
      omega (arith, same, within)
  covered_within unit (Write oid policy offset piece) whole covers =
      let ends = leb-true (unit_end (kind_of oid) unit) (offset + length piece)
      (and_parts (nat_le offset (unit_start (kind_of oid) unit)) (nat_le (unit_end (kind_of oid) unit) (offset + length piece)) covers).1 in
      let within : offset + length piece ≤ size = whole.0 in
      omega (arith, ends, within)
  covered_within unit (Read oid policy offset long) whole covers = absurd (cc (covers))
  covered_within unit (ReadAll oid policy long) whole covers = absurd (cc (covers))

  -- a unit that it covers has its bytes
  laid_covered : (unit : ℕ) (work : ObjWork) (bytes : List ℕ) → IsWhole size work → MayLay size work bytes → covers_by unit work ≡ true
      → unit_bytes (kind_of (oid_of work)) unit (laid_by bytes work) ≡ bytes_by unit work
  laid_covered unit (Create oid policy long offset piece) bytes whole may covers = refl
  laid_covered unit (Write oid policy offset piece) bytes whole (inl creates_it) covers = absurd (cc (creates_it))
  laid_covered unit (Write oid policy offset piece) bytes whole (inr full) covers =
      let parts =
      and_parts (nat_le offset (unit_start (kind_of oid) unit)) (nat_le (unit_end (kind_of oid) unit) (offset + length piece)) covers in
      let within : offset + length piece ≤ size = whole.0 in
      piece-inside bytes offset piece (unit_start (kind_of oid) unit) (unit_size (kind_of oid) unit)
      (leb-true offset (unit_start (kind_of oid) unit) parts.0)
      (leb-true (unit_end (kind_of oid) unit) (offset + length piece) parts.1)
      (omega (arith, full, within))
  laid_covered unit (Read oid policy offset long) bytes whole may covers = absurd (cc (covers))
  laid_covered unit (ReadAll oid policy long) bytes whole may covers = absurd (cc (covers))

  -- and another one stays
  laid_beside : (unit : ℕ) (work : ObjWork) (bytes : List ℕ) → IsWhole size work → length bytes ≡ size → covers_by unit work ≡ false
      → unit_end (kind_of (oid_of work)) unit ≤ size
      → unit_bytes (kind_of (oid_of work)) unit (laid_by bytes work) ≡ unit_bytes (kind_of (oid_of work)) unit bytes
  laid_beside unit (Create oid policy long offset piece) bytes whole full covers fits =
      let same : long ≡ size = whole.0 in
      let does = le-leb (unit_end (kind_of oid) unit) long (omega (arith, same, fits)) in
      absurd (cc (does, covers))
  laid_beside unit (Write oid policy offset piece) bytes whole full covers fits = ⊎_elim
      (λ (among : (unit_start kind units.first ≤ unit_start kind unit) × (unit_end kind unit ≤ unit_start kind units.last)).
      let one = le-leb offset (unit_start kind unit) (omega (arith, among.0, begins)) in
      let two = le-leb (unit_end kind unit) (offset + length piece) (omega (arith, among.1, ends)) in
      absurd (cc (one, two, covers)))
      (λ (either : (unit_end kind unit ≤ unit_start kind units.first) ⊎ (unit_start kind units.last ≤ unit_start kind unit)).
      piece-beside bytes offset piece (unit_start kind unit) (unit_size kind unit) (apart either) (omega (arith, full, within)))
      (unit-among kind unit units.first units.last)
    where
      kind : Kind
      kind = kind_of oid

      units : AreUnits (kind_of oid) offset (offset + length piece)
      units = whole.1

      within : offset + length piece ≤ size
      within = whole.0

      begins : offset ≡ unit_start kind units.first
      begins = units.begins

      ends : offset + length piece ≡ unit_start kind units.last
      ends = units.ends

      apart : (unit_end kind unit ≤ unit_start kind units.first) ⊎ (unit_start kind units.last ≤ unit_start kind unit)
          → (unit_start kind unit + unit_size kind unit ≤ offset) ⊎ (offset + length piece ≤ unit_start kind unit)
      apart (inl before) = inl (omega (arith, before, begins))
      apart (inr behind) = inr (omega (arith, behind, ends))
  laid_beside unit (Read oid policy offset long) bytes whole full covers fits = refl
  laid_beside unit (ReadAll oid policy long) bytes whole full covers fits = refl

-- ---- the attempts on an object

-- the made attempts begin with a create
abbrev pub StartCreated : List AttemptRecord → Type 0
StartCreated [] = Unit {0}
StartCreated (attempt ∷ attempts) = ((is_made attempt ≡ false) × StartCreated attempts)
    ⊎ ((is_made attempt ≡ true) × (creates attempt ≡ true))

module _ (oid : ℕ) where
  -- a made create of the object stands before each write of it
  abbrev CreateIsBefore : List AttemptRecord → Type 0
  CreateIsBefore attempts = (k : ℕ) (attempt : AttemptRecord) → slice_get attempts k ≡ Some attempt → object_of attempt ≡ oid
      → creates attempt ≡ false → (i : ℕ) × (create : AttemptRecord) × (slice_get attempts i ≡ Some create) × (object_of create ≡ oid)
      × (creates create ≡ true) × (is_made create ≡ true) × (i < k)

  -- also without the first one, where that is none
  one_less : (attempt : AttemptRecord) (attempts : List AttemptRecord) → (object_of attempt ≡ oid → is_made attempt ≡ true → ⊥)
      → CreateIsBefore (attempt ∷ attempts) → CreateIsBefore attempts
  one_less attempt attempts other first k later there on writing =
      let found = first (suc k) later there on writing in
      shifted found.0 found.1 found.2 found.3 found.4 found.5 found.6
    where
      shifted : (i : ℕ) (create : AttemptRecord) → slice_get (attempt ∷ attempts) i ≡ Some create → object_of create ≡ oid
          → creates create ≡ true → is_made create ≡ true → i < suc k
          → (j : ℕ) × (one : AttemptRecord) × (slice_get attempts j ≡ Some one) × (object_of one ≡ oid) × (creates one ≡ true)
          × (is_made one ≡ true) × (j < k)
      shifted zero create at object creating made less =
          let same : attempt ≡ create = same_Some attempt create at in
          absurd (other (cc (same, object)) (cc (same, made)))
      shifted (suc i) create at object creating made less =
          let fewer : i < k = omega (arith, less) in (i, create, at, object, creating, made, fewer)

  starts_if : (attempt : AttemptRecord) (attempts : List AttemptRecord) → CreateIsBefore (attempt ∷ attempts)
      → (CreateIsBefore attempts → StartCreated (attempts_on oid attempts)) → (b c d : Bool) → (object_of attempt == oid) ≡ b
      → is_made attempt ≡ c → creates attempt ≡ d
      → StartCreated (cond b (attempt ∷ attempts_on oid attempts) (attempts_on oid attempts))
  starts_if attempt attempts first rest false c d on made creating =
      rest (one_less attempt attempts (λ object is. absurd (none object)) first)
    where
      none : object_of attempt ≡ oid → ⊥
      none object = let is = eq-eqb (object_of attempt) oid object in cc (is, on)
  starts_if attempt attempts first rest true false d on made creating =
      inl (made, rest (one_less attempt attempts (λ object is. absurd (cc (is, made))) first))
  starts_if attempt attempts first rest true true true on made creating = inr (made, creating)
  starts_if attempt attempts first rest true true false on made creating =
      let found = first 0 attempt refl (eqb-true (object_of attempt) oid on) creating in
      let less : found.0 < 0 = found.6 in
      absurd (omega (arith, less))

  starts_created : (attempts : List AttemptRecord) → CreateIsBefore attempts → StartCreated (attempts_on oid attempts)
  starts_created [] first = tt
  starts_created (attempt ∷ attempts) first =
      starts_if attempt attempts first (starts_created attempts) (object_of attempt == oid) (is_made attempt)
      (creates attempt) refl refl refl

  pub starts : (attempts : List AttemptRecord) → CreatesComeFirst attempts → StartCreated (attempts_on oid attempts)
  starts attempts first = starts_created attempts (λ k attempt there on writing.
      let found : IsCreated attempts (object_of attempt) attempt.epoch = (first.each k attempt there writing).0 in
      let object : object_of found.create ≡ oid = found.object ∙ on in
      (found.place, found.create, found.there, object, found.creating, found.made, (first.each k attempt there writing).1))

-- an attempt is on the object and covers whole units inside it
pub record IsWholeOn (oid size : ℕ) (attempt : AttemptRecord) : Type 0 where
  pub object : object_of attempt ≡ oid
  pub whole : IsWhole size attempt.work

abbrev lay : List ℕ → AttemptRecord → List ℕ
lay bytes attempt = laid_by bytes attempt.work

module _ (oid size unit : ℕ) (fits : unit_end (kind_of oid) unit ≤ size) where
  -- bytes have at the unit those of an attempt, if there is one
  abbrev HasIts : Option AttemptRecord → List ℕ → Type 0
  HasIts found bytes = (own : AttemptRecord) → found ≡ Some own → unit_bytes (kind_of oid) unit bytes ≡ bytes_by unit own.work

  abbrev made_on : List AttemptRecord → List AttemptRecord
  made_on attempts = filter is_made (covering unit attempts)

  -- laid over bytes of the object's length, the made ones come to those of the last that covers it
  abbrev ComesTo : List AttemptRecord → Type 0
  ComesTo attempts = (first : Option AttemptRecord) (bytes : List ℕ) → length bytes ≡ size → HasIts first bytes
      → HasIts (last_or first (made_on attempts)) (fold lay bytes (filter is_made attempts))

  laid_now : (attempt : AttemptRecord) (bytes : List ℕ) → IsWholeOn oid size attempt → MayLay size attempt.work bytes
      → covers_unit unit attempt ≡ true → HasIts (Some attempt) (lay bytes attempt)
  laid_now attempt bytes on may covers own same =
      let one : attempt ≡ own = same_Some attempt own same in
      subst (λ (q : ℕ). unit_bytes (kind_of q) unit (lay bytes attempt) ≡ bytes_by unit attempt.work) on.object
      (laid_covered size unit attempt.work bytes on.whole may covers)
      ∙ ap (λ (a : AttemptRecord). bytes_by unit a.work) one

  laid_still : (attempt : AttemptRecord) (bytes : List ℕ) (found : Option AttemptRecord) → IsWholeOn oid size attempt → length bytes ≡ size
      → covers_unit unit attempt ≡ false → HasIts found bytes → HasIts found (lay bytes attempt)
  laid_still attempt bytes found on full covers has own same =
      subst (λ (q : ℕ). unit_end (kind_of q) unit ≤ size
      → unit_bytes (kind_of q) unit (lay bytes attempt) ≡ unit_bytes (kind_of q) unit bytes) on.object
      (laid_beside size unit attempt.work bytes on.whole full covers) fits
      ∙ has own same

  covered_if : (attempt : AttemptRecord) (attempts : List AttemptRecord) → IsWholeOn oid size attempt → ComesTo attempts
      → (first : Option AttemptRecord) (bytes : List ℕ) → length bytes ≡ size → HasIts first bytes → covers_unit unit attempt ≡ true
      → (c : Bool)
      → HasIts (last_or first (cond c (attempt ∷ made_on attempts) (made_on attempts)))
      (fold lay bytes (cond c (attempt ∷ filter is_made attempts) (filter is_made attempts)))
  covered_if attempt attempts on rest first bytes full has covers true =
      rest (Some attempt) (lay bytes attempt) (laid_length size attempt.work bytes on.whole (inr full))
      (laid_now attempt bytes on (inr full) covers)
  covered_if attempt attempts on rest first bytes full has covers false = rest first bytes full has

  beside_if : (attempt : AttemptRecord) (attempts : List AttemptRecord) → IsWholeOn oid size attempt → ComesTo attempts
      → (first : Option AttemptRecord) (bytes : List ℕ) → length bytes ≡ size → HasIts first bytes → covers_unit unit attempt ≡ false
      → (c : Bool)
      → HasIts (last_or first (made_on attempts)) (fold lay bytes (cond c (attempt ∷ filter is_made attempts) (filter is_made attempts)))
  beside_if attempt attempts on rest first bytes full has covers true =
      rest first (lay bytes attempt) (laid_length size attempt.work bytes on.whole (inr full))
      (laid_still attempt bytes first on full covers has)
  beside_if attempt attempts on rest first bytes full has covers false = rest first bytes full has

  next_if : (attempt : AttemptRecord) (attempts : List AttemptRecord) → IsWholeOn oid size attempt → ComesTo attempts
      → (first : Option AttemptRecord) (bytes : List ℕ) → length bytes ≡ size → HasIts first bytes → (b : Bool)
      → covers_unit unit attempt ≡ b
      → HasIts (last_or first (filter is_made (cond b (attempt ∷ covering unit attempts) (covering unit attempts))))
      (fold lay bytes (filter is_made (attempt ∷ attempts)))
  next_if attempt attempts on rest first bytes full has true covers =
      covered_if attempt attempts on rest first bytes full has covers (is_made attempt)
  next_if attempt attempts on rest first bytes full has false covers =
      beside_if attempt attempts on rest first bytes full has covers (is_made attempt)

  comes_to : (attempts : List AttemptRecord) → AllByRecursion (IsWholeOn oid size) attempts → ComesTo attempts
  comes_to [] all first bytes full has = has
  comes_to (attempt ∷ attempts) all first bytes full has =
      next_if attempt attempts all.0 (comes_to attempts all.1) first bytes full has (covers_unit unit attempt) refl

  -- from nothing on, where a made create comes first
  abbrev ComesFromNothing : List AttemptRecord → Type 0
  ComesFromNothing attempts = HasIts (last_or None (made_on attempts)) (fold lay [] (filter is_made attempts))

  unmade_if : (attempt : AttemptRecord) (attempts : List AttemptRecord) → ComesFromNothing attempts → (b c : Bool) → is_made attempt ≡ c
      → c ≡ false
      → HasIts (last_or None (filter is_made (cond b (attempt ∷ covering unit attempts) (covering unit attempts))))
      (fold lay [] (cond c (attempt ∷ filter is_made attempts) (filter is_made attempts)))
  unmade_if attempt attempts rest b true is unmade = absurd (cc (unmade))
  unmade_if attempt attempts rest true false is unmade =
      subst
      (λ (d : Bool). HasIts (last_or None (cond d (attempt ∷ made_on attempts) (made_on attempts))) (fold lay [] (filter is_made attempts)))
      (sym is) rest
  unmade_if attempt attempts rest false false is unmade = rest

  created_if : (attempt : AttemptRecord) (attempts : List AttemptRecord) → IsWholeOn oid size attempt → ComesTo attempts
      → creates attempt ≡ true → (b c : Bool) → covers_unit unit attempt ≡ b → is_made attempt ≡ c → c ≡ true
      → HasIts (last_or None (filter is_made (cond b (attempt ∷ covering unit attempts) (covering unit attempts))))
      (fold lay [] (cond c (attempt ∷ filter is_made attempts) (filter is_made attempts)))
  created_if attempt attempts on rest creating b false covers is made = absurd (cc (made))
  created_if attempt attempts on rest creating true true covers is made =
      subst (λ (d : Bool). HasIts (last_or None (cond d (attempt ∷ made_on attempts) (made_on attempts)))
      (fold lay (lay [] attempt) (filter is_made attempts))) (sym is)
      (rest (Some attempt) (lay [] attempt) (laid_length size attempt.work [] on.whole (inl creating))
      (laid_now attempt [] on (inl creating) covers))
  created_if attempt attempts on rest creating false true covers is made =
      rest None (lay [] attempt) (laid_length size attempt.work [] on.whole (inl creating)) (λ own none. absurd (cc (none)))

  pub from_nothing : (attempts : List AttemptRecord) → AllByRecursion (IsWholeOn oid size) attempts → StartCreated attempts
      → ComesFromNothing attempts
  from_nothing [] all start = λ own none. absurd (cc (none))
  from_nothing (attempt ∷ attempts) all (inl unmade) =
      unmade_if attempt attempts (from_nothing attempts all.1 unmade.1) (covers_unit unit attempt) (is_made attempt) refl unmade.0
  from_nothing (attempt ∷ attempts) all (inr created) =
      created_if attempt attempts all.0 (comes_to attempts all.1) created.1 (covers_unit unit attempt) (is_made attempt) refl refl created.0

-- the made attempts laid over each other have at a unit what its own base has
pub laid_own : (oid size unit : ℕ) (attempts : List AttemptRecord) → unit_end (kind_of oid) unit ≤ size
    → AllByRecursion (IsWholeOn oid size) attempts → StartCreated attempts → (own : AttemptRecord) → own_base_of unit attempts ≡ Some own
    → unit_bytes (kind_of oid) unit (laid_over_in_order (filter is_made attempts)) ≡ bytes_by unit own.work
unfolding laid_over_in_order
laid_own oid size unit attempts fits all start own is = from_nothing oid size unit fits attempts all start own is
