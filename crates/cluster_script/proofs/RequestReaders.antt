-- What a script keeps of its requests is what its statements say.
use Rattle.std.proofs.Common.{◌≡◌, ℕ, zero, suc, ◌+◌, ◌-◌, ◌<◌, ◌≤◌, ◌==◌, Bool, true, false, cond, List, [], ◌∷◌, ◌++◌, refl, ap, sym, subst, ◌∙◌, arith, Option, Some, None, ◌⊎◌, inl, inr, if◌then◌else◌}
use Rattle.std.specs.Prelude.{filter, map, unwrap_or, slice_get, is_some}
use Rattle.std.specs.Option.{option_map, option_map_or}
use Rattle.std.specs.List.{list_any, range_with_len, enumerate_from}
use Rattle.std.proofs.lemmas.Bool.{cases_lt, eqb-true, false≢true, false_from_ne_true}
use Rattle.std.proofs.lemmas.Option.{none-some, same_Some, slice_get-map}
use Rattle.object_id.specs.declared.limits.TheConstants.{SESSIONS_MAX}
use Rattle.object_id.specs.Node.{IsSession}
use Rattle.cluster_script.specs.declared.statement.Statement.{Statement}
use Rattle.cluster_script.specs.declared.statement.Statement.TheVariants.{Create, OpenDisk, Close, Read, Write, Snapshot, Clone, Delete, Check}
use Rattle.cluster_script.specs.declared.request_entry.RequestEntry.{RequestEntry}
use Rattle.cluster_script.specs.Statements.{declares, is_session_declared, is_request, requests_of}
use Rattle.cluster_script.specs.NumberedRequests.{session_of, is_of_session, request_at, numbers_of_session}
use Rattle.cluster_script.specs.Phases.{phase_of_request}
use Rattle.cluster_script.specs.Language.{MayStand, MayAsk, IsScript}
use Rattle.cluster_script.specs.Index.{script_index, indexed_at, indexed_request}
use Rattle.cluster_script.specs.KeptIndex.{phase_after, request_entries, entry_numbered, numbers_asked}
use Rattle.cluster_script.proofs.IndexLemmas.{indexed_at-request_at, range-at, range-past}
use Rattle.cluster_script.proofs.PhaseLaws.{session_of-there}
use Rattle.cluster_script.proofs.PhaseOfRequest.{asked, entries-asked, asked-others, IsPhase, phase-at}
use Rattle.cluster_script.proofs.ScriptFacts.{kind-shows, any-before, is_session_declared-session}
use Rattle.cluster_script.proofs.Stretches.{neither, others}

-- an entry tells the place and the session of a statement
record IsAt (first : ℕ) (statements : List Statement) (entry : RequestEntry) (s : Statement) : Type 0 where
  i : ℕ
  place : entry.place ≡ first + i
  there : slice_get statements i ≡ Some s
  session : entry.session ≡ unwrap_or (session_of s) 0

-- at a place of both lists there is nothing, or an entry and its request
abbrev AreTogether : ℕ → List Statement → Option RequestEntry → Option Statement → Type 0
AreTogether first statements entry request =
    ((entry ≡ None) × (request ≡ None))
    ⊎ ((e : RequestEntry) × (s : Statement) × (entry ≡ Some e) × (request ≡ Some s) × IsAt first statements e s)

together-behind : (first : ℕ) (s : Statement) (rest : List Statement) (entry : Option RequestEntry) (request : Option Statement)
    → AreTogether (first + 1) rest entry request → AreTogether first (s ∷ rest) entry request
together-behind first s rest entry request (inl none) = inl none
together-behind first s rest entry request (inr found) =
    let at = found.4 in
    inr (found.0, found.1, found.2, found.3, record { i = suc at.i; place = omega (arith, at.place); there = at.there; session = at.session })

together : (first phase : ℕ) (statements : List Statement) (k : ℕ)
    → AreTogether first statements (slice_get (request_entries first phase statements) k) (slice_get (requests_of statements) k)
together first phase [] k = inl (refl, refl)
together first phase (s ∷ rest) k = go (is_request s) (together (first + 1) (phase_after phase s) rest) k
  where
    here : first ≡ first + 0
    here = omega arith

    go : (b : Bool)
        → ((j : ℕ) → AreTogether (first + 1) rest (slice_get (request_entries (first + 1) (phase_after phase s) rest) j) (slice_get (requests_of rest) j))
        → (j : ℕ)
        → AreTogether first (s ∷ rest)
        (slice_get ((if b then record { place = first; session = unwrap_or (session_of s) 0; phase = phase } ∷ [] else [])
        ++ request_entries (first + 1) (phase_after phase s) rest) j)
        (slice_get (cond b (s ∷ requests_of rest) (requests_of rest)) j)
    go true found zero =
        inr (
          record { place = first; session = unwrap_or (session_of s) 0; phase = phase },
          s,
          refl,
          refl,
          record { i = 0; place = here; there = refl; session = refl },
        )
    go true found (suc j) = together-behind first s rest _ _ (found j)
    go false found j = together-behind first s rest _ _ (found j)

-- without an entry there is no request
pub entry-none : (statements : List Statement) (number : ℕ) → entry_numbered (request_entries 0 0 statements) number ≡ None
    → request_at statements number ≡ None
entry-none statements zero none = refl
entry-none statements (suc k) none = elim (together 0 0 statements k) [
  | inl past ↦ past.1
  | inr found ↦ absurd (none-some found.0 (sym none ∙ found.2))
]

-- where an entry is, there is a request, at its place
pub entry-place : (statements : List Statement) (number : ℕ) (entry : RequestEntry)
    → entry_numbered (request_entries 0 0 statements) number ≡ Some entry → request_at statements number ≡ slice_get statements entry.place
entry-place statements zero entry is = absurd (none-some entry is)
entry-place statements (suc k) entry is = elim (together 0 0 statements k) [
  | inl past ↦ absurd (none-some entry (sym past.0 ∙ is))
  | inr found ↦
      let same : found.0 ≡ entry = same_Some found.0 entry (sym found.2 ∙ is) in
      let place : found.4.i ≡ entry.place = omega (arith, found.4.place, ap (λ (e : RequestEntry). e.place) same) in
      found.3 ∙ sym found.4.there ∙ ap (slice_get statements) place
]

-- an entry tells the session of its request
entry-session : (statements : List Statement) (number : ℕ) (entry : RequestEntry) (s : Statement)
    → entry_numbered (request_entries 0 0 statements) number ≡ Some entry → request_at statements number ≡ Some s
    → unwrap_or (session_of s) 0 ≡ entry.session
entry-session statements zero entry s is at = absurd (none-some entry is)
entry-session statements (suc k) entry s is at = elim (together 0 0 statements k) [
  | inl past ↦ absurd (none-some entry (sym past.0 ∙ is))
  | inr found ↦
      let same : found.0 ≡ entry = same_Some found.0 entry (sym found.2 ∙ is) in
      let request : found.1 ≡ s = same_Some found.1 s (sym found.3 ∙ at) in
      ap (λ (x : Statement). unwrap_or (session_of x) 0) (sym request) ∙ sym found.4.session ∙ ap (λ (e : RequestEntry). e.session) same
]

-- an entry tells the phase of its request
entry-phase : (statements : List Statement) (number : ℕ) (entry : RequestEntry)
    → entry_numbered (request_entries 0 0 statements) number ≡ Some entry → phase_of_request statements number ≡ entry.phase
entry-phase statements zero entry is = absurd (none-some entry is)
entry-phase statements (suc k) entry is =
    let told : slice_get (asked 0 (others statements)) k ≡ Some entry.phase
    = ap (λ xs. slice_get xs k) (asked-others 0 statements ∙ sym (entries-asked 0 0 statements))
    ∙ slice_get-map (λ (e : RequestEntry). e.phase) (request_entries 0 0 statements) k
    ∙ ap (option_map (λ (e : RequestEntry). e.phase)) is in
    let number : 1 + k ≡ suc k = omega arith in
    let at : IsPhase 1 (1 + k) 0 entry.phase (others statements) = phase-at 1 k 0 entry.phase (others statements) told in
    ap (λ (n : ℕ). phase_of_request statements n) (sym number) ∙ omega (arith, at)

-- at its entry a request is found
pub entry-there : (statements : List Statement) (number : ℕ) (entry : RequestEntry) (s : Statement)
    → entry_numbered (request_entries 0 0 statements) number ≡ Some entry → slice_get statements entry.place ≡ Some s
    → indexed_at (script_index statements) number ≡ Some (record { statement = s; session = entry.session; phase = entry.phase })
entry-there statements number entry s is there =
    let at : request_at statements number ≡ Some s = entry-place statements number entry is ∙ there in
    indexed_at-request_at statements number
    ∙ ap (option_map (λ x. indexed_request statements (number, x))) at
    ∙ ap (λ (n : ℕ). Some (record { statement = s; session = n; phase = phase_of_request statements number })) (entry-session statements number entry s is at)
    ∙ ap (λ (n : ℕ). Some (record { statement = s; session = entry.session; phase = n })) (entry-phase statements number entry is)

-- the numbers of a session's requests among statements, of which the first request has this number
abbrev numbers_from : ℕ → ℕ → List Statement → List ℕ
numbers_from session number statements =
    map (λ (request : ℕ × Statement). request.0)
    (filter (λ (request : ℕ × Statement). is_of_session session request.1) (enumerate_from number (requests_of statements)))

-- the session that asks is this one
asks-for : (session : ℕ) (asking : Option ℕ) → is_some asking ≡ true
    → (unwrap_or asking 0 == session) ≡ option_map_or (λ n. n == session) asking false
asks-for session None none = absurd (false≢true none)
asks-for session (Some n) some = refl

-- a request in front
numbers-cons : (session number : ℕ) (s : Statement) (rest : List Statement) (mine : Bool)
    → (if mine then number ∷ [] else []) ++ numbers_from session (number + 1) rest
    ≡ map (λ (request : ℕ × Statement). request.0)
    (cond mine ((number, s) ∷ filter (λ (request : ℕ × Statement). is_of_session session request.1) (enumerate_from (number + 1) (requests_of rest)))
    (filter (λ (request : ℕ × Statement). is_of_session session request.1) (enumerate_from (number + 1) (requests_of rest))))
numbers-cons session number s rest true = refl
numbers-cons session number s rest false = refl

-- the numbers among the entries are those of the session's requests
numbers-kept : (session number place phase : ℕ) (statements : List Statement)
    → numbers_asked session number (request_entries place phase statements) ≡ numbers_from session number statements
numbers-kept session number place phase [] = refl
numbers-kept session number place phase (s ∷ rest) =
    go (is_request s) refl (numbers-kept session (number + 1) (place + 1) (phase_after phase s) rest)
    (numbers-kept session number (place + 1) (phase_after phase s) rest)
  where
    go : (asks : Bool) → is_request s ≡ asks
        → numbers_asked session (number + 1) (request_entries (place + 1) (phase_after phase s) rest)
        ≡ numbers_from session (number + 1) rest
        → numbers_asked session number (request_entries (place + 1) (phase_after phase s) rest) ≡ numbers_from session number rest
        → numbers_asked session number
        ((if asks then record { place = place; session = unwrap_or (session_of s) 0; phase = phase } ∷ [] else [])
        ++ request_entries (place + 1) (phase_after phase s) rest)
        ≡ map (λ (request : ℕ × Statement). request.0)
        (filter (λ (request : ℕ × Statement). is_of_session session request.1)
        (enumerate_from number (cond asks (s ∷ requests_of rest) (requests_of rest))))
    go true asks next same =
        let mine : (unwrap_or (session_of s) 0 == session) ≡ is_of_session session s
        = asks-for session (session_of s) (session_of-there s ∙ asks) in
        ap (λ (b : Bool). (if b then number ∷ [] else [])
        ++ numbers_asked session (number + 1) (request_entries (place + 1) (phase_after phase s) rest)) mine
        ∙ ap (λ (xs : List ℕ). (if is_of_session session s then number ∷ [] else []) ++ xs) next
        ∙ numbers-cons session number s rest (is_of_session session s)
    go false asks next same = same

-- a session that asks is declared
asks-declared : (session : ℕ) (first later : List Statement) (s : Statement) → MayStand first s → is_of_session session s ≡ true
    → is_session_declared session (first ++ s ∷ later) ≡ true
asks-declared session first later s may asks = go s may asks
  where
    declared : (s : Statement) (number : ℕ) → MayAsk first number → (number == session) ≡ true
        → is_session_declared session (first ++ s ∷ later) ≡ true
    declared s number ask same =
        any-before (declares session) first (s ∷ later)
        (subst (λ (n : ℕ). is_session_declared n first ≡ true) (eqb-true number session same) ask.declared)

    go : (s : Statement) → MayStand first s → is_of_session session s ≡ true → is_session_declared session (first ++ s ∷ later) ≡ true
    go (Create number policy shift name size) may asks = declared (Create number policy shift name size) number may.0 asks
    go (OpenDisk number name tag) may asks = declared (OpenDisk number name tag) number may.0 asks
    go (Close number) may asks = declared (Close number) number may asks
    go (Read number offset bytes) may asks = declared (Read number offset bytes) number may.0 asks
    go (Write number offset bytes pattern) may asks = declared (Write number offset bytes pattern) number may.0 asks
    go (Snapshot number tag) may asks = declared (Snapshot number tag) number may.0 asks
    go (Clone number base tag name) may asks = declared (Clone number base tag name) number may.0 asks
    go (Delete number name tag) may asks = declared (Delete number name tag) number may.0 asks
    go (Check number) may asks = declared (Check number) number may.0 asks
    go s may asks = absurd (false≢true asks)

none-of : (session number : ℕ) (statements : List Statement) → list_any (is_of_session session) statements ≡ false
    → numbers_from session number statements ≡ []
none-of session number [] none = refl
none-of session number (s ∷ rest) none =
    let parts = neither (is_of_session session s) (list_any (is_of_session session) rest) none in
    go (is_request s) (none-of session (number + 1) rest parts.1) (none-of session number rest parts.1) parts.0
  where
    go : (asks : Bool) → numbers_from session (number + 1) rest ≡ [] → numbers_from session number rest ≡ []
        → is_of_session session s ≡ false
        → map (λ (request : ℕ × Statement). request.0)
        (filter (λ (request : ℕ × Statement). is_of_session session request.1)
        (enumerate_from number (cond asks (s ∷ requests_of rest) (requests_of rest)))) ≡ []
    go true next same other = rw other next
    go false next same other = same

-- no other number than one of sessions asks in a script
none-asked : (statements : List Statement) (session : ℕ) → IsScript statements → ¬ IsSession session
    → numbers_of_session statements session ≡ []
none-asked statements session script other =
    none-of session 1 statements (false_from_ne_true (list_any (is_of_session session) statements) (λ found.
    other (is_session_declared-session statements session script
    (kind-shows (is_of_session session) (λ xs. is_session_declared session xs ≡ true) (asks-declared session) [] statements script found)).0))

-- the numbers of the requests of sessions 1 up
abbrev pub kept_numbers : List Statement → List (List ℕ)
kept_numbers statements = map (λ session. numbers_asked session 1 (request_entries 0 0 statements)) (range_with_len 1 SESSIONS_MAX)

kept-at : (statements : List Statement) (place : ℕ) → place < SESSIONS_MAX
    → slice_get (kept_numbers statements) place ≡ Some (numbers_of_session statements (1 + place))
kept-at statements place within =
    slice_get-map (λ session. numbers_asked session 1 (request_entries 0 0 statements)) (range_with_len 1 SESSIONS_MAX) place
    ∙ ap (option_map (λ session. numbers_asked session 1 (request_entries 0 0 statements))) (range-at 1 SESSIONS_MAX place within)
    ∙ ap Some (numbers-kept (1 + place) 1 0 0 statements)

kept-past : (statements : List Statement) (place : ℕ) → SESSIONS_MAX ≤ place → slice_get (kept_numbers statements) place ≡ None
kept-past statements place past =
    slice_get-map (λ session. numbers_asked session 1 (request_entries 0 0 statements)) (range_with_len 1 SESSIONS_MAX) place
    ∙ ap (option_map (λ session. numbers_asked session 1 (request_entries 0 0 statements))) (range-past 1 SESSIONS_MAX place past)

pub numbers-zero : (statements : List Statement) → IsScript statements → numbers_of_session statements 0 ≡ []
numbers-zero statements script = none-asked statements 0 script (λ is. absurd (omega (arith, is.0)))

-- the list that is kept of a session
pub numbers-found : (statements : List Statement) (session : ℕ) (numbers : List ℕ) → 1 ≤ session
    → slice_get (kept_numbers statements) (session - 1) ≡ Some numbers → numbers_of_session statements session ≡ numbers
numbers-found statements session numbers some is = elim (cases_lt (session - 1) SESSIONS_MAX) [
  | inl within ↦
      let same : 1 + (session - 1) ≡ session = omega (arith, some) in
      ap (numbers_of_session statements) (sym same)
      ∙ same_Some (numbers_of_session statements (1 + (session - 1))) numbers (sym (kept-at statements (session - 1) within) ∙ is)
  | inr past ↦ absurd (none-some numbers (sym (kept-past statements (session - 1) past) ∙ is))
]

-- where none is kept, nothing is asked
pub numbers-none : (statements : List Statement) (session : ℕ) → IsScript statements → 1 ≤ session
    → slice_get (kept_numbers statements) (session - 1) ≡ None → numbers_of_session statements session ≡ []
numbers-none statements session script some is = elim (cases_lt (session - 1) SESSIONS_MAX) [
  | inl within ↦ absurd (none-some _ (sym is ∙ kept-at statements (session - 1) within))
  | inr past ↦ none-asked statements session script (λ one. absurd (omega (arith, past, one.1)))
]
