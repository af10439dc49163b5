-- The phase of a request, by how many barriers stand before it.
use Rattle.std.proofs.Common.{◌≡◌, ◌≢◌, ℕ, zero, suc, ◌+◌, ◌==◌, Bool, true, false, not, cond, ◌||◌, List, [], ◌∷◌, ◌++◌, refl, ap, sym, subst, ◌∙◌, arith, Some, if◌then◌else◌}
use Rattle.std.specs.Prelude.{map, count_by, unwrap_or, slice_get}
use Rattle.std.specs.List.{list_any, range_with_len, position_or_len}
use Rattle.std.proofs.lemmas.Bool.{eq-eqb, ne_eqb, false≢true}
use Rattle.std.proofs.lemmas.Option.{none-some, same_Some}
use Rattle.cluster_script.specs.declared.statement.Statement.{Statement}
use Rattle.cluster_script.specs.declared.statement.Statement.TheVariants.{Cluster, Vnodes, Tries, Limit, Zone, Settle, ListNodes, ListVdis, ClusterInfo, Dump}
use Rattle.cluster_script.specs.declared.request_entry.RequestEntry.{RequestEntry}
use Rattle.cluster_script.specs.Statements.{is_request}
use Rattle.cluster_script.specs.NumberedRequests.{session_of}
use Rattle.cluster_script.specs.Phases.{is_barrier, stretches_with, stretches, phase_from, phases_from, has_request}
use Rattle.cluster_script.specs.KeptIndex.{phase_after, request_entries}
use Rattle.cluster_script.proofs.PhaseLaws.{one, count-cons}
use Rattle.cluster_script.proofs.Stretches.{ends-with, goes-on, others}

-- the phases of the requests among statements
pub asked : ℕ → List Statement → List ℕ
asked phase [] = []
asked phase (s ∷ rest) = (if is_request s then phase ∷ [] else []) ++ asked (phase_after phase s) rest

pub entries-asked : (place phase : ℕ) (statements : List Statement)
    → map (λ (e : RequestEntry). e.phase) (request_entries place phase statements) ≡ asked phase statements
unfolding asked
entries-asked place phase [] = refl
entries-asked place phase (s ∷ rest) = go (is_request s) (entries-asked (place + 1) (phase_after phase s) rest)
  where
    go : (b : Bool)
        → map (λ (e : RequestEntry). e.phase) (request_entries (place + 1) (phase_after phase s) rest) ≡ asked (phase_after phase s) rest
        → map (λ (e : RequestEntry). e.phase)
        ((if b then record { place = place; session = unwrap_or (session_of s) 0; phase = phase } ∷ [] else [])
        ++ request_entries (place + 1) (phase_after phase s) rest)
        ≡ (if b then phase ∷ [] else []) ++ asked (phase_after phase s) rest
    go true same = ap (λ xs. phase ∷ xs) same
    go false same = same

pub asked-others : (phase : ℕ) (statements : List Statement) → asked phase (others statements) ≡ asked phase statements
unfolding asked
asked-others phase [] = refl
asked-others phase (Cluster nodes ∷ rest) = asked-others phase rest
asked-others phase (Vnodes vnodes ∷ rest) = asked-others phase rest
asked-others phase (Tries tries ∷ rest) = asked-others phase rest
asked-others phase (Limit limit ∷ rest) = asked-others phase rest
asked-others phase (Zone node zone ∷ rest) = asked-others phase rest
asked-others phase (s ∷ rest) = ap (λ xs. (if is_request s then phase ∷ [] else []) ++ xs) (asked-others (phase_after phase s) rest)

barrier-no_request : (s : Statement) → is_barrier s ≡ true → is_request s ≡ false
barrier-no_request Settle ends = refl
barrier-no_request ListNodes ends = refl
barrier-no_request ListVdis ends = refl
barrier-no_request ClusterInfo ends = refl
barrier-no_request Dump ends = refl
barrier-no_request s ends = absurd (false≢true ends)

-- the first place is here, or one behind
position-cons : {X : Type 0} (p : X → Bool) (x : X) (xs : List X)
    → position_or_len p (x ∷ xs) ≡ (if p x then 0 else 1 + position_or_len p xs)
position-cons p x xs = go (p x)
  where
    go : (b : Bool) → cond (not b) (1 + position_or_len p xs) 0 ≡ (if b then 0 else 1 + position_or_len p xs)
    go true = refl
    go false = refl

-- the phase that has a number, among those that stretches are
abbrev pub place_of_number : ℕ → ℕ → List (List Statement) → ℕ
place_of_number number first parts = position_or_len (has_request number) (phases_from first parts)

abbrev is_within : ℕ → ℕ → ℕ → Bool
is_within number first count = list_any (λ other. other == number) (range_with_len first count)

place-cons : (number first : ℕ) (stretch : List Statement) (rest : List (List Statement))
    → place_of_number number first (stretch ∷ rest)
    ≡ (if is_within number first (count_by is_request stretch) then 0 else 1 + place_of_number number (first + count_by is_request stretch) rest)
place-cons number first stretch rest =
    position-cons (has_request number) (phase_from first stretch) (phases_from (first + count_by is_request stretch) rest)

-- a stretch with no requests has no number
place-behind : (number first : ℕ) (stretch : List Statement) (rest : List (List Statement)) → count_by is_request stretch ≡ 0
    → place_of_number number first (stretch ∷ rest) ≡ 1 + place_of_number number first rest
place-behind number first stretch rest none =
    let same : first + 0 ≡ first = omega arith in
    place-cons number first stretch rest
    ∙ ap (λ (n : ℕ). if is_within number first n then 0 else 1 + place_of_number number (first + n) rest) none
    ∙ ap (λ (n : ℕ). 1 + place_of_number number n rest) same

-- a statement in front of the first stretch
place-longer : (number first : ℕ) (s : Statement) (stretch : List Statement) (rest : List (List Statement))
    → is_within number first (count_by is_request (s ∷ stretch)) ≡ is_within number (first + one s) (count_by is_request stretch)
    → place_of_number number first ((s ∷ stretch) ∷ rest) ≡ place_of_number number (first + one s) (stretch ∷ rest)
place-longer number first s stretch rest same =
    let behind : first + count_by is_request (s ∷ stretch) ≡ first + one s + count_by is_request stretch
    = omega (arith, count-cons s stretch) in
    place-cons number first (s ∷ stretch) rest
    ∙ ap (λ (b : Bool). if b then 0 else 1 + place_of_number number (first + count_by is_request (s ∷ stretch)) rest) same
    ∙ ap (λ (n : ℕ). if is_within number (first + one s) (count_by is_request stretch) then 0 else 1 + place_of_number number n rest) behind
    ∙ sym (place-cons number (first + one s) stretch rest)

-- there is a first stretch
first-stretch : (s : Statement) (rest : List Statement)
    → (first : List Statement) × (later : List (List Statement)) × (stretches (s ∷ rest) ≡ first ∷ later)
first-stretch s rest = go (stretches rest)
  where
    chosen : (b : Bool) (f : List Statement) (r : List (List Statement))
        → (first : List Statement) × (later : List (List Statement)) × ((if b then (s ∷ []) ∷ f ∷ r else (s ∷ f) ∷ r) ≡ first ∷ later)
    chosen true f r = (s ∷ [], f ∷ r, refl)
    chosen false f r = (s ∷ f, r, refl)

    go : (parts : List (List Statement))
        → (first : List Statement) × (later : List (List Statement)) × (stretches_with s parts ≡ first ∷ later)
    go [] = (s ∷ [], [], refl)
    go (f ∷ r) = chosen (is_barrier s) f r

-- the number of a request is in the phase that its place says
abbrev pub IsPhase : ℕ → ℕ → ℕ → ℕ → List Statement → Type 0
IsPhase first number phase q statements = phase + place_of_number number first (stretches statements) ≡ q

here-phase : (first number phase q : ℕ) (s : Statement) (rest : List Statement) → is_barrier s ≡ false → is_request s ≡ true
    → first ≡ number → phase ≡ q → IsPhase first number phase q (s ∷ rest)
here-phase first number phase q s rest goes asks here same = omega (arith, begins (stretches rest), same)
  where
    counted : (stretch : List Statement) → count_by is_request (s ∷ stretch) ≡ suc (count_by is_request stretch)
    counted stretch = let once : one s ≡ 1 = rw asks refl in omega (arith, count-cons s stretch, once)

    at-first : (stretch : List Statement) (later : List (List Statement)) → place_of_number number first ((s ∷ stretch) ∷ later) ≡ 0
    at-first stretch later =
        place-cons number first (s ∷ stretch) later
        ∙ ap (λ (n : ℕ). if is_within number first n then 0 else 1 + place_of_number number (first + n) later) (counted stretch)
        ∙ ap (λ (b : Bool). if (b || is_within number (first + 1) (count_by is_request stretch)) then 0
        else 1 + place_of_number number (first + suc (count_by is_request stretch)) later) (eq-eqb first number here)

    begins : (parts : List (List Statement)) → place_of_number number first (stretches_with s parts) ≡ 0
    begins [] = at-first [] []
    begins (f ∷ r) = ap (place_of_number number first) (goes-on s f r goes) ∙ at-first f r

-- a number that isn't the first is in a stretch exactly where it is in what follows its first statement
within-longer : (number first : ℕ) (s : Statement) (stretch : List Statement) → is_request s ≡ true → first ≢ number
    → is_within number first (count_by is_request (s ∷ stretch)) ≡ is_within number (first + one s) (count_by is_request stretch)
within-longer number first s stretch asks other =
    let once : one s ≡ 1 = rw asks refl in
    let counted : count_by is_request (s ∷ stretch) ≡ suc (count_by is_request stretch) = omega (arith, count-cons s stretch, once) in
    ap (is_within number first) counted
    ∙ ap (λ (b : Bool). b || is_within number (first + 1) (count_by is_request stretch)) (ne_eqb first number other)
    ∙ ap (λ (n : ℕ). is_within number (first + n) (count_by is_request stretch)) (sym once)

within-same : (number first : ℕ) (s : Statement) (stretch : List Statement) → is_request s ≡ false
    → is_within number first (count_by is_request (s ∷ stretch)) ≡ is_within number (first + one s) (count_by is_request stretch)
within-same number first s stretch silent =
    let none : one s ≡ 0 = rw silent refl in
    let counted : count_by is_request (s ∷ stretch) ≡ count_by is_request stretch = omega (arith, count-cons s stretch, none) in
    let begins : first ≡ first + one s = omega (arith, none) in
    ap (is_within number first) counted ∙ ap (λ (n : ℕ). is_within number n (count_by is_request stretch)) begins

-- what is asked behind a statement that goes on with its phase
later-phase : (first number phase q k : ℕ) (s : Statement) (rest : List Statement) → is_barrier s ≡ false
    → slice_get (asked phase rest) k ≡ Some q
    → ((stretch : List Statement)
    → is_within number first (count_by is_request (s ∷ stretch)) ≡ is_within number (first + one s) (count_by is_request stretch))
    → IsPhase (first + one s) number phase q rest → IsPhase first number phase q (s ∷ rest)
unfolding asked
later-phase first number phase q k s [] goes is same later = absurd (none-some q is)
later-phase first number phase q k s (next ∷ rest) goes is same later =
    let parts = first-stretch next rest in
    let moved : place_of_number number first (stretches (s ∷ next ∷ rest)) ≡ place_of_number number (first + one s) (stretches (next ∷ rest))
    = ap (place_of_number number first) (ap (stretches_with s) parts.2 ∙ goes-on s parts.0 parts.1 goes)
    ∙ place-longer number first s parts.0 parts.1 (same parts.0)
    ∙ ap (place_of_number number (first + one s)) (sym parts.2) in
    omega (arith, moved, later)

pub phase-at : (first k phase q : ℕ) (statements : List Statement) → slice_get (asked phase statements) k ≡ Some q
    → IsPhase first (first + k) phase q statements
unfolding asked
phase-at first k phase q [] is = absurd (none-some q is)
phase-at first k phase q (s ∷ rest) is =
    go (λ f j p asked-there. phase-at f j p q rest asked-there) (is_barrier s) refl (is_request s) refl k is
  where
    go : ((f j p : ℕ) → slice_get (asked p rest) j ≡ Some q → IsPhase f (f + j) p q rest)
        → (ends : Bool) → is_barrier s ≡ ends → (asks : Bool) → is_request s ≡ asks → (k : ℕ)
        → slice_get ((if asks then phase ∷ [] else []) ++ asked (if ends then phase + 1 else phase) rest) k ≡ Some q
        → IsPhase first (first + k) phase q (s ∷ rest)
    go behind true ends true asks k is = absurd (false≢true (sym (barrier-no_request s ends) ∙ asks))
    go behind true ends false asks k is =
        let none : one s ≡ 0 = rw asks refl in
        let empty : count_by is_request (s ∷ []) ≡ 0 = omega (arith, count-cons s [], none) in
        let later : IsPhase first (first + k) (phase + 1) q rest = behind first k (phase + 1) is in
        let parted : place_of_number (first + k) first (stretches (s ∷ rest)) ≡ 1 + place_of_number (first + k) first (stretches rest)
        = ap (place_of_number (first + k) first) (ends-with s (stretches rest) ends)
        ∙ place-behind (first + k) first (s ∷ []) (stretches rest) empty in
        omega (arith, parted, later)
    go behind false ends true asks zero is =
        let here : first ≡ first + 0 = omega arith in here-phase first (first + 0) phase q s rest ends asks here (same_Some phase q is)
    go behind false ends true asks (suc j) is =
        let once : one s ≡ 1 = rw asks refl in
        let begins : first + 1 ≡ first + one s = omega (arith, once) in
        let moved : first + 1 + j ≡ first + suc j = omega arith in
        let later : IsPhase (first + 1) (first + 1 + j) phase q rest = behind (first + 1) j phase is in
        later-phase first (first + suc j) phase q j s rest ends is
        (λ stretch. within-longer (first + suc j) first s stretch asks (λ (e : first ≡ first + suc j). absurd (omega (arith, e))))
        (subst (λ (n : ℕ). IsPhase n (first + suc j) phase q rest) begins
        (subst (λ (n : ℕ). IsPhase (first + 1) n phase q rest) moved later))
    go behind false ends false asks k is =
        let none : one s ≡ 0 = rw asks refl in
        let begins : first ≡ first + one s = omega (arith, none) in
        let later : IsPhase first (first + k) phase q rest = behind first k phase is in
        later-phase first (first + k) phase q k s rest ends is (λ stretch. within-same (first + k) first s stretch asks)
        (subst (λ (n : ℕ). IsPhase n (first + k) phase q rest) begins later)
