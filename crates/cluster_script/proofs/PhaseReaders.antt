-- What a script keeps of its phases is what its statements say.
use Rattle.std.proofs.Common.{◌≡◌, ℕ, zero, suc, ◌+◌, ◌<◌, ◌≤◌, Bool, true, false, cond, List, [], ◌∷◌, ◌++◌, length, refl, ap, sym, subst, ◌∙◌, arith, append_assoc, length-append, Option, Some, None, inl, inr, if◌then◌else◌}
use Rattle.std.specs.Prelude.{filter, map, count_by, unwrap_or, slice_get}
use Rattle.std.specs.Option.{option_map, option_and_then}
use Rattle.std.specs.List.{find, range_with_len}
use Rattle.std.proofs.lemmas.List.{length-map}
use Rattle.std.proofs.lemmas.List.FromFn.{length-range_with_len}
use Rattle.std.proofs.lemmas.List.Elements.{filter-append}
use Rattle.std.proofs.lemmas.List.Sums.{length-filter, count_by-le-length}
use Rattle.std.proofs.lemmas.Option.{none-some, same_Some, slice_get-map}
use Rattle.cluster_script.specs.declared.statement.Statement.{Statement}
use Rattle.cluster_script.specs.declared.statement.Statement.TheVariants.{Cluster, Vnodes, Tries, Limit, Zone, Settle}
use Rattle.cluster_script.specs.declared.index.PhaseOfScript.{PhaseOfScript}
use Rattle.cluster_script.specs.declared.phase_entry.PhaseEntry.{PhaseEntry}
use Rattle.cluster_script.specs.Statements.{is_request}
use Rattle.cluster_script.specs.Phases.{Phase, is_barrier, is_control, stretches_with, stretches, phase_from, phases_from, phases_of}
use Rattle.cluster_script.specs.Index.{phase_counts, control_at, phase_barrier_at, phase_request_at}
use Rattle.cluster_script.specs.KeptIndex.{control_places, phase_entry, phase_entries}
use Rattle.cluster_script.proofs.IndexLemmas.{AreTogether, together-behind, range-at, range-past, get-past}
use Rattle.cluster_script.proofs.PhaseLaws.{total, total-stretches, count-filter}
use Rattle.cluster_script.proofs.Stretches.{others}

-- the phases that are kept of statements
abbrev pub kept_phases : List Statement → List PhaseEntry
kept_phases statements = phase_entries 0 0 (stretches (others statements))

-- the counts that a kept phase tells
abbrev pub counts_kept : PhaseEntry → PhaseOfScript
counts_kept entry = record { controls = entry.controls; losses = entry.losses; requests = entry.requests }

-- the numbers of its requests
abbrev pub numbers_kept : PhaseEntry → List ℕ
numbers_kept entry = range_with_len (entry.requests_before + 1) entry.requests

same-counts : (controls requests first : ℕ) (parts : List (List Statement)) → first ≡ requests + 1
    → map phase_counts (phases_from first parts) ≡ map counts_kept (phase_entries controls requests parts)
same-counts controls requests first [] begins = refl
same-counts controls requests first (stretch ∷ rest) begins =
    let n : ℕ = count_by is_request stretch in
    let later : first + n ≡ requests + n + 1 = omega (arith, begins) in
    ap (λ (k : ℕ). record { controls = k; losses = (phase_from first stretch).losses; requests = length (range_with_len first n) }
    ∷ map phase_counts (phases_from (first + n) rest)) (length-filter is_control stretch)
    ∙ ap (λ (k : ℕ). record { controls = count_by is_control stretch; losses = (phase_from first stretch).losses; requests = k }
    ∷ map phase_counts (phases_from (first + n) rest)) (length-range_with_len first n)
    ∙ ap (λ (xs : List PhaseOfScript). counts_kept (phase_entry controls requests stretch) ∷ xs)
    (same-counts (controls + count_by is_control stretch) (requests + n) (first + n) rest later)

same-barriers : (controls requests first : ℕ) (parts : List (List Statement))
    → map (λ (phase : Phase). phase.barrier) (phases_from first parts)
    ≡ map (λ (entry : PhaseEntry). entry.barrier) (phase_entries controls requests parts)
same-barriers controls requests first [] = refl
same-barriers controls requests first (stretch ∷ rest) =
    ap (λ (xs : List Statement). (phase_from first stretch).barrier ∷ xs)
    (same-barriers (controls + count_by is_control stretch) (requests + count_by is_request stretch) (first + count_by is_request stretch) rest)

same-numbers : (controls requests first : ℕ) (parts : List (List Statement)) → first ≡ requests + 1
    → map (λ (phase : Phase). phase.requests) (phases_from first parts) ≡ map numbers_kept (phase_entries controls requests parts)
same-numbers controls requests first [] begins = refl
same-numbers controls requests first (stretch ∷ rest) begins =
    let n : ℕ = count_by is_request stretch in
    let later : first + n ≡ requests + n + 1 = omega (arith, begins) in
    ap (λ (k : ℕ). range_with_len k n ∷ map (λ (phase : Phase). phase.requests) (phases_from (first + n) rest)) begins
    ∙ ap (λ (xs : List (List ℕ)). range_with_len (requests + 1) n ∷ xs)
    (same-numbers (controls + count_by is_control stretch) (requests + n) (first + n) rest later)

-- what two lists tell at a place, where they tell the same
at-place : {X Y Z : Type 0} (f : X → Z) (g : Y → Z) (xs : List X) (ys : List Y) (k : ℕ) → map f xs ≡ map g ys
    → option_map f (slice_get xs k) ≡ option_map g (slice_get ys k)
at-place f g xs ys k same = sym (slice_get-map f xs k) ∙ ap (λ zs. slice_get zs k) same ∙ slice_get-map g ys k

begins : 1 ≡ 0 + 1
begins = omega arith

pub counts-at : (statements : List Statement) (place : ℕ)
    → option_map phase_counts (slice_get (phases_of statements) place) ≡ option_map counts_kept (slice_get (kept_phases statements) place)
counts-at statements place =
    at-place phase_counts counts_kept (phases_of statements) (kept_phases statements) place
    (same-counts 0 0 1 (stretches (others statements)) begins)

pub barrier-at : (statements : List Statement) (place : ℕ)
    → phase_barrier_at statements place ≡ option_map (λ (entry : PhaseEntry). entry.barrier) (slice_get (kept_phases statements) place)
barrier-at statements place =
    at-place (λ (phase : Phase). phase.barrier) (λ (entry : PhaseEntry). entry.barrier) (phases_of statements) (kept_phases statements)
    place
    (same-barriers 0 0 1 (stretches (others statements)))

pub length-kept_phases : (statements : List Statement) → length (kept_phases statements) ≡ length (phases_of statements)
length-kept_phases statements =
    sym (length-map (kept_phases statements) counts_kept)
    ∙ ap length (sym (same-counts 0 0 1 (stretches (others statements)) begins))
    ∙ length-map (phases_of statements) phase_counts

found-barrier : (stretch : List Statement) → is_barrier (unwrap_or (find is_barrier stretch) Settle) ≡ true
found-barrier [] = refl
found-barrier (s ∷ rest) = go (is_barrier s) refl (found-barrier rest)
  where
    go : (ends : Bool) → is_barrier s ≡ ends → is_barrier (unwrap_or (find is_barrier rest) Settle) ≡ true
        → is_barrier (unwrap_or (cond ends (Some s) (find is_barrier rest)) Settle) ≡ true
    go true is later = is
    go false is later = later

entry-barrier : (controls requests : ℕ) (parts : List (List Statement)) (k : ℕ) (entry : PhaseEntry)
    → slice_get (phase_entries controls requests parts) k ≡ Some entry → is_barrier entry.barrier ≡ true
entry-barrier controls requests [] k entry is = absurd (none-some entry is)
entry-barrier controls requests (stretch ∷ rest) zero entry is =
    subst (λ (e : PhaseEntry). is_barrier e.barrier ≡ true) (same_Some (phase_entry controls requests stretch) entry is)
    (found-barrier stretch)
entry-barrier controls requests (stretch ∷ rest) (suc k) entry is =
    entry-barrier (controls + count_by is_control stretch) (requests + count_by is_request stretch) rest k entry is

-- a kept phase ends by a barrier
pub kept-barrier : (statements : List Statement) (place : ℕ) (entry : PhaseEntry) → slice_get (kept_phases statements) place ≡ Some entry
    → is_barrier entry.barrier ≡ true
kept-barrier statements place entry is = entry-barrier 0 0 (stretches (others statements)) place entry is

-- a place within what a phase has
within-phase : {X : Type 0} (f : Phase → List X) (place : ℕ) (found : Option Phase)
    → option_and_then (λ phase. slice_get (f phase) place) found ≡ option_and_then (λ xs. slice_get xs place) (option_map f found)
within-phase f place None = refl
within-phase f place (Some phase) = refl

request-at : (statements : List Statement) (phase place : ℕ)
    → phase_request_at statements phase place
    ≡ option_and_then (λ (xs : List ℕ). slice_get xs place) (option_map numbers_kept (slice_get (kept_phases statements) phase))
request-at statements phase place =
    within-phase (λ (p : Phase). p.requests) place (slice_get (phases_of statements) phase)
    ∙ ap (option_and_then (λ (xs : List ℕ). slice_get xs place))
    (at-place (λ (p : Phase). p.requests) numbers_kept (phases_of statements) (kept_phases statements) phase
    (same-numbers 0 0 1 (stretches (others statements)) begins))

pub request-none : (statements : List Statement) (phase place : ℕ) → slice_get (kept_phases statements) phase ≡ None
    → phase_request_at statements phase place ≡ None
request-none statements phase place none =
    request-at statements phase place
    ∙ ap (λ (found : Option PhaseEntry). option_and_then (λ (xs : List ℕ). slice_get xs place) (option_map numbers_kept found)) none

pub request-past : (statements : List Statement) (phase place : ℕ) (entry : PhaseEntry)
    → slice_get (kept_phases statements) phase ≡ Some entry
    → entry.requests ≤ place → phase_request_at statements phase place ≡ None
request-past statements phase place entry is past =
    request-at statements phase place
    ∙ ap (λ (found : Option PhaseEntry). option_and_then (λ (xs : List ℕ). slice_get xs place) (option_map numbers_kept found)) is
    ∙ range-past (entry.requests_before + 1) entry.requests place past

pub request-there : (statements : List Statement) (phase place : ℕ) (entry : PhaseEntry)
    → slice_get (kept_phases statements) phase ≡ Some entry
    → place < entry.requests → phase_request_at statements phase place ≡ Some (entry.requests_before + place + 1)
request-there statements phase place entry is within =
    let number : entry.requests_before + 1 + place ≡ entry.requests_before + place + 1 = omega arith in
    request-at statements phase place
    ∙ ap (λ (found : Option PhaseEntry). option_and_then (λ (xs : List ℕ). slice_get xs place) (option_map numbers_kept found)) is
    ∙ range-at (entry.requests_before + 1) entry.requests place within
    ∙ ap Some number

entry-fits : (controls requests : ℕ) (parts : List (List Statement)) (k : ℕ) (entry : PhaseEntry)
    → slice_get (phase_entries controls requests parts) k ≡ Some entry → entry.requests_before + entry.requests ≤ requests + total parts
unfolding total
entry-fits controls requests [] k entry is = absurd (none-some entry is)
entry-fits controls requests (stretch ∷ rest) zero entry is =
    subst (λ (e : PhaseEntry). e.requests_before + e.requests ≤ requests + (count_by is_request stretch + total rest))
    (same_Some (phase_entry controls requests stretch) entry is) (omega arith)
entry-fits controls requests (stretch ∷ rest) (suc k) entry is =
    omega (arith, entry-fits (controls + count_by is_control stretch) (requests + count_by is_request stretch) rest k entry is)

-- there are no more requests in the phases than statements
pub requests-fit : (statements : List Statement) (phase : ℕ) (entry : PhaseEntry) → slice_get (kept_phases statements) phase ≡ Some entry
    → entry.requests_before + entry.requests ≤ length statements
requests-fit statements phase entry is =
    omega (
      arith,
      entry-fits 0 0 (stretches (others statements)) phase entry is,
      total-stretches (others statements),
      count-filter statements,
      count_by-le-length is_request statements,
    )

-- the controls of stretches
controls_in : List (List Statement) → List Statement
controls_in [] = []
controls_in (stretch ∷ rest) = filter is_control stretch ++ controls_in rest

controls-with : (s : Statement) (parts : List (List Statement))
    → controls_in (stretches_with s parts) ≡ filter is_control (s ∷ []) ++ controls_in parts
unfolding controls_in
controls-with s [] = refl
controls-with s (first ∷ rest) = go (is_barrier s)
  where
    go : (ends : Bool)
        → controls_in (if ends then (s ∷ []) ∷ first ∷ rest else (s ∷ first) ∷ rest)
        ≡ filter is_control (s ∷ []) ++ (filter is_control first ++ controls_in rest)
    go true = refl
    go false =
        ap (λ xs. xs ++ controls_in rest) (filter-append is_control (s ∷ []) first)
        ∙ append_assoc (filter is_control (s ∷ [])) (filter is_control first) (controls_in rest)

controls-stretches : (statements : List Statement) → controls_in (stretches statements) ≡ filter is_control statements
unfolding controls_in
controls-stretches [] = refl
controls-stretches (s ∷ rest) =
    controls-with s (stretches rest) ∙ ap (λ xs. filter is_control (s ∷ []) ++ xs) (controls-stretches rest)
    ∙ sym (filter-append is_control (s ∷ []) rest)

controls-others : (statements : List Statement) → filter is_control (others statements) ≡ filter is_control statements
controls-others [] = refl
controls-others (Cluster nodes ∷ rest) = controls-others rest
controls-others (Vnodes vnodes ∷ rest) = controls-others rest
controls-others (Tries tries ∷ rest) = controls-others rest
controls-others (Limit limit ∷ rest) = controls-others rest
controls-others (Zone node zone ∷ rest) = controls-others rest
controls-others (s ∷ rest) = ap (λ xs. cond (is_control s) (s ∷ xs) xs) (controls-others rest)

get-front : {X : Type 0} (xs ys : List X) (k : ℕ) → k < length xs → slice_get (xs ++ ys) k ≡ slice_get xs k
get-front [] ys k within = absurd (omega (arith, within))
get-front (x ∷ xs) ys zero within = refl
get-front (x ∷ xs) ys (suc k) within = get-front xs ys k (omega (arith, within))

get-behind : {X : Type 0} (xs ys : List X) (n k : ℕ) → n ≡ length xs → slice_get (xs ++ ys) (n + k) ≡ slice_get ys k
get-behind [] ys n k is = let same : n + k ≡ k = omega (arith, is) in ap (slice_get ys) same
get-behind (x ∷ xs) ys zero k is = absurd (omega (arith, is))
get-behind (x ∷ xs) ys (suc n) k is =
    let same : suc n + k ≡ suc (n + k) = omega arith in
    ap (slice_get (x ∷ (xs ++ ys))) same ∙ get-behind xs ys n k (omega (arith, is))

-- a phase's controls are so many of all of them, behind those of the phases before
entry-control : (done : List Statement) (controls requests first k place : ℕ) (parts : List (List Statement)) (entry : PhaseEntry)
    → controls ≡ length done → slice_get (phase_entries controls requests parts) k ≡ Some entry → place < entry.controls
    → option_and_then (λ (found : Phase). slice_get found.controls place) (slice_get (phases_from first parts) k)
    ≡ slice_get (done ++ controls_in parts) (entry.controls_before + place)
unfolding controls_in
entry-control done controls requests first k place [] entry counted is within = absurd (none-some entry is)
entry-control done controls requests first zero place (stretch ∷ rest) entry counted is within =
    let same : phase_entry controls requests stretch ≡ entry = same_Some (phase_entry controls requests stretch) entry is in
    let before : controls ≡ entry.controls_before = ap (λ (e : PhaseEntry). e.controls_before) same in
    let has : count_by is_control stretch ≡ entry.controls = ap (λ (e : PhaseEntry). e.controls) same in
    sym (get-front (filter is_control stretch) (controls_in rest) place (omega (arith, length-filter is_control stretch, has, within)))
    ∙ sym (get-behind done (filter is_control stretch ++ controls_in rest) controls place counted)
    ∙ ap (λ (n : ℕ). slice_get (done ++ (filter is_control stretch ++ controls_in rest)) (n + place)) before
entry-control done controls requests first (suc k) place (stretch ∷ rest) entry counted is within =
    let more : controls + count_by is_control stretch ≡ length (done ++ filter is_control stretch)
    = omega (arith, counted, length-append done (filter is_control stretch), length-filter is_control stretch) in
    entry-control (done ++ filter is_control stretch) (controls + count_by is_control stretch) (requests + count_by is_request stretch)
    (first + count_by is_request stretch) k place rest entry more is within
    ∙ ap (λ (xs : List Statement). slice_get xs (entry.controls_before + place))
    (append_assoc done (filter is_control stretch) (controls_in rest))

entry-control-past : (controls requests first k place : ℕ) (parts : List (List Statement)) (entry : PhaseEntry)
    → slice_get (phase_entries controls requests parts) k ≡ Some entry → entry.controls ≤ place
    → option_and_then (λ (found : Phase). slice_get found.controls place) (slice_get (phases_from first parts) k) ≡ None
entry-control-past controls requests first k place [] entry is past = absurd (none-some entry is)
entry-control-past controls requests first zero place (stretch ∷ rest) entry is past =
    let has : count_by is_control stretch ≡ entry.controls
    = ap (λ (e : PhaseEntry). e.controls) (same_Some (phase_entry controls requests stretch) entry is) in
    get-past (filter is_control stretch) place (omega (arith, length-filter is_control stretch, has, past))
entry-control-past controls requests first (suc k) place (stretch ∷ rest) entry is past =
    entry-control-past (controls + count_by is_control stretch) (requests + count_by is_request stretch)
    (first + count_by is_request stretch) k place rest entry is past

-- the places are those of the controls
control-of : (first : ℕ) (statements : List Statement) (k : ℕ)
    → AreTogether first statements (slice_get (control_places first statements) k) (slice_get (filter is_control statements) k)
control-of first [] k = inl (refl, refl)
control-of first (s ∷ rest) k = go (is_control s) (control-of (first + 1) rest) k
  where
    go : (b : Bool)
        → ((j : ℕ) → AreTogether (first + 1) rest (slice_get (control_places (first + 1) rest) j) (slice_get (filter is_control rest) j))
        → (j : ℕ)
        → AreTogether first (s ∷ rest) (slice_get ((if b then first ∷ [] else []) ++ control_places (first + 1) rest) j)
        (slice_get (cond b (s ∷ filter is_control rest) (filter is_control rest)) j)
    go true found zero = let e : first ≡ first + 0 = omega arith in inr (0, ap Some e, refl)
    go true found (suc j) =
        together-behind first s rest (slice_get (control_places (first + 1) rest) j) (slice_get (filter is_control rest) j) (found j)
    go false found j =
        together-behind first s rest (slice_get (control_places (first + 1) rest) j) (slice_get (filter is_control rest) j) (found j)

no-phase : (found : Option Phase) → option_map phase_counts found ≡ None → found ≡ None
no-phase None none = refl
no-phase (Some phase) none = absurd (none-some (phase_counts phase) (sym none))

pub control-none : (statements : List Statement) (phase place : ℕ) → slice_get (kept_phases statements) phase ≡ None
    → control_at statements phase place ≡ None
control-none statements phase place none =
    ap (option_and_then (λ (found : Phase). slice_get found.controls place))
    (no-phase (slice_get (phases_of statements) phase) (counts-at statements phase ∙ ap (option_map counts_kept) none))

pub control-past : (statements : List Statement) (phase place : ℕ) (entry : PhaseEntry)
    → slice_get (kept_phases statements) phase ≡ Some entry
    → entry.controls ≤ place → control_at statements phase place ≡ None
control-past statements phase place entry is past =
    entry-control-past 0 0 1 phase place (stretches (others statements)) entry is past

control-kept : (statements : List Statement) (phase place : ℕ) (entry : PhaseEntry) → slice_get (kept_phases statements) phase ≡ Some entry
    → place < entry.controls → control_at statements phase place ≡ slice_get (filter is_control statements) (entry.controls_before + place)
control-kept statements phase place entry is within =
    entry-control [] 0 0 1 phase place (stretches (others statements)) entry refl is within
    ∙ ap (λ (xs : List Statement). slice_get xs (entry.controls_before + place))
    (controls-stretches (others statements) ∙ controls-others statements)

-- without a place there is no control, and at its place it is found
pub control-lost : (statements : List Statement) (phase place : ℕ) (entry : PhaseEntry)
    → slice_get (kept_phases statements) phase ≡ Some entry
    → place < entry.controls → slice_get (control_places 0 statements) (entry.controls_before + place) ≡ None
    → control_at statements phase place ≡ None
control-lost statements phase place entry is within none = elim (control-of 0 statements (entry.controls_before + place)) [
  | inl past ↦ control-kept statements phase place entry is within ∙ past.1
  | inr found ↦ absurd (none-some (0 + found.0) (sym none ∙ found.1))
]

pub control-there : (statements : List Statement) (phase place at : ℕ) (entry : PhaseEntry)
    → slice_get (kept_phases statements) phase ≡ Some entry
    → place < entry.controls → slice_get (control_places 0 statements) (entry.controls_before + place) ≡ Some at
    → control_at statements phase place ≡ slice_get statements at
control-there statements phase place at entry is within there = elim (control-of 0 statements (entry.controls_before + place)) [
  | inl past ↦ absurd (none-some at (sym past.0 ∙ there))
  | inr found ↦
      let same : found.0 ≡ at = omega (arith, same_Some (0 + found.0) at (sym found.1 ∙ there)) in
      control-kept statements phase place entry is within ∙ found.2 ∙ ap (slice_get statements) same
]
