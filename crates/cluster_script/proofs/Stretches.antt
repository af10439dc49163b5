-- The stretches of a script: where each ends, what is lost in it, and that settings are of none.
use Rattle.std.proofs.Common.{◌≡◌, ℕ, zero, suc, ◌+◌, ◌≤◌, ◌<◌, Bool, true, false, not, ◌||◌, ◌&&◌, List, [], ◌∷◌, ◌++◌, length, take, drop, get_or, refl, sym, ap, subst, ◌∙◌, arith, append_assoc, drop-cons, if◌then◌else◌}
use Rattle.std.specs.Prelude.{filter, sum_by}
use Rattle.std.specs.List.{list_all, list_any}
use Rattle.std.proofs.lemmas.Bool.{and_parts, false≢true}
use Rattle.std.proofs.lemmas.List.{append-nil, take_all, drop_all, take-append-drop}
use Rattle.std.proofs.lemmas.List.Elements.{filter-append}
use Rattle.std.proofs.lemmas.List.Folds.{list_all-append}
use Rattle.std.proofs.lemmas.List.Sums.{sum_by-append}
use Rattle.object_id.specs.declared.limits.TheConstants.{LOSSES_MAX}
use Rattle.cluster_script.specs.declared.statement.Statement.{Statement}
use Rattle.cluster_script.specs.declared.statement.Statement.TheVariants.{Cluster, Vnodes, Tries, Limit, Zone, Lose}
use Rattle.cluster_script.specs.Statements.{is_setting}
use Rattle.cluster_script.specs.Phases.{is_barrier, losses_in, losses_by, losses_from, stretches_with, stretches}
use Rattle.cluster_script.specs.Language.{MayStand, EachMayStand, IsScript}
use Rattle.cluster_script.specs.declared.phase_entry.PhaseEntry.{PhaseEntry}
use Rattle.cluster_script.specs.KeptIndex.{phase_entry, phase_entries}
use Rattle.cluster_script.proofs.Noted.{losses-more}
use Rattle.cluster_script.proofs.ScriptPlaces.{script-before}

-- a barrier ends a stretch
pub ends-with : (s : Statement) (parts : List (List Statement)) → is_barrier s ≡ true → stretches_with s parts ≡ (s ∷ []) ∷ parts
ends-with s [] ends = refl
ends-with s (first ∷ rest) ends = rw ends refl

-- any other statement belongs to the stretch behind it
pub goes-on : (s : Statement) (first : List Statement) (rest : List (List Statement)) → is_barrier s ≡ false
    → stretches_with s (first ∷ rest) ≡ (s ∷ first) ∷ rest
goes-on s first rest goes = rw goes refl

pub neither : (a b : Bool) → (a || b) ≡ false → (a ≡ false) × (b ≡ false)
neither true b none = absurd (false≢true (sym none))
neither false b none = (refl, none)

-- the first stretch ends at the first barrier
pub stretch-ends : (statements : List Statement) (k : ℕ) (d : Statement) → list_any is_barrier (take k statements) ≡ false
    → k < length statements
    → is_barrier (get_or statements k d) ≡ true → stretches statements ≡ take (suc k) statements ∷ stretches (drop (suc k) statements)
stretch-ends [] k d none within ends = absurd (omega (arith, within))
stretch-ends (s ∷ rest) zero d none within ends = ends-with s (stretches rest) ends
stretch-ends (s ∷ rest) (suc k) d none within ends =
    let parts = neither (is_barrier s) (list_any is_barrier (take k rest)) none in
    ap (stretches_with s) (stretch-ends rest k d parts.1 (omega (arith, within)) ends)
    ∙ goes-on s (take (suc k) rest) (stretches (drop (suc k) rest)) parts.0

-- without a barrier there is one stretch
pub stretch-open : (s : Statement) (rest : List Statement) → list_any is_barrier (s ∷ rest) ≡ false → stretches (s ∷ rest) ≡ (s ∷ rest) ∷ []
stretch-open s [] none = refl
stretch-open s (next ∷ rest) none =
    let parts = neither (is_barrier s) (list_any is_barrier (next ∷ rest)) none in
    ap (stretches_with s) (stretch-open next rest parts.1) ∙ goes-on s (next ∷ rest) [] parts.0

pub stretch-whole : (statements : List Statement) → 0 < length statements → list_any is_barrier statements ≡ false
    → stretches statements ≡ take (length statements) statements ∷ stretches (drop (length statements) statements)
stretch-whole [] some none = absurd (omega (arith, some))
stretch-whole (s ∷ rest) some none =
    let whole : List Statement = s ∷ rest in
    stretch-open s rest none
    ∙ sym (ap (λ xs. xs ∷ stretches (drop (length whole) whole)) (take_all (length whole) whole (omega arith))
    ∙ ap (λ xs. whole ∷ stretches xs) (drop_all (length whole) whole (omega arith)))

-- behind a statement that is no setting none stands
no-setting : (before : List Statement) (s : Statement) → list_all is_setting before ≡ false → MayStand before s → is_setting s ≡ false
no-setting before (Cluster nodes) other may = absurd (false≢true (sym other ∙ may.0.first))
no-setting before (Vnodes vnodes) other may = absurd (false≢true (sym other ∙ may.0.first))
no-setting before (Tries tries) other may = absurd (false≢true (sym other ∙ may.0.first))
no-setting before (Limit limit) other may = absurd (false≢true (sym other ∙ may.0.first))
no-setting before (Zone node zone) other may = absurd (false≢true (sym other ∙ may.0.first))
no-setting before s other may = refl

other-more : (before : List Statement) (s : Statement) → list_all is_setting before ≡ false → list_all is_setting (before ++ s ∷ []) ≡ false
other-more before s other = list_all-append is_setting before (s ∷ []) ∙ ap (λ b. b && (is_setting s && true)) other

abbrev pub others : List Statement → List Statement
others statements = filter (λ s. not (is_setting s)) statements

no-settings : (before rest : List Statement) → list_all is_setting before ≡ false → EachMayStand before rest → others rest ≡ rest
no-settings before [] other each = refl
no-settings before (s ∷ rest) other each =
    rw (no-setting before s other each.0) (ap (λ xs. s ∷ xs) (no-settings (before ++ s ∷ []) rest (other-more before s other) each.1))

all-settings : (statements : List Statement) → list_all is_setting statements ≡ true → others statements ≡ []
all-settings [] all = refl
all-settings (s ∷ rest) all =
    let parts = and_parts (is_setting s) (list_all is_setting rest) all in rw parts.0 (all-settings rest parts.1)

behind : (before first rest : List Statement) → EachMayStand before (first ++ rest) → EachMayStand (before ++ first) rest
behind before [] rest each = subst (λ (b : List Statement). EachMayStand b rest) (sym (append-nil before)) each
behind before (s ∷ first) rest each =
    subst (λ (b : List Statement). EachMayStand b rest) (append_assoc before (s ∷ []) first) (behind (before ++ s ∷ []) first rest each.1)

-- what stands from a place on may stand behind what stands before it
pub each-behind : (statements : List Statement) (k : ℕ) → IsScript statements → EachMayStand (take k statements) (drop k statements)
each-behind statements k script =
    behind [] (take k statements) (drop k statements) (subst IsScript (sym (take-append-drop k statements)) script)

-- the statements that are no settings are those from the first of them on
pub others-from : (statements : List Statement) (k : ℕ) (d : Statement) → IsScript statements
    → list_all is_setting (take k statements) ≡ true
    → k < length statements → is_setting (get_or statements k d) ≡ false → drop k statements ≡ others statements
others-from statements k d script all within other =
    let s : Statement = get_or statements k d in
    let parted : drop k statements ≡ s ∷ drop (suc k) statements = drop-cons statements k d within in
    let each : EachMayStand (take k statements) (s ∷ drop (suc k) statements)
    = subst (EachMayStand (take k statements)) parted (each-behind statements k script) in
    let begun : list_all is_setting (take k statements ++ s ∷ []) ≡ false
    = list_all-append is_setting (take k statements) (s ∷ []) ∙ ap (λ b. b && (is_setting s && true)) all ∙ ap (λ b. b && true) other in
    let kept : others (s ∷ drop (suc k) statements) ≡ s ∷ drop (suc k) statements
    = rw other (ap (λ xs. s ∷ xs) (no-settings (take k statements ++ s ∷ []) (drop (suc k) statements) begun each.1)) in
    parted ∙ sym kept ∙ ap others (sym parted)
    ∙ ap (λ xs. xs ++ others (drop k statements)) (sym (all-settings (take k statements) all))
    ∙ sym (filter-append (λ s. not (is_setting s)) (take k statements) (drop k statements))
    ∙ ap others (take-append-drop k statements)

pub others-none : (statements : List Statement) → list_all is_setting statements ≡ true → others statements ≡ []
others-none statements all = all-settings statements all

-- what is lost in each stretch is within the limit
unfoldable pub AreBounded : List (List Statement) → Type 0
AreBounded [] = Unit {0}
AreBounded (stretch ∷ rest) = (sum_by losses_in stretch ≤ LOSSES_MAX) × AreBounded rest

pub bounded-first : (first : List Statement) (rest : List (List Statement)) → AreBounded (first ∷ rest)
    → sum_by losses_in first ≤ LOSSES_MAX
unfolding AreBounded
bounded-first first rest bounded = bounded.0

pub bounded-rest : (first : List Statement) (rest : List (List Statement)) → AreBounded (first ∷ rest) → AreBounded rest
unfolding AreBounded
bounded-rest first rest bounded = bounded.1

-- so it is where so much was lost in the first stretch before
AreBoundedBehind : ℕ → List (List Statement) → Type 0
AreBoundedBehind lost [] = lost ≤ LOSSES_MAX
AreBoundedBehind lost (first ∷ rest) = (lost + sum_by losses_in first ≤ LOSSES_MAX) × AreBounded rest

losses-cons : (s : Statement) (rest : List Statement) → sum_by losses_in (s ∷ rest) ≡ losses_in s + sum_by losses_in rest
losses-cons s rest = omega (arith, sum_by-append losses_in (s ∷ []) rest)

lossless : (s : Statement) → is_barrier s ≡ true → losses_in s ≡ 0
lossless (Lose count) ends = absurd (false≢true ends)
lossless s ends = refl

bounded-step : (lost : ℕ) (s : Statement) (parts : List (List Statement)) → lost ≤ LOSSES_MAX → AreBoundedBehind (losses_by lost s) parts
    → AreBoundedBehind lost (stretches_with s parts)
unfolding AreBounded AreBoundedBehind
bounded-step lost s parts so_far bounded = go (is_barrier s) refl parts bounded
  where
    go : (ends : Bool) → is_barrier s ≡ ends → (parts : List (List Statement))
        → AreBoundedBehind (if ends then 0 else lost + losses_in s) parts
        → AreBoundedBehind lost (stretches_with s parts)
    go true is [] bounded = (omega (arith, losses-cons s [], lossless s is, so_far), tt)
    go false is [] bounded = (omega (arith, losses-cons s [], bounded), tt)
    go true is (first ∷ rest) bounded =
        rw is (omega (arith, losses-cons s [], lossless s is, so_far), (omega (arith, bounded.0), bounded.1))
    go false is (first ∷ rest) bounded =
        rw is (omega (arith, losses-cons s first, bounded.0), bounded.1)

loses : (before : List Statement) (s : Statement) → losses_from 0 before ≤ LOSSES_MAX → MayStand before s
    → losses_from 0 (before ++ s ∷ []) ≤ LOSSES_MAX
loses before s so_far may = rw (losses-more 0 before s) (go s may)
  where
    go : (s : Statement) → MayStand before s → losses_by (losses_from 0 before) s ≤ LOSSES_MAX
    go (Lose count) may = may.1
    go s may = omega (arith, so_far)

losses-within : (before rest : List Statement) → losses_from 0 before ≤ LOSSES_MAX → EachMayStand before rest
    → losses_from 0 (before ++ rest) ≤ LOSSES_MAX
losses-within before [] so_far each = subst (λ (b : List Statement). losses_from 0 b ≤ LOSSES_MAX) (sym (append-nil before)) so_far
losses-within before (s ∷ rest) so_far each =
    subst (λ (b : List Statement). losses_from 0 b ≤ LOSSES_MAX) (append_assoc before (s ∷ []) rest)
    (losses-within (before ++ s ∷ []) rest (loses before s so_far each.0) each.1)

bounded-behind : (before rest : List Statement) → losses_from 0 before ≤ LOSSES_MAX → EachMayStand before rest
    → AreBoundedBehind (losses_from 0 before) (stretches rest)
unfolding AreBoundedBehind
bounded-behind before [] so_far each = so_far
bounded-behind before (s ∷ rest) so_far each =
    bounded-step (losses_from 0 before) s (stretches rest) so_far
    (subst (λ (lost : ℕ). AreBoundedBehind lost (stretches rest)) (losses-more 0 before s)
    (bounded-behind (before ++ s ∷ []) rest (loses before s so_far each.0) each.1))

bounded-parts : (lost : ℕ) (parts : List (List Statement)) → AreBoundedBehind lost parts → AreBounded parts
unfolding AreBounded AreBoundedBehind
bounded-parts lost [] bounded = tt
bounded-parts lost (first ∷ rest) bounded = (omega (arith, bounded.0), bounded.1)

-- so it is from any place of a script on
pub bounded-from : (statements : List Statement) (k : ℕ) → IsScript statements → AreBounded (stretches (drop k statements))
bounded-from statements k script =
    bounded-parts (losses_from 0 (take k statements)) (stretches (drop k statements))
    (bounded-behind (take k statements) (drop k statements)
    (losses-within [] (take k statements) (omega arith) (script-before statements k script)) (each-behind statements k script))

-- one phase more
pub phases-step : (done : List PhaseEntry) (controls requests : ℕ) (stretch : List Statement) (parts : List (List Statement))
    (phase : PhaseEntry)
    → phase ≡ phase_entry controls requests stretch
    → (done ++ phase ∷ []) ++ phase_entries (controls + phase.controls) (requests + phase.requests) parts
    ≡ done ++ phase_entries controls requests (stretch ∷ parts)
phases-step done controls requests stretch parts phase is =
    subst (λ (p : PhaseEntry). (done ++ p ∷ []) ++ phase_entries (controls + p.controls) (requests + p.requests) parts
    ≡ done ++ phase_entries controls requests (stretch ∷ parts)) (sym is)
    (append_assoc done (phase_entry controls requests stretch ∷ []) _)
