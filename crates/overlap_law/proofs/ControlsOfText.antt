-- A script has no more controls than statements. So one with no more statements than a text may have bytes has few controls.
use Rattle.std.proofs.Common.{◌≡◌, arith, ℕ, suc, ◌+◌, ◌≤◌, not, Bool, true, false, cond, List, [], ◌∷◌, length, refl, ap, ◌∙◌}
use Rattle.std.specs.Prelude.{flat_map}
use Rattle.std.specs.List.{filter, count_by}
use Rattle.std.proofs.lemmas.List.{length-append}
use Rattle.object_id.specs.declared.limits.TheConstants.{INPUT_BYTES_MAX}
use Rattle.cluster_script.specs.declared.statement.Statement.{Statement}
use Rattle.cluster_script.specs.Language.{IsScript}
use Rattle.cluster_script.specs.Statements.{is_setting, is_request}
use Rattle.cluster_script.specs.Phases.{Phase, is_barrier, is_control, stretches_with, stretches, phases_from, phases_of}
use Rattle.sheep_world.specs.World.{World}
use Rattle.sheep_world.specs.Opening.{initial_world}
use Rattle.sheep_world.specs.ControlsToCome.{controls_behind}
use Rattle.sheep_world.specs.Began.{Began}
use Rattle.sheep_world.specs.LogHolds.{MayGrow}
use Rattle.sheep_world.specs.HoldsTogether.{MessagesAreInRange}
use Rattle.sheep_world.proofs.ControlLaws.{behind_next}
use Rattle.overlap_law.specs.RoomOfScripts.{count_of_controls, HasFewControls}
use Rattle.overlap_law.specs.MomentChanges.{RunsAreInRange}
use Rattle.overlap_law.proofs.RoomOfScripts.{has_room}

few_pass : (test : Statement → Bool) (list : List Statement) → length (filter test list) ≤ length list
few_pass test [] = omega arith
few_pass test (s ∷ rest) = by_test (test s) (few_pass test rest)
  where
    by_test : (b : Bool) → length (filter test rest) ≤ length rest
        → length (cond b (s ∷ filter test rest) (filter test rest)) ≤ suc (length rest)
    by_test true less = omega (arith, less)
    by_test false less = omega (arith, less)

-- how many statements stretches have
abbrev count : List (List Statement) → ℕ
count [] = 0
count (stretch ∷ rest) = length stretch + count rest

one_more : (n : ℕ) → 1 + n ≡ suc n
one_more n = omega arith

moved : (m n : ℕ) → suc m + n ≡ suc (m + n)
moved m n = omega arith

count_with : (s : Statement) (parts : List (List Statement)) → count (stretches_with s parts) ≡ suc (count parts)
count_with s [] = refl
count_with s (first ∷ rest) = by_end (is_barrier s)
  where
    by_end : (b : Bool) → count (cond b ((s ∷ []) ∷ first ∷ rest) ((s ∷ first) ∷ rest)) ≡ suc (length first + count rest)
    by_end true = one_more (length first + count rest)
    by_end false = moved (length first) (count rest)

count_stretches : (list : List Statement) → count (stretches list) ≡ length list
count_stretches [] = refl
count_stretches (s ∷ rest) = count_with s (stretches rest) ∙ ap suc (count_stretches rest)

-- the phases that stretches are have no more controls than these have statements
controls_of_stretches : (number : ℕ) (parts : List (List Statement))
    → length (flat_map (λ (phase : Phase). phase.controls) (phases_from number parts)) ≤ count parts
controls_of_stretches number [] = omega arith
controls_of_stretches number (stretch ∷ rest) =
    let next : ℕ = number + count_by is_request stretch in
    let own = few_pass is_control stretch in
    let later = controls_of_stretches next rest in
    let both : length (flat_map (λ (phase : Phase). phase.controls) (phases_from number (stretch ∷ rest)))
    ≡ length (filter is_control stretch) + length (flat_map (λ (phase : Phase). phase.controls) (phases_from next rest))
    = length-append (filter is_control stretch) (flat_map (λ (phase : Phase). phase.controls) (phases_from next rest)) in
    let all : count (stretch ∷ rest) ≡ length stretch + count rest = refl in
    omega (arith, own, later, both, all)

pub controls-few : (script : List Statement) → count_of_controls script ≤ length script
unfolding initial_world
controls-few script =
    let body : List Statement = filter (λ (s : Statement). not (is_setting s)) script in
    let all : count_of_controls script ≡ length (controls_behind (phases_of script) 0)
    = ap (λ (list : List Statement). length list) (behind_next (phases_of script) 0) in
    let phases : length (controls_behind (phases_of script) 0) ≤ count (stretches body) = controls_of_stretches 1 (stretches body) in
    let stretched : count (stretches body) ≡ length body = count_stretches body in
    let fewer : length body ≤ length script = few_pass (λ (s : Statement). not (is_setting s)) script in
    omega (arith, all, phases, stretched, fewer)

pub text-few : (script : List Statement) → length script ≤ INPUT_BYTES_MAX → HasFewControls script
text-few script short = record { few = (let controls = controls-few script in omega (arith, controls, short)) }

pub text-room : (script : List Statement) (world : World) → IsScript script → length script ≤ INPUT_BYTES_MAX → Began script world
    → MayGrow world
text-room script world is_script short began = has_room script is_script (text-few script short) world began

pub text-in_range : (script : List Statement) → IsScript script → length script ≤ INPUT_BYTES_MAX
    → ((world : World) → Began script world → MessagesAreInRange world) → RunsAreInRange script
text-in_range script is_script short messages =
    record { is_script = is_script; room = λ world began. text-room script world is_script short began; messages = messages }
