-- What a phase has as its controls are controls, so the code keeps each of them.
use Rattle.std.proofs.Common.{◌≡◌, ℕ, zero, suc, ◌+◌, ◌<◌, ◌==◌, Bool, true, false, not, cond, List, [], ◌∷◌, ◌++◌, length, refl, sym, ap, subst, ◌∙◌, Option, Some, None, arith, append-nil}
use Rattle.std.specs.Prelude.{All, map, take, slice_get}
use Rattle.std.specs.List.{filter, count_by}
use Rattle.std.specs.Option.{option_map, option_map_or, option_and_then, option_to_list}
use Rattle.std.proofs.lemmas.Option.{none-some, same_Some, get_or_from_slice_get, slice_get_within}
use Rattle.std.proofs.lemmas.List.Elements.{filter_passes}
use Rattle.std.proofs.Math.Seq.{take-suc, take-length}
use Rattle.cluster_script.specs.declared.statement.Statement.{Statement}
use Rattle.cluster_script.specs.Statements.{is_setting, is_request}
use Rattle.cluster_script.specs.Phases.{Phase, is_control, phase_from, phases_from, stretches, phases_of}
use Rattle.cluster_script.specs.Index.{control_at}
use Rattle.sheep_world.specs.Opening.{controls_at}

of_parts : (number : ℕ) (parts : List (List Statement)) (place : ℕ) (found : Phase) → slice_get (phases_from number parts) place ≡ Some found
    → All (λ (s : Statement). is_control s ≡ true) found.controls
of_parts number [] place found is = absurd (none-some found is)
of_parts number (stretch ∷ rest) zero found is =
    subst (λ (phase : Phase). All (λ (s : Statement). is_control s ≡ true) phase.controls) (same_Some (phase_from number stretch) found is)
    (filter_passes is_control stretch)
of_parts number (stretch ∷ rest) (suc place) found is = of_parts (number + count_by is_request stretch) rest place found is

among : (xs : List Statement) (place : ℕ) (s : Statement) → All (λ (s : Statement). is_control s ≡ true) xs → slice_get xs place ≡ Some s
    → is_control s ≡ true
among xs place s all is =
    subst (λ (s : Statement). is_control s ≡ true) (get_or_from_slice_get xs place s s is) (all place s (slice_get_within xs place s is))

in_phase : (parts : List Statement) (phase : Option Phase) (place : ℕ) (s : Statement)
    → ((found : Phase) → phase ≡ Some found → All (λ (s : Statement). is_control s ≡ true) found.controls)
    → option_and_then (λ (found : Phase). slice_get found.controls place) phase ≡ Some s → is_control s ≡ true
in_phase parts None place s all is = absurd (none-some s is)
in_phase parts (Some found) place s all is = among found.controls place s (all found refl) is

-- a phase's control at a place is a control
pub control_at-is : (statements : List Statement) (phase place : ℕ) (s : Statement) → control_at statements phase place ≡ Some s → is_control s ≡ true
control_at-is statements phase place s is =
    in_phase statements (slice_get (phases_of statements) phase) place s
    (λ found there. of_parts 1 (stretches (filter (λ s. not (is_setting s)) statements)) phase found there) is

in_list : (phase : Option Phase) (place : ℕ)
    → option_and_then (λ (found : Phase). slice_get found.controls place) phase
    ≡ slice_get (option_map_or (λ (found : Phase). found.controls) phase []) place
in_list None place = refl
in_list (Some found) place = refl

take-past : (xs : List Statement) (place : ℕ) → slice_get xs place ≡ None → take (suc place) xs ≡ take place xs
take-past [] zero is = refl
take-past [] (suc place) is = refl
take-past (x ∷ rest) zero is = absurd (none-some x (sym is))
take-past (x ∷ rest) (suc place) is = ap (λ xs. x ∷ xs) (take-past rest place is)

up_to : (xs : List Statement) (place : ℕ) (o : Option Statement) → slice_get xs place ≡ o → take (suc place) xs ≡ take place xs ++ option_to_list o
up_to xs place None is = take-past xs place is ∙ sym (append-nil (take place xs))
up_to xs place (Some s) is =
    take-suc xs place s (slice_get_within xs place s is) ∙ ap (λ x. take place xs ++ x ∷ []) (get_or_from_slice_get xs place s s is)

one-more : (place : ℕ) → place + 1 ≡ suc place
one-more place = omega (arith)

-- the controls of a phase up to a place, and the one there
pub take-controls : (statements : List Statement) (phase place : ℕ)
    → take (place + 1) (controls_at statements phase)
    ≡ take place (controls_at statements phase) ++ option_to_list (control_at statements phase place)
take-controls statements phase place =
    ap (λ (n : ℕ). take n (controls_at statements phase)) (one-more place)
    ∙ up_to (controls_at statements phase) place (control_at statements phase place) (sym (in_list (slice_get (phases_of statements) phase) place))
