-- A text spells no more statements than it has lines. So the runs of a script that an input spells are in range.
use Rattle.std.proofs.Common.{◌≡◌, ℕ, suc, ◌+◌, ◌≤◌, ◌==◌, List, [], ◌∷◌, length, Option, Some, None, Ok, refl, ap, arith}
use Rattle.std.specs.List.{count_by}
use Rattle.std.proofs.lemmas.List.Splits.{length-slice_split}
use Rattle.std.proofs.lemmas.List.Sums.{count_by-le-length}
use Rattle.object_id.specs.declared.limits.TheConstants.{INPUT_BYTES_MAX}
use Rattle.cluster_script.specs.declared.statement.Statement.{Statement}
use Rattle.cluster_script.specs.Script.{script_in}
use Rattle.cluster_script.specs.Spelling.{AreLines, statements_said}
use Rattle.cluster_script.specs.Words.{lines_of}
use Rattle.cluster_script.proofs.TextLaws.{text-script}
use Rattle.overlap_law.specs.MomentChanges.{RunsAreInRange}
use Rattle.overlap_law.proofs.ControlsOfText.{controls-few}
use Rattle.overlap_law.proofs.RangeOfFewObjects.{in_range_few}

-- a line says one statement at most
said_few : (said : List (Option Statement)) → length (statements_said said) ≤ length said
said_few [] = omega arith
said_few (None ∷ rest) = let later = said_few rest in omega (arith, later)
said_few (Some s ∷ rest) = let later = said_few rest in omega (arith, later)

lines_say : (lines : List (List ℕ)) (said : List (Option Statement)) → AreLines lines said → length said ≡ length lines
lines_say [] [] are = refl
lines_say [] (first ∷ later) are = absurd are
lines_say (line ∷ lines) [] are = absurd are
lines_say (line ∷ lines) (first ∷ later) are = ap suc (lines_say lines later are.1)

pub statements_few : (text : List ℕ) (script : List Statement) → script_in text ≡ Ok script → length script ≤ length text + 1
statements_few text script read =
    let says = ((text-script text script).0 read).1 in
    let lines : length (lines_of text) ≡ count_by (λ (byte : ℕ). byte == 10) text + 1
    = length-slice_split (λ (byte : ℕ). byte == 10) text in
    let feeds : count_by (λ (byte : ℕ). byte == 10) text ≤ length text = count_by-le-length (λ (byte : ℕ). byte == 10) text in
    let few : length (statements_said says.0) ≤ length says.0 = said_few says.0 in
    let each : length says.0 ≡ length (lines_of text) = lines_say (lines_of text) says.0 says.1 in
    let all : length (statements_said says.0) ≡ length script = ap (λ (s : List Statement). length s) says.2 in
    omega (arith, lines, feeds, few, each, all)

pub in_range_input : (text : List ℕ) (script : List Statement) → length text ≤ INPUT_BYTES_MAX → script_in text ≡ Ok script
    → RunsAreInRange script
in_range_input text script short read =
    in_range_few script ((text-script text script).0 read).0
    (record {
      few = (let controls = controls-few script in
          let few = statements_few text script read in omega (arith, controls, few, short));
    })
