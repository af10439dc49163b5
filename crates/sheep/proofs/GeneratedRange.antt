-- The script that a number generates has few statements, so its runs are in range.
use Rattle.std.proofs.Common.{◌≡◌, ℕ, ◌+◌, ◌*◌, ◌≤◌, ◌==◌, Bool, true, false, cond, min, List, [], ◌∷◌, ◌++◌, length, take, drop, map, refl}
use Rattle.std.proofs.Common.{arith}
use Rattle.std.proofs.lemmas.List.{length-append, length-map, length-take}
use Rattle.cluster_script.specs.declared.statement.Statement.{Statement}
use Rattle.cluster_script.specs.declared.statement.Statement.TheVariants.{Fail, Join, Settle}
use Rattle.overlap_law.specs.MomentChanges.{RunsAreInRange}
use Rattle.overlap_law.proofs.RangeOfFewObjects.{in_range_text}
use Rattle.schedule.specs.Generated.{words_from}
use Rattle.schedule.specs.GeneratedScript.{request_statement, control_statements, round_statements, opening_statements}
use Rattle.schedule.specs.GeneratedScript.{generated_statements}
use Rattle.schedule.proofs.GeneratedLaws.{generated-script}

controls_few : (first second : Bool) → length (cond first (Fail 5 ∷ []) (cond second (Join 6 ∷ []) [])) ≤ 1
controls_few true second = omega arith
controls_few false true = omega arith
controls_few false false = omega arith

-- a round has fifty requests at most, a control and the line that ends it
round_few : (words : List ℕ) (round : ℕ) → length (round_statements words round) ≤ 52
round_few words round =
    let drawn : List ℕ = take 50 (drop (50 * round) words) in
    let asked : List Statement = map request_statement drawn in
    let controls : length (control_statements round) ≤ 1 = controls_few (round == 1) (round == 2) in
    let fifty : length drawn ≡ min 50 (length (drop (50 * round) words)) = length-take 50 (drop (50 * round) words) in
    let same : length asked ≡ length drawn = length-map drawn request_statement in
    let both : length (control_statements round ++ asked) ≡ length (control_statements round) + length asked
    = length-append (control_statements round) asked in
    let all : length (round_statements words round) ≡ length (control_statements round ++ asked) + 1
    = length-append (control_statements round ++ asked) (Settle ∷ []) in
    omega (arith, controls, fifty, same, both, all)

generated_few : (number : ℕ) → length (generated_statements number) ≤ 300
generated_few number =
    let words : List ℕ = words_from 200 number in
    let one : List Statement = round_statements words 0 in
    let two : List Statement = round_statements words 1 in
    let three : List Statement = round_statements words 2 in
    let four : List Statement = round_statements words 3 in
    let opening : length opening_statements ≡ 15 = refl in
    let all : length (generated_statements number) ≡ length opening_statements + length (one ++ (two ++ (three ++ (four ++ []))))
    = length-append opening_statements (one ++ (two ++ (three ++ (four ++ [])))) in
    let first = length-append one (two ++ (three ++ (four ++ []))) in
    let second = length-append two (three ++ (four ++ [])) in
    let third = length-append three (four ++ []) in
    let fourth : length (four ++ []) ≡ length four + 0 = length-append four [] in
    let few_one = round_few words 0 in
    let few_two = round_few words 1 in
    let few_three = round_few words 2 in
    let few_four = round_few words 3 in
    omega (arith, opening, all, first, second, third, fourth, few_one, few_two, few_three, few_four)

pub generated_in_range : (number : ℕ) → RunsAreInRange (generated_statements number)
generated_in_range number =
    in_range_text (generated_statements number) (generated-script number) (let few = generated_few number in omega (arith, few))
