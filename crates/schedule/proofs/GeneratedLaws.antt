-- For every number the script that it generates is one, its text is read as it, and it has 208 requests.
use Rattle.std.proofs.Common.{◌≡◌, ℕ, zero, suc, ◌≤◌, true, false, List, [], ◌∷◌, ◌++◌, length, take, drop, map, Ok, refl, sym, ap, ◌∙◌, arith}
use Rattle.std.specs.Prelude.{count_by, sum_by, flat_map}
use Rattle.std.proofs.lemmas.List.{append-nil, length-take-le, length-drop}
use Rattle.cluster_script.specs.declared.statement.Statement.{Statement}
use Rattle.cluster_script.specs.declared.statement.Statement.TheVariants.{Fail, Join, Settle}
use Rattle.cluster_script.specs.Statements.{is_request, is_session_declared, read_bytes, write_bytes}
use Rattle.cluster_script.specs.Language.{IsScript}
use Rattle.cluster_script.specs.Script.{script_in}
use Rattle.cluster_script.specs.Writing.{text_for}
use Rattle.cluster_script.proofs.WrittenLaws.{written-script}
use Rattle.rand_xoshiro.specs.SplitMix64.{mix_u64}
use Rattle.schedule.specs.Generated.{words_from, round_lines, opening_lines}
use Rattle.schedule.specs.GeneratedScript.{text_of_lines, generated_text, request_statement, round_statements, opening_statements, rounds_of_statements, generated_statements}
use Rattle.schedule.proofs.GeneratedParts.{text-append, lines-in-parts}
use Rattle.schedule.proofs.GeneratedTextLemmas.{written-append, four-rounds}
use Rattle.schedule.proofs.GeneratedOpening.{opening-stands, opening-read}
use Rattle.schedule.proofs.GeneratedStandLemmas.{Facts, facts-more, facts-same, Stands, one-stands, each-append, both-stand, fifty-stand}

length-words_from : (count rng : ℕ) → length (words_from count rng) ≡ count
unfolding words_from
length-words_from zero rng = refl
length-words_from (suc count) rng = ap suc (length-words_from count (mix_u64 rng).1)

-- a round's words are fifty
fifty : (words : List ℕ) (start : ℕ) → length words ≡ 200 → start ≤ 150 → length (take 50 (drop start words)) ≡ 50
fifty words start all before =
    let left = length-drop start words in
    length-take-le 50 (drop start words) (omega (arith, left, all, before))

four-sessions : (session : ℕ) → 1 ≤ session → session ≤ 4 → is_session_declared session opening_statements ≡ true
four-sessions zero low high = absurd (omega (arith, low))
four-sessions (suc zero) low high = refl
four-sessions (suc (suc zero)) low high = refl
four-sessions (suc (suc (suc zero))) low high = refl
four-sessions (suc (suc (suc (suc zero)))) low high = refl
four-sessions (suc (suc (suc (suc (suc more))))) low high = absurd (omega (arith, high))

opening-facts : Facts opening_statements 0 false false
opening-facts = record {
  behind = refl;
  sessions = four-sessions;
  count = refl;
  reads = let none : sum_by read_bytes opening_statements ≡ 0 = refl in omega (arith, none);
  writes = let none : sum_by write_bytes opening_statements ≡ 0 = refl in omega (arith, none);
  used = refl;
  failed = refl;
  joined = refl;
}

module _ (words : List ℕ) (all : length words ≡ 200) where
  abbrev of_round : ℕ → List Statement
  of_round start = map request_statement (take 50 (drop start words)) ++ Settle ∷ []

  module _ (before : List Statement) where
    first-round : Facts before 0 false false → Stands before (round_statements words 0) 50 false false
    first-round facts = fifty-stand (take 50 (drop 0 words)) before 0 false false (fifty words 0 all (omega arith)) facts (omega arith)

    second-round : Facts before 50 false false → Stands before (round_statements words 1) 100 true false
    second-round facts =
        one-stands before (of_round 50) (Fail 5) 100 true false (facts.behind, record { used = facts.used; stands = facts.failed })
        (fifty-stand (take 50 (drop 50 words)) (before ++ Fail 5 ∷ []) 50 true false (fifty words 50 all (omega arith))
        (facts-more before (Fail 5) 50 0 false false true false facts refl (omega arith) (omega arith) refl refl) (omega arith))

    third-round : Facts before 100 true false → Stands before (round_statements words 2) 150 true true
    third-round facts =
        one-stands before (of_round 100) (Join 6) 150 true true (facts.behind, omega arith, facts.joined)
        (fifty-stand (take 50 (drop 100 words)) (before ++ Join 6 ∷ []) 100 true true (fifty words 100 all (omega arith))
        (facts-more before (Join 6) 100 0 true false true true facts refl (omega arith) (omega arith) refl refl) (omega arith))

    fourth-round : Facts before 150 true true → Stands before (round_statements words 3) 200 true true
    fourth-round facts = fifty-stand (take 50 (drop 150 words)) before 150 true true (fifty words 150 all (omega arith)) facts (omega arith)

  abbrev all_rounds : List Statement
  all_rounds = flat_map (round_statements words) (0 ∷ 1 ∷ 2 ∷ 3 ∷ [])

  rounds-stand : (before : List Statement) → Facts before 0 false false → Stands before all_rounds 200 true true
  rounds-stand before facts =
      let one : List Statement = round_statements words 0 in
      let two : List Statement = round_statements words 1 in
      let three : List Statement = round_statements words 2 in
      let four : List Statement = round_statements words 3 in
      let first = first-round before facts in
      let second = second-round (before ++ one) first.facts in
      let third = third-round ((before ++ one) ++ two) second.facts in
      let fourth = fourth-round (((before ++ one) ++ two) ++ three) third.facts in
      both-stand before one (two ++ (three ++ (four ++ []))) 50 200 false false true true first
      (both-stand (before ++ one) two (three ++ (four ++ [])) 100 200 true false true true second
      (both-stand ((before ++ one) ++ two) three (four ++ []) 150 200 true true true true third
      (both-stand (((before ++ one) ++ two) ++ three) four [] 200 200 true true true true fourth
      (record { each = tt; facts = nothing-more ((((before ++ one) ++ two) ++ three) ++ four) fourth.facts }))))
    where
      nothing-more : (b : List Statement) → Facts b 200 true true → Facts (b ++ []) 200 true true
      nothing-more b facts = facts-same b (b ++ []) 200 200 true true (sym (append-nil b)) refl facts

pub generated-stands : (number : ℕ) → Stands opening_statements (rounds_of_statements number) 200 true true
generated-stands number = rounds-stand (words_from 200 number) (length-words_from 200 number) opening_statements opening-facts

pub generated-script : (number : ℕ) → IsScript (generated_statements number)
generated-script number = each-append [] opening_statements (rounds_of_statements number) opening-stands (generated-stands number).each

pub generated-count : (number : ℕ) → count_by is_request (generated_statements number) ≡ 208
generated-count number = (generated-stands number).facts.count

pub generated-read : (number : ℕ) → script_in (generated_text number) ≡ Ok (generated_statements number)
generated-read number =
    let rounds : List (List ℕ) = flat_map (round_lines (words_from 200 number)) (0 ∷ 1 ∷ 2 ∷ 3 ∷ []) in
    ap (λ (lines : List (List ℕ)). script_in (text_of_lines lines)) (lines-in-parts number)
    ∙ ap script_in (text-append opening_lines rounds)
    ∙ opening-read (text_of_lines rounds)
    ∙ ap (λ (later : List ℕ). script_in (text_for opening_statements ++ later)) (four-rounds (words_from 200 number))
    ∙ sym (ap script_in (written-append opening_statements (rounds_of_statements number)))
    ∙ written-script (generated_statements number) (generated-script number)
