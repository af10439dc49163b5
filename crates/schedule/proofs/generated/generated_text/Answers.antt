use Rattle.std.proofs.Common.{◌≡◌, ◌+◌, ◌-◌, ◌*◌, ◌++◌, List, ℕ, flat_map, ap, ◌∙◌, arith}
use Rattle.std.specs.List.{range_with_len}
use Rattle.schedule.specs.Generated.{words_from, rng_after, round_lines, opening_lines}
use Rattle.schedule.specs.GeneratedScript.{text_of_lines}
use Rattle.schedule.proofs.GeneratedParts.{text-append, range-left, one-written, state-behind, round-drawn, text-in-parts}
use Rattle.schedule.proofs.generated.generated_text.Goals as goal

abbrev lines_of_rounds : ℕ → List ℕ → List (List ℕ)
lines_of_rounds number rounds = flat_map (round_lines (words_from 200 number)) rounds

pub loop-round-init : goal.loop-round-init
unfolding rng_after
loop-round-init c = record {
  state = c.generator_of-rng.ensures;
  text =
      ap (λ (text : List ℕ). text ++ text_of_lines (lines_of_rounds c.args.number (range_with_len 0 4)))
      (c.in_ok-push_opening.ensures ∙ ap (λ (text : List ℕ). text ++ text_of_lines opening_lines) c.new-text.ensures.items)
      ∙ text-in-parts c.args.number;
}

pub loop-round-preserved : goal.loop-round-preserved
loop-round-preserved c =
    let number : ℕ = c.args.number in
    let round : ℕ = c.loop-round.round in
    let lines : List (List ℕ) = round_lines (words_from 200 number) round in
    let left : List ℕ = range_with_len (round + 1) (4 - (round + 1)) in
    let fifty_more : 50 * round + 50 ≡ 50 * (round + 1) = omega arith in
    record {
      state =
          c.in_ok-push_round.ensures.state ∙ ap (rng_after 50) c.loop-round.invariant.state ∙ state-behind (50 * round) 50 number
          ∙ ap (λ (n : ℕ). rng_after n number) fifty_more;
      text =
          one-written (λ (rounds : List ℕ). text_of_lines (lines_of_rounds number rounds)) _ left round (text_of_lines lines) _ _ _
          (range-left round 4 c.loop-round-test.true) (text-append lines (lines_of_rounds number left))
          (c.in_ok-push_round.ensures.text
          ∙ ap (λ (drawn : List (List ℕ)). c.loop-round.text.items ++ text_of_lines drawn)
          (round-drawn round c.loop-round.rng number c.loop-round-test.true c.loop-round.invariant.state))
          c.loop-round.invariant.text;
    }
