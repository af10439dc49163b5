use Rattle.std.proofs.Common.{◌≡◌, ◌-◌, ◌*◌, ◌++◌, flat_map}
use Rattle.std.specs.List.{range_with_len}
use Rattle.schedule.specs.Generated.{words_from, rng_after, round_lines}
use Rattle.schedule.specs.GeneratedScript.{text_of_lines, generated_text}
use Rattle.schedule.proofs.generated.generated_text.Given as goal

-- the text so far, and that of the rounds that are left, is the text
abbrev pub invariant-loop-round : goal.invariant-loop-round
invariant-loop-round l = record {
  state : l.rng ≡ rng_after (50 * l.round) l.number;
  text :
      l.text.items ++ text_of_lines (flat_map (round_lines (words_from 200 l.number)) (range_with_len l.round (4 - l.round)))
      ≡ generated_text l.number;
}
