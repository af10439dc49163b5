use Rattle.std.proofs.Common.{◌≡◌, ◌-◌, ◌++◌, map}
use Rattle.schedule.specs.Generated.{words_from, rng_after, request_line}
use Rattle.schedule.specs.GeneratedScript.{text_of_lines}
use Rattle.schedule.proofs.generated.push_requests.Given as goal

-- the lines so far, and those of the words that are left, are the lines
abbrev pub invariant-loop : goal.invariant-loop
invariant-loop l = record {
  text :
      l.text.items ++ text_of_lines (map request_line (words_from (50 - l.counter) l.rng))
      ≡ l.fn.text.items ++ text_of_lines (map request_line (words_from 50 l.fn.rng));
  state : rng_after (50 - l.counter) l.rng ≡ rng_after 50 l.fn.rng;
}
