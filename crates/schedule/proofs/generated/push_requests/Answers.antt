use Rattle.std.proofs.Common.{◌+◌, ◌-◌, ◌++◌, ◌≤◌, List, ℕ, map, codes, sym, refl, ◌∙◌, arith}
use Rattle.schedule.specs.Generated.{words_from, request_line}
use Rattle.schedule.specs.GeneratedScript.{text_of_lines}
use Rattle.schedule.proofs.GeneratedParts.{words-left, words-end, state-left, state-end, one-written, all-written}
use Rattle.schedule.proofs.generated.push_requests.Goals as goal

abbrev written : List ℕ → List ℕ
written words = text_of_lines (map request_line words)

pub loop-preserved : goal.loop-preserved
loop-preserved c =
    let word : ℕ = c.next_word.result in
    let next : ℕ = c.next_word.new.rng in
    record {
      text =
          one-written written _ (words_from (50 - (c.loop.counter + 1)) next) word (request_line word ++ codes "\n") _ _ _
          (words-left c.loop.counter 50 c.loop.rng word next c.loop-test.true c.next_word.ensures.word c.next_word.ensures.state)
          refl c.in_ok-push_request.ensures c.loop.invariant.text;
      state =
          sym (state-left c.loop.counter 50 c.loop.rng next c.loop-test.true c.next_word.ensures.state) ∙ c.loop.invariant.state;
    }

pub returns-clause-text : goal.returns-clause-text
returns-clause-text c =
    let past : 50 ≤ c.loop.counter = omega (arith, c.loop-test.false) in
    all-written written _ _ _ (words-end c.loop.counter 50 c.loop.rng past) refl c.loop.invariant.text

pub returns-clause-state : goal.returns-clause-state
returns-clause-state c =
    let past : 50 ≤ c.loop.counter = omega (arith, c.loop-test.false) in
    sym (state-end c.loop.counter 50 c.loop.rng past) ∙ c.loop.invariant.state
