use Rattle.std.proofs.Common.{rules, arith, ◌∙◌}
use Rattle.sheep_words.proofs.DigitLemmas.{parsed}
use Rattle.sheep_words.proofs.meaning.number_in.Goals as goal

pub returns : goal.returns
returns c = c.ok.ensures.value ∙ parsed c.args.text.now c.parse.result (grind (arith)) (omega arith) (search rules) c.parse.ensures.value.0
