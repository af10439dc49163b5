use Rattle.std.proofs.Common.{refl}
use Rattle.recovery.proofs.StepLemmas.{level_waits, search_after_level, missing_of_level, others_of_level}
use Rattle.recovery.proofs.laws.levels_are_left_after_all_answers.Goals as goal

pub returns : goal.returns
returns c = record {
  waits = level_waits;
  again = λ from refusal search. (refl, refl);
  next = search_after_level;
  missing = missing_of_level;
  others = others_of_level;
}
