use Rattle.std.proofs.Common.{refl}
use Rattle.std.specs.Fmt.{digits}
use Rattle.schedule.specs.Generated.{words_from, generated_lines}
use Rattle.schedule.proofs.laws.a_script_generated.Goals as goal

pub returns : goal.returns
unfolding words_from generated_lines digits
returns c = record {
  count = refl;
  opening = refl;
  first_round = refl;
  second_round = refl;
  third_round = refl;
  end = refl;
}
