use Rattle.disk_check.proofs.ValueLemmas.{value_of-parts, differ-parts}
use Rattle.disk_check.proofs.laws.pieces_of_one_value_agree.Goals as goal

pub returns : goal.returns
returns c = record {
  value = value_of-parts;
  agree = differ-parts;
}
