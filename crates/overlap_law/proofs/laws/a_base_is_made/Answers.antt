use Rattle.overlap_law.proofs.BaseLemmas.{base-made, own_base-covers_unit}
use Rattle.overlap_law.proofs.laws.a_base_is_made.Goals as goal

pub returns : goal.returns
returns c = record {
  made = base-made;
  covers = own_base-covers_unit;
}
