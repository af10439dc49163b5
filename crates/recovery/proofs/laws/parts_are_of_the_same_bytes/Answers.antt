use Rattle.std.proofs.Common.{refl}
use Rattle.recovery.proofs.PartLemmas.{part_of_same_bytes, index_of_recovered_epoch, put_by_first_bytes, indexes_by_index}
use Rattle.recovery.proofs.laws.parts_are_of_the_same_bytes.Goals as goal

pub returns : goal.returns
returns c = record {
  made = part_of_same_bytes;
  own = index_of_recovered_epoch;
  copies = λ copies kind row rows. refl;
  put = put_by_first_bytes;
  strips = indexes_by_index;
}
