use Rattle.disk_check.proofs.ValueLemmas.{value_of-copies, differ-copies}
use Rattle.disk_check.proofs.laws.copies_are_compared_with_the_first.Goals as goal

pub returns : goal.returns
returns c = record {
  value = value_of-copies;
  differ = differ-copies;
}
