use Rattle.disk_check.proofs.TableLemmas.{own_indexes-own, own_indexes-ascend, own_indexes-count, entries-all}
use Rattle.disk_check.proofs.laws.own_objects_are_those_of_the_table.Goals as goal

pub returns : goal.returns
returns c = record {
  own = own_indexes-own;
  ascending = own_indexes-ascend;
  count = own_indexes-count;
  all = entries-all;
}
