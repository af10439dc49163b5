use Rattle.dog_report.proofs.DumpLaws.{dump-only, dump-all}
use Rattle.dog_report.proofs.laws.dump_has_the_rows_of_nodes_that_are_up.Goals as goal

pub returns : goal.returns
returns c = record {
  only = dump-only;
  all = dump-all;
}
