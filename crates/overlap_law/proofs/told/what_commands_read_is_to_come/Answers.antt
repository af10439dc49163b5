use Rattle.overlap_law.proofs.ReadsToComeInRuns.{reads_to_come-in_run, reads_to_come-by_the_end}
use Rattle.overlap_law.proofs.told.what_commands_read_is_to_come.Goals as goal

pub returns : goal.returns
returns c = record {
  in_run = λ script moves start before good_id range ran trail fewer.
      reads_to_come-in_run script range moves start before ran trail good_id fewer;
  by_the_end = λ script moves move start before end range ran happens trail.
      reads_to_come-by_the_end script range moves start before ran trail move end happens;
}
