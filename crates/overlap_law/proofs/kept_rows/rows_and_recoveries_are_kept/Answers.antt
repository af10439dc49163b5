use Rattle.overlap_law.proofs.CarriedRows.{rows-in_run, searches-in_run}
use Rattle.overlap_law.proofs.MakingInRuns.{creates_first-in_run}
use Rattle.overlap_law.proofs.kept_rows.rows_and_recoveries_are_kept.Goals as goal

pub returns : goal.returns
returns c = record {
  rows = λ script range moves moment is. rows-in_run script range (creates_first-in_run script range) moves moment is;
  recoveries = λ script range moves moment is. searches-in_run script range (creates_first-in_run script range) moves moment is;
}
