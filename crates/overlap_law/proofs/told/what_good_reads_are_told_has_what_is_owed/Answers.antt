use Rattle.overlap_law.proofs.ToldPiecesInRuns.{told_pieces-in_run, told_pieces-by_the_end}
use Rattle.overlap_law.proofs.told.what_good_reads_are_told_has_what_is_owed.Goals as goal

pub returns : goal.returns
returns c = record {
  in_run = λ script moves moment range is. told_pieces-in_run script range moves moment is;
  by_the_end = λ script moves move start moment end range run happens trail left.
      told_pieces-by_the_end script range moves move start moment end run happens trail left;
}
