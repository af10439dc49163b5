use Rattle.overlap_law.proofs.CarriedRows.{good_at}
use Rattle.overlap_law.proofs.StripReadsInRuns.{given-in_run, given-on_the_way, given_so}
use Rattle.overlap_law.proofs.reads_told.what_reads_were_given_has_what_was_owed.Goals as goal

pub returns-clause-in_run : goal.returns-clause-in_run
returns-clause-in_run c = λ script moves moment range run.
    given_so (good_at moment) moment (given-in_run script range moves moment run)

pub returns-clause-on_the_way : goal.returns-clause-on_the_way
returns-clause-on_the_way c = λ script moves start moment range run trail.
    given_so (good_at start) moment (given-on_the_way script range moves start moment run trail)
