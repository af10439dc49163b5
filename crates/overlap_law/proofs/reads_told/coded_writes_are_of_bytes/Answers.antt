use Rattle.overlap_law.proofs.StripReadsBegun.{bytes-in_run, bytes-on_the_way}
use Rattle.overlap_law.proofs.StripReadsItems.{bytes_stand}
use Rattle.overlap_law.proofs.reads_told.coded_writes_are_of_bytes.Goals as goal

pub returns-clause-in_run : goal.returns-clause-in_run
returns-clause-in_run c = λ script moves moment range run. bytes-in_run script range moves moment run

pub returns-clause-on_the_way : goal.returns-clause-on_the_way
returns-clause-on_the_way c = λ script moves start moment range run trail. bytes-on_the_way script range moves start moment run trail

pub returns-clause-items : goal.returns-clause-items
returns-clause-items c = λ script moves start moment range run trail.
    bytes_stand moment.past.history (bytes-on_the_way script range moves start moment run trail)
