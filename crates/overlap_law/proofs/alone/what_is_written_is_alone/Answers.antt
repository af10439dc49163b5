use Rattle.overlap_law.specs.Holders.{is_available_disk}
use Rattle.overlap_law.proofs.AloneWritten.{alone-in_run}
use Rattle.overlap_law.proofs.TablesKept.{table-in_run}
use Rattle.overlap_law.proofs.alone.what_is_written_is_alone.Goals as goal

pub returns : goal.returns
returns c = λ script moves moment range ran.
    alone-in_run script range moves moment ran (is_available_disk moment.world.log moment.past.unavailable)
    (table-in_run script range moves moment ran)
