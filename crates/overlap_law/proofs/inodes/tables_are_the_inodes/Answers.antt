use Rattle.overlap_law.proofs.SnapshotInodes.{open_inodes}
use Rattle.overlap_law.proofs.TablesKept.{table-in_run, frozen-in_run, tables_kept}
use Rattle.overlap_law.proofs.inodes.tables_are_the_inodes.Goals as goal

pub returns-clause-created : goal.returns-clause-created
returns-clause-created c = λ script moves moment range is. open_inodes script range moves moment is

pub returns-clause-table : goal.returns-clause-table
returns-clause-table c = λ script moves moment range is. table-in_run script range moves moment is

pub returns-clause-frozen : goal.returns-clause-frozen
returns-clause-frozen c = λ script moves moment range is. frozen-in_run script range moves moment is

pub returns-clause-group : goal.returns-clause-group
returns-clause-group c = λ script moves moment range is. tables_kept script range moves moment is
