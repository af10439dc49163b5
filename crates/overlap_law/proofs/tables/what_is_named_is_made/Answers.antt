use Rattle.overlap_law.specs.MomentChanges.{Then}
use Rattle.overlap_law.proofs.CarriedTables.{good_id_at, some_tables-on_the_way, tables-in_run, inodes_where}
use Rattle.overlap_law.proofs.tables.what_is_named_is_made.Goals as goal

pub returns-clause-tables : goal.returns-clause-tables
returns-clause-tables c = λ script moves moment range is. (tables-in_run script range moves moment is).tables

pub returns-clause-inodes : goal.returns-clause-inodes
returns-clause-inodes c = λ script moves moment range is live.
    inodes_where live (good_id_at moment) moment (tables-in_run script range moves moment is).inodes

pub returns-clause-tables_on_the_way : goal.returns-clause-tables_on_the_way
returns-clause-tables_on_the_way c = λ script moves move start end before after range on.
    (some_tables-on_the_way script range (good_id_at end) moves start after on.run (Then on.behind on.change)).tables

pub returns-clause-inodes_on_the_way : goal.returns-clause-inodes_on_the_way
returns-clause-inodes_on_the_way c = λ script moves move start end before after range on live.
    inodes_where live (good_id_at end) after
    (some_tables-on_the_way script range (good_id_at end) moves start after on.run (Then on.behind on.change)).inodes
