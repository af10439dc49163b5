use Rattle.overlap_law.specs.Tables.{every_id}
use Rattle.overlap_law.proofs.CarriedTables.{all_tables-on_the_way, inodes_where}
use Rattle.overlap_law.proofs.good_inodes.what_any_disk_names_is_made.Goals as goal

pub returns-clause-tables : goal.returns-clause-tables
returns-clause-tables c = λ script moves start moment range run trail.
    (all_tables-on_the_way script range moves start moment run trail).tables

pub returns-clause-inodes : goal.returns-clause-inodes
returns-clause-inodes c = λ script moves start moment range run trail live.
    inodes_where live every_id moment (all_tables-on_the_way script range moves start moment run trail).inodes
