use Rattle.overlap_law.proofs.CarriedInodes.{good_inodes-in_run, good_inodes-on_the_way}
use Rattle.overlap_law.proofs.good_inodes.available_inodes_are_as_the_tables_say.Goals as goal

pub returns-clause-in_run : goal.returns-clause-in_run
returns-clause-in_run c = λ script moves moment range is. good_inodes-in_run script range moves moment is

pub returns-clause-on_the_way : goal.returns-clause-on_the_way
returns-clause-on_the_way c = λ script moves move start moment end range is happens trail left.
    good_inodes-on_the_way script range moves move start end is happens trail left
