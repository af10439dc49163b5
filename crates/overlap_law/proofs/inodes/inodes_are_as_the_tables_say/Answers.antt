use Rattle.overlap_law.proofs.CarriedInodes.{inodes-in_run, inodes-on_the_way}
use Rattle.overlap_law.proofs.inodes.inodes_are_as_the_tables_say.Goals as goal

pub returns : goal.returns
returns c = record {
  in_run = λ script moves moment range is. inodes-in_run script range moves moment is;
  on_the_way = λ script moves move start moment end range is happens trail left.
      inodes-on_the_way script range moves move start end is happens trail left;
}
