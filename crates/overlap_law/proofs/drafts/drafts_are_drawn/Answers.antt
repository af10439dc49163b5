use Rattle.overlap_law.proofs.CarriedDrafts.{drafts-in_run, drafts-on_the_way}
use Rattle.overlap_law.proofs.drafts.drafts_are_drawn.Goals as goal

pub returns : goal.returns
returns c = record {
  in_run = λ script moves moment range is. drafts-in_run script range moves moment is;
  on_the_way = λ script moves move start moment end range is happens trail left.
      drafts-on_the_way script range moves move start end is happens trail left;
}
