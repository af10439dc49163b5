use Rattle.overlap_law.proofs.CopiedServed.{creates_strips}
use Rattle.overlap_law.proofs.copies.what_is_copied_of_strips_was_read.Goals as goal

pub returns : goal.returns
returns c = λ script moves move start moment end range run happens trail left good_id test.
    creates_strips script range moves move start end run happens good_id trail left test
