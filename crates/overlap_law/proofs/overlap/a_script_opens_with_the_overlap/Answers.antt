use Rattle.overlap_law.proofs.OpeningOverlap.{overlap_opens}
use Rattle.overlap_law.proofs.overlap.a_script_opens_with_the_overlap.Goals as goal

pub returns : goal.returns
returns c = λ script range. overlap_opens script range
