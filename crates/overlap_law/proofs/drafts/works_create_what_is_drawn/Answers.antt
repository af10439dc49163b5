use Rattle.overlap_law.proofs.DrawnCourses.{waited_for-in_run}
use Rattle.overlap_law.proofs.drafts.works_create_what_is_drawn.Goals as goal

pub returns : goal.returns
returns c = λ script moves moment range is. waited_for-in_run script range moves moment is
