use Rattle.overlap_law.proofs.CoursesKept.{published_created}
use Rattle.overlap_law.proofs.drafts.what_is_to_be_published_is_created.Goals as goal

pub returns : goal.returns
returns c = λ script moves moment range is. published_created script range moves moment is
