use Rattle.overlap_law.proofs.DataOfDisks.{data-on_the_way}
use Rattle.overlap_law.proofs.drafts.data_is_of_published_disks.Goals as goal

pub returns : goal.returns
returns c = λ script moves start moment range is trail. data-on_the_way script range moves start moment is trail
