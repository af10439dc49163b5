use Rattle.overlap_law.proofs.OneInodeWork.{one_inode_work-in_run}
use Rattle.overlap_law.proofs.writers.a_session_has_one_inode_work.Goals as goal

pub returns : goal.returns
returns c = λ script moves moment range is. one_inode_work-in_run script range moves moment is
