use Rattle.overlap_law.proofs.DisksByTheLog.{AreThere, kept_there, disks_live}
use Rattle.overlap_law.proofs.DisksPublished.{AreOut, kept_out, disks_out}
use Rattle.overlap_law.proofs.RunsByChanges.{on_the_way}
use Rattle.overlap_law.proofs.history.disks_are_there_by_the_log.Goals as goal

pub returns-clause-there : goal.returns-clause-there
returns-clause-there c = λ script moves start moment range is trail.
    disks_live moment (on_the_way script AreThere (kept_there script range) moves start moment is trail)

pub returns-clause-published : goal.returns-clause-published
returns-clause-published c = λ script moves start moment range is trail.
    disks_out moment (on_the_way script AreOut (kept_out script range) moves start moment is trail)
