use Rattle.overlap_law.proofs.HeldInodes.{held_inode}
use Rattle.overlap_law.proofs.OpenedInodes.{working_inode}
use Rattle.overlap_law.proofs.tables.inodes_of_working_disks_are_made.Goals as goal

pub returns-clause-held : goal.returns-clause-held
returns-clause-held c = λ script moves start moment range is trail n host there up number vid holds.
    held_inode script range moves start moment is trail n number vid host holds

pub returns-clause-opened : goal.returns-clause-opened
returns-clause-opened c = λ script moves start moment range is trail. working_inode script range moves start moment is trail
