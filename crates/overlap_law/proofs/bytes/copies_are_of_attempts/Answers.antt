use Rattle.overlap_law.proofs.ToldCopies.{copies-on_the_way, told_copies-on_the_way}
use Rattle.overlap_law.proofs.bytes.copies_are_of_attempts.Goals as goal

pub returns-clause-stored : goal.returns-clause-stored
returns-clause-stored c = λ script moves start moment live range is trail.
    copies-on_the_way script range moves start moment is trail live

pub returns-clause-told : goal.returns-clause-told
returns-clause-told c = λ script moves start moment live range is trail.
    told_copies-on_the_way script range moves start moment is trail live
