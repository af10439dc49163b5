use Rattle.overlap_law.proofs.HeldLevels.{lives_by, has_made, gives-held, gives-found}
use Rattle.overlap_law.proofs.ListedObjects.{gives-listed}
use Rattle.overlap_law.proofs.WholeLists.{lists_whole-on_the_way}
use Rattle.overlap_law.proofs.heart.what_is_made_is_held.Goals as goal

pub returns-clause-held : goal.returns-clause-held
returns-clause-held c = λ script moves start moment range is trail good alive kept carried.
    gives-held good moment (has_made script range moves start moment is trail good alive kept carried)

pub returns-clause-found : goal.returns-clause-found
returns-clause-found c = λ script moves start moment range is trail good alive kept carried.
    gives-found good moment (has_made script range moves start moment is trail good alive kept carried)

pub returns-clause-listed : goal.returns-clause-listed
returns-clause-listed c = λ script moves start moment range is trail good alive kept carried.
    gives-listed good moment (has_made script range moves start moment is trail good alive kept carried)
    (lists_whole-on_the_way script range moves start moment is trail (lives_by moment.world.log))
