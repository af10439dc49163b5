use Rattle.overlap_law.proofs.EndsKeepBlocks.{nothing-on_the_way}
use Rattle.overlap_law.proofs.history.attempts_of_the_refused_come_to_nothing.Goals as goal

pub returns : goal.returns
returns c = λ script moves start moment range is trail req refused. nothing-on_the_way script range moves start moment is trail req refused
