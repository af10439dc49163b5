use Rattle.overlap_law.proofs.BornFirst.{of_the_born}
use Rattle.overlap_law.proofs.births.attempts_are_of_the_born.Goals as goal

pub returns : goal.returns
returns c = of_the_born
