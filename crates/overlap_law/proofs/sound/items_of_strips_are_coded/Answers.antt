use Rattle.overlap_law.proofs.SoundCodedRuns.{coded-in_run}
use Rattle.overlap_law.proofs.sound.items_of_strips_are_coded.Goals as goal

pub returns : goal.returns
returns c = λ script moves moment range is. coded-in_run script range moves moment is
