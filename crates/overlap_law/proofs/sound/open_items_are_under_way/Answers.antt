use Rattle.overlap_law.proofs.SoundInRuns.{open_under_way-in_run}
use Rattle.overlap_law.proofs.sound.open_items_are_under_way.Goals as goal

pub returns : goal.returns
returns c = λ script moves moment range is. open_under_way-in_run script range moves moment is
