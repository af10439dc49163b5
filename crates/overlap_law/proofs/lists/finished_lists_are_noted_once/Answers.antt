use Rattle.overlap_law.proofs.NotedOnce.{none_noted}
use Rattle.overlap_law.proofs.lists.finished_lists_are_noted_once.Goals as goal

pub returns : goal.returns
returns c = λ script moves moment range is n host there epoch ahead. none_noted script range moves moment is n host there epoch ahead
