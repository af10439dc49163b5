use Rattle.overlap_law.proofs.OpenItemsInRuns.{under_way-in_run}
use Rattle.overlap_law.proofs.items.what_is_under_way_is_open.Goals as goal

pub returns : goal.returns
returns c = λ script moves moment range is. under_way-in_run script range moves moment is
