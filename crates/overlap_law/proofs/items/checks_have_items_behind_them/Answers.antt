use Rattle.overlap_law.proofs.CheckedOnTheWay.{behind-in_run}
use Rattle.overlap_law.proofs.items.checks_have_items_behind_them.Goals as goal

pub returns : goal.returns
returns c = λ script moves moment range is. behind-in_run script range moves moment is
