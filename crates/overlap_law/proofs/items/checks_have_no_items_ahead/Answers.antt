use Rattle.overlap_law.proofs.CheckedAhead.{ahead-in_run}
use Rattle.overlap_law.proofs.items.checks_have_no_items_ahead.Goals as goal

pub returns : goal.returns
returns c = λ script moves moment range is. ahead-in_run script range moves moment is
