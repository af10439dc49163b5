use Rattle.overlap_law.proofs.PlacesInRuns.{places_drawn-in_run}
use Rattle.overlap_law.proofs.drafts.places_are_drawn.Goals as goal

pub returns : goal.returns
returns c = λ script moves moment range is. places_drawn-in_run script range moves moment is
