use Rattle.overlap_law.proofs.PlacesInRuns.{courses_kept-in_run}
use Rattle.overlap_law.proofs.drafts.requests_and_commands_are_kept.Goals as goal

pub returns : goal.returns
returns c = record {
  drawn = λ script moves moment range is. (courses_kept-in_run script range moves moment is).drawn;
  group = λ script moves moment range is. courses_kept-in_run script range moves moment is;
}
