use Rattle.overlap_law.proofs.MakingInRuns.{creates_first-in_run, own_entries-in_run}
use Rattle.overlap_law.proofs.births.a_made_create_always_comes_first.Goals as goal

pub returns : goal.returns
returns c = record {
  creates = λ script range. creates_first-in_run script range;
  own = λ script range moves moment is live. own_entries-in_run script range moves moment is live;
}
