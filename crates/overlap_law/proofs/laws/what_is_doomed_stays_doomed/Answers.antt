use Rattle.overlap_law.proofs.FateLemmas.{doomed-grows, doomed-marked}
use Rattle.overlap_law.proofs.laws.what_is_doomed_stays_doomed.Goals as goal

pub returns : goal.returns
returns c = record {
  goes_on = doomed-grows;
  told = doomed-marked;
}
