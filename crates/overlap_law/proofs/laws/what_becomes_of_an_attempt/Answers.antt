use Rattle.overlap_law.proofs.BaseLemmas.{unmade-doomed, made-served}
use Rattle.overlap_law.proofs.laws.what_becomes_of_an_attempt.Goals as goal

pub returns : goal.returns
returns c = record {
  doomed = unmade-doomed;
  served = made-served;
}
