use Rattle.overlap_law.proofs.FateLemmas.{made-not_doomed, made-marked}
use Rattle.overlap_law.proofs.laws.what_is_made_stays_made.Goals as goal

pub returns : goal.returns
returns c = record {
  apart = made-not_doomed;
  stays = made-marked;
}
