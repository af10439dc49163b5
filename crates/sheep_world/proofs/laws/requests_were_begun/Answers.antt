use Rattle.sheep_world.proofs.AsksAbsent.{all_were_begun}
use Rattle.sheep_world.proofs.BegunRequestLaws.{were_begun, new-begun}
use Rattle.sheep_world.proofs.laws.requests_were_begun.Goals as goal

pub returns : goal.returns
returns c = record { began = were_begun; without_asks = all_were_begun; new = new-begun }
