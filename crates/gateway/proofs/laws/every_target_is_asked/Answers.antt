use Rattle.gateway.proofs.SendLaws.{nodes-all, indexes-all}
use Rattle.gateway.proofs.laws.every_target_is_asked.Goals as goal

pub returns : goal.returns
returns c = record {
  nodes = nodes-all;
  indexes = indexes-all;
}
