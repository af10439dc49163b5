use Rattle.gateway.proofs.MapLaws.{with_work-own, with_work-others, without_work-own, without_work-others}
use Rattle.gateway.proofs.laws.works_stand_by_their_requests.Goals as goal

pub returns : goal.returns
returns c = record {
  stands = with_work-own;
  others = with_work-others;
  ended = without_work-own;
  left = without_work-others;
}
