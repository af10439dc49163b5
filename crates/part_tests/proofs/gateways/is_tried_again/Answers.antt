use Rattle.std.proofs.Common.{◌∙◌, sym, arith}
use Rattle.part_tests.proofs.SoleWorkLemmas.{numbers-tried}
use Rattle.part_tests.proofs.gateways.is_tried_again.Goals as goal

pub retry-requires : goal.retry-requires
retry-requires c = record {
  may_send = record {
    entered = c.requires.entered;
    room = omega arith;
    numbers = numbers-tried (record { 0 = 1 }) c.args.gateway.now 12 c.requires.sole (sym c.can_retry.ensures ∙ c.if-can_retry.true);
  };
}
