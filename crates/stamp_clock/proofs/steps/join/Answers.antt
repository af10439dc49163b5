use Rattle.std.proofs.Common.{arith}
use Rattle.stamp_clock.proofs.StepLemmas.{join_keeps}
use Rattle.stamp_clock.proofs.steps.join.Goals as goal

pub join_seat-requires : goal.join_seat-requires
join_seat-requires c = (
  c.requires.table,
  c.requires.other,
  c.requires.slots,
  omega arith,
  λ state rule is apart other_is.
      (rule.0, rule.1, join_keeps rule.0 state.views c.args.token.now.id c.args.other.id c.args.token.now.me.0 c.args.other.me.0 rule.2 is apart other_is),
)
