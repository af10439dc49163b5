use Rattle.std.proofs.Common.{arith}
use Rattle.stamp_clock.proofs.StepLemmas.{note_keeps}
use Rattle.stamp_clock.proofs.steps.split_note.Goals as goal

pub split_seat-requires : goal.split_seat-requires
split_seat-requires c = (
  c.requires.table,
  omega arith,
  λ state rule is. (rule.0, rule.1, note_keeps rule.0 state.views c.args.token.now.id c.args.token.now.me.0 rule.2 is),
)
