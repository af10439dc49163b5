use Rattle.std.proofs.Common.{None, reverse}
use Rattle.recovery.specs.Kept.{current_in, older_in}
use Rattle.recovery.proofs.recovery.Recovery.new.Goals as goal

pub returns : goal.returns
returns c = λ i. record {
  me = c.args.me;
  epoch = 1;
  members = c.new.ensures.items i;
  lists = c.of_nobody.ensures c.args.me i;
  missing = reverse (c.new-2.ensures.items i);
  search = None;
  unanswered = current_in c.args.me (c.none.ensures i);
  older = older_in c.args.me (c.none.ensures i);
}
