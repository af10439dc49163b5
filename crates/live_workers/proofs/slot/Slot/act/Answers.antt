use Rattle.std.proofs.Common.{rules}
use Rattle.live_workers.proofs.slot.Slot.act.Goals as goal

pub invariant_of-self : goal.invariant_of-self
invariant_of-self g c = record { of = c.act.ensures.own c.args.self.now.number (search rules) }
