use Rattle.std.proofs.Common.{◌≡◌, length}
use Rattle.live_workers.proofs.shared.slots.Given as goal

abbrev pub invariant-loop-number : goal.invariant-loop-number
invariant-loop-number g l = length l.slots.items ≡ l.number
