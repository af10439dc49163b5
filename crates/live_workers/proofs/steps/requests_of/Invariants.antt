use Rattle.std.proofs.Common.{◌≡◌}
use Rattle.live_workers.proofs.steps.requests_of.Given as goal

-- making letters leaves the seat as it was
abbrev pub invariant-loop-send : goal.invariant-loop-send
invariant-loop-send g l = l.seat ≡ l.fn.seat
