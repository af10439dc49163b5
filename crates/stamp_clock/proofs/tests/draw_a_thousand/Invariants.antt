use Rattle.std.proofs.Common.{◌≡◌}
use Rattle.stamp_clock.proofs.tests.draw_a_thousand.Given as goal

abbrev pub invariant-loop : goal.invariant-loop
invariant-loop l = l.seat.clock ≡ l.fn.clock.id
