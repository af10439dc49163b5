use Rattle.std.proofs.Common.{◌≡◌, false}
use Rattle.live_tests.proofs.kept_run.kept_steps.Given as goal

abbrev pub invariant-loop-event : goal.invariant-loop-event
invariant-loop-event l = l.world.spent ≡ false
