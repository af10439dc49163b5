use Rattle.std.proofs.Common.{◌≡◌, ◌++◌, take}
use Rattle.live_workers.proofs.new_steps.add_copies.Given as goal

abbrev pub invariant-loop-step : goal.invariant-loop-step
invariant-loop-step l = l.steps.items ≡ l.fn.steps.items ++ take l.step-index l.later
