use Rattle.std.proofs.Common.{All}
use Rattle.live_workers.specs.NewSteps.{IsKept}
use Rattle.live_workers.proofs.shared.Shared.new_steps.Given as goal

-- what was added so far is kept
abbrev pub invariant-loop-node : goal.invariant-loop-node
invariant-loop-node g l = All IsKept l.steps.items
