use Rattle.std.proofs.Common.{◌≡◌, take}
use Rattle.sheep_node.specs.Waiting.{passed_over}
use Rattle.sheep_node.specs.InStep.{IsInStep}
use Rattle.sheep_node.proofs.step_state.StepState.pass_over.Given as goal

-- the requests so far were passed over, and the step is under way
abbrev pub invariant-loop-req : goal.invariant-loop-req
invariant-loop-req l = IsInStep l.self × (l.self ≡ passed_over (take l.req-index l.reqs) l.fn.self)
