use Rattle.std.proofs.Common.{◌≡◌, fold, take}
use Rattle.sheep_world.specs.NodeSteps.{wire_with_request}
use Rattle.sheep_world.proofs.node_steps.wire_with_sends.Given as goal

-- the requests so far have entered the wire
abbrev pub invariant-loop-to : goal.invariant-loop-to
invariant-loop-to l = l.wire ≡ fold wire_with_request l.fn.wire (take l.to-index l.sends)
