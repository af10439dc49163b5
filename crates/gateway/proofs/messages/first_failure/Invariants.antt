use Rattle.std.proofs.Common.{◌≡◌, drop}
use Rattle.gateway.specs.Attempt.{first_failure}
use Rattle.gateway.proofs.messages.first_failure.Given as goal

abbrev pub invariant-loop-message : goal.invariant-loop-message
invariant-loop-message l = first_failure l.work l.epoch (drop l.message-index l.messages) ≡ first_failure l.work l.epoch l.messages
