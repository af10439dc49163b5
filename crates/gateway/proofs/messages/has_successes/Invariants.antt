use Rattle.std.proofs.Common.{◌≡◌, ◌-◌, length, take}
use Rattle.gateway.specs.Attempt.{successes}
use Rattle.gateway.proofs.messages.has_successes.Given as goal

abbrev pub invariant-loop-message : goal.invariant-loop-message
invariant-loop-message l = l.missing ≡ l.need - length (successes (take l.message-index l.messages))
