use Rattle.std.proofs.Common.{◌≡◌, take, map}
use Rattle.gateway.specs.Attempt.{send_of}
use Rattle.gateway.proofs.asking.sends_of.Given as goal

abbrev pub invariant-loop-message : goal.invariant-loop-message
invariant-loop-message l = l.sends ≡ map (send_of l.me l.epoch l.work) (take l.message-index l.messages)
