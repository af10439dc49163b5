use Rattle.std.proofs.Common.{◌≡◌, take, map}
use Rattle.recovery.specs.State.{Message}
use Rattle.recovery.specs.Kept.{message_to}
use Rattle.recovery.proofs.in_flight.sends_of.Given as goal

abbrev pub invariant-loop-message : goal.invariant-loop-message
invariant-loop-message l = l.sends
    ≡ map (λ (message : Message). (message.to, message.request)) (map (message_to l.me l.epoch.0 l.asked) (take l.message-index l.sent))
