use Rattle.std.proofs.Common.{◌≡◌, take, flat_map}
use Rattle.gateway.specs.declared.message.Message.{Message}
use Rattle.gateway.specs.Attempt.{bytes_in}
use Rattle.gateway.proofs.given.all_pieces.Given as goal

abbrev pub invariant-loop-message : goal.invariant-loop-message
invariant-loop-message l = l.bytes.items ≡ flat_map (λ (message : Message). bytes_in message.status) (take l.message-index l.messages)
