use Rattle.std.proofs.Common.{◌≡◌, take, map, flat_map}
use Rattle.gateway.specs.declared.message.Message.{Message}
use Rattle.gateway.specs.Attempt.{successes, bytes_in}
use Rattle.gateway.proofs.given.first_parts.Given as goal

abbrev pub invariant-loop-message : goal.invariant-loop-message
invariant-loop-message l = record {
  indexes : l.parts.indexes.items ≡ map (λ (message : Message). message.index) (take l.need (successes (take l.message-index l.messages)));
  bytes : l.parts.bytes.items
      ≡ flat_map (λ (message : Message). bytes_in message.status) (take l.need (successes (take l.message-index l.messages)));
}
