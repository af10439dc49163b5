-- What a read of strips gives back.
use Rattle.std.proofs.Common.{◌≡◌, ℕ, suc, List, [], ◌∷◌, length, map, refl, sym, ap, ◌∙◌}
use Rattle.object_id.specs.declared.oid.Kind.{Kind}
use Rattle.object_id.specs.declared.policy.Policy.{Policy}
use Rattle.object_id.specs.Policy.{IsPolicy, need_of}
use Rattle.object_id.specs.Fields.{AreBytes}
use Rattle.gf256.specs.Polynomial.{ArePoints}
use Rattle.gf256.specs.Part.{IsAligned, part, bytes_of_parts}
use Rattle.gf256.proofs.PartLaws.{bytes_of_parts-part}
use Rattle.gateway.specs.declared.message.Message.{Message}
use Rattle.gateway.specs.Attempt.{bytes_in, bytes_through}

length-indexes : (messages : List Message) → length (map (λ (message : Message). message.index) messages) ≡ length messages
length-indexes [] = refl
length-indexes (message ∷ messages) = ap suc (length-indexes messages)

parts-indexes : (policy : Policy) (kind : Kind) (bytes : List ℕ) (messages : List Message)
    → map (λ index. part policy kind index bytes) (map (λ (message : Message). message.index) messages)
    ≡ map (λ (message : Message). part policy kind message.index bytes) messages
parts-indexes policy kind bytes [] = refl
parts-indexes policy kind bytes (message ∷ messages) =
    ap (λ parts. part policy kind message.index bytes ∷ parts) (parts-indexes policy kind bytes messages)

pub bytes_through-parts : (policy : Policy) (kind : Kind) (messages : List Message) (bytes : List ℕ) → IsPolicy policy
    → ArePoints (map (λ (message : Message). message.index) messages) → length messages ≡ need_of policy kind
    → map (λ (message : Message). bytes_in message.status) messages
    ≡ map (λ (message : Message). part policy kind message.index bytes) messages
    → AreBytes bytes → IsAligned policy kind (length bytes) → bytes_through policy kind messages ≡ bytes
bytes_through-parts policy kind messages bytes is points count given are whole =
    let indexes : List ℕ = map (λ (message : Message). message.index) messages in
    ap (bytes_of_parts policy kind indexes) (given ∙ sym (parts-indexes policy kind bytes messages))
    ∙ bytes_of_parts-part policy kind indexes bytes is points (length-indexes messages ∙ count) are whole
