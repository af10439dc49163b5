-- An attempt that has nothing in the wire was served by each of its targets, or is doomed.
use Rattle.std.proofs.Common.{◌≡◌, ℕ, zero, suc, Bool, true, false, List, [], ◌∷◌, length, Option, Some, slice_get, refl, ap}
use Rattle.std.specs.Prelude.{is_some}
use Rattle.std.specs.FinMap as tree
use Rattle.std.specs.List.{list_all}
use Rattle.object_id.specs.declared.node.NodeId.{NodeId}
use Rattle.message_wire.specs.declared.packet.Packet.{Packet}
use Rattle.overlap_law.specs.Attempts.{AttemptRecord, MessageFate, Flying, Served, Doomed}
use Rattle.overlap_law.specs.Fates.{IsFateIn}
use Rattle.overlap_law.specs.Packets.{Wire, HasPacket}
use Rattle.overlap_law.specs.Words.{Hosts, is_served, is_made, is_one_in_vain, is_doomed}

settled : (hosts : Hosts) (epoch : ℕ) (targets : List NodeId) (fates : List MessageFate) → length fates ≡ length targets
    → ((place : ℕ) (target : NodeId) → slice_get targets place ≡ Some target → slice_get fates place ≡ Some Flying → ⊥)
    → is_one_in_vain hosts epoch targets fates ≡ false → list_all is_served fates ≡ true
settled hosts epoch targets [] long none stands = refl
settled hosts epoch [] (fate ∷ fates) long none stands = absurd (cc (long))
settled hosts epoch (target ∷ targets) (Flying ∷ fates) long none stands = absurd (none zero target refl refl)
settled hosts epoch (target ∷ targets) (Served ∷ fates) long none stands =
    settled hosts epoch targets fates (cc (long)) (λ place other at flies. none (suc place) other at flies) stands
settled hosts epoch (target ∷ targets) (Doomed ∷ fates) long none stands = absurd (cc (stands))

pub quiet-made : (hosts : Hosts) (wire : Wire) (attempt : AttemptRecord) → length attempt.fates ≡ length attempt.targets
    → ((place : ℕ) (target : NodeId) (fate : MessageFate) → slice_get attempt.targets place ≡ Some target
    → slice_get attempt.fates place ≡ Some fate → IsFateIn wire attempt place target fate)
    → ((place : ℕ) (target : NodeId) → HasPacket wire attempt place target → ⊥) → is_doomed hosts attempt ≡ false
    → is_made attempt ≡ true
quiet-made hosts wire attempt long fates none stands =
    settled hosts attempt.epoch attempt.targets attempt.fates long
    (λ place target among flies.
    none place target
    (record { among = among; there = ap (λ (o : Option Packet). is_some o) (fates place target Flying among flies).there })) stands
