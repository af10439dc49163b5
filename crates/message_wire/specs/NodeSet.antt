-- Sets of nodes, and how many of a sender's messages have each node as their other end.
use Rattle.std.specs.Prelude.{◌≡◌, ℕ, ◌+◌, ◌<◌, ◌==◌, nat_lt, min, Bool, ◌&&◌, cond, List, [], ◌∷◌, length, get_or, Option, Some, None}
use Rattle.std.specs.Int.{bit_at}
use Rattle.object_id.specs.declared.node.NodeId.{NodeId}
use Rattle.message_wire.specs.declared.node_set.NodeSet.{NodeSet}
use Rattle.message_wire.specs.declared.packet.Packet.{Packet}
use Rattle.message_wire.specs.Message.{asked_node}

-- whether a node is in a set, which has a bit for each number below 64
unfoldable pub contains_node : ℕ → NodeSet → Bool
contains_node node nodes = nat_lt node 64 && (bit_at nodes.bits node == 1)

-- where the messages that ask a node are counted: those that ask one of 64 or more together, behind the others
abbrev pub end_place : ℕ → ℕ
end_place node = min node 64

-- what a message that asks a node counts at a place
abbrev pub one_end : ℕ → ℕ → ℕ
one_end node place = cond (end_place node == place) 1 0

-- the same of a message that may not be there
abbrev pub maybe_end : Option NodeId → ℕ → ℕ
maybe_end None place = 0
maybe_end (Some node) place = one_end node.0 place

-- how many messages are counted at a place
abbrev pub end_count : ℕ → List (ℕ × Packet) → ℕ
end_count place [] = 0
end_count place (message ∷ later) = one_end (asked_node message.1).0 place + end_count place later

-- the counts are those of the messages
abbrev pub AreEndCounts : List (ℕ × Packet) → List ℕ → Type 0
AreEndCounts messages counts = (place : ℕ) → get_or counts place 0 ≡ end_count place messages

-- there is a count for each place, and the set has the nodes whose count isn't zero
abbrev pub AreCountsWith : List ℕ → NodeSet → Type 0
AreCountsWith counts nodes = (length counts ≡ 65) × ((node : ℕ) → node < 64 → contains_node node nodes ≡ nat_lt 0 (get_or counts node 0))
