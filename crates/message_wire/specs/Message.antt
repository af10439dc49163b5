-- The messages in the wire: the order of their names, their ends, and the wire by sender and without the replies to a node.
use Rattle.std.specs.Prelude.{ℕ, ◌==◌, Bool, true, false, not, List, [], ◌∷◌, Option, Some, None, if◌then◌else◌}
use Rattle.std.specs.Ordering.{ordering_then, nat_cmp}
use Rattle.std.specs.declared.cmp.Ordering.{Ordering}
use Rattle.std.specs.List.{list_any}
use Rattle.std.specs.FinMap as tree
use Rattle.object_id.specs.declared.node.NodeId.{NodeId}
use Rattle.message_wire.specs.declared.name.MessageName.{MessageName}
use Rattle.message_wire.specs.declared.packet.Packet.{Packet}
use Rattle.message_wire.specs.declared.packet.Packet.TheVariants.{Request, Reply}

-- names in their order: by sender, then by number
abbrev pub name_cmp : MessageName → MessageName → Ordering
name_cmp one other = ordering_then (nat_cmp one.sender.0 other.sender.0) (nat_cmp one.number other.number)

-- the name of a node's message of a number
abbrev pub message_name : ℕ → ℕ → MessageName
message_name sender number = record { sender = record { 0 = sender }; number = number }

-- the node that a request goes to, and that a reply comes from
abbrev pub asked_node : Packet → NodeId
asked_node (Request to bytes) = to
asked_node (Reply from bytes) = from

-- the ends of a message: the sender of the request, and the node that it asks
abbrev pub packet_ends : MessageName → Packet → List NodeId
packet_ends name packet = name.sender ∷ asked_node packet ∷ []

-- who gets a message
abbrev pub receiver_of : MessageName → Packet → NodeId
receiver_of name (Request to bytes) = to
receiver_of name (Reply from bytes) = name.sender

-- whether a node is an end of a message
abbrev pub has_end : ℕ → MessageName → Packet → Bool
has_end node name packet = list_any (λ (other : NodeId). other.0 == node) (packet_ends name packet)

-- whether a message is a reply on its way back
abbrev pub is_reply : Packet → Bool
is_reply (Request to bytes) = false
is_reply (Reply from bytes) = true

-- whether a message is a reply on its way back to a node
abbrev pub is_reply_to : ℕ → MessageName → Option Packet → Bool
is_reply_to node name None = false
is_reply_to node name (Some (Request to bytes)) = false
is_reply_to node name (Some (Reply from bytes)) = name.sender.0 == node

-- the wire without the replies to a node
abbrev pub without_replies : ℕ → tree.FinMap name_cmp Packet → tree.FinMap name_cmp Packet
without_replies node wire = tree.retain_keys wire (λ name. not (is_reply_to node name (tree.get wire name)))

-- a message before those that are by sender
abbrev pub with_first_message : MessageName × Packet → List (List (MessageName × Packet)) → List (List (MessageName × Packet))
with_first_message found [] = (found ∷ []) ∷ []
with_first_message found ([] ∷ later) = (found ∷ []) ∷ later
with_first_message found ((next ∷ same) ∷ later) =
    if found.0.sender.0 == next.0.sender.0 then (found ∷ next ∷ same) ∷ later else (found ∷ []) ∷ (next ∷ same) ∷ later

-- messages by sender: those of one sender next to each other are a part
abbrev pub messages_by_sender : List (MessageName × Packet) → List (List (MessageName × Packet))
messages_by_sender [] = []
messages_by_sender (found ∷ later) = with_first_message found (messages_by_sender later)

-- the sender of a part's first message, and so of each
abbrev pub first_sender : List (MessageName × Packet) → NodeId
first_sender [] = record { 0 = 0 }
first_sender (found ∷ later) = found.0.sender
