-- The messages of each sender, by number, and the wire that they are.
use Rattle.std.specs.Prelude.{ℕ, ◌<◌, ◌==◌, not, T, List, map, flat_map, unwrap_or, if◌then◌else◌}
use Rattle.std.specs.Ordering.{nat_cmp, eq_by_cmp}
use Rattle.std.specs.List.{AllByRecursion}
use Rattle.std.specs.FinMap as tree
use Rattle.std.specs.FinMap.Entries.{where_key}
use Rattle.message_wire.specs.declared.name.MessageName.{MessageName}
use Rattle.message_wire.specs.declared.packet.Packet.{Packet}
use Rattle.message_wire.specs.Message.{name_cmp, message_name, is_reply_to}

-- one sender's messages, by number
abbrev pub Messages : Type 0
Messages = tree.FinMap nat_cmp Packet

-- a sender's messages under their names
abbrev pub named_entries : ℕ × Messages → List (MessageName × Packet)
named_entries own = map (λ (message : ℕ × Packet). (message_name own.0 message.0, message.1)) (tree.entries own.1)

-- the messages of all senders
abbrev pub all_entries : List (ℕ × Messages) → List (MessageName × Packet)
all_entries senders = flat_map named_entries senders

-- the wire that they are
unfoldable pub wire_of : List (ℕ × Messages) → tree.FinMap name_cmp Packet
wire_of senders = tree.from_sorted (all_entries senders)

-- the senders ascend, and each has a message
abbrev pub AreSenders : List (ℕ × Messages) → Type 0
AreSenders senders = T (tree.is_sorted nat_cmp senders) × AllByRecursion (λ (own : ℕ × Messages). 0 < tree.len own.1) senders

-- the messages of one of them
abbrev pub messages_from : List (ℕ × Messages) → ℕ → Messages
messages_from senders sender = unwrap_or (tree.find nat_cmp sender senders) tree.empty

-- the others alone
abbrev pub other_senders : ℕ → List (ℕ × Messages) → List (ℕ × Messages)
other_senders sender senders = where_key nat_cmp (λ other. not (eq_by_cmp nat_cmp sender other)) senders

-- a sender has these messages now: without any it isn't there
abbrev pub senders_with : ℕ → Messages → List (ℕ × Messages) → List (ℕ × Messages)
senders_with sender messages senders =
    if tree.len messages == 0 then other_senders sender senders else tree.put nat_cmp sender messages senders

-- those of a sender's messages that aren't replies to it
abbrev pub requests_among : ℕ → Messages → Messages
requests_among sender messages =
    tree.retain_keys messages (λ number. not (is_reply_to sender (message_name sender number) (tree.get messages number)))
