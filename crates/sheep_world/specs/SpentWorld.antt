-- A world as its callers see it: what it is, or that it is spent.
use Rattle.std.specs.Prelude.{ℕ, Bool, false, List}
use Rattle.message_wire.specs.declared.packet.Packet.{Packet}
use Rattle.message_wire.specs.declared.packet.Packet.TheVariants.{Request, Reply}
use Rattle.sheep_node.specs.State.{Node}
use Rattle.sheep_node.specs.SpentNode.{NodeOrSpent}
use Rattle.sheep_world.specs.World.{World}

-- a world, and whether it was out of memory once: then nothing is left of it
pub record WorldOrSpent : Type 0 where
  pub spent : Bool
  pub world : World

-- the nodes of a world aren't spent
abbrev pub unspent_node : Node → NodeOrSpent
unspent_node node = record { spent = false; node = node }

-- the bytes of a message
abbrev pub packet_bytes : Packet → List ℕ
packet_bytes (Request to bytes) = bytes
packet_bytes (Reply from bytes) = bytes
