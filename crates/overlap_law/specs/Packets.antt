-- The messages in the wire: requests, replies, what a node waits for, and which of them are an attempt's.
use Rattle.std.specs.Prelude.{◌≡◌, ℕ, ◌+◌, Bool, true, false, List, slice_get, Option, Some, None, Ok}
use Rattle.std.specs.FinMap as tree
use Rattle.object_id.specs.declared.node.NodeId.{NodeId}
use Rattle.object_id.specs.Oid.{kind_of}
use Rattle.gf256.specs.Part.{index_at}
use Rattle.peer_proto.specs.declared.ask.PeerReq.{PeerReq}
use Rattle.peer_proto.specs.declared.say.PeerRsp.{PeerRsp}
use Rattle.peer_proto.specs.Ask.{ask_in}
use Rattle.peer_proto.specs.Say.{say_in}
use Rattle.peer_proto.specs.Work.{policy_of}
use Rattle.gateway.specs.Work.{ask_for}
use Rattle.sheep_node.specs.State.{Node}
use Rattle.message_wire.specs.declared.name.MessageName.{MessageName}
use Rattle.message_wire.specs.declared.packet.Packet.{Packet}
use Rattle.message_wire.specs.declared.packet.Packet.TheVariants.{Request, Reply}
use Rattle.message_wire.specs.Message.{name_cmp}
use Rattle.sheep_world.specs.WireMatch.{asked_by}
use Rattle.overlap_law.specs.Attempts.{AttemptRecord, object_of}

-- the messages in the wire, by name
abbrev pub Wire : Type 0
Wire = tree.FinMap name_cmp Packet

-- a request is in the wire, on its way to a node
pub record IsAsking (wire : Wire) (name : MessageName) (to : NodeId) (request : PeerReq) : Type 0 where
  pub bytes : List ℕ
  pub there : tree.get wire name ≡ Some (Request to bytes)
  pub spelled : ask_in bytes ≡ Ok request

-- a node's reply is in the wire, on its way back
pub record IsAnswering (wire : Wire) (name : MessageName) (from : NodeId) (reply : PeerRsp) : Type 0 where
  pub bytes : List ℕ
  pub there : tree.get wire name ≡ Some (Reply from bytes)
  pub spelled : say_in bytes ≡ Ok reply

-- whether a message, or the reply to it, is in the wire
abbrev pub is_name_in_wire : Wire → MessageName → Bool
is_name_in_wire wire name = tree.contains_key wire name

-- whether what is in the wire is a request
abbrev pub is_request_in_flight : Option Packet → Bool
is_request_in_flight None = false
is_request_in_flight (Some (Request to bytes)) = true
is_request_in_flight (Some (Reply from bytes)) = false

-- a node waits for the answer to what it asked another: for an open work, or for one of its recoveries
pub record IsAwaitedReply (node : Node) (to : NodeId) (request : PeerReq) : Type 0 where
  pub place : ℕ
  pub among : slice_get (asked_by node) place ≡ Some (to, request)

-- the name of an attempt's message at a place
abbrev pub message_name_at : AttemptRecord → ℕ → MessageName
message_name_at attempt place = record { sender = attempt.gateway; number = attempt.first + place }

-- what an attempt's message at a place asks its target
abbrev pub message_request_at : AttemptRecord → ℕ → PeerReq
message_request_at attempt place = record {
  from = attempt.gateway;
  number = attempt.first + place;
  epoch = record { 0 = attempt.epoch };
  ask = ask_for attempt.work (index_at (policy_of attempt.work) (kind_of (object_of attempt)) place);
}

-- an attempt's message to the target at a place, or the reply to it, is in the wire
pub record HasPacket (wire : Wire) (attempt : AttemptRecord) (place : ℕ) (target : NodeId) : Type 0 where
  pub among : slice_get attempt.targets place ≡ Some target
  pub there : is_name_in_wire wire (message_name_at attempt place) ≡ true

-- no message of an attempt is in the wire, nor the reply to one
pub record IsQuiet (wire : Wire) (attempt : AttemptRecord) : Type 0 where
  pub none : (place : ℕ) (target : NodeId) → slice_get attempt.targets place ≡ Some target
      → is_name_in_wire wire (message_name_at attempt place) ≡ false
