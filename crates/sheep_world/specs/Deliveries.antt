-- What a delivered message comes to, read before the node steps on it.
use Rattle.std.specs.Prelude.{ℕ, List, Option, Some, None, Result, Ok, Err}
use Rattle.peer_proto.specs.declared.ask.PeerReq.{PeerReq}
use Rattle.peer_proto.specs.declared.say.PeerRsp.{PeerRsp}
use Rattle.peer_proto.specs.declared.fault.PeerFault.{PeerFault}
use Rattle.peer_proto.specs.Ask.{ask_in}
use Rattle.peer_proto.specs.Say.{say_in}
use Rattle.message_wire.specs.declared.packet.Packet.{Packet}
use Rattle.message_wire.specs.declared.packet.Packet.TheVariants.{Request, Reply}
use Rattle.sheep_world.specs.declared.delivery.Delivery.{Delivery}
use Rattle.sheep_world.specs.declared.delivery.Delivery.TheVariants as deliveries
use Rattle.object_id.specs.declared.node.NodeId.{NodeId}

-- a request that was read
abbrev pub delivery_of_request : NodeId → Result PeerReq PeerFault → Delivery
delivery_of_request to (Ok request) = deliveries.Request to request
delivery_of_request to (Err fault) = deliveries.Unreadable

-- a reply that was read
abbrev pub delivery_of_reply : Result PeerRsp PeerFault → Delivery
delivery_of_reply (Ok rsp) = deliveries.Reply rsp
delivery_of_reply (Err fault) = deliveries.Unreadable

-- what a message is, if it is there
abbrev pub delivery_of : Option Packet → Delivery
delivery_of None = deliveries.NoMessage
delivery_of (Some (Request to bytes)) = delivery_of_request to (ask_in bytes)
delivery_of (Some (Reply from bytes)) = delivery_of_reply (say_in bytes)
