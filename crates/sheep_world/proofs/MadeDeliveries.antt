-- A delivery goes by what its message is, as it was read.
use Rattle.std.proofs.Common.{◌≡◌, ℕ, List, Option, Some, None, Result, Ok, Err, refl, ap, ◌∙◌}
use Rattle.object_id.specs.declared.node.NodeId.{NodeId}
use Rattle.cluster_script.specs.declared.statement.Statement.{Statement}
use Rattle.peer_proto.specs.declared.ask.PeerReq.{PeerReq}
use Rattle.peer_proto.specs.declared.say.PeerRsp.{PeerRsp}
use Rattle.peer_proto.specs.declared.fault.PeerFault.{PeerFault}
use Rattle.peer_proto.specs.Ask.{ask_in}
use Rattle.peer_proto.specs.Say.{say_in}
use Rattle.sheep_node.specs.declared.input.Input.TheVariants as inputs
use Rattle.message_wire.specs.declared.name.MessageName.{MessageName}
use Rattle.message_wire.specs.declared.packet.Packet.{Packet}
use Rattle.message_wire.specs.declared.packet.Packet.TheVariants as packets
use Rattle.sheep_world.specs.declared.delivery.Delivery.{Delivery}
use Rattle.sheep_world.specs.declared.delivery.Delivery.TheVariants.{NoMessage, Unreadable, Request, Reply}
use Rattle.sheep_world.specs.Deliveries.{delivery_of_request, delivery_of_reply, delivery_of}
use Rattle.sheep_world.specs.World.{World, message_at}
use Rattle.sheep_world.specs.NodeSteps.{node_stepped, at_rest}
use Rattle.sheep_world.specs.Messages.{without_message, reply_sent, request_got, request_delivered, reply_got, reply_delivered, delivered_as}
use Rattle.sheep_world.specs.Messages.{message_delivered}

module _ (statements : List Statement) (name : MessageName) (world : World) where
  abbrev pub world_by : Delivery → World
  world_by NoMessage = world
  world_by Unreadable = at_rest world
  world_by (Request to request) = reply_sent name to (node_stepped statements to.0 (inputs.Request request) (at_rest world))
  world_by (Reply rsp) = node_stepped statements name.sender.0 (inputs.Reply rsp) (without_message name (at_rest world))

  of_request : (to : NodeId) (read : Result PeerReq PeerFault)
      → world_by (delivery_of_request to read) ≡ request_got statements name to read (at_rest world)
  of_request to (Ok request) = refl
  of_request to (Err fault) = refl

  of_reply : (read : Result PeerRsp PeerFault) → world_by (delivery_of_reply read) ≡ reply_got statements name read (at_rest world)
  of_reply (Ok rsp) = refl
  of_reply (Err fault) = refl

  of_packet : (packet : Option Packet) → world_by (delivery_of packet) ≡ delivered_as statements name packet world
  unfolding request_delivered reply_delivered
  of_packet None = refl
  of_packet (Some (packets.Request to bytes)) = of_request to (ask_in bytes)
  of_packet (Some (packets.Reply from bytes)) = of_reply (say_in bytes)

  -- the message is delivered as what was read
  pub delivered : (delivery : Delivery) → delivery ≡ delivery_of (message_at name world)
      → world_by delivery ≡ message_delivered statements name world
  delivered delivery read = ap world_by read ∙ of_packet (message_at name world)
