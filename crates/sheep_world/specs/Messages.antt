-- What becomes of the messages in the wire: they are delivered or lost.
use Rattle.std.specs.Prelude.{ℕ, ◌-◌, Bool, true, false, List, Option, Some, None, Result, Ok, Err, if◌then◌else◌}
use Rattle.std.specs.FinMap as tree
use Rattle.object_id.specs.declared.node.NodeId.{NodeId}
use Rattle.cluster_script.specs.declared.statement.Statement.{Statement}
use Rattle.peer_proto.specs.declared.ask.PeerReq.{PeerReq}
use Rattle.peer_proto.specs.declared.say.PeerRsp.{PeerRsp}
use Rattle.peer_proto.specs.declared.fault.PeerFault.{PeerFault}
use Rattle.peer_proto.specs.Ask.{ask_in}
use Rattle.peer_proto.specs.Say.{say_bytes, say_in}
use Rattle.sheep_node.specs.declared.input.Input.TheVariants as inputs
use Rattle.message_wire.specs.declared.name.MessageName.{MessageName}
use Rattle.message_wire.specs.declared.packet.Packet.{Packet}
use Rattle.message_wire.specs.declared.packet.Packet.TheVariants.{Request, Reply}
use Rattle.message_wire.specs.Message.{name_cmp}
use Rattle.sheep_world.specs.World.{World, is_up, message_at, are_ends_up}
use Rattle.sheep_world.specs.NodeSteps.{node_stepped, at_rest}

-- a message isn't in the wire
abbrev pub without_message : MessageName → World → World
without_message name world = record world { wire = tree.remove world.wire name }

-- the wire once a request was served: the reply takes its place, on its way back, where the sender is up, and else is dropped
abbrev pub wire_with_reply : MessageName → NodeId → Bool → Option PeerRsp → tree.FinMap name_cmp Packet → tree.FinMap name_cmp Packet
wire_with_reply name from false say wire = tree.remove wire name
wire_with_reply name from true None wire = wire
wire_with_reply name from true (Some rsp) wire = tree.insert wire name (Reply from (say_bytes rsp))

-- a request was served, and what was said is the reply
abbrev pub reply_sent : MessageName → NodeId → World → World
reply_sent name from world =
    record world { wire = wire_with_reply name from (is_up name.sender.0 world) world.outputs.say world.wire }

-- a node gets a request; bytes that are none change nothing
abbrev pub request_got : List Statement → MessageName → NodeId → Result PeerReq PeerFault → World → World
request_got statements name to (Ok request) world =
    reply_sent name to (node_stepped statements to.0 (inputs.Request request) world)
request_got statements name to (Err fault) world = world

-- Deliver: a request comes to the node that it asks
unfoldable pub request_delivered : List Statement → MessageName → NodeId → List ℕ → World → World
request_delivered statements name to bytes world = request_got statements name to (ask_in bytes) (at_rest world)

-- a node gets a reply, which leaves the wire; bytes that are none change nothing
abbrev pub reply_got : List Statement → MessageName → Result PeerRsp PeerFault → World → World
reply_got statements name (Ok rsp) world =
    node_stepped statements name.sender.0 (inputs.Reply rsp) (without_message name world)
reply_got statements name (Err fault) world = world

-- Deliver: a reply comes back to the sender of the request
unfoldable pub reply_delivered : List Statement → MessageName → List ℕ → World → World
reply_delivered statements name bytes world = reply_got statements name (say_in bytes) (at_rest world)

-- Deliver, by what the message is
abbrev pub delivered_as : List Statement → MessageName → Option Packet → World → World
delivered_as statements name None world = world
delivered_as statements name (Some (Request to bytes)) world = request_delivered statements name to bytes world
delivered_as statements name (Some (Reply from bytes)) world = reply_delivered statements name bytes world

-- Deliver, by the message's name
abbrev pub message_delivered : List Statement → MessageName → World → World
message_delivered statements name world = delivered_as statements name (message_at name world) world

-- the losses that are left once a message is lost: one less where both its ends are up
abbrev pub losses_after_loss : MessageName → Packet → World → ℕ
losses_after_loss name packet world = if are_ends_up name packet world then world.losses - 1 else world.losses

-- a message is lost, and uses one of the losses left where it has to
abbrev pub loss_used : MessageName → Option Packet → World → World
loss_used name None world = world
loss_used name (Some packet) world = record world { losses = losses_after_loss name packet world }

-- the sender of the request is told, where it is up
abbrev pub loss_told : List Statement → MessageName → World → World
loss_told statements name world =
    if is_up name.sender.0 world then node_stepped statements name.sender.0 (inputs.Lost name.number) world else world

-- LoseRequest, LoseReply: the message leaves the wire, and the sender of the request steps on the loss
unfoldable pub message_lost : List Statement → MessageName → World → World
message_lost statements name world =
    loss_told statements name (without_message name (loss_used name (message_at name world) (at_rest world)))
