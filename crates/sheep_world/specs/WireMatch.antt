-- What holds of the wire in every world of a run: what is in it can be read, and it has each message that a node waits for.
use Rattle.std.specs.Prelude.{◌≡◌, ℕ, ◌<◌, true, List, [], ◌++◌, map, flat_map, filter, All, Option, Some, None, Ok, IsTrue}
use Rattle.std.specs.Ordering.{nat_cmp}
use Rattle.std.specs.FinMap as tree
use Rattle.object_id.specs.declared.node.NodeId.{NodeId}
use Rattle.peer_proto.specs.declared.ask.PeerReq.{PeerReq}
use Rattle.peer_proto.specs.declared.say.PeerRsp.{PeerRsp}
use Rattle.peer_proto.specs.Ask.{ask_in}
use Rattle.peer_proto.specs.Say.{say_in}
use Rattle.gateway.specs.declared.message.Message.{Message}
use Rattle.gateway.specs.Attempt.{is_unanswered, send_of}
use Rattle.gateway.specs.State as gateways
use Rattle.gateway.specs.State.{Work, WorkStage, Open, Ended, WaitsForMembers}
use Rattle.recovery.specs.State as recoveries
use Rattle.sheep_node.specs.State.{Node}
use Rattle.sheep_node.specs.May.{node_awaits, fits_node}
use Rattle.message_wire.specs.declared.name.MessageName.{MessageName}
use Rattle.message_wire.specs.declared.packet.Packet.{Packet}
use Rattle.message_wire.specs.declared.packet.Packet.TheVariants.{Request, Reply}
use Rattle.message_wire.specs.Message.{name_cmp}
use Rattle.sheep_world.specs.World.{Host, World, is_host_up}
use Rattle.sheep_world.specs.NodeSteps.{request_name}

-- the requests of an attempt that aren't answered, each with the node that it goes to
abbrev pub unanswered_in : NodeId → Work → WorkStage → List (NodeId × PeerReq)
unanswered_in me work (Open attempt) =
    map (send_of me attempt.epoch work.work)
    (filter (λ (message : Message). is_unanswered message.status) attempt.messages)
unanswered_in me work Ended = []
unanswered_in me work (WaitsForMembers epoch) = []

-- the requests that a node's gateway waits for
abbrev pub asked_by_gateway : NodeId → gateways.Gateway → List (NodeId × PeerReq)
asked_by_gateway me gateway =
    flat_map (λ (entry : ℕ × Work). unanswered_in me entry.1 entry.1.stage) (tree.entries gateway.works)

-- those that its recoveries wait for
abbrev pub asked_by_recovery : recoveries.Recovery → List (NodeId × PeerReq)
asked_by_recovery recovery =
    map (λ (message : recoveries.Message). (message.to, message.request)) (recoveries.all_unanswered recovery)

-- all requests that a node waits for
abbrev pub asked_by : Node → List (NodeId × PeerReq)
asked_by node = asked_by_gateway node.me node.gateway ++ asked_by_recovery node.recovery

-- a message can be read: a request has the name under which it is in the wire, and a reply its number
abbrev pub IsReadablePacket : MessageName → Packet → Type 0
IsReadablePacket name (Request to bytes) = (request : PeerReq) × (ask_in bytes ≡ Ok request) × (request_name request ≡ name)
IsReadablePacket name (Reply from bytes) = (rsp : PeerRsp) × (say_in bytes ≡ Ok rsp) × (rsp.number ≡ name.number)

-- a number that a node gave
abbrev pub IsNumberGiven : ℕ → Option Host → Type 0
IsNumberGiven number None = ⊥
IsNumberGiven number (Some host) = number < host.node.sends

-- a request that a node waits for is in the wire: as it was sent, or as a reply of the node that it went to, which fits it
abbrev pub IsInFlight : Node → NodeId × PeerReq → Option Packet → Type 0
IsInFlight node send None = ⊥
IsInFlight node send (Some (Request to bytes)) = (to ≡ send.0) × (ask_in bytes ≡ Ok send.1)
IsInFlight node send (Some (Reply from bytes)) =
    (from ≡ send.0) × ((rsp : PeerRsp) × (say_in bytes ≡ Ok rsp) × (rsp.number ≡ send.1.number) × IsTrue (fits_node rsp node))

-- the name under which a node has a request in the wire
abbrev pub own_name : Node → NodeId × PeerReq → MessageName
own_name node send = record { sender = node.me; number = send.1.number }

-- all that a node waits for is in the wire
abbrev pub AllAwaitedIsInFlight : Node → tree.FinMap name_cmp Packet → Type 0
AllAwaitedIsInFlight node wire =
    All (λ (send : NodeId × PeerReq). IsInFlight node send (tree.get wire (own_name node send))) (asked_by node)

-- each message in the wire can be read
abbrev pub PacketsAreReadable : tree.FinMap name_cmp Packet → Type 0
PacketsAreReadable wire = (name : MessageName) (packet : Packet) → tree.get wire name ≡ Some packet → IsReadablePacket name packet

-- each has a number that its sender gave
abbrev pub NumbersAreGiven : tree.FinMap nat_cmp Host → tree.FinMap name_cmp Packet → Type 0
NumbersAreGiven hosts wire = (name : MessageName) (packet : Packet) → tree.get wire name ≡ Some packet
    → IsNumberGiven name.number (tree.get hosts name.sender.0)

-- each node knows its number
abbrev pub HostsKnowTheirNumbers : tree.FinMap nat_cmp Host → Type 0
HostsKnowTheirNumbers hosts = (number : ℕ) (host : Host) → tree.get hosts number ≡ Some host → host.node.me.0 ≡ number

-- all that an up node waits for is in the wire
abbrev pub AwaitedIsInFlight : tree.FinMap nat_cmp Host → tree.FinMap name_cmp Packet → Type 0
AwaitedIsInFlight hosts wire = (number : ℕ) (host : Host) → tree.get hosts number ≡ Some host → is_host_up host ≡ true
    → AllAwaitedIsInFlight host.node wire

-- nothing else of an up node is in the wire
abbrev pub InFlightIsAwaited : tree.FinMap nat_cmp Host → tree.FinMap name_cmp Packet → Type 0
InFlightIsAwaited hosts wire = (name : MessageName) (packet : Packet) (host : Host) → tree.get wire name ≡ Some packet
    → tree.get hosts name.sender.0 ≡ Some host → is_host_up host ≡ true → node_awaits name.number host.node ≡ true

-- the nodes and the wire go together
pub record WireMatchesHosts (hosts : tree.FinMap nat_cmp Host) (wire : tree.FinMap name_cmp Packet) : Type 0 where
  pub spelled : PacketsAreReadable wire
  pub given : NumbersAreGiven hosts wire
  pub numbered : HostsKnowTheirNumbers hosts
  pub on_the_way : AwaitedIsInFlight hosts wire
  pub awaited : InFlightIsAwaited hosts wire

-- the nodes and the wire of a world go together
abbrev pub WireMatchesNodes : World → Type 0
WireMatchesNodes world = WireMatchesHosts world.hosts world.wire
