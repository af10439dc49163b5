-- What the wire carries: numbers that were sent, packets that are awaited, and replies that fit what became of the message.
use Rattle.std.specs.Prelude.{◌≡◌, ◌≢◌, ◌↔◌, ℕ, ◌≤◌, ◌<◌, true, List, slice_get, Some}
use Rattle.std.specs.FinMap as tree
use Rattle.object_id.specs.declared.node.NodeId.{NodeId}
use Rattle.object_id.specs.declared.entry.Entry.{Entry}
use Rattle.peer_proto.specs.declared.ask.PeerAsk.{PeerAsk}
use Rattle.peer_proto.specs.declared.ask.PeerAsk.TheVariants as asks
use Rattle.peer_proto.specs.declared.ask.PeerReq.{PeerReq}
use Rattle.peer_proto.specs.declared.say.PeerSay.{PeerSay}
use Rattle.peer_proto.specs.declared.say.PeerSay.TheVariants as says
use Rattle.peer_proto.specs.declared.say.PeerRsp.{PeerRsp}
use Rattle.peer_proto.specs.declared.say.Refusal.{Refusal}
use Rattle.peer_proto.specs.declared.say.Refusal.TheVariants as refusals
use Rattle.recovery.specs.State.{Message, Search, search_on}
use Rattle.message_wire.specs.Message.{message_name}
use Rattle.sheep_node.specs.State.{Node}
use Rattle.sheep_node.specs.RecoveryView.{recovery_state_of}
use Rattle.sheep_node.specs.May.{node_awaits}
use Rattle.message_wire.specs.declared.name.MessageName.{MessageName}
use Rattle.message_wire.specs.declared.packet.Packet.{Packet}
use Rattle.sheep_world.specs.WireMatch.{NumbersAreGiven, PacketsAreReadable, HostsKnowTheirNumbers, AllAwaitedIsInFlight}
use Rattle.overlap_law.specs.Attempts.{Served, AttemptRecord}
use Rattle.overlap_law.specs.Words.{Hosts}
use Rattle.overlap_law.specs.Each.{EachHost, EachUp, EachAble, EachAttempt, has_reached}
use Rattle.overlap_law.specs.Packets.{Wire, message_name_at, IsAsking, IsAnswering, IsAwaitedReply, is_request_in_flight}
use Rattle.overlap_law.specs.Grants.{leave_of}

-- numbers in the wire were given by their senders
pub record NumbersAreSent (hosts : Hosts) (wire : Wire) : Type 0 where
  pub given : NumbersAreGiven hosts wire

-- a message for an object's row is of the search's level, where it is for the object of the search
abbrev pub IsAtLevel : Search → PeerAsk → Type 0
IsAtLevel search (asks.Create key size offset bytes) = Unit {0}
IsAtLevel search (asks.Write key offset bytes) = Unit {0}
IsAtLevel search (asks.Read key offset size) = Unit {0}
IsAtLevel search asks.List = Unit {0}
IsAtLevel search (asks.RecoverRead oid level) = oid ≡ search.oid → level.0 ≡ search.level

-- the messages of a recovery are of its epoch, and those of its search are of the search's level
pub record MessagesAreOfTheRecovery (node : Node) : Type 0 where
  pub epoch : (place : ℕ) (message : Message) → slice_get node.recovery.unanswered place ≡ Some message
      → message.request.epoch.0 ≡ node.recovery.epoch
  pub level : (place : ℕ) (message : Message) (search : Search) → slice_get node.recovery.unanswered place ≡ Some message
      → search_on (recovery_state_of node) ≡ Some search → IsAtLevel search message.request.ask

-- the packets of a node that isn't lost are some that it waits for, each as it was sent, or as a reply of the node that it went
-- to; and all that a node waits for are there while it may step, for one without numbers isn't told of losses
pub record PacketsAreAwaited (hosts : Hosts) (wire : Wire) : Type 0 where
  pub spelled : PacketsAreReadable wire
  pub numbered : HostsKnowTheirNumbers hosts
  pub there : EachAble hosts (λ n node. AllAwaitedIsInFlight node wire)
  pub awaited : EachUp hosts (λ n node. (number : ℕ) (packet : Packet) → tree.get wire (message_name n number) ≡ Some packet
      → node_awaits number node ≡ true)
  pub recovery : EachUp hosts (λ n node. MessagesAreOfTheRecovery node)

-- no reply to a lost node is in the wire
pub record NoReplyGoesToTheLost (hosts : Hosts) (wire : Wire) : Type 0 where
  pub each : EachHost hosts (λ n host. (number : ℕ) (packet : Packet) → host.is_lost ≡ true
      → tree.get wire (message_name n number) ≡ Some packet → is_request_in_flight (Some packet) ≡ true)

-- what flies was asked in an epoch that its sender came to
abbrev pub FlyInThePast : Hosts → Wire → Type 0
FlyInThePast hosts wire = EachHost hosts (λ n host. (number : ℕ) (to : NodeId) (request : PeerReq)
    → IsAsking wire (message_name n number) to request → request.epoch.0 ≤ host.node.peer.epoch)

-- and what is awaited too
pub record RequestsAreOfThePast (hosts : Hosts) (wire : Wire) : Type 0 where
  pub flying : FlyInThePast hosts wire
  pub awaited : EachUp hosts (λ n node. (to : NodeId) (request : PeerReq) → IsAwaitedReply node to request
      → request.epoch.0 ≤ node.peer.epoch)

-- a refusal by the epoch is of another epoch than the request
abbrev pub IsRefusedSo : ℕ → ℕ → Refusal → Type 0
IsRefusedSo asked told (refusals.OldEpoch own) = told ≢ asked
IsRefusedSo asked told (refusals.NewEpoch own) = told ≢ asked
IsRefusedSo asked told refusals.Recovery = Unit {0}
IsRefusedSo asked told refusals.NoObj = Unit {0}

-- a reply that is no refusal is of the epoch of its request
abbrev pub IsSaidSo : ℕ → ℕ → PeerSay → Type 0
IsSaidSo asked told says.Success = told ≡ asked
IsSaidSo asked told (says.Piece bytes) = told ≡ asked
IsSaidSo asked told (says.Objects oids) = told ≡ asked
IsSaidSo asked told (says.Row row) = told ≡ asked
IsSaidSo asked told says.NoRow = told ≡ asked
IsSaidSo asked told (says.Refused refusal) = IsRefusedSo asked told refusal

-- who replied came to the epoch of the reply
abbrev pub RepliersHaveCome : Hosts → Wire → Type 0
RepliersHaveCome hosts wire = (name : MessageName) (from : NodeId) (reply : PeerRsp)
    → IsAnswering wire name from reply → has_reached hosts reply.epoch.0 from ≡ true

-- a reply in the wire is of the epoch that its say needs, and its node came to that epoch
pub record RepliesAreOfTheirEpoch (hosts : Hosts) (wire : Wire) : Type 0 where
  pub said : EachUp hosts (λ n node. (to : NodeId) (request : PeerReq) (reply : PeerRsp) → IsAwaitedReply node to request
      → IsAnswering wire (message_name n request.number) to reply → IsSaidSo request.epoch.0 reply.epoch.0 reply.say)
  pub reached : RepliersHaveCome hosts wire

-- a reply to an attempt's message is Success exactly where the target has served it
pub record FatesAreTold (wire : Wire) (attempts : List AttemptRecord) : Type 0 where
  pub each : EachAttempt attempts (λ j attempt. (place : ℕ) (target from : NodeId) (reply : PeerRsp)
      → slice_get attempt.targets place ≡ Some target → IsAnswering wire (message_name_at attempt place) from reply
      → (slice_get attempt.fates place ≡ Some Served) ↔ (reply.say ≡ says.Success))

-- the requests of a node that was lost and left are of epochs below that of its `Leave`
pub record TheGoneAreFenced (log : List Entry) (hosts : Hosts) (wire : Wire) : Type 0 where
  pub each : EachHost hosts (λ n host. (number : ℕ) (to : NodeId) (request : PeerReq) (left : ℕ) → host.is_lost ≡ true
      → leave_of log n host.incarnation ≡ Some left → IsAsking wire (message_name n number) to request → request.epoch.0 < left)
