-- What a change of a moment makes of the wire and the attempts, in seven kinds: what is said of these two alone is kept by each kind.
use Rattle.std.specs.Prelude.{◌≡◌, ℕ, ◌+◌, ◌≤◌, Bool, true, false, List, [], ◌∷◌, ◌++◌, fold, length, slice_get, Contains, Some, Ok}
use Rattle.std.specs.FinMap as tree
use Rattle.object_id.specs.declared.node.NodeId.{NodeId}
use Rattle.peer_proto.specs.declared.ask.PeerAsk.{PeerAsk}
use Rattle.peer_proto.specs.declared.ask.PeerAsk.TheVariants as asks
use Rattle.peer_proto.specs.declared.ask.PeerReq.{PeerReq}
use Rattle.peer_proto.specs.declared.say.PeerRsp.{PeerRsp}
use Rattle.peer_proto.specs.Ask.{ask_in, ask_bytes}
use Rattle.peer_proto.specs.Say.{say_in, say_bytes}
use Rattle.peer_service.specs.Serve.{reply_to, peer_step}
use Rattle.gateway.specs.Outcomes.{AreNumberedFrom}
use Rattle.gateway.specs.declared.message.Message.{Message}
use Rattle.gateway.specs.declared.message.Status.TheVariants.{Unanswered}
use Rattle.gateway.specs.Work.{is_making}
use Rattle.gateway.specs.Attempt as gateways
use Rattle.gateway.specs.State.{Work, Open}
use Rattle.message_wire.specs.declared.name.MessageName.{MessageName}
use Rattle.message_wire.specs.declared.packet.Packet.{Packet}
use Rattle.message_wire.specs.declared.packet.Packet.TheVariants.{Request, Reply}
use Rattle.message_wire.specs.Message.{without_replies}
use Rattle.sheep_world.specs.World.{Host}
use Rattle.sheep_world.specs.Messages.{wire_with_reply}
use Rattle.sheep_world.specs.NodeSteps.{wire_with_request}
use Rattle.sheep_world.specs.NodeCauses.{is_up_among}
use Rattle.overlap_law.specs.Attempts.{AttemptRecord, MessageFate, Flying, attempts_with_fate, fate_of_say, object_of}
use Rattle.overlap_law.specs.Reached.{Hosts}
use Rattle.overlap_law.specs.Each.{EachUp, EachAttempt, SomeAttempt}
use Rattle.overlap_law.specs.Packets.{Wire, IsAsking, message_request_at}
use Rattle.overlap_law.specs.Fates.{AreInOrder}
use Rattle.overlap_law.specs.OpenWorks.{IsOpenAs}
use Rattle.overlap_law.specs.Past.{MomentWithPast}
use Rattle.overlap_law.specs.StepMoments.{attempts_with_loss}

-- whether a request asks to create or write
abbrev pub asks_making : PeerAsk → Bool
asks_making (asks.Create key size offset bytes) = true
asks_making (asks.Write key offset bytes) = true
asks_making (asks.Read key offset size) = false
asks_making asks.List = false
asks_making (asks.RecoverRead oid level) = false

-- none of these requests does
abbrev pub AskNothingMade : List (NodeId × PeerReq) → Type 0
AskNothingMade sends = (send : NodeId × PeerReq) → Contains sends send → asks_making send.1.ask ≡ false

-- a request to a node is an attempt's message to the target at some place
pub record IsMessageOf (attempt : AttemptRecord) (to : NodeId) (request : PeerReq) : Type 0 where
  pub place : ℕ
  pub among : slice_get attempt.targets place ≡ Some to
  pub request_so : request ≡ message_request_at attempt place

-- each request to create or write in the wire is a message of an attempt
pub record MakersAreOfAttempts (wire : Wire) (attempts : List AttemptRecord) : Type 0 where
  pub each : (name : MessageName) (to : NodeId) (request : PeerReq) → IsAsking wire name to request → asks_making request.ask ≡ true
      → SomeAttempt attempts (λ attempt. IsMessageOf attempt to request)

-- between two states of the hosts a node sends these, in its own name, under the numbers from its count on, and counts them; each can be
-- read, and is of an epoch that the node came to
pub record AreSentBy (hosts hosts_after : Hosts) (n : ℕ) (sends : List (NodeId × PeerReq)) : Type 0 where
  pub host : Host
  pub there : tree.get hosts n ≡ Some host
  pub numbers : AreNumberedFrom host.node.sends sends
  pub own : (send : NodeId × PeerReq) → Contains sends send → send.1.from.0 ≡ n
  pub after : Host
  pub there_after : tree.get hosts_after n ≡ Some after
  pub stays : after.incarnation ≡ host.incarnation
  pub counted : after.node.sends ≡ host.node.sends + length sends
  pub read : (send : NodeId × PeerReq) → Contains sends send → ask_in (ask_bytes send.1) ≡ Ok send.1
  pub past : (send : NodeId × PeerReq) → Contains sends send → send.1.epoch.0 ≤ after.node.peer.epoch

-- an attempt begins by these sends: all its messages fly; and its gateway, which is up, has it open then, and nothing came of them yet
pub record IsBegunBy (hosts hosts_after : Hosts) (n : ℕ) (sends : List (NodeId × PeerReq)) (attempt : AttemptRecord) : Type 0 where
  pub sent_by : AreSentBy hosts hosts_after n sends
  pub gateway : attempt.gateway.0 ≡ n
  pub incarnation : attempt.incarnation ≡ sent_by.host.incarnation
  pub first : attempt.first ≡ sent_by.host.node.sends
  pub count : length attempt.targets ≡ length sends
  pub whole : length attempt.fates ≡ length attempt.targets
  pub flying : (place : ℕ) (fate : MessageFate) → slice_get attempt.fates place ≡ Some fate → fate ≡ Flying
  pub asks : (place : ℕ) (target : NodeId) → slice_get attempt.targets place ≡ Some target
      → Contains sends (target, message_request_at attempt place)
  pub of_attempt : (send : NodeId × PeerReq) → Contains sends send → IsMessageOf attempt send.0 send.1
  pub up : sent_by.after.is_lost ≡ false
  pub work : Work
  pub current : gateways.Attempt
  pub opened : IsOpenAs sent_by.after.node attempt.req work current attempt
  pub unanswered : (place : ℕ) (message : Message) → slice_get current.messages place ≡ Some message → message.status ≡ Unanswered

-- the answer of the node that a request goes to, which isn't lost, by what that node has: it can be read, and is on its way where the
-- sender is up. The node's peer is then as the request leaves it
pub record IsAnswer (hosts hosts_after : Hosts) (name : MessageName) (to : NodeId) (bytes : List ℕ) (up : Bool) (rsp : PeerRsp)
    : Type 0 where
  pub host : Host
  pub there : tree.get hosts to.0 ≡ Some host
  pub answers : host.is_lost ≡ false
  pub request : PeerReq
  pub read : ask_in bytes ≡ Ok request
  pub said : reply_to host.node.peer request ≡ rsp
  pub spelled : say_in (say_bytes rsp) ≡ Ok rsp
  pub up_so : up ≡ is_up_among hosts_after name.sender.0
  pub after : Host
  pub there_after : tree.get hosts_after to.0 ≡ Some after
  pub left : after.node.peer ≡ (peer_step host.node.peer request).peer

-- an attempt begins in its turn: it is of no earlier epoch than those on its object, and of a later one than those with packets
abbrev pub IsInTurn : Wire → List AttemptRecord → AttemptRecord → Type 0
IsInTurn wire attempts attempt =
    EachAttempt attempts (λ j other. object_of other ≡ object_of attempt → AreInOrder wire other attempt)

-- an attempt that begins between two moments does so in its turn, as it does where each object has one writer
pub record BeginsInTurn (before after : MomentWithPast) : Type 0 where
  pub in_turn : (attempt : AttemptRecord) → after.past.attempts ≡ before.past.attempts ++ attempt ∷ []
      → IsInTurn before.world.wire before.past.attempts attempt

-- each open create or write has a message
pub record OpenAttemptsHaveMessages (hosts : Hosts) : Type 0 where
  pub each : EachUp hosts (λ n node. (req : ℕ) (work : Work) (current : gateways.Attempt)
      → tree.get node.gateway.works req ≡ Some work → is_making work.work ≡ true → work.stage ≡ Open current
      → (message : Message) × (slice_get current.messages 0 ≡ Some message))

pub data Traffic (hosts hosts_after : Hosts) (wire : Wire) (attempts : List AttemptRecord) : Wire → List AttemptRecord → Type 0 where
  NothingMoves : Traffic hosts hosts_after wire attempts wire attempts
  -- a message is lost
  MessageIsLost : (name : MessageName) (packet : Packet) → tree.get wire name ≡ Some packet
      → Traffic hosts hosts_after wire attempts (tree.remove wire name) (attempts_with_loss name packet attempts)
  -- a reply is received
  ReplyIsReceived : (name : MessageName) (from : NodeId) (bytes : List ℕ) → tree.get wire name ≡ Some (Reply from bytes)
      → Traffic hosts hosts_after wire attempts (tree.remove wire name) attempts
  -- a request is served or refused
  RequestIsAnswered : (name : MessageName) (to : NodeId) (bytes : List ℕ) (up : Bool) (rsp : PeerRsp)
      → tree.get wire name ≡ Some (Request to bytes) → IsAnswer hosts hosts_after name to bytes up rsp
      → Traffic hosts hosts_after wire attempts (wire_with_reply name to up (Some rsp) wire)
      (attempts_with_fate (fate_of_say rsp.say) name.sender name.number attempts)
  -- a node sends what is no create or write
  RequestsAreSent : (n : ℕ) (sends : List (NodeId × PeerReq)) → AreSentBy hosts hosts_after n sends → AskNothingMade sends
      → Traffic hosts hosts_after wire attempts (fold wire_with_request wire sends) attempts
  -- an attempt begins
  AttemptBegins : (n : ℕ) (sends : List (NodeId × PeerReq)) (attempt : AttemptRecord) → IsBegunBy hosts hosts_after n sends attempt
      → Traffic hosts hosts_after wire attempts (fold wire_with_request wire sends) (attempts ++ attempt ∷ [])
  -- the replies to a node go
  RepliesGo : (n : ℕ) → Traffic hosts hosts_after wire attempts (without_replies n wire) attempts

-- the traffic from one moment to another
abbrev pub TrafficBetween : MomentWithPast → MomentWithPast → Type 0
TrafficBetween before after =
    Traffic before.world.hosts after.world.hosts before.world.wire before.past.attempts after.world.wire after.past.attempts
