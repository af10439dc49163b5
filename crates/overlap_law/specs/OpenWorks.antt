-- The works of gateways against the attempts: which attempt is a work's, what is known of its messages, and what is touched.
use Rattle.std.specs.Prelude.{◌≡◌, ◌≢◌, ◌⊎◌, ℕ, ◌+◌, ◌≤◌, true, false, List, Contains, map, slice_get, Some}
use Rattle.std.specs.FinMap as tree
use Rattle.object_id.specs.declared.node.NodeId.{NodeId}
use Rattle.peer_proto.specs.declared.work.ObjWork.{ObjWork}
use Rattle.peer_proto.specs.declared.say.PeerRsp.{PeerRsp}
use Rattle.peer_proto.specs.declared.say.PeerSay.TheVariants as says
use Rattle.gateway.specs.declared.message.Message.{Message}
use Rattle.gateway.specs.declared.message.Status.{Status}
use Rattle.gateway.specs.declared.message.Status.TheVariants.{Unanswered, Succeeded, Refused, Lost}
use Rattle.gateway.specs.Work.{is_making}
use Rattle.gateway.specs.Attempt as gateways
use Rattle.gateway.specs.State.{Open, Work, is_touched}
use Rattle.sheep_node.specs.State.{Node}
use Rattle.message_wire.specs.declared.name.MessageName.{MessageName}
use Rattle.overlap_law.specs.Headline.{has_lost}
use Rattle.overlap_law.specs.Attempts.{MessageFate, Flying, Served, Doomed, AttemptRecord, object_of}
use Rattle.overlap_law.specs.Words.{Hosts, is_mute}
use Rattle.overlap_law.specs.Holders.{is_object_among}
use Rattle.overlap_law.specs.Each.{EachUp, EachAble, EachAttempt}
use Rattle.overlap_law.specs.Packets.{Wire, message_name_at, is_name_in_wire, IsAnswering, IsQuiet, HasPacket}

-- the attempt that a gateway has open is this one
pub record IsTheSame (node : Node) (req : ℕ) (asked : ObjWork) (current : gateways.Attempt) (attempt : AttemptRecord) : Type 0 where
  pub gateway : attempt.gateway ≡ node.me
  pub request : attempt.req ≡ req
  pub work : attempt.work ≡ asked
  pub epoch : attempt.epoch ≡ current.epoch.0
  pub targets : attempt.targets ≡ map (λ (message : Message). message.node) current.messages
  pub numbers : (place : ℕ) (message : Message) → slice_get current.messages place ≡ Some message → message.number ≡ attempt.first + place

-- this attempt is the last on its object
pub record IsLast (attempts : List AttemptRecord) (j : ℕ) (attempt : AttemptRecord) : Type 0 where
  pub there : slice_get attempts j ≡ Some attempt
  pub last : EachAttempt attempts (λ k other. object_of other ≡ object_of attempt → k ≤ j)

-- an open attempt of a create or write, as it is among the attempts
pub record IsOpenAs (node : Node) (req : ℕ) (work : Work) (current : gateways.Attempt) (attempt : AttemptRecord) : Type 0 where
  pub there : tree.get node.gateway.works req ≡ Some work
  pub making : is_making work.work ≡ true
  pub stage : work.stage ≡ Open current
  pub same : IsTheSame node req work.work current attempt

-- nothing came yet of an attempt's message to the target at a place, as far as its gateway knows, which has the attempt open
pub record IsAwaitedAt (node : Node) (attempt : AttemptRecord) (place : ℕ) : Type 0 where
  pub work : Work
  pub current : gateways.Attempt
  pub opened : IsOpenAs node attempt.req work current attempt
  pub message : Message
  pub at : slice_get current.messages place ≡ Some message
  pub unanswered : message.status ≡ Unanswered

-- what is in the wire of an attempt of a node that isn't lost is awaited by the attempt's own work
pub record PacketsAreOfOpenWorks (hosts : Hosts) (wire : Wire) (attempts : List AttemptRecord) : Type 0 where
  pub each : EachUp hosts (λ n node. EachAttempt attempts (λ j attempt. attempt.gateway.0 ≡ n → (place : ℕ) (target : NodeId)
      → HasPacket wire attempt place target → IsAwaitedAt node attempt place))

-- the attempt that a create or write has open is the last on its object
pub record OpenAttemptsAreLatest (hosts : Hosts) (attempts : List AttemptRecord) : Type 0 where
  pub each : EachUp hosts (λ n node. (req : ℕ) (work : Work) (current : gateways.Attempt) → tree.get node.gateway.works req ≡ Some work
      → is_making work.work ≡ true → work.stage ≡ Open current
      → (j : ℕ) × (attempt : AttemptRecord) × IsLast attempts j attempt × IsOpenAs node req work current attempt)

-- what a gateway knows of a message, against its fate
abbrev pub IsStatusOf : Wire → AttemptRecord → ℕ → Status → MessageFate → Type 0
IsStatusOf wire attempt place Unanswered fate = is_name_in_wire wire (message_name_at attempt place) ≡ true
IsStatusOf wire attempt place (Succeeded bytes) fate = fate ≡ Served
IsStatusOf wire attempt place (Refused refusal) fate = fate ≡ Doomed
IsStatusOf wire attempt place Lost fate = fate ≢ Flying

-- the open works of a node that may step know of their messages what became of them
pub record WorksKnowTheirFates (hosts : Hosts) (wire : Wire) (attempts : List AttemptRecord) : Type 0 where
  pub each : EachAble hosts (λ n node. EachAttempt attempts (λ j attempt.
      (req : ℕ) (work : Work) (current : gateways.Attempt) (place : ℕ) (message : Message) (fate : MessageFate)
      → IsOpenAs node req work current attempt → slice_get current.messages place ≡ Some message → slice_get attempt.fates place ≡ Some fate
      → IsStatusOf wire attempt place message.status fate))

-- each served message of an attempt has its Success in the wire
pub record AreToldYet (wire : Wire) (attempt : AttemptRecord) : Type 0 where
  pub each : (place : ℕ) (target : NodeId) → slice_get attempt.targets place ≡ Some target → slice_get attempt.fates place ≡ Some Served
      → (reply : PeerRsp) × (reply.say ≡ says.Success) × IsAnswering wire (message_name_at attempt place) target reply

-- a request without reply of which a message was served is touched, or its gateway, which may step, has still to hear of it
pub record ServedRequestsAreTouched (hosts : Hosts) (wire : Wire) (attempts : List AttemptRecord) : Type 0 where
  pub each : EachAble hosts (λ n node. EachAttempt attempts (λ j attempt. attempt.gateway.0 ≡ n
      → tree.contains_key node.requests attempt.req ≡ true → is_mute attempt ≡ false
      → (is_touched attempt.req node.gateway ≡ true) ⊎ AreToldYet wire attempt))

-- a request without reply of which a create or write message was lost, or the reply to one, is touched
pub record LosersAreTouched (hosts : Hosts) (lost : List MessageName) (attempts : List AttemptRecord) : Type 0 where
  pub each : EachAble hosts (λ n node. EachAttempt attempts (λ j attempt. attempt.gateway.0 ≡ n
      → tree.contains_key node.requests attempt.req ≡ true → has_lost lost attempt ≡ true → is_touched attempt.req node.gateway ≡ true))

-- a message of an attempt was served, or it or the reply to it was lost
abbrev pub MayTouch : List MessageName → AttemptRecord → ℕ → Type 0
MayTouch lost attempt place = (slice_get attempt.fates place ≡ Some Served) ⊎ Contains lost (message_name_at attempt place)

-- a request without reply is touched by each such message, or nothing came of it yet as far as its gateway knows, which isn't lost
pub record MessagesTouchOrAreAwaited (hosts : Hosts) (lost : List MessageName) (attempts : List AttemptRecord) : Type 0 where
  pub each : EachUp hosts (λ n node. EachAttempt attempts (λ j attempt. attempt.gateway.0 ≡ n
      → tree.contains_key node.requests attempt.req ≡ true → (place : ℕ) (target : NodeId) → slice_get attempt.targets place ≡ Some target
      → MayTouch lost attempt place → (is_touched attempt.req node.gateway ≡ true) ⊎ IsAwaitedAt node attempt place))

-- no attempt of a refused request was served or will be
pub record RefusedRequestsAreMute (wire : Wire) (refused : List ℕ) (attempts : List AttemptRecord) : Type 0 where
  pub mute : EachAttempt attempts (λ j attempt. is_object_among attempt.req refused ≡ true → is_mute attempt ≡ true)
  pub quiet : EachAttempt attempts (λ j attempt. is_object_among attempt.req refused ≡ true → IsQuiet wire attempt)
