-- The attempts to create or write of a run, each with the fate of its messages, as data beside the world.
use Rattle.std.specs.Prelude.{ℕ, zero, suc, ◌+◌, ◌-◌, ◌==◌, nat_lt, nat_le, Bool, false, ◌&&◌, List, [], ◌∷◌, length, map, filter, Option}
use Rattle.std.specs.Prelude.{None, if◌then◌else◌}
use Rattle.std.specs.Option.{option_and_then, option_map}
use Rattle.std.specs.List.{filter_map, range_with_len}
use Rattle.std.specs.FinMap as tree
use Rattle.object_id.specs.declared.node.NodeId.{NodeId}
use Rattle.peer_proto.specs.declared.work.ObjWork.{ObjWork}
use Rattle.peer_proto.specs.declared.say.PeerSay.{PeerSay}
use Rattle.peer_proto.specs.declared.say.PeerSay.TheVariants as says
use Rattle.peer_proto.specs.Work.{oid_of}
use Rattle.gateway.specs.declared.message.Message.{Message}
use Rattle.gateway.specs.Work.{is_making}
use Rattle.gateway.specs.Attempt as gateways
use Rattle.gateway.specs.State.{WorkStage, Open, Ended, WaitsForMembers, Work, asker}
use Rattle.sheep_node.specs.declared.course.Request.{Request}
use Rattle.sheep_node.specs.State.{Node}
use Rattle.sheep_world.specs.World.{Host}

-- what became of a message of an attempt
pub data MessageFate : Type 0 where
  -- its request is in the wire
  Flying : MessageFate
  -- its target made what it asks for
  Served : MessageFate
  -- it was lost before its target had it, or its target refused it
  Doomed : MessageFate

-- an attempt to create or write: of which request and session, at which gateway in which of its incarnations; the work and the
-- epoch; the number of its first message; and the targets, with the fate of the message to each
pub record AttemptRecord : Type 0 where
  pub req : ℕ
  pub session : ℕ
  pub gateway : NodeId
  pub incarnation : ℕ
  pub work : ObjWork
  pub epoch : ℕ
  pub first : ℕ
  pub targets : List NodeId
  pub fates : List MessageFate

-- the object of an attempt
abbrev pub object_of : AttemptRecord → ℕ
object_of attempt = oid_of attempt.work

-- the attempts on an object, in the order in which they began
abbrev pub attempts_on : ℕ → List AttemptRecord → List AttemptRecord
attempts_on oid attempts = filter (λ (attempt : AttemptRecord). object_of attempt == oid) attempts

-- whether the message of a sender's number is one of the attempt's
abbrev pub has_message : NodeId → ℕ → AttemptRecord → Bool
has_message sender number attempt =
    attempt.gateway.0 == sender.0 && nat_le attempt.first number && nat_lt number (attempt.first + length attempt.targets)

-- what is told of a message that flies is its fate; a fate that is known stays
abbrev pub known_fate : MessageFate → MessageFate → MessageFate
known_fate told Flying = told
known_fate told Served = Served
known_fate told Doomed = Doomed

-- the fates, with what is told of the message at a place
abbrev pub fates_with : ℕ → MessageFate → List MessageFate → List MessageFate
fates_with place told [] = []
fates_with zero told (fate ∷ fates) = known_fate told fate ∷ fates
fates_with (suc place) told (fate ∷ fates) = fate ∷ fates_with place told fates

-- an attempt, with what is told of the message of a sender's number
abbrev pub attempt_with_fate : MessageFate → NodeId → ℕ → AttemptRecord → AttemptRecord
attempt_with_fate told sender number attempt =
    if has_message sender number attempt
    then record attempt { fates = fates_with (number - attempt.first) told attempt.fates }
    else attempt

-- all attempts, with what is told of the message of a sender's number
unfoldable pub attempts_with_fate : MessageFate → NodeId → ℕ → List AttemptRecord → List AttemptRecord
attempts_with_fate told sender number attempts = map (attempt_with_fate told sender number) attempts

-- what a target's answer tells of the message: served where it says success, else refused
abbrev pub fate_of_say : PeerSay → MessageFate
fate_of_say says.Success = Served
fate_of_say (says.Piece bytes) = Doomed
fate_of_say (says.Objects oids) = Doomed
fate_of_say (says.Row row) = Doomed
fate_of_say says.NoRow = Doomed
fate_of_say (says.Refused refusal) = Doomed

-- the nodes that messages go to
abbrev pub receivers : List Message → List NodeId
receivers messages = map (λ (message : Message). message.node) messages

-- a request's open attempt as it begins: all its messages fly
abbrev pub beginning : Host → ℕ → ℕ → ObjWork → gateways.Attempt → Request → AttemptRecord
beginning host number req work attempt request = record {
  req = req;
  session = request.session;
  gateway = host.node.me;
  incarnation = host.incarnation;
  work = work;
  epoch = attempt.epoch.0;
  first = number;
  targets = receivers attempt.messages;
  fates = map (λ (message : Message). Flying) attempt.messages;
}

-- whether the message of a number is the first of these
abbrev pub is_first : ℕ → List Message → Bool
is_first number [] = false
is_first number (message ∷ messages) = message.number == number

-- a request's attempt to create or write, where it begins with the message of a number
abbrev pub beginning_with : Host → ℕ → ℕ → ObjWork → WorkStage → Option AttemptRecord
beginning_with host number req work (Open attempt) =
    if is_making work && is_first number attempt.messages
    then option_map (beginning host number req work attempt) (tree.get host.node.requests req)
    else None
beginning_with host number req work Ended = None
beginning_with host number req work (WaitsForMembers epoch) = None

-- the attempt to create or write that begins with the message of a number
abbrev pub attempt_begun_with : Host → ℕ → Option AttemptRecord
attempt_begun_with host number =
    option_and_then
    (λ (found : ℕ × Work). beginning_with host number found.0 found.1.work found.1.stage)
    (asker number host.node.gateway)

-- the numbers that a node gave to its messages in a step
abbrev pub numbers_given : Node → Node → List ℕ
numbers_given old new = range_with_len old.sends (new.sends - old.sends)

-- the attempts that a node's step began, in the order of their numbers
unfoldable pub attempts_begun_by : Host → Host → List AttemptRecord
attempts_begun_by old new = filter_map (attempt_begun_with new) (numbers_given old.node new.node)
