-- The attempts against the wire and the log: what their fates say, that they are whole, and in which order they began.
use Rattle.std.specs.Prelude.{◌≡◌, ℕ, ◌+◌, ◌≤◌, ◌<◌, true, false, List, length, slice_get, Some}
use Rattle.std.specs.FinMap as tree
use Rattle.object_id.specs.declared.node.NodeId.{NodeId}
use Rattle.object_id.specs.declared.entry.Entry.{Entry}
use Rattle.object_id.specs.Oid.{kind_of, vid_of}
use Rattle.object_id.specs.Policy.{wanted_of}
use Rattle.epoch_log.specs.Epochs.{epoch_of}
use Rattle.vdi_directory.specs.Decisions.{log_effects}
use Rattle.peer_proto.specs.declared.work.ObjWork.{ObjWork}
use Rattle.peer_proto.specs.declared.work.ObjWork.TheVariants.{Create, Write, Read, ReadAll}
use Rattle.object_id.specs.declared.oid.Kind.{Kind}
use Rattle.object_id.specs.declared.entry.VdiSpec.{VdiSpec}
use Rattle.vdi_directory.specs.declared.effect.Effect.{Effect}
use Rattle.peer_service.specs.State.{object_size}
use Rattle.overlap_law.specs.Units.{unit_start}
use Rattle.peer_proto.specs.Work.{policy_of}
use Rattle.gateway.specs.Work.{is_making}
use Rattle.sheep_world.specs.World.{Host}
use Rattle.overlap_law.specs.Attempts.{MessageFate, Flying, Served, Doomed, AttemptRecord, object_of}
use Rattle.overlap_law.specs.Words.{Hosts, is_made, has_served}
use Rattle.overlap_law.specs.Holders.{creates}
use Rattle.overlap_law.specs.Each.{Placing, EachAttempt, has_reached, spec_in, policy_in}
use Rattle.overlap_law.specs.Packets.{Wire, IsQuiet, message_name_at, message_request_at, is_request_in_flight, IsAsking, HasPacket}
use Rattle.overlap_law.specs.Grants.{reserved_in}

-- a message flies exactly where its request is in the wire
abbrev pub IsFateIn : Wire → AttemptRecord → ℕ → NodeId → MessageFate → Type 0
IsFateIn wire attempt place target Flying = IsAsking wire (message_name_at attempt place) target (message_request_at attempt place)
IsFateIn wire attempt place target Served = is_request_in_flight (tree.get wire (message_name_at attempt place)) ≡ false
IsFateIn wire attempt place target Doomed = is_request_in_flight (tree.get wire (message_name_at attempt place)) ≡ false

-- each message of an attempt has one fate: it flies, was served, or is doomed
pub record FatesAreOfTheWire (wire : Wire) (attempts : List AttemptRecord) : Type 0 where
  pub whole : EachAttempt attempts (λ j attempt. length attempt.fates ≡ length attempt.targets)
  pub each : EachAttempt attempts (λ j attempt. (place : ℕ) (target : NodeId) (fate : MessageFate) → slice_get attempt.targets place
      ≡ Some target
      → slice_get attempt.fates place ≡ Some fate → IsFateIn wire attempt place target fate)

-- an attempt is of an incarnation of its gateway that began, and one of an earlier incarnation has no packets; its
-- gateway gave its numbers, and a
-- later attempt of that gateway has later ones
pub record AttemptsAreOfIncarnations (hosts : Hosts) (wire : Wire) (attempts : List AttemptRecord) : Type 0 where
  pub began : EachAttempt attempts (λ j attempt. (host : Host) → tree.get hosts attempt.gateway.0 ≡ Some host
      → attempt.incarnation ≤ host.incarnation)
  pub earlier : EachAttempt attempts (λ j attempt. (host : Host) → tree.get hosts attempt.gateway.0 ≡ Some host
      → attempt.incarnation < host.incarnation
      → IsQuiet wire attempt)
  pub given : EachAttempt attempts (λ j attempt. (host : Host) → tree.get hosts attempt.gateway.0 ≡ Some host
      → attempt.first + length attempt.targets ≤ host.node.sends)
  pub apart : EachAttempt attempts (λ j first. EachAttempt attempts (λ k second. j < k → first.gateway.0 ≡ second.gateway.0
      → first.first + length first.targets ≤ second.first))

-- a node that served an attempt came to its epoch
pub record ServersReachedTheEpoch (hosts : Hosts) (attempts : List AttemptRecord) : Type 0 where
  pub each : EachAttempt attempts (λ j attempt. (node : NodeId) → has_served node attempt ≡ true → has_reached hosts attempt.epoch node
      ≡ true)

-- an attempt is to create or write by its object's policy, and went to the targets of its epoch, as many as are wanted
pub record AttemptsAreShaped (T : Placing) (log : List Entry) (attempts : List AttemptRecord) : Type 0 where
  pub making : EachAttempt attempts (λ j attempt. is_making attempt.work ≡ true)
  pub policy : EachAttempt attempts (λ j attempt. policy_in (log_effects log) (object_of attempt) ≡ Some (policy_of attempt.work))
  pub targets : EachAttempt attempts (λ j attempt. attempt.targets ≡ T attempt.epoch (object_of attempt) (policy_of attempt.work))
  pub wanted : EachAttempt attempts (λ j attempt. length attempt.targets ≡ wanted_of (policy_of attempt.work) (kind_of (object_of attempt)))
  pub begun : EachAttempt attempts (λ j attempt. attempt.epoch ≤ epoch_of log)

-- bytes from one offset up to another are whole units
pub record AreUnits (kind : Kind) (from to : ℕ) : Type 0 where
  pub first : ℕ
  pub last : ℕ
  pub begins : from ≡ unit_start kind first
  pub ends : to ≡ unit_start kind last

-- a work makes a whole object of this size, or whole units in it
abbrev pub IsWhole : ℕ → ObjWork → Type 0
IsWhole size (Create oid policy long offset bytes) = (long ≡ size) × (offset + length bytes ≤ size)
IsWhole size (Write oid policy offset bytes) = (offset + length bytes ≤ size) × AreUnits (kind_of oid) offset (offset + length bytes)
IsWhole size (Read oid policy offset long) = Unit {0}
IsWhole size (ReadAll oid policy long) = Unit {0}

-- an attempt covers whole units, inside its object
pub record AttemptsAreWhole (effects : List Effect) (attempts : List AttemptRecord) : Type 0 where
  pub each : EachAttempt attempts (λ j attempt. (spec : VdiSpec) → spec_in effects (vid_of (object_of attempt)) ≡ Some spec
      → IsWhole (object_size spec (kind_of (object_of attempt))) attempt.work)

-- the id of an attempt's object was reserved in its epoch or before
pub record IdsAreKnown (log : List Entry) (attempts : List AttemptRecord) : Type 0 where
  pub reserved : EachAttempt attempts (λ j attempt. 1 ≤ reserved_in log (vid_of (object_of attempt)))
  pub before : EachAttempt attempts (λ j attempt. reserved_in log (vid_of (object_of attempt)) ≤ attempt.epoch)

-- of two attempts on an object the later one is of no earlier epoch, and of a later one while the other has packets
pub record AreInOrder (wire : Wire) (first second : AttemptRecord) : Type 0 where
  pub epochs : first.epoch ≤ second.epoch
  pub flying : (place : ℕ) (target : NodeId) → HasPacket wire first place target → first.epoch < second.epoch

-- the attempts on an object are ordered
pub record AttemptsAreOrdered (wire : Wire) (attempts : List AttemptRecord) : Type 0 where
  pub each : EachAttempt attempts (λ j first. EachAttempt attempts (λ k second.
      j < k → object_of first ≡ object_of second → AreInOrder wire first second))

-- a made create of an object, of no later epoch than this one
pub record IsCreated (attempts : List AttemptRecord) (oid epoch : ℕ) : Type 0 where
  pub place : ℕ
  pub create : AttemptRecord
  pub there : slice_get attempts place ≡ Some create
  pub object : object_of create ≡ oid
  pub creating : creates create ≡ true
  pub made : is_made create ≡ true
  pub epoch_of_it : create.epoch ≤ epoch

-- before a write of an object stands a made create of it, whether or not the object was available
pub record CreatesComeFirst (attempts : List AttemptRecord) : Type 0 where
  pub each : EachAttempt attempts (λ j attempt. creates attempt ≡ false
      → (created : IsCreated attempts (object_of attempt) attempt.epoch) × (created.place < j))
