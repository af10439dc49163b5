-- What open reads were told: at each unit a piece of a copy has the bytes of some attempt, and a piece of a row has what the row owed, if
-- the read is a session's.
use Rattle.std.specs.Prelude.{◌≡◌, ℕ, ◌+◌, ◌*◌, ◌-◌, ◌/◌, ◌≤◌, Bool, true, false, List, length, slice_get, Some}
use Rattle.std.specs.FinMap as tree
use Rattle.std.specs.Ordering.{nat_cmp}
use Rattle.object_id.specs.declared.limits.TheConstants.{BLOCK_BYTES}
use Rattle.object_id.specs.declared.node.NodeId.{NodeId}
use Rattle.object_id.specs.declared.oid.Kind.{Kind}
use Rattle.object_id.specs.declared.policy.Policy.{Policy}
use Rattle.object_id.specs.Oid.{kind_of}
use Rattle.object_store.specs.Bytes.{piece_at}
use Rattle.gf256.specs.Part.{is_in_strips, part_size}
use Rattle.gf256.specs.Strip.{strip}
use Rattle.vdi_directory.specs.declared.effect.Effect.{Effect}
use Rattle.peer_proto.specs.declared.say.PeerRsp.{PeerRsp}
use Rattle.peer_proto.specs.declared.say.PeerSay.TheVariants.{Piece}
use Rattle.peer_proto.specs.declared.work.ObjWork.{ObjWork}
use Rattle.peer_proto.specs.declared.work.ObjWork.TheVariants.{Create, Write, Read, ReadAll}
use Rattle.peer_proto.specs.Work.{oid_of, policy_of}
use Rattle.message_wire.specs.Message.{message_name}
use Rattle.gateway.specs.declared.message.Message.{Message}
use Rattle.gateway.specs.declared.message.Status.TheVariants.{Unanswered}
use Rattle.gateway.specs.Attempt as gateways
use Rattle.gateway.specs.Attempt.{bytes_in}
use Rattle.gateway.specs.State.{Work, Open}
use Rattle.overlap_law.specs.Attempts.{AttemptRecord, attempts_on}
use Rattle.overlap_law.specs.Each.{EachUp, SomeAttempt, policy_in}
use Rattle.overlap_law.specs.Packets.{Wire, IsAnswering}
use Rattle.overlap_law.specs.Reached.{Hosts}
use Rattle.overlap_law.specs.Since.{IsSince}
use Rattle.overlap_law.specs.Units.{unit_start, unit_size, unit_end, covers_unit, unit_part_by}
use Rattle.overlap_law.specs.Sessions.{is_of_client_at}

-- nothing came yet of a message of a request's open work
pub record IsUnansweredOf (works : tree.FinMap nat_cmp Work) (req : ℕ) (work : Work) (current : gateways.Attempt) (place : ℕ)
    (message : Message)
    : Type 0 where
  pub there : tree.get works req ≡ Some work
  pub stage : work.stage ≡ Open current
  pub at : slice_get current.messages place ≡ Some message
  pub unanswered : message.status ≡ Unanswered

-- where a work begins to read
abbrev pub offset_read : ObjWork → ℕ
offset_read (Create oid policy size offset bytes) = 0
offset_read (Write oid policy offset bytes) = 0
offset_read (Read oid policy offset size) = offset
offset_read (ReadAll oid policy size) = 0

-- at each unit inside it a piece of an object, from an offset on, has the bytes of some attempt that covers the unit
pub record IsPieceOfAttempts (kind : Kind) (attempts : List AttemptRecord) (index offset : ℕ) (bytes : List ℕ) : Type 0 where
  pub each : (unit : ℕ) → offset ≤ unit_start kind unit → unit_end kind unit ≤ offset + length bytes
      → SomeAttempt attempts (λ attempt. (covers_unit unit attempt ≡ true)
      × (piece_at bytes (unit_start kind unit - offset) (unit_size kind unit) ≡ unit_part_by index unit attempt.work))

-- a piece of a copy that is on its way back to an open read is of attempts on the object
pub record ToldPiecesAreOfAttempts (effects : List Effect) (hosts : Hosts) (wire : Wire) (attempts : List AttemptRecord) : Type 0 where
  pub each : EachUp hosts (λ n node. (req place : ℕ) (work : Work) (current : gateways.Attempt) (message : Message) (from : NodeId)
      (rsp : PeerRsp) (bytes : List ℕ) → IsUnansweredOf node.gateway.works req work current place message
      → IsAnswering wire (message_name n message.number) from rsp → rsp.say ≡ Piece bytes
      → policy_in effects (oid_of work.work) ≡ Some (policy_of work.work)
      → is_in_strips (policy_of work.work) (kind_of (oid_of work.work)) ≡ false
      → IsPieceOfAttempts (kind_of (oid_of work.work)) (attempts_on (oid_of work.work) attempts) message.index
      (offset_read work.work) bytes)

-- a piece is cut, from an offset of the object on, of bytes that a node had of it in an epoch, and that have what it owed then
pub record IsPieceSince (policy : Policy) (oid : ℕ) (hosts : Hosts) (attempts : List AttemptRecord) (node : NodeId) (index epoch offset : ℕ)
    (bytes : List ℕ) : Type 0 where
  pub row : List ℕ
  pub size : ℕ
  pub since : IsSince policy oid hosts attempts node index epoch epoch row
  pub same : piece_at row (part_size policy (kind_of oid) offset) size ≡ bytes

-- the part of a unit lies inside a piece that a read of the object was told, so many bytes long
pub record IsPartInside (work : ObjWork) (unit long : ℕ) : Type 0 where
  pub above : part_size (policy_of work) (kind_of (oid_of work)) (offset_read work)
      ≤ part_size (policy_of work) (kind_of (oid_of work)) (unit_start (kind_of (oid_of work)) unit)
  pub below : part_size (policy_of work) (kind_of (oid_of work)) (unit_start (kind_of (oid_of work)) unit)
      + part_size (policy_of work) (kind_of (oid_of work)) (unit_size (kind_of (oid_of work)) unit)
      ≤ part_size (policy_of work) (kind_of (oid_of work)) (offset_read work) + long

-- and is this
abbrev pub part_in_piece : ObjWork → ℕ → List ℕ → List ℕ
part_in_piece work unit bytes =
    piece_at bytes
    (part_size (policy_of work) (kind_of (oid_of work)) (unit_start (kind_of (oid_of work)) unit)
    - part_size (policy_of work) (kind_of (oid_of work)) (offset_read work))
    (part_size (policy_of work) (kind_of (oid_of work)) (unit_size (kind_of (oid_of work)) unit))

-- a message gave the strip at its index of a block, where a read of strips began at an offset
abbrev pub GaveStrip : ℕ → ℕ → ℕ → List ℕ → Message → Type 0
GaveStrip d offset unit block message =
    piece_at (bytes_in message.status) (BLOCK_BYTES * unit / d - offset / d) (BLOCK_BYTES / d) ≡ strip d block message.index

-- a piece of a good object, of a copy or of strips, that is on its way back to an open read of a session, is of bytes that have what their
-- node owed in the read's epoch. A client's read may be overtaken by attempts, of the same epoch or a later one
pub record ToldPiecesAreSince (effects : List Effect) (good : ℕ → Bool) (hosts : Hosts) (wire : Wire) (attempts : List AttemptRecord)
    : Type 0 where
  pub each : EachUp hosts (λ n node. (req place : ℕ) (work : Work) (current : gateways.Attempt) (message : Message) (from : NodeId)
      (rsp : PeerRsp) (bytes : List ℕ) → IsUnansweredOf node.gateway.works req work current place message
      → is_of_client_at req node ≡ false → IsAnswering wire (message_name n message.number) from rsp → rsp.say ≡ Piece bytes
      → good (oid_of work.work) ≡ true
      → policy_in effects (oid_of work.work) ≡ Some (policy_of work.work)
      → IsPieceSince (policy_of work.work) (oid_of work.work) hosts attempts from message.index current.epoch.0 (offset_read work.work)
      bytes)
