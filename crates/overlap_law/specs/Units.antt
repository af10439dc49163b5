-- The units of an object: which of them a work covers, and the bytes that it has for them.
use Rattle.std.specs.Prelude.{ℕ, ◌+◌, ◌*◌, ◌-◌, ◌/◌, nat_lt, nat_le, Bool, false, ◌&&◌, List, [], length, filter, fold, if◌then◌else◌}
use Rattle.object_id.specs.declared.limits.TheConstants.{BLOCK_BYTES}
use Rattle.object_id.specs.declared.oid.Kind.{Kind}
use Rattle.object_id.specs.declared.oid.Kind.TheVariants.{Block, Inode}
use Rattle.object_id.specs.declared.policy.Policy.{Policy}
use Rattle.object_id.specs.Oid.{kind_of}
use Rattle.object_id.specs.Piece.{laid_over}
use Rattle.object_id.specs.Fields.{zeros}
use Rattle.object_store.specs.Bytes.{piece_at}
use Rattle.gf256.specs.Part.{part, part_size}
use Rattle.inode.specs.declared.layout.TheConstants.{INODE_HEADER_BYTES}
use Rattle.peer_proto.specs.declared.work.ObjWork.{ObjWork}
use Rattle.peer_proto.specs.declared.work.ObjWork.TheVariants.{Create, Write, Read, ReadAll}
use Rattle.peer_proto.specs.Work.{oid_of, policy_of}
use Rattle.overlap_law.specs.Attempts.{AttemptRecord}

-- where a unit of an object begins: one of a data object is a block; one of an inode is a byte of the header, or an
-- entry of the table
abbrev pub unit_start : Kind → ℕ → ℕ
unit_start Block unit = BLOCK_BYTES * unit
unit_start Inode unit =
    if nat_lt unit INODE_HEADER_BYTES then unit else INODE_HEADER_BYTES + 4 * (unit - INODE_HEADER_BYTES)

-- how many bytes it has
abbrev pub unit_size : Kind → ℕ → ℕ
unit_size Block unit = BLOCK_BYTES
unit_size Inode unit = if nat_lt unit INODE_HEADER_BYTES then 1 else 4

-- where it ends
abbrev pub unit_end : Kind → ℕ → ℕ
unit_end kind unit = unit_start kind unit + unit_size kind unit

-- the unit in which the byte at an offset stands
abbrev pub unit_of : Kind → ℕ → ℕ
unit_of Block offset = offset / BLOCK_BYTES
unit_of Inode offset =
    if nat_lt offset INODE_HEADER_BYTES then offset else INODE_HEADER_BYTES + (offset - INODE_HEADER_BYTES) / 4

-- the bytes of a unit, among those of the whole object
abbrev pub unit_bytes : Kind → ℕ → List ℕ → List ℕ
unit_bytes kind unit bytes = piece_at bytes (unit_start kind unit) (unit_size kind unit)

-- the bytes of a unit in a row of the object: the unit, or its strip
abbrev pub row_bytes_at : Policy → Kind → ℕ → List ℕ → List ℕ
row_bytes_at policy kind unit bytes =
    piece_at bytes (part_size policy kind (unit_start kind unit)) (part_size policy kind (unit_size kind unit))

-- a create covers each unit of the object, and a write those of which it has the bytes
abbrev pub covers_by : ℕ → ObjWork → Bool
covers_by unit (Create oid policy size offset bytes) = nat_le (unit_end (kind_of oid) unit) size
covers_by unit (Write oid policy offset bytes) =
    nat_le offset (unit_start (kind_of oid) unit) && nat_le (unit_end (kind_of oid) unit) (offset + length bytes)
covers_by unit (Read oid policy offset size) = false
covers_by unit (ReadAll oid policy size) = false

-- whether an attempt covers a unit of its object
abbrev pub covers_unit : ℕ → AttemptRecord → Bool
covers_unit unit attempt = covers_by unit attempt.work

-- the attempts that cover a unit, in their order
abbrev pub covering : ℕ → List AttemptRecord → List AttemptRecord
covering unit attempts = filter (covers_unit unit) attempts

-- the bytes that a work makes, over those that were there
abbrev pub laid_by : List ℕ → ObjWork → List ℕ
laid_by bytes (Create oid policy size offset piece) = laid_over (zeros size) offset piece
laid_by bytes (Write oid policy offset piece) = laid_over bytes offset piece
laid_by bytes (Read oid policy offset size) = bytes
laid_by bytes (ReadAll oid policy size) = bytes

-- the bytes of an object where attempts were laid over each other in their order
unfoldable pub laid_over_in_order : List AttemptRecord → List ℕ
laid_over_in_order attempts = fold (λ bytes (attempt : AttemptRecord). laid_by bytes attempt.work) [] attempts

-- the bytes that a work has for a unit that it covers
abbrev pub bytes_by : ℕ → ObjWork → List ℕ
bytes_by unit (Create oid policy size offset piece) = unit_bytes (kind_of oid) unit (laid_over (zeros size) offset piece)
bytes_by unit (Write oid policy offset piece) =
    piece_at piece (unit_start (kind_of oid) unit - offset) (unit_size (kind_of oid) unit)
bytes_by unit (Read oid policy offset size) = []
bytes_by unit (ReadAll oid policy size) = []

-- the strip or copy at an index of what an attempt has for a unit that it covers
abbrev pub unit_part_by : ℕ → ℕ → ObjWork → List ℕ
unit_part_by index unit work = part (policy_of work) (kind_of (oid_of work)) index (bytes_by unit work)
