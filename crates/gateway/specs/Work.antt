-- A work on one object: which targets an attempt asks, and for which part of the bytes.
use Rattle.std.specs.Prelude.{ℕ, ◌*◌, ◌%◌, ◌==◌, Bool, true, false, List, [], length, take, drop}
use Rattle.std.specs.List.{enumerate_from}
use Rattle.object_id.specs.declared.node.NodeId.{NodeId}
use Rattle.object_id.specs.declared.oid.Kind.{Kind}
use Rattle.object_id.specs.declared.policy.Policy.{Policy}
use Rattle.object_id.specs.Oid.{kind_of}
use Rattle.object_id.specs.Policy.{wanted_of, need_of}
use Rattle.gf256.specs.Part.{part, part_size, is_in_strips}
use Rattle.peer_proto.specs.declared.work.ObjWork.{ObjWork}
use Rattle.peer_proto.specs.declared.work.ObjWork.TheVariants.{Create, Write, Read, ReadAll}
use Rattle.peer_proto.specs.declared.ask.PeerAsk.{PeerAsk}
use Rattle.peer_proto.specs.declared.ask.PeerAsk.TheVariants as asks

-- whether a work makes something: a create or a write
abbrev pub is_making : ObjWork → Bool
is_making (Create oid policy size offset bytes) = true
is_making (Write oid policy offset bytes) = true
is_making (Read oid policy offset size) = false
is_making (ReadAll oid policy size) = false

-- in how many zones an attempt has to begin: as many as are wanted, for a read that isn't of all parts as many as are needed
abbrev pub zones_for : ObjWork → ℕ
zones_for (Create oid policy size offset bytes) = wanted_of policy (kind_of oid)
zones_for (Write oid policy offset bytes) = wanted_of policy (kind_of oid)
zones_for (Read oid policy offset size) = need_of policy (kind_of oid)
zones_for (ReadAll oid policy size) = wanted_of policy (kind_of oid)

-- of places the one at the attempt's number modulo their count; attempts are numbered from 0
abbrev pub place_in_turn : ℕ → List (ℕ × NodeId) → List (ℕ × NodeId)
place_in_turn attempt places = take 1 (drop (attempt % length places) places)

-- a read asks every target for its strip, or one target after another for the bytes
abbrev pub read_from : Bool → ℕ → List (ℕ × NodeId) → List (ℕ × NodeId)
read_from true attempt places = places
read_from false attempt places = place_in_turn attempt places

-- the targets that an attempt asks, each with its place: a create, a write and a read of all parts ask all of them
abbrev pub targets_asked : ObjWork → ℕ → List NodeId → List (ℕ × NodeId)
targets_asked (Create oid policy size offset bytes) attempt targets = enumerate_from 0 targets
targets_asked (Write oid policy offset bytes) attempt targets = enumerate_from 0 targets
targets_asked (Read oid policy offset size) attempt targets =
    read_from (is_in_strips policy (kind_of oid)) attempt (enumerate_from 0 targets)
targets_asked (ReadAll oid policy size) attempt targets = enumerate_from 0 targets

-- what the target that keeps the part of this index is asked: the work, on that part
abbrev pub ask_for : ObjWork → ℕ → PeerAsk
ask_for (Create oid policy size offset bytes) index =
    asks.Create
    (record { oid = oid; index = index })
    (part_size policy (kind_of oid) size)
    (part_size policy (kind_of oid) offset)
    (part policy (kind_of oid) index bytes)
ask_for (Write oid policy offset bytes) index =
    asks.Write (record { oid = oid; index = index }) (part_size policy (kind_of oid) offset) (part policy (kind_of oid) index bytes)
ask_for (Read oid policy offset size) index =
    asks.Read
    (record { oid = oid; index = index })
    (part_size policy (kind_of oid) offset)
    (part_size policy (kind_of oid) size)
ask_for (ReadAll oid policy size) index =
    asks.Read (record { oid = oid; index = index }) 0 (part_size policy (kind_of oid) size)

-- the bytes that a target is asked to keep
abbrev pub bytes_asked : PeerAsk → List ℕ
bytes_asked (asks.Create key size offset bytes) = bytes
bytes_asked (asks.Write key offset bytes) = bytes
bytes_asked (asks.Read key offset size) = []
bytes_asked asks.List = []
bytes_asked (asks.RecoverRead oid level) = []

-- whether a piece is as long as a read asks for
abbrev pub is_piece : ObjWork → ℕ → Bool
is_piece (Create oid policy size offset bytes) n = false
is_piece (Write oid policy offset bytes) n = false
is_piece (Read oid policy offset size) n = n == part_size policy (kind_of oid) size
is_piece (ReadAll oid policy size) n = n == part_size policy (kind_of oid) size

-- whether each attempt of a work asks all targets; a read of whole copies asks one of them
abbrev pub asks_all : ObjWork → Bool
asks_all (Create oid policy size offset bytes) = true
asks_all (Write oid policy offset bytes) = true
asks_all (Read oid policy offset size) = is_in_strips policy (kind_of oid)
asks_all (ReadAll oid policy size) = true

-- how many bytes a done work gives: a read as many as it asks for, a read of all parts as many parts as are wanted, a create
-- or write none
abbrev pub bytes_of_work : ObjWork → ℕ
bytes_of_work (Create oid policy size offset bytes) = 0
bytes_of_work (Write oid policy offset bytes) = 0
bytes_of_work (Read oid policy offset size) = size
bytes_of_work (ReadAll oid policy size) = wanted_of policy (kind_of oid) * part_size policy (kind_of oid) size
