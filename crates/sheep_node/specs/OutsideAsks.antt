-- What a client without a script may ask of a node: one work on one object, or a lock and its end.
use Rattle.std.specs.Prelude.{◌≡◌, ℕ, ◌+◌, ◌≤◌, length, Some}
use Rattle.object_id.specs.Oid.{IsOid, kind_of}
use Rattle.object_id.specs.declared.node.NodeId.{NodeId}
use Rattle.object_id.specs.declared.entry.VdiSpec.{VdiSpec}
use Rattle.object_id.specs.declared.entry.Entry.{Entry}
use Rattle.object_id.specs.declared.entry.Entry.TheVariants.{Lock, Unlock}
use Rattle.peer_proto.specs.Work.{oid_of, policy_of, AreAligned}
use Rattle.peer_proto.specs.declared.work.ObjWork.{ObjWork}
use Rattle.peer_proto.specs.declared.work.ObjWork.TheVariants.{Create, Write, Read, ReadAll}
use Rattle.peer_service.specs.State.{Peer, spec_of, object_size}
use Rattle.sheep_node.specs.declared.ask.Ask.{Ask}
use Rattle.sheep_node.specs.declared.ask.Ask.TheVariants as asks
use Rattle.sheep_node.specs.declared.input.Input.{Input}
use Rattle.sheep_node.specs.declared.input.Input.TheVariants as inputs

-- where the bytes begin that a work is about
abbrev pub work_offset : ObjWork → ℕ
work_offset (Create oid policy size offset bytes) = offset
work_offset (Write oid policy offset bytes) = offset
work_offset (Read oid policy offset size) = offset
work_offset (ReadAll oid policy size) = 0

-- how many there are
abbrev pub work_size : ObjWork → ℕ
work_size (Create oid policy size offset bytes) = length bytes
work_size (Write oid policy offset bytes) = length bytes
work_size (Read oid policy offset size) = size
work_size (ReadAll oid policy size) = size

-- a create makes the object as long as it is
abbrev pub MakesWhole : ℕ → ObjWork → Type 0
MakesWhole object_bytes (Create oid policy size offset bytes) = size ≡ object_bytes
MakesWhole object_bytes (Write oid policy offset bytes) = Unit {0}
MakesWhole object_bytes (Read oid policy offset size) = Unit {0}
MakesWhole object_bytes (ReadAll oid policy size) = Unit {0}

-- a work on an object that the node knows: by the policy of its disk, inside of it, and in strips by whole blocks
pub record IsObjectAsk (peer : Peer) (work : ObjWork) : Type 0 where
  pub spec : VdiSpec
  pub known : spec_of peer (oid_of work) ≡ Some spec
  pub policy : policy_of work ≡ spec.policy
  pub inside : work_offset work + work_size work ≤ object_size spec (kind_of (oid_of work))
  pub whole : MakesWhole (object_size spec (kind_of (oid_of work))) work
  pub blocks : AreAligned (policy_of work) (kind_of (oid_of work)) (work_offset work) (work_size work)

-- a lock for the node's session 0, which is no script's, or its end
abbrev pub IsEntryAsk : NodeId → Entry → Type 0
IsEntryAsk me (Lock by session name tag) = (by ≡ me) × (session ≡ 0)
IsEntryAsk me (Unlock by session vid) = (by ≡ me) × (session ≡ 0)
IsEntryAsk me _ = ⊥

-- what a client asks for on an object is asked by an id of one
abbrev pub NamesAnObject : Ask → Type 0
NamesAnObject (asks.Disk ask) = Unit {0}
NamesAnObject (asks.Vdi ask) = Unit {0}
NamesAnObject (asks.Object work) = IsOid (oid_of work)
NamesAnObject (asks.Entry entry) = Unit {0}

abbrev pub InputNamesObjects : Input → Type 0
InputNamesObjects (inputs.Guest req session ask) = NamesAnObject ask
InputNamesObjects _ = Unit {0}
