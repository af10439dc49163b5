-- What a work is about, and which works there may be.
use Rattle.std.specs.Prelude.{ℕ, ◌+◌, ◌≤◌, List, length}
use Rattle.object_id.specs.declared.limits.TheConstants.{OBJECT_BYTES_MAX}
use Rattle.object_id.specs.declared.oid.Kind.{Kind}
use Rattle.object_id.specs.declared.policy.Policy.{Policy}
use Rattle.object_id.specs.Oid.{kind_of}
use Rattle.object_id.specs.Policy.{IsPolicy}
use Rattle.gf256.specs.Part.{IsAligned}
use Rattle.peer_proto.specs.declared.work.ObjWork.{ObjWork}
use Rattle.peer_proto.specs.declared.work.ObjWork.TheVariants.{Create, Write, Read, ReadAll}

-- the object of a work
abbrev pub oid_of : ObjWork → ℕ
oid_of (Create oid policy size offset bytes) = oid
oid_of (Write oid policy offset bytes) = oid
oid_of (Read oid policy offset size) = oid
oid_of (ReadAll oid policy size) = oid

-- the policy of its disk
abbrev pub policy_of : ObjWork → Policy
policy_of (Create oid policy size offset bytes) = policy
policy_of (Write oid policy offset bytes) = policy
policy_of (Read oid policy offset size) = policy
policy_of (ReadAll oid policy size) = policy

-- whether an offset and a length go by whole parts: those of strips by whole blocks
abbrev pub AreAligned : Policy → Kind → ℕ → ℕ → Type 0
AreAligned policy kind offset long = IsAligned policy kind offset × IsAligned policy kind long

-- what a work must meet: a create's piece ends inside the object, any other work inside the longest object
abbrev pub IsWork : ObjWork → Type 0
IsWork (Create oid policy size offset bytes) =
    IsPolicy policy × (offset + length bytes ≤ size) × AreAligned policy (kind_of oid) offset (length bytes)
    × IsAligned policy (kind_of oid) size
IsWork (Write oid policy offset bytes) =
    IsPolicy policy × (offset + length bytes ≤ OBJECT_BYTES_MAX) × AreAligned policy (kind_of oid) offset (length bytes)
IsWork (Read oid policy offset size) =
    IsPolicy policy × (offset + size ≤ OBJECT_BYTES_MAX) × AreAligned policy (kind_of oid) offset size
IsWork (ReadAll oid policy size) = IsPolicy policy × (size ≤ OBJECT_BYTES_MAX) × IsAligned policy (kind_of oid) size
