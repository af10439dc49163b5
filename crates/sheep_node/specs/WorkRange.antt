-- Which works ask only for what can be spelled.
use Rattle.std.specs.Prelude.{ℕ, ◌^◌, ◌<◌}
use Rattle.object_id.specs.Oid.{IsOid}
use Rattle.peer_proto.specs.Work.{oid_of, IsWork}
use Rattle.peer_proto.specs.declared.work.ObjWork.{ObjWork}
use Rattle.peer_proto.specs.declared.work.ObjWork.TheVariants.{Create, Write, Read, ReadAll}

-- how many bytes the object has that a work makes; 0 where it makes none
abbrev pub size_made : ObjWork → ℕ
size_made (Create oid policy size offset bytes) = size
size_made (Write oid policy offset bytes) = 0
size_made (Read oid policy offset size) = 0
size_made (ReadAll oid policy size) = 0

-- a work that there may be, on the object of an id, which has a length of 32 bits
pub record IsWorkInRange (work : ObjWork) : Type 0 where
  pub is_work : IsWork work
  pub oid : IsOid (oid_of work)
  pub size : size_made work < 2 ^ 32
