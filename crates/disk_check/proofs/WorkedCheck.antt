-- A worked check: disk 1 of one object of 4,096 bytes in two copies, one full of 1 and one full of 2.
use Rattle.std.proofs.Common.{◌≡◌, [], ◌∷◌, ◌++◌, replicate, Some, refl}
use Rattle.object_id.specs.declared.policy.Policy.TheVariants.{Copies}
use Rattle.inode.specs.Layout.{Content}
use Rattle.peer_proto.specs.declared.work.ObjWork.TheVariants.{Write, ReadAll}
use Rattle.gf256.specs.Part.{part, bytes_of_parts}
use Rattle.disk_check.specs.declared.act.CheckAct.TheVariants.{Work, Reply}
use Rattle.disk_check.specs.Check.{begin_check, check_on_done}
use Rattle.disk_check.specs.Course.{check_acts_from}

one_object : Content
one_object = record {
  name = 97 ∷ [];
  tag = [];
  spec = record { size = 4096; policy = Copies 2; shift = 12 };
  snap_id = 1;
  vid = 1;
  parent = 0;
  table = 1 ∷ [];
}

-- the first copy is written back, and the object is told as differing
the_first_is_written_back : check_acts_from (Some (begin_check one_object)) ((replicate 4096 1 ++ replicate 4096 2) ∷ [] ∷ [])
    ≡ Work (ReadAll 4294967296 (Copies 2) 4096) ∷ Work (Write 4294967296 (Copies 2) 0 (replicate 4096 1))
    ∷ Reply (record { objects = 1; inherited = 0; differed = 4294967296 ∷ [] }) ∷ []
unfolding one_object check_acts_from begin_check check_on_done part bytes_of_parts
the_first_is_written_back = refl
