-- Worked requests on disk 5, of three objects of 4,096 bytes, beside its parent 4.
use Rattle.std.proofs.Common.{◌≡◌, ℕ, true, false, List, [], ◌∷◌, ◌++◌, replicate, Some, refl}
use Rattle.object_id.specs.declared.policy.Policy.TheVariants.{Copies}
use Rattle.object_id.specs.declared.cause.Cause.TheVariants.{Readonly, InvalidParms}
use Rattle.object_id.specs.Oid.{inode_number, object_number}
use Rattle.object_id.specs.Piece.{laid_over}
use Rattle.object_id.specs.Fields.{zeros}
use Rattle.inode.specs.Layout.{Content}
use Rattle.peer_proto.specs.declared.guest.DiskAsk.TheVariants as asks
use Rattle.peer_proto.specs.declared.guest.GuestRsp.TheVariants.{Done, Piece as Told, Refused}
use Rattle.peer_proto.specs.declared.work.ObjWork.TheVariants.{Create, Write, Read}
use Rattle.guest_driver.specs.declared.act.DriverAct.TheVariants.{Work, Reply}
use Rattle.guest_driver.specs.Pieces.{pieces}
use Rattle.guest_driver.specs.Driver.{read_on, begin_driver, driver_on_done}
use Rattle.guest_driver.specs.Course.{driver_acts_from}

small : List ℕ → Content
small table = record {
  name = 97 ∷ [];
  tag = [];
  spec = record { size = 12288; policy = Copies 3; shift = 12 };
  snap_id = 1;
  vid = 5;
  parent = 4;
  table = table;
}

-- two blocks over the border of two holes: each object is created, then entered
two_holes : driver_acts_from (Some (begin_driver (record { inode = small (0 ∷ 0 ∷ 0 ∷ []); snapshot = false }) (asks.Write 3584 (replicate 512 1 ++ replicate 512 2))))
    ([] ∷ [] ∷ [] ∷ [] ∷ [])
    ≡ Work (Create (object_number 5 0) (Copies 3) 4096 3584 (replicate 512 1)) ∷ Work (Write (inode_number 5) (Copies 3) 4664 (5 ∷ 0 ∷ 0 ∷ 0 ∷ []))
    ∷ Work (Create (object_number 5 1) (Copies 3) 4096 0 (replicate 512 2)) ∷ Work (Write (inode_number 5) (Copies 3) 4668 (5 ∷ 0 ∷ 0 ∷ 0 ∷ []))
    ∷ Reply Done ∷ []
unfolding small driver_acts_from begin_driver pieces driver_on_done
two_holes = refl

-- the same place read again
two_read : (a b : List ℕ) → driver_acts_from (Some (begin_driver (record { inode = small (5 ∷ 5 ∷ 0 ∷ []); snapshot = false }) (asks.Read 3584 2048))) (a ∷ b ∷ [])
    ≡ Work (Read (object_number 5 0) (Copies 3) 3584 512) ∷ Work (Read (object_number 5 1) (Copies 3) 0 1536) ∷ Reply (Told (a ++ b)) ∷ []
unfolding small driver_acts_from begin_driver pieces read_on driver_on_done
two_read a b = refl

-- a hole is told at once, and the parent's object is read in its place
hole_and_parent : (b : List ℕ) → driver_acts_from (Some (begin_driver (record { inode = small (0 ∷ 4 ∷ 0 ∷ []); snapshot = true }) (asks.Read 3584 1024))) (b ∷ [])
    ≡ Work (Read (object_number 4 1) (Copies 3) 0 512) ∷ Reply (Told (zeros 512 ++ b)) ∷ []
unfolding small driver_acts_from begin_driver pieces read_on driver_on_done
hole_and_parent b = refl

-- a write on the parent's object copies it whole
parent_copied : (old : List ℕ) → driver_acts_from (Some (begin_driver (record { inode = small (0 ∷ 4 ∷ 0 ∷ []); snapshot = false }) (asks.Write 4608 (replicate 512 9)))) (old ∷ [] ∷ [] ∷ [])
    ≡ Work (Read (object_number 4 1) (Copies 3) 0 4096) ∷ Work (Create (object_number 5 1) (Copies 3) 4096 0 (laid_over old 512 (replicate 512 9)))
    ∷ Work (Write (inode_number 5) (Copies 3) 4668 (5 ∷ 0 ∷ 0 ∷ 0 ∷ [])) ∷ Reply Done ∷ []
unfolding small driver_acts_from begin_driver pieces driver_on_done
parent_copied old = refl

-- past the end, and on a snapshot
past_the_end : driver_acts_from (Some (begin_driver (record { inode = small (0 ∷ 0 ∷ 0 ∷ []); snapshot = false }) (asks.Read 11776 1024))) [] ≡ Reply (Refused InvalidParms) ∷ []
unfolding small driver_acts_from begin_driver
past_the_end = refl

on_a_snapshot : driver_acts_from (Some (begin_driver (record { inode = small (0 ∷ 0 ∷ 0 ∷ []); snapshot = true }) (asks.Write 0 (replicate 512 1)))) [] ≡ Reply (Refused Readonly) ∷ []
unfolding small driver_acts_from begin_driver
on_a_snapshot = refl
