-- What is refused on the spot.
use Rattle.std.proofs.Common.{◌≡◌, ℕ, ◌+◌, nat_le, Bool, true, false, cond, ◌&&◌, List, length, Option, None, Some, if◌then◌else◌, refl, ap}
use Rattle.object_id.specs.declared.cause.Cause.TheVariants.{NoVdi, Readonly, VdiNotLocked, InvalidParms}
use Rattle.peer_proto.specs.declared.guest.DiskAsk.{DiskAsk}
use Rattle.peer_proto.specs.declared.guest.DiskAsk.TheVariants.{Read, Write}
use Rattle.guest_driver.specs.declared.disk.Disk.{Disk}
use Rattle.guest_driver.specs.Refusals.{past_end, disk_refusal}

pub refused_without_disk : (deleted : Bool) (ask : DiskAsk) → disk_refusal None deleted ask ≡ Some VdiNotLocked
refused_without_disk deleted ask = refl

pub snapshots_unwritten : (disk : Disk) (deleted : Bool) (offset : ℕ) (bytes : List ℕ) → disk.snapshot ≡ true
    → disk_refusal (Some disk) deleted (Write offset bytes) ≡ Some Readonly
snapshots_unwritten disk deleted offset bytes snapshot =
    ap (λ b. cond b (Some Readonly) (past_end disk.inode (Write offset bytes))) snapshot

pub deleted_unread : (disk : Disk) (offset size : ℕ) → disk.snapshot ≡ true → disk_refusal (Some disk) true (Read offset size) ≡ Some NoVdi
deleted_unread disk offset size snapshot = ap (λ b. cond (b && true) (Some NoVdi) (past_end disk.inode (Read offset size))) snapshot

pub reads_end_inside : (disk : Disk) (offset size : ℕ) → disk_refusal (Some disk) false (Read offset size)
    ≡ (if nat_le (offset + size) disk.inode.spec.size then None else Some InvalidParms)
reads_end_inside disk offset size = by_snapshot disk.snapshot
  where
    by_snapshot : (b : Bool) → cond (b && false) (Some NoVdi) (past_end disk.inode (Read offset size))
        ≡ (if nat_le (offset + size) disk.inode.spec.size then None else Some InvalidParms)
    by_snapshot true = refl
    by_snapshot false = refl

pub writes_end_inside : (disk : Disk) (deleted : Bool) (offset : ℕ) (bytes : List ℕ) → disk.snapshot ≡ false
    → disk_refusal (Some disk) deleted (Write offset bytes)
    ≡ (if nat_le (offset + length bytes) disk.inode.spec.size then None else Some InvalidParms)
writes_end_inside disk deleted offset bytes working =
    ap (λ b. cond b (Some Readonly) (past_end disk.inode (Write offset bytes))) working
