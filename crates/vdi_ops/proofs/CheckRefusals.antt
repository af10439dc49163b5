-- When a check is refused on the spot, by the disk that is open.
use Rattle.std.proofs.Common.{◌≡◌, ◌<◌, ◌≤◌, nat_le, true, false, cond, Some, None, ap, ◌∙◌}
use Rattle.std.proofs.lemmas.Bool.{le-leb, lt-leb}
use Rattle.object_id.specs.declared.cause.Cause.TheVariants.{Readonly, InvalidParms}
use Rattle.peer_proto.specs.declared.guest.VdiAsk.TheVariants.{Check}
use Rattle.vdi_ops.specs.Entries.{OpenDisk, own_bytes, command_refusal}

pub snapshot_refused : (disk : OpenDisk) → disk.snapshot ≡ true → command_refusal (Some disk) Check ≡ Some Readonly
snapshot_refused disk is = ap (λ b. cond b (Some Readonly) (cond (nat_le (own_bytes disk.inode) 268435456) None (Some InvalidParms))) is

by_size : (disk : OpenDisk) → disk.snapshot ≡ false
    → command_refusal (Some disk) Check ≡ cond (nat_le (own_bytes disk.inode) 268435456) None (Some InvalidParms)
by_size disk is = ap (λ b. cond b (Some Readonly) (cond (nat_le (own_bytes disk.inode) 268435456) None (Some InvalidParms))) is

pub large_refused : (disk : OpenDisk) → disk.snapshot ≡ false → 268435456 < own_bytes disk.inode
    → command_refusal (Some disk) Check ≡ Some InvalidParms
large_refused disk is large =
    by_size disk is ∙ ap (λ b. cond b None (Some InvalidParms)) (lt-leb (own_bytes disk.inode) 268435456 large)

pub small_taken : (disk : OpenDisk) → disk.snapshot ≡ false → own_bytes disk.inode ≤ 268435456
    → command_refusal (Some disk) Check ≡ None
small_taken disk is small =
    by_size disk is ∙ ap (λ b. cond b None (Some InvalidParms)) (le-leb (own_bytes disk.inode) 268435456 small)
