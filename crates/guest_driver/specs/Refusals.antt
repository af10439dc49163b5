-- When a read or write is refused on the spot, by what its session has open.
use Rattle.std.specs.Prelude.{◌+◌, ◌&&◌, nat_le, Bool, Option, Some, None, if◌then◌else◌}
use Rattle.object_id.specs.declared.cause.Cause.{Cause}
use Rattle.object_id.specs.declared.cause.Cause.TheVariants.{NoVdi, Readonly, VdiNotLocked, InvalidParms}
use Rattle.inode.specs.Layout.{Content}
use Rattle.peer_proto.specs.declared.guest.DiskAsk.{DiskAsk}
use Rattle.peer_proto.specs.declared.guest.DiskAsk.TheVariants.{Read, Write}
use Rattle.guest_driver.specs.declared.disk.Disk.{Disk}
use Rattle.guest_driver.specs.Pieces.{offset_of, size_of}

-- an end past the disk
abbrev pub past_end : Content → DiskAsk → Option Cause
past_end inode ask = if nat_le (offset_of ask + size_of ask) inode.spec.size then None else Some InvalidParms

-- a snapshot isn't written, and one that is deleted, by what the node has read, isn't read; then the end is looked at
abbrev pub refusal_on : Disk → Bool → DiskAsk → Option Cause
refusal_on disk deleted (Read offset size) =
    if disk.snapshot && deleted then Some NoVdi else past_end disk.inode (Read offset size)
refusal_on disk deleted (Write offset bytes) =
    if disk.snapshot then Some Readonly else past_end disk.inode (Write offset bytes)

-- before all that, a disk has to be open
abbrev pub disk_refusal : Option Disk → Bool → DiskAsk → Option Cause
disk_refusal None deleted ask = Some VdiNotLocked
disk_refusal (Some disk) deleted ask = refusal_on disk deleted ask
