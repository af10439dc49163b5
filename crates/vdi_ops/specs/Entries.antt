-- The entry that each command begins with, and when a command is refused on the spot.
use Rattle.std.specs.Prelude.{ℕ, ◌*◌, ◌^◌, ◌==◌, nat_le, Bool, List, count_by, Option, Some, None, option_map}
use Rattle.std.specs.Prelude.{if◌then◌else◌}
use Rattle.object_id.specs.declared.node.NodeId.{NodeId}
use Rattle.object_id.specs.declared.cause.Cause.{Cause}
use Rattle.object_id.specs.declared.cause.Cause.TheVariants.{Readonly, VdiNotLocked, InvalidParms}
use Rattle.object_id.specs.declared.entry.Origin.TheVariants.{Fresh, SnapshotOf, CloneOf}
use Rattle.object_id.specs.declared.entry.Entry.{Entry}
use Rattle.object_id.specs.declared.entry.Entry.TheVariants as entries
use Rattle.object_id.specs.Spec.{IsSpec, IsName, IsTag}
use Rattle.inode.specs.Layout.{Content}
use Rattle.peer_proto.specs.declared.guest.VdiAsk.{VdiAsk}
use Rattle.peer_proto.specs.declared.guest.VdiAsk.TheVariants.{Create, Attach, Close, Snapshot, Clone, Delete, Check}
use Rattle.vdi_ops.specs.declared.limits.TheConstants.{CHECKED_BYTES_MAX}

-- what a command may ask: its names and tags are such, and a new disk may be made so
abbrev pub IsVdiAsk : VdiAsk → Type 0
IsVdiAsk (Create name spec) = IsName name × IsSpec spec
IsVdiAsk (Attach name tag) = IsName name × IsTag tag
IsVdiAsk Close = Unit {0}
IsVdiAsk (Snapshot tag) = IsName tag
IsVdiAsk (Clone base tag name) = IsName base × IsName tag × IsName name
IsVdiAsk (Delete name tag) = IsName name × IsTag tag
IsVdiAsk Check = Unit {0}

-- the open disk decides at once: its inode, and whether it is a snapshot
pub record OpenDisk : Type 0 where
  pub inode : Content
  pub snapshot : Bool

-- a second disk isn't opened
abbrev pub no_second : Option OpenDisk → Option Cause
no_second None = None
no_second (Some disk) = Some InvalidParms

-- where none is open none is closed
abbrev pub needs_disk : Option OpenDisk → Option Cause
needs_disk None = Some VdiNotLocked
needs_disk (Some disk) = None

-- nor is a snapshot taken, and never of a snapshot
abbrev pub needs_working_disk : Option OpenDisk → Option Cause
needs_working_disk None = Some VdiNotLocked
needs_working_disk (Some disk) = if disk.snapshot then Some Readonly else None

-- how many bytes the objects have that are a disk's own
abbrev pub own_bytes : Content → ℕ
own_bytes inode = count_by (λ entry. entry == inode.vid) inode.table * 2 ^ inode.spec.shift

-- a check goes over a working disk alone, and over so much at most
abbrev pub check_refusal : Option OpenDisk → Option Cause
check_refusal None = Some VdiNotLocked
check_refusal (Some disk) =
    if disk.snapshot then Some Readonly
    else if nat_le (own_bytes disk.inode) CHECKED_BYTES_MAX then None
    else Some InvalidParms

-- when a command is refused on the spot
abbrev pub command_refusal : Option OpenDisk → VdiAsk → Option Cause
command_refusal disk (Create name spec) = None
command_refusal disk (Attach name tag) = no_second disk
command_refusal disk Close = needs_disk disk
command_refusal disk (Snapshot tag) = needs_working_disk disk
command_refusal disk (Clone base tag name) = None
command_refusal disk (Delete name tag) = None
command_refusal disk Check = check_refusal disk

-- the entry that gives a disk back, or the reservation of an id
abbrev pub unlock_of : NodeId → ℕ → ℕ → Entry
unlock_of by session vid = entries.Unlock by session (record { 0 = vid })

-- the one that gives back the open disk
abbrev pub unlock_disk : NodeId → ℕ → Content → Entry
unlock_disk by session inode = unlock_of by session inode.vid

-- the one that reserves the id which takes the open disk's place
abbrev pub reserve_snapshot : NodeId → ℕ → List ℕ → Content → Entry
reserve_snapshot by session tag inode = entries.Reserve by session inode.name (SnapshotOf tag)

-- the first entry of a command; none where it is about the open disk, and there is none, and for a check, which puts none
abbrev pub first_entry : NodeId → ℕ → Option Content → VdiAsk → Option Entry
first_entry by session disk (Create name spec) = Some (entries.Reserve by session name (Fresh spec))
first_entry by session disk (Attach name tag) = Some (entries.Lock by session name tag)
first_entry by session disk Close = option_map (unlock_disk by session) disk
first_entry by session disk (Snapshot tag) = option_map (reserve_snapshot by session tag) disk
first_entry by session disk (Clone base tag name) = Some (entries.Reserve by session name (CloneOf base tag))
first_entry by session disk (Delete name tag) = Some (entries.Delete by session name tag)
first_entry by session disk Check = None
