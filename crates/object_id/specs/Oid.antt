-- The layout of an object id, by its bits.
use Rattle.std.specs.Prelude.{◌≡◌, ◌≢◌, ◌⊎◌, ℕ, ◌+◌, ◌*◌, ◌/◌, ◌%◌, ◌^◌, ◌<◌, ◌≤◌, ◌==◌, if◌then◌else◌}
use Rattle.object_id.specs.declared.limits.TheConstants.{VID_MAX}
use Rattle.object_id.specs.declared.oid.Kind.{Kind}
use Rattle.object_id.specs.declared.oid.Kind.TheVariants.{Block, Inode}

-- count bits of raw, from bit first on
abbrev pub bits : ℕ → ℕ → ℕ → ℕ
bits raw first count = raw / 2 ^ first % 2 ^ count

abbrev pub index_of : ℕ → ℕ
index_of raw = bits raw 0 20

abbrev pub vid_of : ℕ → ℕ
vid_of raw = bits raw 32 24

abbrev pub kind_of : ℕ → Kind
kind_of raw = if bits raw 63 1 == 1 then Inode else Block

-- a disk's id
abbrev pub IsVid : ℕ → Type 0
IsVid vid = (1 ≤ vid) × (vid ≤ VID_MAX)

-- bits 20 to 31 and 56 to 62 are reserved, and those of the index in an inode's id
abbrev pub HasReservedBit : ℕ → Type 0
HasReservedBit raw = (bits raw 20 12 ≢ 0) ⊎ (bits raw 56 7 ≢ 0) ⊎ ((bits raw 63 1 ≡ 1) × (bits raw 0 20 ≢ 0))

abbrev pub IsFreeOfReserved : ℕ → Type 0
IsFreeOfReserved raw = (bits raw 20 12 ≡ 0) × (bits raw 56 7 ≡ 0) × (bits raw 63 1 ≡ 1 → bits raw 0 20 ≡ 0)

-- a number of 64 bits that is an object id
abbrev pub IsOid : ℕ → Type 0
IsOid raw = (raw < 2 ^ 64) × IsFreeOfReserved raw × (vid_of raw ≢ 0)

-- the inode object of a disk, and one of its data objects
abbrev pub inode_number : ℕ → ℕ
inode_number vid = 2 ^ 63 + vid * 2 ^ 32

abbrev pub object_number : ℕ → ℕ → ℕ
object_number vid index = vid * 2 ^ 32 + index
