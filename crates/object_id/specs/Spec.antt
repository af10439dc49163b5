-- What a disk may be made with and from, and what may be a name or a tag.
use Rattle.std.specs.Prelude.{◌≡◌, ◌≢◌, ℕ, ◌+◌, ◌-◌, ◌*◌, ◌/◌, ◌%◌, ◌^◌, ◌≤◌, List, length, All, Option, Some, None}
use Rattle.object_id.specs.declared.entry.Origin.{Origin}
use Rattle.object_id.specs.declared.entry.Origin.TheVariants.{Fresh, SnapshotOf, CloneOf}
use Rattle.object_id.specs.declared.entry.VdiSpec.{VdiSpec}
use Rattle.object_id.specs.declared.limits.TheConstants.{BLOCK_BYTES, SHIFT_MIN, SHIFT_MAX, OBJECTS_MAX, NAME_BYTES_MAX}
use Rattle.object_id.specs.Policy.{IsPolicy}

-- a size in whole blocks that as many objects hold as a disk may have, a size that objects may have, and a policy
pub record IsSpec (spec : VdiSpec) : Type 0 where
  pub shift : (SHIFT_MIN ≤ spec.shift) × (spec.shift ≤ SHIFT_MAX)
  pub policy : IsPolicy spec.policy
  pub size : (BLOCK_BYTES ≤ spec.size) × (spec.size ≤ OBJECTS_MAX * 2 ^ spec.shift)
  pub blocks : spec.size % BLOCK_BYTES ≡ 0

-- how many data objects the disk has: its size in objects, rounded up
abbrev pub objects_of : VdiSpec → ℕ
objects_of spec = (spec.size + 2 ^ spec.shift - 1) / 2 ^ spec.shift

-- what may be a disk's name, or a snapshot's tag
abbrev pub IsName : List ℕ → Type 0
IsName name = (1 ≤ length name) × (length name ≤ NAME_BYTES_MAX) × All (λ byte. byte ≢ 0) name

-- a disk is named without a tag, or with one that a snapshot may have
abbrev pub IsTag : Option (List ℕ) → Type 0
IsTag None = Unit {0}
IsTag (Some tag) = IsName tag

-- what a disk may be made from
abbrev pub IsOrigin : Origin → Type 0
IsOrigin (Fresh spec) = IsSpec spec
IsOrigin (SnapshotOf tag) = IsName tag
IsOrigin (CloneOf base tag) = IsName base × IsName tag
