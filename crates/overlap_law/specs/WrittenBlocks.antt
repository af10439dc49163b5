-- The history against the attempts: that what a block may be read as is among the bytes that may be read of it.
use Rattle.std.specs.Prelude.{◌≡◌, ◌≢◌, ◌⊎◌, ℕ, ◌+◌, ◌*◌, ◌/◌, ◌^◌, ◌<◌, ◌==◌, ◌&&◌, not, nat_lt, length, Bool, true, false, List, [], ◌∷◌}
use Rattle.std.specs.Prelude.{filter, slice_get, Option, Some, None, if◌then◌else◌}
use Rattle.std.specs.List.{list_any, list_all}
use Rattle.std.specs.Str.{bytes_eq}
use Rattle.object_id.specs.Fields.{zeros}
use Rattle.object_id.specs.declared.limits.TheConstants.{BLOCK_BYTES}
use Rattle.object_id.specs.declared.entry.VdiSpec.{VdiSpec}
use Rattle.object_id.specs.declared.oid.Kind.TheVariants.{Block}
use Rattle.object_id.specs.Oid.{object_number}
use Rattle.object_id.specs.Spec.{objects_of}
use Rattle.gf256.specs.Part.{is_in_strips}
use Rattle.disk_history.specs.Ledger.{Item, Disk, Ledger}
use Rattle.disk_history.specs.Legal.{standing, is_torn}
use Rattle.vdi_directory.specs.declared.effect.Effect.{Effect}
use Rattle.vdi_directory.specs.States.{state_of, is_live_state}
use Rattle.overlap_law.specs.Attempts.{AttemptRecord, attempts_on}
use Rattle.overlap_law.specs.Words.{Hosts, is_mute, is_doomed, covering, bytes_by, own_base_of, later_on}
use Rattle.overlap_law.specs.Each.{spec_in}
use Rattle.overlap_law.specs.Tables.{candidates}

-- whether a block's items let it be read so
abbrev pub is_allowed : List Item → List ℕ → Bool
is_allowed items bytes = list_any (λ (item : Item). bytes_eq item.bytes bytes) (standing items)

-- a later attempt counts unless it is mute and doomed
abbrev pub may_come_out : Hosts → AttemptRecord → Bool
may_come_out hosts attempt = not (is_mute attempt && is_doomed hosts attempt)

-- the attempts on an object by whose bytes a unit may come to be read: its own base and the later ones that count; where no
-- base is there, all that aren't doomed, if those are asked for too
abbrev pub outcomes_by : Hosts → Bool → List AttemptRecord → List AttemptRecord → Option AttemptRecord → List AttemptRecord
outcomes_by hosts unmade all later (Some base) = base ∷ filter (may_come_out hosts) later
outcomes_by hosts unmade all later None = if unmade then filter (λ attempt. not (is_doomed hosts attempt)) all else []

-- of the attempts on an object, those by whose bytes a unit may come to be read
abbrev pub outcomes : Hosts → Bool → ℕ → List AttemptRecord → List AttemptRecord
outcomes hosts unmade unit attempts =
    outcomes_by hosts unmade (covering unit attempts) (later_on unit attempts) (own_base_of unit attempts)

-- how many blocks an object has
abbrev pub blocks_per_object : VdiSpec → ℕ
blocks_per_object spec = 2 ^ spec.shift / BLOCK_BYTES

-- a block of a disk that is there: the disk's entry of the history, what it was made with, the object's index, the block in it
pub record IsBlockOfDisk (ledger : Ledger) (effects : List Effect) (good_id : ℕ
    → Bool) (vid : ℕ) (disk : Disk) (spec : VdiSpec) (index unit : ℕ) : Type 0 where
  pub there : ledger.disks vid ≡ Some disk
  pub kept : disk.deleted ≡ false
  pub live : is_live_state (state_of effects vid) ≡ true
  pub good : good_id vid ≡ true
  pub made_with : spec_in effects vid ≡ Some spec
  pub object : index < objects_of spec
  pub inside : unit < blocks_per_object spec
  pub block : index * blocks_per_object spec + unit < disk.blocks

-- the items of such a block
abbrev pub items_at : Disk → VdiSpec → ℕ → ℕ → List Item
items_at disk spec index unit = disk.items (index * blocks_per_object spec + unit)

-- whether a block is torn: its strips may be of several writes
abbrev pub is_torn_here : VdiSpec → List Item → Bool
is_torn_here spec items = is_in_strips spec.policy Block && is_torn items

-- an entry of the block's inode, as it may be read
pub record IsCandidate (attempts : List AttemptRecord) (vid index entry : ℕ) : Type 0 where
  pub entries : List ℕ
  pub place : ℕ
  pub there : candidates attempts vid index ≡ Some entries
  pub among : slice_get entries place ≡ Some entry

-- an object that a block may be read from is that of an entry of its inode, or the disk's own
abbrev pub IsHome : List AttemptRecord → ℕ → ℕ → ℕ → Type 0
IsHome attempts vid index home = IsCandidate attempts vid index home ⊎ (home ≡ vid)

-- what an object's block may come to be read as
abbrev pub outcomes_in : Hosts → List AttemptRecord → ℕ → ℕ → ℕ → ℕ → List AttemptRecord
outcomes_in hosts attempts vid home index unit =
    outcomes hosts (home == vid) unit (attempts_on (object_number home index) attempts)

-- the bytes of each such attempt may be read of the block
abbrev pub AreAllowed : List Item → ℕ → List AttemptRecord → Type 0
AreAllowed items unit attempts = list_all (λ (attempt : AttemptRecord). is_allowed items (bytes_by unit attempt.work)) attempts ≡ true

-- a block, wherever it may be read from, is read as its items let it be
pub record BlocksAreWritten (ledger : Ledger) (effects : List Effect) (good_id : ℕ
    → Bool) (hosts : Hosts) (attempts : List AttemptRecord) : Type 0 where
  -- its inode has an entry
  pub entered : (vid index unit : ℕ) (disk : Disk) (spec : VdiSpec) → IsBlockOfDisk ledger effects good_id vid disk spec index unit
      → (entry : ℕ) × IsCandidate attempts vid index entry
  -- a hole is read as zeros
  pub holes : (vid index unit : ℕ) (disk : Disk) (spec : VdiSpec) → IsBlockOfDisk ledger effects good_id vid disk spec index unit
      → IsCandidate attempts vid index 0 → is_allowed (items_at disk spec index unit) (zeros BLOCK_BYTES) ≡ true
  -- an object that an entry names has a made attempt on the block
  pub made : (vid index unit home : ℕ) (disk : Disk) (spec : VdiSpec) → IsBlockOfDisk ledger effects good_id vid disk spec index unit
      → IsCandidate attempts vid index home → home ≢ 0 → is_torn_here spec (items_at disk spec index unit) ≡ false
      → nat_lt 0 (length (outcomes_in hosts attempts vid home index unit)) ≡ true
  -- and what it may be read as may be read
  pub each : (vid index unit home : ℕ) (disk : Disk) (spec : VdiSpec) → IsBlockOfDisk ledger effects good_id vid disk spec index unit
      → IsHome attempts vid index home → home ≢ 0 → is_torn_here spec (items_at disk spec index unit) ≡ false
      → AreAllowed (items_at disk spec index unit) unit (outcomes_in hosts attempts vid home index unit)
