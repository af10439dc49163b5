-- Strips of blocks that nobody is writing: what stands of them is one write, so each attempt that a target served has its bytes.
use Rattle.std.specs.Prelude.{◌≡◌, ◌≢◌, ◌⊎◌, ℕ, Bool, true, false, List, slice_get, Some}
use Rattle.object_id.specs.declared.entry.VdiSpec.{VdiSpec}
use Rattle.object_id.specs.declared.oid.Kind.TheVariants.{Block}
use Rattle.object_id.specs.Oid.{object_number}
use Rattle.gf256.specs.Part.{is_in_strips}
use Rattle.disk_history.specs.Ledger.{Open, Item, Disk, Ledger}
use Rattle.disk_history.specs.Legal.{standing, is_torn}
use Rattle.vdi_directory.specs.declared.effect.Effect.{Effect}
use Rattle.overlap_law.specs.Attempts.{AttemptRecord, attempts_on}
use Rattle.overlap_law.specs.StayingBlocks.{IsBlockOfAnyDisk, IsHomeToCome}
use Rattle.overlap_law.specs.ToCome.{IsToCome}
use Rattle.overlap_law.specs.Words.{Hosts, is_mute, bytes_by, own_base_of, later_on}
use Rattle.overlap_law.specs.WrittenBlocks.{IsBlockOfDisk, IsHome, items_at}

-- a block is being written: an open item of it stands, of a request of which an attempt began
pub record IsBeingWritten (attempts : List AttemptRecord) (items : List Item) : Type 0 where
  pub place : ℕ
  pub item : Item
  pub among : slice_get (standing items) place ≡ Some item
  pub mark : item.mark ≡ Open
  pub j : ℕ
  pub attempt : AttemptRecord
  pub there : slice_get attempts j ≡ Some attempt
  pub of : item.request ≡ Some attempt.req

-- of strips that aren't torn, two attempts by which a block may come to be read have the same bytes there, unless the block is being
-- written
pub record StripsComeAlike (ledger : Ledger) (effects : List Effect) (good_id : ℕ → Bool) (hosts : Hosts) (attempts : List AttemptRecord)
    : Type 0 where
  pub each : (vid index unit home other i j : ℕ) (disk : Disk) (spec : VdiSpec) (one two : AttemptRecord)
      → IsBlockOfAnyDisk ledger effects good_id vid disk spec index unit → is_in_strips spec.policy Block ≡ true
      → is_torn (items_at disk spec index unit) ≡ false → IsHomeToCome hosts attempts vid index home → home ≢ 0
      → IsHomeToCome hosts attempts vid index other → other ≢ 0 → IsToCome hosts attempts (object_number home index) unit i one
      → IsToCome hosts attempts (object_number other index) unit j two
      → IsBeingWritten attempts (items_at disk spec index unit) ⊎ (bytes_by unit one.work ≡ bytes_by unit two.work)

-- so each attempt behind the own base is mute, or has the base's bytes, unless the block is being written
pub record StripsAreSoundUnlessWritten (ledger : Ledger) (effects : List Effect) (good_id : ℕ → Bool) (attempts : List AttemptRecord)
    : Type 0 where
  pub each : (vid index unit home place : ℕ) (disk : Disk) (spec : VdiSpec) (base later : AttemptRecord)
      → IsBlockOfDisk ledger effects good_id vid disk spec index unit → is_in_strips spec.policy Block ≡ true
      → IsHome attempts vid index home → home ≢ 0 → is_torn (items_at disk spec index unit) ≡ false
      → own_base_of unit (attempts_on (object_number home index) attempts) ≡ Some base
      → slice_get (later_on unit (attempts_on (object_number home index) attempts)) place ≡ Some later
      → (is_mute later ≡ true)
      ⊎ (IsBeingWritten attempts (items_at disk spec index unit) ⊎ (bytes_by unit later.work ≡ bytes_by unit base.work))
