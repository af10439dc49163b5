-- Which writes the items of a block are of: on a disk whose blocks are kept in strips each item of a request is one of a coded write; and
-- what is of no request counts as acknowledged.
use Rattle.std.specs.Prelude.{◌≡◌, ℕ, ◌<◌, Bool, true, slice_get, Some, None, List}
use Rattle.object_id.specs.declared.entry.VdiSpec.{VdiSpec}
use Rattle.object_id.specs.declared.oid.Kind.TheVariants.{Block}
use Rattle.gf256.specs.Part.{is_in_strips}
use Rattle.disk_history.specs.Ledger.{Item, Disk, Ledger}
use Rattle.disk_history.specs.Legal.{is_acknowledged}
use Rattle.vdi_directory.specs.declared.effect.Effect.{Effect}
use Rattle.overlap_law.specs.Each.{spec_in}

-- the items of blocks are so
pub record StripItemsAreCoded (ledger : Ledger) (effects : List Effect) : Type 0 where
  pub each : (vid block place req : ℕ) (disk : Disk) (spec : VdiSpec) (item : Item) → ledger.disks vid ≡ Some disk
      → spec_in effects vid ≡ Some spec → is_in_strips spec.policy Block ≡ true → block < disk.blocks
      → slice_get (disk.items block) place ≡ Some item → item.request ≡ Some req → item.coded ≡ true
  pub nobodys : (vid block place : ℕ) (disk : Disk) (spec : VdiSpec) (item : Item) → ledger.disks vid ≡ Some disk
      → spec_in effects vid ≡ Some spec → block < disk.blocks → slice_get (disk.items block) place ≡ Some item → item.request ≡ None
      → is_acknowledged item ≡ true
