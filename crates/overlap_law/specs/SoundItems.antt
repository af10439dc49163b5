-- Whose the open items of a disk's blocks are: those of requests under way, at nodes that aren't lost, in sessions that have the disk open
-- as a working one.
use Rattle.std.specs.Prelude.{◌≡◌, ℕ, ◌<◌, Bool, true, false, slice_get, Some}
use Rattle.std.specs.FinMap as tree
use Rattle.disk_history.specs.Ledger.{Open, Item, Ledger, is_item_of}
use Rattle.disk_history.specs.Ledger as histories
use Rattle.guest_driver.specs.declared.disk.Disk.{Disk}
use Rattle.sheep_world.specs.World.{Host}
use Rattle.overlap_law.specs.DiskEvents.{IsUnderWay}
use Rattle.overlap_law.specs.Words.{Hosts}

-- a request is under way at a node that isn't lost, on the working disk of an id
pub record IsUnderWayOn (hosts : Hosts) (req vid : ℕ) : Type 0 where
  pub n : ℕ
  pub host : Host
  pub there : tree.get hosts n ≡ Some host
  pub up : host.is_lost ≡ false
  pub opened : Disk
  pub way : IsUnderWay host.node req opened
  pub on : opened.inode.vid ≡ vid

-- an open item is of a request that hasn't ended; and each item of such a request is of one under way, on the disk that has the item
pub record OpenItemsAreUnderWay (ledger : Ledger) (hosts : Hosts) : Type 0 where
  pub unended : (req vid block place : ℕ) (disk : histories.Disk) (item : Item) → ledger.disks vid ≡ Some disk
      → slice_get (disk.items block) place ≡ Some item → is_item_of req item ≡ true → item.mark ≡ Open
      → (ledger.requests req).ended ≡ false
  pub each : (req vid block place : ℕ) (disk : histories.Disk) (item : Item) → ledger.disks vid ≡ Some disk → block < disk.blocks
      → slice_get (disk.items block) place ≡ Some item → is_item_of req item ≡ true → (ledger.requests req).ended ≡ false
      → IsUnderWayOn hosts req vid
