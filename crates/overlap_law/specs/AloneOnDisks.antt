-- The items of a request without reply: they are on the working disk that its session has open alone.
use Rattle.std.specs.Prelude.{◌≡◌, ℕ, true, slice_get, Some}
use Rattle.disk_history.specs.Changes.{items_in}
use Rattle.disk_history.specs.Ledger.{Item, Ledger, is_item_of}
use Rattle.guest_driver.specs.declared.disk.Disk.{Disk}
use Rattle.overlap_law.specs.DiskEvents.{IsUnderWay}
use Rattle.overlap_law.specs.Each.{EachUp}
use Rattle.overlap_law.specs.Words.{Hosts}

-- each item of a request is on the disk of this id
abbrev pub HasItemsOn : ℕ → ℕ → Ledger → Type 0
HasItemsOn req vid ledger = (disk block place : ℕ) (item : Item) → slice_get (items_in (ledger.disks disk) block) place ≡ Some item
    → is_item_of req item ≡ true → disk ≡ vid

-- so it is of each request under way
pub record ItemsAreOnTheirDisk (ledger : Ledger) (hosts : Hosts) : Type 0 where
  pub each : EachUp hosts (λ n node. (req : ℕ) (opened : Disk) → IsUnderWay node req opened → HasItemsOn req opened.inode.vid ledger)
