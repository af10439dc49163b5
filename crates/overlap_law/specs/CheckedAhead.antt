-- What a check hasn't come to, by the history; and of the conjunct of the checks, what it has behind it is all that may be read.
use Rattle.std.specs.Prelude.{◌≡◌, ℕ, Bool, true, false, List, slice_get, Some}
use Rattle.std.specs.List.{list_all}
use Rattle.std.specs.Str.{bytes_eq}
use Rattle.disk_history.specs.Ledger.{Item, Ledger, is_item_of}
use Rattle.disk_history.specs.Ledger as histories
use Rattle.vdi_directory.specs.declared.effect.Effect.{Effect}
use Rattle.guest_driver.specs.declared.disk.Disk.{Disk}
use Rattle.disk_check.specs.Check.{Check}
use Rattle.overlap_law.specs.Attempts.{AttemptRecord}
use Rattle.overlap_law.specs.Words.{Hosts, bytes_by}
use Rattle.overlap_law.specs.Each.{EachUp}
use Rattle.overlap_law.specs.WrittenBlocks.{IsBlockOfDisk, items_at, outcomes_in}
use Rattle.overlap_law.specs.Checks.{HasBegunWrite, HasBlock, IsCheckOn, has_come_to}

-- no object that a check hasn't come to has an item of it
pub record ChecksHaveNoItemsAhead (ledger : Ledger) (hosts : Hosts) : Type 0 where
  pub each : EachUp hosts (λ n node. (req index unit place : ℕ) (check : Check) (opened : Disk) (disk : histories.Disk) (item : Item)
      → IsCheckOn ledger node req check opened disk → has_come_to index opened.inode check ≡ false
      → HasBlock disk opened.inode.spec index unit → slice_get (items_at disk opened.inode.spec index unit) place ≡ Some item
      → is_item_of req item ≡ false)

-- and what is behind it is all that its blocks may be read as
pub record ChecksAreAlone (ledger : Ledger) (effects : List Effect) (good_id : ℕ
    → Bool) (hosts : Hosts) (attempts : List AttemptRecord) : Type 0 where
  pub each : EachUp hosts (λ n node. (req index unit place : ℕ) (check : Check) (opened : Disk) (disk : histories.Disk) (item : Item)
      → IsCheckOn ledger node req check opened disk → has_come_to index opened.inode check ≡ true
      → ((value : List ℕ) → HasBegunWrite node req index check value → ⊥)
      → IsBlockOfDisk ledger effects good_id opened.inode.vid disk opened.inode.spec index unit
      → slice_get (items_at disk opened.inode.spec index unit) place ≡ Some item → is_item_of req item ≡ true
      → list_all (λ (attempt : AttemptRecord). bytes_eq item.bytes (bytes_by unit attempt.work))
      (outcomes_in hosts attempts opened.inode.vid opened.inode.vid index unit) ≡ true)
