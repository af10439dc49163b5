-- What a check has behind it, by the history: of the conjunct of the checks, the part that no goodness of disks matters to.
use Rattle.std.specs.Prelude.{◌≡◌, ℕ, true, List}
use Rattle.disk_history.specs.Ledger.{Ledger}
use Rattle.disk_history.specs.Ledger as histories
use Rattle.guest_driver.specs.declared.disk.Disk.{Disk}
use Rattle.disk_check.specs.Check.{Check}
use Rattle.overlap_law.specs.Words.{Hosts}
use Rattle.overlap_law.specs.Each.{EachUp}
use Rattle.overlap_law.specs.WrittenBlocks.{items_at}
use Rattle.overlap_law.specs.Pieces.{HasItem}
use Rattle.overlap_law.specs.Checks.{HasBlock, IsCheckOn, has_come_to}

-- each block of the own objects that a check has come to has an item of it
pub record ChecksHaveItemsBehind (ledger : Ledger) (hosts : Hosts) : Type 0 where
  pub each : EachUp hosts (λ n node. (req index unit : ℕ) (check : Check) (opened : Disk) (disk : histories.Disk)
      → IsCheckOn ledger node req check opened disk → has_come_to index opened.inode check ≡ true
      → HasBlock disk opened.inode.spec index unit → (bytes : List ℕ) × HasItem (items_at disk opened.inode.spec index unit) req bytes)
