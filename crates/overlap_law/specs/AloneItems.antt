-- The items of a write: they are on the disk that its session has open alone, and have the bytes of the write's blocks.
use Rattle.std.specs.Prelude.{◌≡◌, ℕ, ◌+◌, ◌/◌, ◌<◌, true, List, length, slice_get, Some}
use Rattle.std.specs.Option.{option_and_then}
use Rattle.object_id.specs.declared.limits.TheConstants.{BLOCK_BYTES}
use Rattle.disk_history.specs.Changes.{items_in}
use Rattle.disk_history.specs.Ledger.{Item, Ledger, is_item_of}
use Rattle.cluster_script.specs.declared.statement.Statement.{Statement}
use Rattle.cluster_script.specs.NumberedRequests.{request_at}
use Rattle.guest_driver.specs.declared.disk.Disk.{Disk}
use Rattle.peer_proto.specs.declared.guest.DiskAsk.TheVariants as disk_asks
use Rattle.sheep_node.specs.declared.ask.Ask.TheVariants as asks
use Rattle.sheep_world.specs.Asking.{ask_of_statement}
use Rattle.sheep_world.specs.HistoryAdditions.{block_in}
use Rattle.overlap_law.specs.DiskEvents.{IsUnderWay}
use Rattle.overlap_law.specs.Each.{EachUp}
use Rattle.overlap_law.specs.Words.{Hosts}

-- bytes in a block of a disk are those of a block of what a request writes, and the disk is its own
pub record IsOwnItem (vid offset : ℕ) (payload : List ℕ) (disk block : ℕ) (bytes : List ℕ) : Type 0 where
  pub same : disk ≡ vid
  pub place : ℕ
  pub inside : place < length payload / BLOCK_BYTES
  pub at : block ≡ offset / BLOCK_BYTES + place
  pub is : bytes ≡ block_in payload place

-- each item of the request is so
abbrev pub HasOwnItems : ℕ → ℕ → ℕ → List ℕ → Ledger → Type 0
HasOwnItems req vid offset payload ledger = (disk block place : ℕ) (item : Item)
    → slice_get (items_in (ledger.disks disk) block) place ≡ Some item → is_item_of req item ≡ true
    → IsOwnItem vid offset payload disk block item.bytes

-- so it is of each write without reply, on the working disk that its session has open
pub record WritesHaveOwnItems (script : List Statement) (ledger : Ledger) (hosts : Hosts) : Type 0 where
  pub each : EachUp hosts (λ n node. (req offset : ℕ) (payload : List ℕ) (opened : Disk) → IsUnderWay node req opened
      → option_and_then ask_of_statement (request_at script req) ≡ Some (asks.Disk (disk_asks.Write offset payload))
      → HasOwnItems req opened.inode.vid offset payload ledger)
