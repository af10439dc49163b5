-- The checks at gateways against the history: what a check writes, and what it has written, has its items, and nothing else has.
use Rattle.std.specs.Prelude.{◌≡◌, ℕ, ◌+◌, ◌*◌, ◌<◌, ◌==◌, ◌&&◌, not, Bool, true, false, List, slice_get, Some}
use Rattle.std.specs.List.{list_any, list_all}
use Rattle.std.specs.FinMap as tree
use Rattle.std.specs.Str.{bytes_eq}
use Rattle.object_id.specs.declared.entry.VdiSpec.{VdiSpec}
use Rattle.disk_history.specs.Ledger.{Item, Ledger, is_item_of}
use Rattle.disk_history.specs.Ledger as histories
use Rattle.vdi_directory.specs.declared.effect.Effect.{Effect}
use Rattle.inode.specs.Layout.{Content}
use Rattle.gateway.specs.State.{Work}
use Rattle.guest_driver.specs.declared.disk.Disk.{Disk}
use Rattle.disk_check.specs.Table.{own_indexes}
use Rattle.disk_check.specs.Check.{Check, left_of, write_value}
use Rattle.sheep_node.specs.declared.course.Request.{Request}
use Rattle.sheep_node.specs.declared.course.Course.TheVariants.{Checking}
use Rattle.sheep_node.specs.State.{Node}
use Rattle.overlap_law.specs.Attempts.{AttemptRecord}
use Rattle.overlap_law.specs.Words.{Hosts, bytes_by}
use Rattle.overlap_law.specs.Each.{EachUp}
use Rattle.overlap_law.specs.WrittenBlocks.{IsBlockOfDisk, blocks_per_object, items_at, outcomes_in}
use Rattle.overlap_law.specs.Pieces.{IsOn, HasItem}

-- a check of the disk that its session has open, which is there by the history
pub record IsCheckOn (ledger : Ledger) (node : Node) (req : ℕ) (check : Check) (opened : Disk) (disk : histories.Disk) : Type 0 where
  pub request : Request
  pub on : IsOn ledger node req request opened disk
  pub course : request.course ≡ Checking check

-- its write of a value over the object of an index has begun
pub record HasBegunWrite (node : Node) (req index : ℕ) (check : Check) (value : List ℕ) : Type 0 where
  pub open_work : Work
  pub there : tree.get node.gateway.works req ≡ Some open_work
  pub same : open_work.work ≡ write_value check index value

-- whether a check has written the own object of an index, or has begun to: the object isn't left
abbrev pub has_come_to : ℕ → Content → Check → Bool
has_come_to index inode check =
    list_any (λ own. own == index) (own_indexes inode) && not (list_any (λ left. left == index) (left_of check.stage))

-- a block that the disk has, of the object of an index
pub record HasBlock (disk : histories.Disk) (spec : VdiSpec) (index unit : ℕ) : Type 0 where
  pub inside : unit < blocks_per_object spec
  pub block : index * blocks_per_object spec + unit < disk.blocks

-- each block of the object that a check writes has an item of its value; no object that it hasn't come to has an item of it, and each
-- block of the others has one; and what is behind it is all that its blocks may be read as
pub record ChecksHaveItems (ledger : Ledger) (effects : List Effect) (good_id : ℕ
    → Bool) (hosts : Hosts) (attempts : List AttemptRecord) : Type 0 where
  pub writing : EachUp hosts (λ n node. (req index unit : ℕ) (check : Check) (value : List ℕ) (opened : Disk) (disk : histories.Disk)
      → IsCheckOn ledger node req check opened disk → HasBegunWrite node req index check value → HasBlock disk opened.inode.spec index unit
      → HasItem (items_at disk opened.inode.spec index unit) req (bytes_by unit (write_value check index value)))
  pub ahead : EachUp hosts (λ n node. (req index unit place : ℕ) (check : Check) (opened : Disk) (disk : histories.Disk) (item : Item)
      → IsCheckOn ledger node req check opened disk → has_come_to index opened.inode check ≡ false
      → HasBlock disk opened.inode.spec index unit → slice_get (items_at disk opened.inode.spec index unit) place ≡ Some item
      → is_item_of req item ≡ false)
  pub behind : EachUp hosts (λ n node. (req index unit : ℕ) (check : Check) (opened : Disk) (disk : histories.Disk)
      → IsCheckOn ledger node req check opened disk → has_come_to index opened.inode check ≡ true
      → HasBlock disk opened.inode.spec index unit → (bytes : List ℕ) × HasItem (items_at disk opened.inode.spec index unit) req bytes)
  pub alone : EachUp hosts (λ n node. (req index unit place : ℕ) (check : Check) (opened : Disk) (disk : histories.Disk) (item : Item)
      → IsCheckOn ledger node req check opened disk → has_come_to index opened.inode check ≡ true
      → ((value : List ℕ) → HasBegunWrite node req index check value → ⊥)
      → IsBlockOfDisk ledger effects good_id opened.inode.vid disk opened.inode.spec index unit
      → slice_get (items_at disk opened.inode.spec index unit) place ≡ Some item → is_item_of req item ≡ true
      → list_all (λ (attempt : AttemptRecord). bytes_eq item.bytes (bytes_by unit attempt.work))
      (outcomes_in hosts attempts opened.inode.vid opened.inode.vid index unit) ≡ true)
