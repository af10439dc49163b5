-- Where the pieces of a write are alone, so is each block in which the write has an item, also behind a change by which nothing more may
-- come to be read; and where a request has no items nothing is asked.
use Rattle.std.proofs.Common.{◌≡◌, ℕ, ◌+◌, ◌*◌, ◌%◌, ◌<◌, ◌≤◌, Bool, true, false, List, length, Contains, Option, Some, slice_get, refl}
use Rattle.std.proofs.Common.{sym}
use Rattle.std.proofs.Common.{ap, subst, ◌∙◌}
use Rattle.std.specs.Str.{bytes_eq}
use Rattle.std.proofs.lemmas.Option.{same_Some}
use Rattle.object_id.specs.declared.entry.VdiSpec.{VdiSpec}
use Rattle.object_id.specs.Oid.{inode_number, object_number}
use Rattle.object_id.specs.Spec.{objects_of}
use Rattle.disk_history.specs.Changes.{items_in}
use Rattle.disk_history.specs.Ledger.{Item, Ledger, is_item_of}
use Rattle.disk_history.specs.Ledger as histories
use Rattle.disk_history.specs.Legal.{standing}
use Rattle.vdi_directory.specs.Dead.{is_dead}
use Rattle.vdi_directory.specs.declared.effect.Effect.{Effect}
use Rattle.guest_driver.specs.declared.disk.Disk.{Disk}
use Rattle.guest_driver.specs.Pieces.{Piece, pieces}
use Rattle.overlap_law.specs.AloneItems.{HasOwnItems, IsOwnItem}
use Rattle.overlap_law.specs.Attempts.{AttemptRecord}
use Rattle.overlap_law.specs.Each.{spec_in}
use Rattle.overlap_law.specs.Pieces.{bytes_for}
use Rattle.overlap_law.specs.StayingBlocks.{IsAloneWhereWritten, IsBlockOfAnyDisk}
use Rattle.overlap_law.specs.Tables.{entry_by, entry_unit}
use Rattle.overlap_law.specs.ToCome.{IsEntryToCome, IsToCome}
use Rattle.overlap_law.specs.Units.{bytes_by}
use Rattle.overlap_law.specs.Words.{Hosts}
use Rattle.overlap_law.specs.WrittenBlocks.{blocks_per_object, items_at}
use Rattle.overlap_law.specs.WrittenPieces.{IsItemOfPiece, IsWrittenAlone}
use Rattle.overlap_law.proofs.AloneBlocks.{item_of_piece}
use Rattle.overlap_law.proofs.AloneItems.{at_place, without_items}
use Rattle.overlap_law.proofs.ItemsGoOn.{same_bytes}
use Rattle.overlap_law.proofs.ItemsOfRequests.{HasNoItems}
use Rattle.overlap_law.proofs.StandingItems.{stands_among}
use Rattle.overlap_law.proofs.WrittenAlone.{alone_to_come}

-- each piece was made by the last attempt on its object, with the write's bytes; and of its entry nothing is to come but the disk's own id
pub record ArePiecesAlone (effects : List Effect) (good_id : ℕ → Bool) (hosts : Hosts) (attempts : List AttemptRecord) (disk : Disk)
    (offset : ℕ) (payload : List ℕ) : Type 0 where
  pub bytes : (one : Piece) → Contains (pieces disk.inode.spec.shift offset (length payload)) one
      → IsWrittenAlone attempts disk.inode.vid payload one
  pub entries : good_id disk.inode.vid ≡ true → is_dead effects disk.inode.vid ≡ false → (one : Piece)
      → Contains (pieces disk.inode.spec.shift offset (length payload)) one → (index j : ℕ) (entry : AttemptRecord) → one.index ≡ index
      → index < objects_of disk.inode.spec → IsEntryToCome hosts attempts disk.inode.vid index j entry
      → entry_by index entry ≡ disk.inode.vid

module _ (effects : List Effect) (good_id : ℕ → Bool) (hosts later : Hosts) (attempts after : List AttemptRecord) (ledger : Ledger)
    (req offset : ℕ) (payload : List ℕ) (disk : Disk) (own : HasOwnItems req disk.inode.vid offset payload ledger)
    (long : 9 ≤ disk.inode.spec.shift) (whole : offset % 512 ≡ 0) (made : spec_in effects disk.inode.vid ≡ Some disk.inode.spec)
    (alone : ArePiecesAlone effects good_id hosts attempts disk offset payload)
    (might : (oid unit j : ℕ) (attempt : AttemptRecord) → IsToCome later after oid unit j attempt
    → IsToCome hosts attempts oid unit j attempt) where
  module _ (vid index unit place : ℕ) (found : histories.Disk) (spec : VdiSpec) (item : Item)
      (block : IsBlockOfAnyDisk ledger effects good_id vid found spec index unit)
      (got : slice_get (standing (items_at found spec index unit)) place ≡ Some item) (its : is_item_of req item ≡ true) where
    own_item : IsOwnItem disk.inode.vid offset payload vid (index * blocks_per_object spec + unit) item.bytes
    own_item =
        let (at, in_block) = stands_among (items_at found spec index unit) place item got in
        own vid (index * blocks_per_object spec + unit) at item
        (subst (λ (o : Option histories.Disk). slice_get (items_in o (index * blocks_per_object spec + unit)) at ≡ Some item)
        (sym block.there) in_block) its

    vid_so : vid ≡ disk.inode.vid
    vid_so = own_item.same

    spec_so : spec ≡ disk.inode.spec
    spec_so = same_Some spec disk.inode.spec (sym block.made_with ∙ ap (spec_in effects) vid_so ∙ made)

    of : IsItemOfPiece disk.inode.spec.shift offset payload index unit item
    of =
        subst (λ (s : VdiSpec). IsItemOfPiece s.shift offset payload index unit item) spec_so
        (item_of_piece spec.shift offset index unit disk.inode.vid vid payload item
        (subst (λ (s : VdiSpec). 9 ≤ s.shift) (sym spec_so) long)
        whole block.inside own_item)

    entry_so : (j : ℕ) (entry : AttemptRecord) → IsEntryToCome later after vid index j entry → entry_by index entry ≡ vid
    entry_so j entry comes =
        alone.entries (ap good_id (sym vid_so) ∙ block.good) (ap (is_dead effects) (sym vid_so) ∙ block.alive) of.one of.among index j entry
        of.at (subst (λ (s : VdiSpec). index < objects_of s) spec_so block.object)
        (might (inode_number disk.inode.vid) (entry_unit index) j entry
        (subst (λ (v : ℕ). IsEntryToCome later after v index j entry) vid_so comes))
        ∙ sym vid_so

    bytes_so : (j : ℕ) (attempt : AttemptRecord) → IsToCome later after (object_number vid index) unit j attempt
        → bytes_eq item.bytes (bytes_by unit attempt.work) ≡ true
    bytes_so j attempt comes =
        let there : IsToCome later after (object_number disk.inode.vid of.one.index) unit j attempt
        = subst (λ (oid : ℕ). IsToCome later after oid unit j attempt) (λ i. object_number (vid_so i) (sym of.at i)) comes in
        let same : bytes_by unit attempt.work ≡ bytes_for payload of.one unit
        = alone_to_come hosts attempts disk.inode.vid payload of.one (alone.bytes of.one of.among) unit of.inside j attempt
        (might (object_number disk.inode.vid of.one.index) unit j attempt there) in
        (λ i. bytes_eq (of.bytes i) (same i)) ∙ same_bytes (bytes_for payload of.one unit)

  pub items_alone : IsAloneWhereWritten effects good_id later after ledger req
  items_alone = record {
    entry = λ vid index unit place found spec item block got its j entry comes.
        entry_so vid index unit place found spec item block got its j entry comes;
    bytes = λ vid index unit place found spec item block got its j attempt comes.
        bytes_so vid index unit place found spec item block got its j attempt comes;
  }

-- a request without items
module _ (effects : List Effect) (good_id : ℕ → Bool) (hosts : Hosts) (attempts : List AttemptRecord) (ledger : Ledger) (req : ℕ)
    (none : HasNoItems req ledger) where
  never : (vid index unit place : ℕ) (found : histories.Disk) (spec : VdiSpec) (item : Item)
      → IsBlockOfAnyDisk ledger effects good_id vid found spec index unit
      → slice_get (standing (items_at found spec index unit)) place ≡ Some item → is_item_of req item ≡ true → ⊥
  never vid index unit place found spec item block got its =
      let (at, in_block) = stands_among (items_at found spec index unit) place item got in
      let number : ℕ = index * blocks_per_object spec + unit in
      at_place req (λ disk block bytes. ⊥) vid number (items_in (ledger.disks vid) number) at item
      (without_items req (λ disk block bytes. ⊥) ledger none vid number)
      (subst (λ (o : Option histories.Disk). slice_get (items_in o (index * blocks_per_object spec + unit)) at ≡ Some item)
      (sym block.there) in_block) its

  pub none_alone : IsAloneWhereWritten effects good_id hosts attempts ledger req
  none_alone = record {
    entry = λ vid index unit place found spec item block got its j entry comes.
        absurd (never vid index unit place found spec item block got its);
    bytes = λ vid index unit place found spec item block got its j attempt comes.
        absurd (never vid index unit place found spec item block got its);
  }
