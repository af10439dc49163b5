-- In every run in range each item of a request, on a disk whose blocks are kept in strips, is one of a coded write: so one that a lost
-- writer left tears its block.
use Rattle.std.proofs.Common.{◌≡◌, ℕ, zero, suc, ◌+◌, ◌/◌, ◌==◌, ◌&&◌, ◌||◌, not, Bool, true, false, cond, List, [], ◌∷◌, ◌++◌, map, filter}
use Rattle.std.proofs.Common.{fold, length, slice_get, Option, Some, None, is_none, is_some, refl, sym, ap, subst, ◌∙◌}
use Rattle.std.specs.List.{list_any, range_with_len}
use Rattle.std.specs.Option.{option_map_or}
use Rattle.std.proofs.lemmas.Bool.{eqb-true, or_parts}
use Rattle.std.proofs.lemmas.List.Folds.{list_any-append}
use Rattle.std.proofs.lemmas.Option.{same_Some}
use Rattle.object_id.specs.declared.limits.TheConstants.{BLOCK_BYTES}
use Rattle.object_id.specs.declared.oid.Kind.TheVariants.{Block}
use Rattle.gf256.specs.Part.{is_in_strips}
use Rattle.cluster_script.specs.declared.statement.Statement.{Statement}
use Rattle.cluster_script.specs.declared.statement.Statement.TheVariants as lines
use Rattle.cluster_script.specs.NumberedRequests.{payload_of, request_at}
use Rattle.cluster_script.specs.Statements.{is_check}
use Rattle.disk_history.specs.declared.event.HistEvent.{HistEvent}
use Rattle.disk_history.specs.declared.event.HistEvent.TheVariants.{Create, Copy, Delete, WriteStart, WriteDone, WriteRefused, WriterLost}
use Rattle.disk_history.specs.declared.event.HistEvent.TheVariants.{Read}
use Rattle.disk_history.specs.Changes.{items_in}
use Rattle.disk_history.specs.Ledger.{Mark, Acknowledged, Lost, Item, Ledger, has_block, is_item_of, item_with_mark, ledger_after}
use Rattle.disk_history.specs.Legal.{is_acknowledged}
use Rattle.disk_history.specs.Ledger as histories
use Rattle.guest_driver.specs.declared.disk.Disk.{Disk}
use Rattle.sheep_node.specs.declared.check_write.CheckWrite.{CheckWrite}
use Rattle.sheep_world.specs.HistoryAdditions.{begins_on, block_checked, block_in, block_written, check_write_adds, check_write_grown}
use Rattle.sheep_world.specs.HistoryAdditions.{is_on_disk}
use Rattle.overlap_law.specs.DiskEvents.{begins_by_others}
use Rattle.overlap_law.proofs.BlockItems.{apart_back, new_item, items_then, makes_disk, blocks_along, has_alike, kept_along}
use Rattle.overlap_law.proofs.DiskEventsOfHolders.{flat_none, map_none}
use Rattle.overlap_law.proofs.ItemsStayOpen.{item_of}
use Rattle.overlap_law.proofs.OpenItemsInRuns.{fewer_make}

-- ---- items

-- whether an item of a request, in strips if this says so, is none of a coded write; or one of no request isn't acknowledged
abbrev pub is_uncoded : Bool → Item → Bool
is_uncoded strips item =
    (is_none item.request && not (is_acknowledged item)) || (is_some item.request && (strips && not item.coded))

abbrev pub AreCoded : Bool → List Item → Type 0
AreCoded strips items = list_any (is_uncoded strips) items ≡ false

marked_same : (strips : Bool) (mark : Mark) (other : ℕ) (item : Item) → is_uncoded strips (item_with_mark mark other item)
    ≡ is_uncoded strips item
marked_same strips mark other item = by_test (is_item_of other item) refl
  where
    by_test : (b : Bool) → is_item_of other item ≡ b → is_uncoded strips (cond b (record item { mark = mark }) item)
        ≡ is_uncoded strips item
    by_test true own =
        let some : is_none item.request ≡ false = ap is_none (item_of other item own) in
        (λ i. (some i && not (is_acknowledged (record item { mark = mark }))) || (is_some item.request && (strips && not item.coded)))
        ∙ sym (λ i. (some i && not (is_acknowledged item)) || (is_some item.request && (strips && not item.coded)))
    by_test false other_item = refl

marked_coded : (strips : Bool) (mark : Mark) (other : ℕ) (items : List Item) → AreCoded strips items
    → AreCoded strips (map (item_with_mark mark other) items)
marked_coded strips mark other [] all = refl
marked_coded strips mark other (item ∷ items) all =
    let parts = or_parts (is_uncoded strips item) (list_any (is_uncoded strips) items) all in
    let rest : list_any (is_uncoded strips) (map (item_with_mark mark other) items) ≡ false
    = marked_coded strips mark other items parts.1 in
    λ i. (marked_same strips mark other item ∙ parts.0) i || rest i

left_coded : (strips : Bool) (keeps : Item → Bool) (items : List Item) → AreCoded strips items → AreCoded strips (filter keeps items)
left_coded strips keeps [] all = refl
left_coded strips keeps (item ∷ items) all =
    let parts = or_parts (is_uncoded strips item) (list_any (is_uncoded strips) items) all in
    by_test (keeps item) parts.0 (left_coded strips keeps items parts.1)
  where
    by_test : (b : Bool) → is_uncoded strips item ≡ false → AreCoded strips (filter keeps items)
        → AreCoded strips (cond b (item ∷ filter keeps items) (filter keeps items))
    by_test true first rest = λ i. first i || rest i
    by_test false first rest = rest

-- ---- events

-- whether an event begins a write of the disk that isn't coded, where it is to be
abbrev pub begins_uncoded : ℕ → Bool → HistEvent → Bool
begins_uncoded vid strips (Create disk blocks) = false
begins_uncoded vid strips (Copy old new) = false
begins_uncoded vid strips (Delete disk) = false
begins_uncoded vid strips (WriteStart req disk at coded bytes) = disk == vid && (strips && not coded)
begins_uncoded vid strips (WriteDone req) = false
begins_uncoded vid strips (WriteRefused req) = false
begins_uncoded vid strips (WriterLost req) = false
begins_uncoded vid strips (Read disk at bytes) = false

module _ (vid : ℕ) (strips : Bool) where
  start_coded : (block req disk at : ℕ) (coded : Bool) (bytes : List ℕ) (items : List Item)
      → (disk == vid && (strips && not coded)) ≡ false → AreCoded strips items
      → AreCoded strips (items_then vid block (WriteStart req disk at coded bytes) items)
  start_coded block req disk at coded bytes items harmless all = by_disk (disk == vid) refl
    where
      by_block : (b : Bool) → (strips && not coded) ≡ false → AreCoded strips (cond b (items ++ new_item req coded bytes ∷ []) items)
      by_block true so =
          list_any-append (is_uncoded strips) items (new_item req coded bytes ∷ []) ∙ (λ i. all i || (so i || false))
      by_block false so = all

      by_disk : (b : Bool) → (disk == vid) ≡ b → AreCoded strips (items_then vid block (WriteStart req disk at coded bytes) items)
      by_disk true own =
          by_block (vid == disk && block == at) (ap (λ (b : Bool). b && (strips && not coded)) (sym own) ∙ harmless)
      by_disk false apart =
          subst (AreCoded strips)
          (ap (λ (b : Bool). cond (b && block == at) (items ++ new_item req coded bytes ∷ []) items) (sym (apart_back disk vid apart))) all

  coded_stays : (block : ℕ) (event : HistEvent) (items : List Item) → begins_uncoded vid strips event ≡ false → AreCoded strips items
      → AreCoded strips (items_then vid block event items)
  coded_stays block (Create disk blocks) items harmless all = all
  coded_stays block (Copy old new) items harmless all = all
  coded_stays block (Delete disk) items harmless all = all
  coded_stays block (WriteStart req disk at coded bytes) items harmless all = start_coded block req disk at coded bytes items harmless all
  coded_stays block (WriteDone req) items harmless all = marked_coded strips Acknowledged req items all
  coded_stays block (WriteRefused req) items harmless all = left_coded strips (λ item. not (is_item_of req item)) items all
  coded_stays block (WriterLost req) items harmless all = marked_coded strips Lost req items all
  coded_stays block (Read disk at bytes) items harmless all = all

  -- each block of the disk that a ledger has is so
  abbrev pub DiskIsCoded : Option histories.Disk → Type 0
  DiskIsCoded found = (block : ℕ) → has_block found block ≡ true → AreCoded strips (items_in found block)

  pub coded_along : (ledger : Ledger) (grown : List HistEvent) → list_any (begins_by_others vid (λ (q : ℕ). true)) grown ≡ false
      → list_any (begins_uncoded vid strips) grown ≡ false → DiskIsCoded (ledger.disks vid)
      → DiskIsCoded ((fold ledger_after ledger grown).disks vid)
  coded_along ledger grown makes harmless all block has =
      kept_along vid block (AreCoded strips) (begins_uncoded vid strips) (coded_stays block) grown ledger none harmless had (all block had)
    where
      none : list_any (makes_disk vid block) grown ≡ false
      none = fewer_make (λ (q : ℕ). true) vid block grown makes

      had : has_block (ledger.disks vid) block ≡ true
      had = has_alike vid block ((fold ledger_after ledger grown).disks vid) (ledger.disks vid) (blocks_along vid block grown ledger none)
          ∙ has

  -- where nobody begins a write of the disk
  one_harmless : (event : HistEvent) → begins_by_others vid (λ (q : ℕ). false) event ≡ false → begins_uncoded vid strips event ≡ false
  one_harmless (Create disk blocks) none = refl
  one_harmless (Copy old new) none = refl
  one_harmless (Delete disk) none = refl
  one_harmless (WriteStart req disk at coded bytes) none = by_disk (disk == vid) none
    where
      by_disk : (b : Bool) → (b && not false) ≡ false → (b && (strips && not coded)) ≡ false
      by_disk true never = absurd (cc (never))
      by_disk false apart = refl
  one_harmless (WriteDone req) none = refl
  one_harmless (WriteRefused req) none = refl
  one_harmless (WriterLost req) none = refl
  one_harmless (Read disk at bytes) none = refl

  pub all_harmless : (events : List HistEvent) → list_any (begins_by_others vid (λ (q : ℕ). false)) events ≡ false
      → list_any (begins_uncoded vid strips) events ≡ false
  all_harmless [] none = refl
  all_harmless (event ∷ later) none =
      let parts = or_parts (begins_by_others vid (λ (q : ℕ). false) event)
      (list_any (begins_by_others vid (λ (q : ℕ). false)) later) none in
      let first = one_harmless event parts.0 in
      let rest = all_harmless later parts.1 in
      λ i. first i || rest i

  -- what begins is coded as the disk is
  begin_harmless : (req disk block : ℕ) (bytes : List ℕ) (coded : Bool) → (disk ≡ vid → coded ≡ strips)
      → begins_uncoded vid strips (WriteStart req disk block coded bytes) ≡ false
  begin_harmless req disk block bytes coded own = by_test (disk == vid) refl
    where
      as_strips : (s : Bool) → (s && not s) ≡ false
      as_strips true = refl
      as_strips false = refl

      by_test : (b : Bool) → (disk == vid) ≡ b → (b && (strips && not coded)) ≡ false
      by_test true same = ap (λ (c : Bool). strips && not c) (own (eqb-true disk vid same)) ∙ as_strips strips
      by_test false apart = refl

  writes_harmless : (req : ℕ) (disk : Option Disk) (s : Statement)
      → ((opened : Disk) → disk ≡ Some opened → opened.inode.vid ≡ vid → is_in_strips opened.inode.spec.policy Block ≡ strips)
      → list_any (begins_uncoded vid strips) (begins_on req disk s) ≡ false
  writes_harmless req None (lines.Write number offset size pattern) own = refl
  writes_harmless req (Some opened) (lines.Write number offset size pattern) own =
      map_none (begins_uncoded vid strips)
      (λ (place : ℕ).
      WriteStart req opened.inode.vid (offset / BLOCK_BYTES + place) (is_in_strips opened.inode.spec.policy Block)
      (block_in (payload_of pattern size) place))
      (λ place.
      begin_harmless req opened.inode.vid (offset / BLOCK_BYTES + place) (block_in (payload_of pattern size) place)
      (is_in_strips opened.inode.spec.policy Block) (own opened refl))
      (range_with_len 0 (length (payload_of pattern size) / BLOCK_BYTES))
  writes_harmless req disk s own = refl

  pub asks_harmless : (req : ℕ) (disk : Option Disk) (s : Option Statement)
      → ((opened : Disk) → disk ≡ Some opened → opened.inode.vid ≡ vid → is_in_strips opened.inode.spec.policy Block ≡ strips)
      → list_any (begins_uncoded vid strips) (option_map_or (begins_on req disk) s []) ≡ false
  asks_harmless req disk None own = refl
  asks_harmless req disk (Some s) own = writes_harmless req disk s own

  pub check_harmless : (script : List Statement) (write : CheckWrite)
      → (write.vid.0 ≡ vid → is_in_strips write.spec.policy Block ≡ strips)
      → list_any (begins_uncoded vid strips) (check_write_grown script write) ≡ false
  check_harmless script write own = by_check (option_map_or is_check (request_at script write.req) false)
    where
      by_check : (b : Bool) → list_any (begins_uncoded vid strips) (cond b (check_write_adds write) []) ≡ false
      by_check false = refl
      by_check true =
          flat_none (begins_uncoded vid strips) (block_checked write)
          (λ place.
          let start = begin_harmless write.req write.vid.0 (block_written write place) (block_in write.value place)
          (is_in_strips write.spec.policy Block) own in
          λ i. start i || false)
          (filter (is_on_disk write) (range_with_len 0 (length write.value / BLOCK_BYTES)))

-- ---- what holds of an item, where it holds of all

-- an item is coded, where none isn't
pub none_among : (strips : Bool) (items : List Item) (place : ℕ) (item : Item) → AreCoded strips items → slice_get items place ≡ Some item
    → is_uncoded strips item ≡ false
none_among strips [] place item all got = absurd (cc (got))
none_among strips (first ∷ later) zero item all got =
    ap (is_uncoded strips) (sym (same_Some first item got))
    ∙ (or_parts (is_uncoded strips first) (list_any (is_uncoded strips) later) all).0
none_among strips (first ∷ later) (suc place) item all got =
    none_among strips later place item (or_parts (is_uncoded strips first) (list_any (is_uncoded strips) later) all).1 got

isnt_false : (b : Bool) → not b ≡ false → b ≡ true
isnt_false true never = refl
isnt_false false never = absurd (cc (never))

pub coded_of : (req : ℕ) (item : Item) → is_uncoded true item ≡ false → item.request ≡ Some req → item.coded ≡ true
coded_of req item fine of =
    let second = (or_parts (is_none item.request && not (is_acknowledged item))
    (is_some item.request && (true && not item.coded)) fine).1 in
    isnt_false item.coded (sym (ap (λ (o : Option ℕ). is_some o && (true && not item.coded)) of) ∙ second)

pub done_of : (strips : Bool) (item : Item) → is_uncoded strips item ≡ false → item.request ≡ None → is_acknowledged item ≡ true
done_of strips item fine none =
    let first = (or_parts (is_none item.request && not (is_acknowledged item))
    (is_some item.request && (strips && not item.coded)) fine).0 in
    isnt_false (is_acknowledged item) (sym (ap (λ (o : Option ℕ). is_none o && not (is_acknowledged item)) none) ∙ first)
