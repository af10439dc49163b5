-- What holds of the items of a request, wherever they are, holds behind an event, if it does of those that begin, and of a copied disk's
-- where it holds of the disk's.
use Rattle.std.proofs.Common.{◌≡◌, ℕ, zero, suc, ◌==◌, Bool, true, false, not, cond, List, [], ◌∷◌, ◌++◌, map, filter, fold, slice_get}
use Rattle.std.proofs.Common.{Option}
use Rattle.std.proofs.Common.{Some, None, option_map, refl, sym, ap, subst, ◌∙◌}
use Rattle.std.specs.List.{list_any}
use Rattle.std.proofs.lemmas.Bool.{eq-eqb, eqb-true, or_parts}
use Rattle.std.proofs.lemmas.Option.{same_Some}
use Rattle.disk_history.specs.declared.event.HistEvent.{HistEvent}
use Rattle.disk_history.specs.declared.event.HistEvent.TheVariants.{Create, Copy, Delete, WriteStart, WriteDone, WriteRefused, WriterLost}
use Rattle.disk_history.specs.declared.event.HistEvent.TheVariants.{Read}
use Rattle.disk_history.specs.Changes.{items_in}
use Rattle.disk_history.specs.Ledger.{Mark, Item, Disk, Ledger, Open, Acknowledged, Lost, zeros_item, is_item_of, item_with_mark}
use Rattle.disk_history.specs.Ledger.{empty_ledger}
use Rattle.disk_history.specs.Ledger.{ledger_after, changed_at, with_item, has_block}
use Rattle.overlap_law.proofs.ItemsOfRequests.{HasNoItems, begins_write_of}

module _ (req : ℕ) (Q : ℕ → ℕ → List ℕ → Type 0) where
  -- ---- in a block, on a disk, and on all

  abbrev pub AreSoIn : ℕ → ℕ → List Item → Type 0
  AreSoIn disk block [] = Unit {0}
  AreSoIn disk block (item ∷ items) = (is_item_of req item ≡ true → Q disk block item.bytes) × AreSoIn disk block items

  abbrev AreSoOn : ℕ → Option Disk → Type 0
  AreSoOn disk found = (block : ℕ) → AreSoIn disk block (items_in found block)

  abbrev pub AreSo : Ledger → Type 0
  AreSo ledger = (disk : ℕ) → (block : ℕ) → AreSoIn disk block (items_in (ledger.disks disk) block)

  pub at_place : (disk block : ℕ) (items : List Item) (place : ℕ) (item : Item) → AreSoIn disk block items
      → slice_get items place ≡ Some item → is_item_of req item ≡ true → Q disk block item.bytes
  at_place disk block [] place item all got own = absurd (cc (got))
  at_place disk block (first ∷ items) zero item all got own =
      let same : first ≡ item = same_Some first item got in
      subst (λ (i : Item). Q disk block i.bytes) same (all.0 (ap (is_item_of req) same ∙ own))
  at_place disk block (first ∷ items) (suc place) item all got own = at_place disk block items place item all.1 got own

  -- ---- lists of items

  push_so : (disk block : ℕ) (items : List Item) (item : Item) → AreSoIn disk block items
      → (is_item_of req item ≡ true → Q disk block item.bytes) → AreSoIn disk block (items ++ item ∷ [])
  push_so disk block [] item all own = (own, tt)
  push_so disk block (first ∷ items) item all own = (all.0, push_so disk block items item all.1 own)

  -- on another disk
  moved_so : (disk other block : ℕ) (items : List Item) → ((bytes : List ℕ) → Q disk block bytes → Q other block bytes)
      → AreSoIn disk block items → AreSoIn other block items
  moved_so disk other block [] moves all = tt
  moved_so disk other block (item ∷ items) moves all = (
    λ own. moves item.bytes (all.0 own),
    moved_so disk other block items moves all.1,
  )

  marked_so : (mark : Mark) (ended disk block : ℕ) (items : List Item) → AreSoIn disk block items
      → AreSoIn disk block (map (item_with_mark mark ended) items)
  marked_so mark ended disk block [] all = tt
  marked_so mark ended disk block (item ∷ items) all =
      (by_test (is_item_of ended item), marked_so mark ended disk block items all.1)
    where
      by_test : (b : Bool) → is_item_of req (cond b (record item { mark = mark }) item) ≡ true
          → Q disk block (cond b (record item { mark = mark }) item).bytes
      by_test true = all.0
      by_test false = all.0

  left_so : (keeps : Item → Bool) (disk block : ℕ) (items : List Item) → AreSoIn disk block items
      → AreSoIn disk block (filter keeps items)
  left_so keeps disk block [] all = tt
  left_so keeps disk block (item ∷ items) all = by_test (keeps item) (left_so keeps disk block items all.1)
    where
      by_test : (b : Bool) → AreSoIn disk block (filter keeps items)
          → AreSoIn disk block (cond b (item ∷ filter keeps items) (filter keeps items))
      by_test true rest = (all.0, rest)
      by_test false rest = rest

  free_so : (disk block : ℕ) (items : List Item) → list_any (is_item_of req) items ≡ false → AreSoIn disk block items
  free_so disk block [] none = tt
  free_so disk block (item ∷ items) none =
      let parts = or_parts (is_item_of req item) (list_any (is_item_of req) items) none in
      (λ own. let isnt = parts.0 in absurd (cc (isnt, own)), free_so disk block items parts.1)

  -- where the request has no items
  pub without_items : (ledger : Ledger) → HasNoItems req ledger → AreSo ledger
  without_items ledger none disk block = free_so disk block (items_in (ledger.disks disk) block) (none disk block)

  -- ---- disks

  changed_so : (place : ℕ) (new : Option Disk) (disks : ℕ → Option Disk) → AreSoOn place new → ((disk : ℕ) → AreSoOn disk (disks disk))
      → (disk : ℕ) → AreSoOn disk (changed_at place new disks disk)
  changed_so place new disks own all disk = by_test (disk == place) refl
    where
      by_test : (b : Bool) → (disk == place) ≡ b → AreSoOn disk (cond b new (disks disk))
      by_test true same = subst (λ (k : ℕ). AreSoOn k new) (sym (eqb-true disk place same)) own
      by_test false apart = all disk

  copied_so : (old new : ℕ) (found : Option Disk) → ((block : ℕ) (bytes : List ℕ) → Q old block bytes → Q new block bytes)
      → AreSoOn old found → AreSoOn new (option_map (λ (disk : Disk). record disk { deleted = false }) found)
  copied_so old new None moves all = λ block. tt
  copied_so old new (Some disk) moves all = λ block. moved_so old new block (disk.items block) (moves block) (all block)

  deleted_so : (disk : ℕ) (found : Option Disk) → AreSoOn disk found
      → AreSoOn disk (option_map (λ (d : Disk). record d { deleted = true }) found)
  deleted_so disk None all = all
  deleted_so disk (Some d) all = all

  written_so : (disk at : ℕ) (item : Item) (found : Option Disk) → (is_item_of req item ≡ true → Q disk at item.bytes)
      → AreSoOn disk found → AreSoOn disk (option_map (with_item at item) found)
  written_so disk at item None own all = all
  written_so disk at item (Some d) own all = λ block. by_test block (block == at) refl
    where
      by_test : (block : ℕ) (b : Bool) → (block == at) ≡ b → AreSoIn disk block (cond b (d.items at ++ item ∷ []) (d.items block))
      by_test block true same =
          subst (λ (k : ℕ). AreSoIn disk k (d.items at ++ item ∷ [])) (sym (eqb-true block at same))
          (push_so disk at (d.items at) item (all at) own)
      by_test block false apart = all block

  each_so : (change : List Item → List Item) (disk : ℕ) (found : Option Disk)
      → ((block : ℕ) (items : List Item) → AreSoIn disk block items → AreSoIn disk block (change items)) → AreSoOn disk found
      → AreSoOn disk (option_map (λ (d : Disk). record d { items = λ block. change (d.items block) }) found)
  each_so change disk None keeps all = all
  each_so change disk (Some d) keeps all = λ block. keeps block (d.items block) (all block)

  -- ---- events

  -- what begins of the request is so, and where a disk is copied it holds of the copy too
  abbrev pub IsFine : HistEvent → Type 0
  IsFine (Create disk blocks) = Unit {0}
  IsFine (Copy old new) = (block : ℕ) (bytes : List ℕ) → Q old block bytes → Q new block bytes
  IsFine (Delete disk) = Unit {0}
  IsFine (WriteStart other disk block coded bytes) = other ≡ req → Q disk block bytes
  IsFine (WriteDone other) = Unit {0}
  IsFine (WriteRefused other) = Unit {0}
  IsFine (WriterLost other) = Unit {0}
  IsFine (Read disk block bytes) = Unit {0}

  stays_so : (ledger : Ledger) (event : HistEvent) → IsFine event → AreSo ledger → AreSo (ledger_after ledger event)
  stays_so ledger (Create disk blocks) fine all =
      changed_so disk (Some (record { blocks = blocks; items = λ block. zeros_item ∷ []; deleted = false })) ledger.disks
      (λ block. (λ own. absurd (cc (own)), tt)) all
  stays_so ledger (Copy old new) fine all =
      changed_so new (option_map (λ (disk : Disk). record disk { deleted = false }) (ledger.disks old)) ledger.disks
      (copied_so old new (ledger.disks old) fine (all old)) all
  stays_so ledger (Delete disk) fine all =
      changed_so disk (option_map (λ (d : Disk). record d { deleted = true }) (ledger.disks disk)) ledger.disks
      (deleted_so disk (ledger.disks disk) (all disk)) all
  stays_so ledger (WriteStart writer disk block coded bytes) fine all = by_test (has_block (ledger.disks disk) block)
    where
      item : Item
      item = record { request = Some writer; bytes = bytes; coded = coded; mark = Open }

      written : Option Disk
      written = option_map (with_item block item) (ledger.disks disk)

      by_test : (b : Bool) (at : ℕ) → AreSoOn at (cond b (changed_at disk written ledger.disks) ledger.disks at)
      by_test true =
          changed_so disk written ledger.disks
          (written_so disk block item (ledger.disks disk) (λ own. fine (eqb-true writer req own)) (all disk)) all
      by_test false = all
  stays_so ledger (WriteDone ended) fine all = λ disk.
      each_so (map (item_with_mark Acknowledged ended)) disk (ledger.disks disk) (marked_so Acknowledged ended disk) (all disk)
  stays_so ledger (WriteRefused ended) fine all = λ disk.
      each_so (filter (λ item. not (is_item_of ended item))) disk (ledger.disks disk) (left_so (λ item. not (is_item_of ended item)) disk)
      (all disk)
  stays_so ledger (WriterLost ended) fine all = λ disk.
      each_so (map (item_with_mark Lost ended)) disk (ledger.disks disk) (marked_so Lost ended disk) (all disk)
  stays_so ledger (Read disk block bytes) fine all = all

  abbrev pub AreFine : List HistEvent → Type 0
  AreFine [] = Unit {0}
  AreFine (event ∷ events) = IsFine event × AreFine events

  pub along : (events : List HistEvent) (ledger : Ledger) → AreFine events → AreSo ledger → AreSo (fold ledger_after ledger events)
  along [] ledger fine all = all
  along (event ∷ events) ledger fine all = along events (ledger_after ledger event) fine.1 (stays_so ledger event fine.0 all)

  pub fine_joined : (front back : List HistEvent) → AreFine front → AreFine back → AreFine (front ++ back)
  fine_joined [] back first then = then
  fine_joined (event ∷ front) back first then = (first.0, fine_joined front back first.1 then)

-- ---- where a disk isn't copied

-- whether an event copies a disk
abbrev pub copies_disk : ℕ → HistEvent → Bool
copies_disk vid (Create disk blocks) = false
copies_disk vid (Copy old new) = old == vid
copies_disk vid (Delete disk) = false
copies_disk vid (WriteStart req disk block coded bytes) = false
copies_disk vid (WriteDone req) = false
copies_disk vid (WriteRefused req) = false
copies_disk vid (WriterLost req) = false
copies_disk vid (Read disk block bytes) = false

-- it is fine where the items are on that disk alone, and none begins
pub fine_of : (req vid : ℕ) (Q : ℕ → ℕ → List ℕ → Type 0) → ((disk block : ℕ) (bytes : List ℕ) → Q disk block bytes → disk ≡ vid)
    → (events : List HistEvent) → list_any (copies_disk vid) events ≡ false → list_any (begins_write_of req) events ≡ false
    → AreFine req Q events
fine_of req vid Q own [] copies begins = tt
fine_of req vid Q own (event ∷ events) copies begins =
    let (copies_not, copies_none) = or_parts (copies_disk vid event) (list_any (copies_disk vid) events) copies in
    let (begins_not, begins_none) = or_parts (begins_write_of req event) (list_any (begins_write_of req) events) begins in
    (one event copies_not begins_not, fine_of req vid Q own events copies_none begins_none)
  where
    one : (event : HistEvent) → copies_disk vid event ≡ false → begins_write_of req event ≡ false → IsFine req Q event
    one (Create disk blocks) copies begins = tt
    one (Copy old new) copies begins = λ block bytes is.
        let same = eq-eqb old vid (own old block bytes is) in absurd (cc (copies, same))
    one (Delete disk) copies begins = tt
    one (WriteStart other disk block coded bytes) copies begins = λ same.
        let is = eq-eqb other req same in absurd (cc (begins, is))
    one (WriteDone other) copies begins = tt
    one (WriteRefused other) copies begins = tt
    one (WriterLost other) copies begins = tt
    one (Read disk block bytes) copies begins = tt
