-- Where the items of a request come from, event by event of a history: a block of a disk had one before, or a write of the request begins
-- on the disk, or the disk is copied from one that had. And an item is open only as long as its request hasn't ended.
use Rattle.std.proofs.Common.{◌≡◌, ◌⊎◌, inl, inr, ⊎_elim, ℕ, zero, suc, ◌==◌, ◌&&◌, ◌||◌, not, Bool, true, false, cond, List, [], ◌∷◌, ◌++◌}
use Rattle.std.proofs.Common.{map, filter, fold, Option, Some, None, option_map, slice_get, refl, sym, ap, subst, ◌∙◌}
use Rattle.std.specs.List.{list_any}
use Rattle.std.specs.Option.{option_map_or}
use Rattle.std.proofs.lemmas.Bool.{eqb-true, or_parts, both_ways, and_parts}
use Rattle.std.proofs.lemmas.List.Folds.{list_any-append}
use Rattle.std.proofs.lemmas.Option.{same_Some}
use Rattle.object_id.specs.declared.entry.Entry.{Entry}
use Rattle.object_id.specs.declared.entry.Entry.TheVariants as entries
use Rattle.object_id.specs.declared.limits.TheConstants.{BLOCK_BYTES}
use Rattle.object_id.specs.declared.oid.Vid.{Vid}
use Rattle.disk_history.specs.declared.event.HistEvent.{HistEvent}
use Rattle.disk_history.specs.declared.event.HistEvent.TheVariants.{Create, Copy, Delete, WriteStart, WriteDone, WriteRefused, WriterLost}
use Rattle.disk_history.specs.declared.event.HistEvent.TheVariants.{Read}
use Rattle.disk_history.specs.Changes.{items_in}
use Rattle.disk_history.specs.Ledger.{Acknowledged, Lost, Item, Disk, Ledger, zeros_item, is_item_of, has_block, ledger_after}
use Rattle.vdi_directory.specs.declared.decision.Decision.{Decision}
use Rattle.vdi_directory.specs.declared.decision.Decision.TheVariants as decisions
use Rattle.vdi_directory.specs.declared.header.Header.{Header}
use Rattle.vdi_directory.specs.Decisions.{decision_after}
use Rattle.sheep_world.specs.Granted.{granted_header, disk_cloned, disk_made, granted_adds, decided_adds, entry_adds}
use Rattle.overlap_law.specs.DiskEvents.{begins_by_others}
use Rattle.overlap_law.proofs.BlockItems.{apart_back, makes_disk, new_item, items_then, blocks_along, has_alike, kept_along}
use Rattle.overlap_law.proofs.ItemsOfRequests.{begins_write_of, marked_none, left_none}
use Rattle.overlap_law.proofs.OpenItemsInRuns.{fewer_make}

-- a block of a disk has an item of a request
pub record HasItemOf (req : ℕ) (ledger : Ledger) (vid : ℕ) : Type 0 where
  pub block : ℕ
  pub has : has_block (ledger.disks vid) block ≡ true
  pub item : list_any (is_item_of req) (items_in (ledger.disks vid) block) ≡ true

-- whether an event begins a write of the request on the disk
abbrev pub begins_here : ℕ → ℕ → HistEvent → Bool
begins_here req vid event = begins_write_of req event && begins_by_others vid (λ (q : ℕ). false) event

none_left : (a b : Bool) → a ≡ false → (a && b) ≡ false
none_left a b is = λ i. is i && b

none_right : (a b : Bool) → b ≡ false → (a && b) ≡ false
none_right true b is = is
none_right false b is = refl

-- it doesn't where the request begins none, or nobody does there
pub none_of_request : (req vid : ℕ) (events : List HistEvent) → list_any (begins_write_of req) events ≡ false
    → list_any (begins_here req vid) events ≡ false
none_of_request req vid [] none = refl
none_of_request req vid (event ∷ later) none =
    let parts = or_parts (begins_write_of req event) (list_any (begins_write_of req) later) none in
    let first = none_left (begins_write_of req event) (begins_by_others vid (λ (q : ℕ). false) event) parts.0 in
    let rest = none_of_request req vid later parts.1 in
    λ i. first i || rest i

pub none_on_disk : (req vid : ℕ) (events : List HistEvent) → list_any (begins_by_others vid (λ (q : ℕ). false)) events ≡ false
    → list_any (begins_here req vid) events ≡ false
none_on_disk req vid [] none = refl
none_on_disk req vid (event ∷ later) none =
    let parts = or_parts (begins_by_others vid (λ (q : ℕ). false) event)
    (list_any (begins_by_others vid (λ (q : ℕ). false)) later) none in
    let first = none_right (begins_write_of req event) (begins_by_others vid (λ (q : ℕ). false) event) parts.0 in
    let rest = none_on_disk req vid later parts.1 in
    λ i. first i || rest i

-- ---- events that make no disk, and begin no write of the request there

module _ (req vid : ℕ) where
  abbrev HasNone : List Item → Type 0
  HasNone items = list_any (is_item_of req) items ≡ false

  one_more : (other : ℕ) (coded : Bool) (bytes : List ℕ) (items : List Item) → (other == req) ≡ false → HasNone items
      → HasNone (items ++ new_item other coded bytes ∷ [])
  one_more other coded bytes items apart none =
      list_any-append (is_item_of req) items (new_item other coded bytes ∷ []) ∙ (λ i. none i || (apart i || false))

  start_none : (other disk at block : ℕ) (coded : Bool) (bytes : List ℕ) (items : List Item)
      → ((other == req) && ((disk == vid) && not false)) ≡ false → HasNone items
      → HasNone (items_then vid block (WriteStart other disk at coded bytes) items)
  start_none other disk at block coded bytes items harmless none = by_request (other == req) refl
    where
      by_disk : (b : Bool) → (disk == vid) ≡ b → (true && (b && not false)) ≡ false
          → HasNone (items_then vid block (WriteStart other disk at coded bytes) items)
      by_disk true here never = absurd (cc (never))
      by_disk false apart never =
          subst HasNone
          (ap (λ (b : Bool). cond (b && (block == at)) (items ++ new_item other coded bytes ∷ []) items) (sym (apart_back disk vid apart)))
          none

      by_block : (b : Bool) → (other == req) ≡ false → HasNone (cond b (items ++ new_item other coded bytes ∷ []) items)
      by_block true apart = one_more other coded bytes items apart none
      by_block false apart = none

      by_request : (b : Bool) → (other == req) ≡ b → HasNone (items_then vid block (WriteStart other disk at coded bytes) items)
      by_request true own =
          by_disk (disk == vid) refl (ap (λ (b : Bool). b && ((disk == vid) && not false)) (sym own) ∙ harmless)
      by_request false apart = by_block ((vid == disk) && (block == at)) apart

  none_stays : (block : ℕ) (event : HistEvent) (items : List Item) → begins_here req vid event ≡ false → HasNone items
      → HasNone (items_then vid block event items)
  none_stays block (Create disk blocks) items harmless none = none
  none_stays block (Copy old new) items harmless none = none
  none_stays block (Delete disk) items harmless none = none
  none_stays block (WriteStart other disk at coded bytes) items harmless none =
      start_none other disk at block coded bytes items harmless none
  none_stays block (WriteDone other) items harmless none = marked_none Acknowledged other req items none
  none_stays block (WriteRefused other) items harmless none = left_none (λ item. not (is_item_of other item)) req items none
  none_stays block (WriterLost other) items harmless none = marked_none Lost other req items none
  none_stays block (Read disk at bytes) items harmless none = none

  -- what a block has then it had before
  pub item_was : (ledger : Ledger) (grown : List HistEvent) → list_any (begins_by_others vid (λ (q : ℕ). true)) grown ≡ false
      → list_any (begins_here req vid) grown ≡ false → HasItemOf req (fold ledger_after ledger grown) vid → HasItemOf req ledger vid
  item_was ledger grown makes here is =
      record { block = is.block; has = had; item = by_value (list_any (is_item_of req) (items_in (ledger.disks vid) is.block)) refl }
    where
      none : list_any (makes_disk vid is.block) grown ≡ false
      none = fewer_make (λ (q : ℕ). true) vid is.block grown makes

      had : has_block (ledger.disks vid) is.block ≡ true
      had =
          has_alike vid is.block ((fold ledger_after ledger grown).disks vid) (ledger.disks vid)
          (blocks_along vid is.block grown ledger none)
          ∙ is.has

      by_value : (b : Bool) → list_any (is_item_of req) (items_in (ledger.disks vid) is.block) ≡ b
          → list_any (is_item_of req) (items_in (ledger.disks vid) is.block) ≡ true
      by_value true is_so = is_so
      by_value false isnt =
          let then = kept_along vid is.block HasNone (begins_here req vid) (none_stays is.block) grown ledger none here had isnt in
          absurd (both_ways (list_any (is_item_of req) (items_in ((fold ledger_after ledger grown).disks vid) is.block)) then is.item)

-- ---- an entry

module _ (req : ℕ) (log : List Entry) (ledger : Ledger) (vid : ℕ) where
  -- the disk had it, or the one that it is copied from
  abbrev pub ComesFrom : List HistEvent → Type 0
  ComesFrom added = HasItemOf req ledger vid ⊎ ((old : ℕ) × (added ≡ Copy old vid ∷ []) × HasItemOf req ledger old)

  made_from : (id blocks : ℕ) → HasItemOf req (ledger_after ledger (Create id blocks)) vid → HasItemOf req ledger vid
  made_from id blocks is = by_test (vid == id) is.has is.item
    where
      new : Option Disk
      new = Some (record { blocks = blocks; items = λ block. zeros_item ∷ []; deleted = false })

      by_test : (b : Bool) → has_block (cond b new (ledger.disks vid)) is.block ≡ true
          → list_any (is_item_of req) (items_in (cond b new (ledger.disks vid)) is.block) ≡ true → HasItemOf req ledger vid
      by_test true has item = absurd (cc (item))
      by_test false has item = record { block = is.block; has = has; item = item }

  -- a disk that is alike but for a mark
  alike_has : (id block : ℕ) (deleted : Bool) (o : Option Disk) → ledger.disks id ≡ o
      → has_block (option_map (λ (disk : Disk). record disk { deleted = deleted }) o) block ≡ true
      → list_any (is_item_of req) (items_in (option_map (λ (disk : Disk). record disk { deleted = deleted }) o) block) ≡ true
      → HasItemOf req ledger id
  alike_has id block deleted None there has item = absurd (cc (has))
  alike_has id block deleted (Some disk) there has item = record {
    block = block;
    has = ap (λ (o : Option Disk). has_block o block) there ∙ has;
    item = ap (λ (o : Option Disk). list_any (is_item_of req) (items_in o block)) there ∙ item;
  }

  copied_from : (old id : ℕ) → HasItemOf req (ledger_after ledger (Copy old id)) vid → ComesFrom (Copy old id ∷ [])
  copied_from old id is = by_test (vid == id) refl is.has is.item
    where
      new : Option Disk
      new = option_map (λ (disk : Disk). record disk { deleted = false }) (ledger.disks old)

      by_test : (b : Bool) → (vid == id) ≡ b → has_block (cond b new (ledger.disks vid)) is.block ≡ true
          → list_any (is_item_of req) (items_in (cond b new (ledger.disks vid)) is.block) ≡ true → ComesFrom (Copy old id ∷ [])
      by_test true same has item =
          inr (
            old,
            ap (λ (k : ℕ). Copy old k ∷ []) (sym (eqb-true vid id same)),
            alike_has old is.block false (ledger.disks old) refl has item,
          )
      by_test false apart has item = inl (record { block = is.block; has = has; item = item })

  deleted_from : (id : ℕ) → HasItemOf req (ledger_after ledger (Delete id)) vid → HasItemOf req ledger vid
  deleted_from id is = by_test (vid == id) refl is.has is.item
    where
      new : Option Disk
      new = option_map (λ (disk : Disk). record disk { deleted = true }) (ledger.disks id)

      by_test : (b : Bool) → (vid == id) ≡ b → has_block (cond b new (ledger.disks vid)) is.block ≡ true
          → list_any (is_item_of req) (items_in (cond b new (ledger.disks vid)) is.block) ≡ true → HasItemOf req ledger vid
      by_test true same has item =
          subst (HasItemOf req ledger) (sym (eqb-true vid id same)) (alike_has id is.block true (ledger.disks id) refl has item)
      by_test false apart has item = record { block = is.block; has = has; item = item }

  abbrev From : List HistEvent → Type 0
  From added = HasItemOf req (fold ledger_after ledger added) vid → ComesFrom added

  made : (id : Vid) (o : Option Header) → From (option_map_or (disk_made id) o [])
  made id None is = inl is
  made id (Some header) is = inl (made_from id.0 _ is)

  cloned : (id : Vid) (o : Option Header) → From (option_map_or (disk_cloned id) o [])
  cloned id None is = inl is
  cloned id (Some header) is = by_parent header.parent is
    where
      by_parent : (o : Option Vid) → From (option_map_or (λ (parent : Vid). Copy parent.0 id.0 ∷ []) o [])
      by_parent None is = inl is
      by_parent (Some parent) is = copied_from parent.0 id.0 is

  by_entry : (entry : Entry) (id : Vid) → From (granted_adds log id entry)
  by_entry (entries.Format members) id is = inl is
  by_entry (entries.Join node zone vnodes) id is = inl is
  by_entry (entries.Leave node) id is = inl is
  by_entry (entries.Reweight node vnodes) id is = inl is
  by_entry (entries.Recovered node epoch) id is = inl is
  by_entry (entries.Reserve by session name origin) id is = inl is
  by_entry (entries.Publish by of) id is = made id (granted_header log id) is
  by_entry (entries.Clone by of) id is = cloned id (granted_header log id) is
  by_entry (entries.Snapshot by old of) id is = copied_from old.0 id.0 is
  by_entry (entries.Delete by session name tag) id is = inl (deleted_from id.0 is)
  by_entry (entries.Lock by session name tag) id is = inl is
  by_entry (entries.Unlock by session of) id is = inl is

  pub entry_from : (entry : Entry) → HasItemOf req (fold ledger_after ledger (entry_adds log entry)) vid → ComesFrom (entry_adds log entry)
  unfolding entry_adds
  entry_from entry = by_decision (decision_after log entry)
    where
      by_decision : (d : Decision) → From (decided_adds log entry d)
      by_decision decisions.None is = inl is
      by_decision (decisions.Granted id) is = by_entry entry id is
      by_decision (decisions.Refused cause) is = inl is
