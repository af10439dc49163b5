-- As long as a request hasn't ended its items are open: whatever else a history gets leaves their marks.
use Rattle.std.proofs.Common.{◌≡◌, ⊎_elim, ℕ, suc, zero, ◌==◌, ◌||◌, not, Bool, true, false, cond, List, [], ◌∷◌, ◌++◌, map, filter, fold}
use Rattle.std.proofs.Common.{Option, Some, None, option_map, slice_get, refl, sym, ap, ◌∙◌}
use Rattle.std.specs.Option.{option_map_or}
use Rattle.std.proofs.lemmas.Bool.{eqb-true, eq-eqb, both_ways}
use Rattle.std.proofs.lemmas.Option.{same_Some}
use Rattle.disk_history.specs.declared.event.HistEvent.{HistEvent}
use Rattle.disk_history.specs.declared.event.HistEvent.TheVariants.{Create, Copy, Delete, WriteStart, WriteDone, WriteRefused, WriterLost}
use Rattle.disk_history.specs.declared.event.HistEvent.TheVariants.{Read}
use Rattle.disk_history.specs.Changes.{items_in}
use Rattle.disk_history.specs.Ledger.{Mark, Open, Acknowledged, Lost, Item, Disk, Ledger, WriteRequest, zeros_item, empty_ledger}
use Rattle.disk_history.specs.Ledger.{is_item_of, item_with_mark, changed_at, with_item, with_ended_request, has_block, ledger_after}
use Rattle.overlap_law.specs.Headline.{ledger_of}
use Rattle.overlap_law.specs.StayingBlocks.{ItemsAreOpen}
use Rattle.overlap_law.proofs.AttemptLists.{got_more, got_map}

-- ---- lists

-- what is left of a list was in it
pub left_was : {X : Type 0} (keeps : X → Bool) (xs : List X) (place : ℕ) (x : X) → slice_get (filter keeps xs) place ≡ Some x
    → (at : ℕ) × (slice_get xs at ≡ Some x)
left_was keeps [] place x is = absurd (cc (is))
left_was {X} keeps (y ∷ xs) place x is = by_test (keeps y) place (λ p there. left_was keeps xs p x there) is
  where
    by_test : (b : Bool) (place : ℕ) → ((p : ℕ) → slice_get (filter keeps xs) p ≡ Some x → (at : ℕ) × (slice_get xs at ≡ Some x))
        → slice_get (cond b (y ∷ filter keeps xs) (filter keeps xs)) place ≡ Some x → (at : ℕ) × (slice_get (y ∷ xs) at ≡ Some x)
    by_test true zero further is = (zero, is)
    by_test true (suc place) further is = let (at, was) = further place is in (suc at, was)
    by_test false place further is = let (at, was) = further place is in (suc at, was)

-- ---- items

-- whose item it is
pub item_of : (req : ℕ) (item : Item) → is_item_of req item ≡ true → item.request ≡ Some req
item_of req item is = by_request item.request is
  where
    by_request : (o : Option ℕ) → option_map_or (λ number. number == req) o false ≡ true → o ≡ Some req
    by_request None is = absurd (cc (is))
    by_request (Some number) is = ap (λ (n : ℕ). Some n) (eqb-true number req is)

pub own_item : (req : ℕ) (item : Item) → item.request ≡ Some req → is_item_of req item ≡ true
own_item req item is = ap (λ (o : Option ℕ). option_map_or (λ number. number == req) o false) is ∙ eq-eqb req req refl

-- of whom an item is isn't changed by marks, nor are its bytes
pub marked_request : (mark : Mark) (other : ℕ) (item : Item) → (item_with_mark mark other item).request ≡ item.request
marked_request mark other item = by_test (is_item_of other item)
  where
    by_test : (b : Bool) → (cond b (record item { mark = mark }) item).request ≡ item.request
    by_test true = refl
    by_test false = refl

pub marked_bytes : (mark : Mark) (other : ℕ) (item : Item) → (item_with_mark mark other item).bytes ≡ item.bytes
marked_bytes mark other item = by_test (is_item_of other item)
  where
    by_test : (b : Bool) → (cond b (record item { mark = mark }) item).bytes ≡ item.bytes
    by_test true = refl
    by_test false = refl

-- an item of another request keeps its mark
pub marked_other : (mark : Mark) (other : ℕ) (item : Item) → is_item_of other item ≡ false → item_with_mark mark other item ≡ item
marked_other mark other item isnt = ap (λ (b : Bool). cond b (record item { mark = mark }) item) isnt

-- an item is of one request
pub of_one : (req other : ℕ) (item : Item) → is_item_of req item ≡ true → (req == other) ≡ false → is_item_of other item ≡ false
of_one req other item is apart =
    ap (λ (o : Option ℕ). option_map_or (λ number. number == other) o false) (item_of req item is) ∙ apart

-- ---- one event

-- of a block, for a request
abbrev AreOpenIn : ℕ → Option Disk → Type 0
AreOpenIn req found = (block place : ℕ) (item : Item) → slice_get (items_in found block) place ≡ Some item → is_item_of req item ≡ true
    → item.mark ≡ Open

module _ (req : ℕ) where
  changed_open : (place : ℕ) (new : Option Disk) (disks : ℕ → Option Disk) → AreOpenIn req new → ((disk : ℕ) → AreOpenIn req (disks disk))
      → (disk : ℕ) → AreOpenIn req (changed_at place new disks disk)
  changed_open place new disks own all disk = by_test (disk == place)
    where
      by_test : (b : Bool) → AreOpenIn req (cond b new (disks disk))
      by_test true = own
      by_test false = all disk

  new_open : (blocks : ℕ) → AreOpenIn req (Some (record { blocks = blocks; items = λ block. zeros_item ∷ []; deleted = false }))
  new_open blocks block zero item got is =
      let none : is_item_of req item ≡ false = ap (is_item_of req) (sym (same_Some zeros_item item got)) in
      absurd (both_ways (is_item_of req item) none is)
  new_open blocks block (suc place) item got is = absurd (cc (got))

  copied_open : (deleted : Bool) (found : Option Disk) → AreOpenIn req found
      → AreOpenIn req (option_map (λ (disk : Disk). record disk { deleted = deleted }) found)
  copied_open deleted None all = all
  copied_open deleted (Some disk) all = all

  item_open : (other block : ℕ) (bytes : List ℕ) (coded : Bool) (found : Option Disk) → AreOpenIn req found
      → AreOpenIn req (option_map (with_item block (record { request = Some other; bytes = bytes; coded = coded; mark = Open })) found)
  item_open other block bytes coded None all = all
  item_open other block bytes coded (Some disk) all = λ at. by_test (at == block) at
    where
      new : Item
      new = record { request = Some other; bytes = bytes; coded = coded; mark = Open }

      by_test : (b : Bool) (at place : ℕ) (item : Item)
          → slice_get (cond b (disk.items block ++ new ∷ []) (disk.items at)) place ≡ Some item
          → is_item_of req item ≡ true → item.mark ≡ Open
      by_test true at place item got is = ⊎_elim
          (λ (old : slice_get (disk.items block) place ≡ Some item). all block place item old is)
          (λ (own : (place ≡ _) × (new ≡ item)). ap (λ (i : Item). i.mark) (sym own.1))
          (got_more (disk.items block) new place item got)
      by_test false at place item got is = all at place item got is

  marked_open : (mark : Mark) (other : ℕ) (found : Option Disk) → (req == other) ≡ false → AreOpenIn req found
      → AreOpenIn req (option_map
      (λ (disk : Disk). record disk { items = λ block. map (item_with_mark mark other) (disk.items block) }) found)
  marked_open mark other None apart all block place item got is = all block place item got is
  marked_open mark other (Some disk) apart all block place item got is =
      let (was, at, same) = got_map (item_with_mark mark other) (disk.items block) place item got in
      let own : is_item_of req was ≡ true
      = ap (λ (o : Option ℕ). option_map_or (λ number. number == req) o false)
      (sym (marked_request mark other was) ∙ ap (λ (i : Item). i.request) same) ∙ is in
      let kept : item_with_mark mark other was ≡ was = marked_other mark other was (of_one req other was own apart) in
      ap (λ (i : Item). i.mark) (sym same ∙ kept) ∙ all block place was at own

  left_open : (keeps : Item → Bool) (found : Option Disk) → AreOpenIn req found
      → AreOpenIn req (option_map (λ (disk : Disk). record disk { items = λ block. filter keeps (disk.items block) }) found)
  left_open keeps None all block place item got is = all block place item got is
  left_open keeps (Some disk) all block place item got is =
      let (at, was) = left_was keeps (disk.items block) place item got in
      all block at item was is

  -- who isn't ended behind an end is another one, and wasn't before
  ends : (other : ℕ) (requests : ℕ → WriteRequest) → (with_ended_request other requests req).ended ≡ false
      → ((req == other) ≡ false) × ((requests req).ended ≡ false)
  ends other requests is = by_test (req == other) refl is
    where
      by_test : (b : Bool) → (req == other) ≡ b → (cond b (record (requests other) { ended = true }) (requests req)).ended ≡ false
          → ((req == other) ≡ false) × ((requests req).ended ≡ false)
      by_test true same is = absurd (cc (is))
      by_test false apart is = (apart, is)

  starts : (other : ℕ) (places : List (ℕ × ℕ)) (stray : Bool) (requests : ℕ → WriteRequest)
      → (changed_at other (record { places = places; stray = stray; ended = (requests other).ended }) requests req).ended ≡ false
      → (requests req).ended ≡ false
  starts other places stray requests is = by_test (req == other) refl is
    where
      by_test : (b : Bool) → (req == other) ≡ b
          → (cond b (record { places = places; stray = stray; ended = (requests other).ended }) (requests req)).ended ≡ false
          → (requests req).ended ≡ false
      by_test true same is = ap (λ (n : ℕ). (requests n).ended) (eqb-true req other same) ∙ is
      by_test false apart is = is

  abbrev AreOpen : Ledger → Type 0
  AreOpen ledger = (ledger.requests req).ended ≡ false → (disk : ℕ) → AreOpenIn req (ledger.disks disk)

  stays_open : (ledger : Ledger) (event : HistEvent) → AreOpen ledger → AreOpen (ledger_after ledger event)
  stays_open ledger (Create disk blocks) all going =
      changed_open disk (Some (record { blocks = blocks; items = λ block. zeros_item ∷ []; deleted = false })) ledger.disks
      (new_open blocks)
      (all going)
  stays_open ledger (Copy old new) all going =
      changed_open new (option_map (λ (disk : Disk). record disk { deleted = false }) (ledger.disks old)) ledger.disks
      (copied_open false (ledger.disks old) (all going old)) (all going)
  stays_open ledger (Delete disk) all going =
      changed_open disk (option_map (λ (disk : Disk). record disk { deleted = true }) (ledger.disks disk)) ledger.disks
      (copied_open true (ledger.disks disk) (all going disk)) (all going)
  stays_open ledger (WriteStart other disk block coded bytes) all going = by_test (has_block (ledger.disks disk) block)
    where
      were : (disk : ℕ) → AreOpenIn req (ledger.disks disk)
      were = all (starts other ((ledger.requests other).places ++ (disk, block) ∷ [])
          ((ledger.requests other).stray || not (has_block (ledger.disks disk) block)) ledger.requests going)

      written : Option Disk
      written = option_map (with_item block (record { request = Some other; bytes = bytes; coded = coded; mark = Open }))
          (ledger.disks disk)

      by_test : (b : Bool) (at : ℕ) → AreOpenIn req (cond b (changed_at disk written ledger.disks) ledger.disks at)
      by_test true = changed_open disk written ledger.disks (item_open other block bytes coded (ledger.disks disk) (were disk)) were
      by_test false = were
  stays_open ledger (WriteDone other) all going =
      let (apart, going) = ends other ledger.requests going in
      λ disk. marked_open Acknowledged other (ledger.disks disk) apart (all going disk)
  stays_open ledger (WriteRefused other) all going =
      let (apart, going) = ends other ledger.requests going in
      λ disk. left_open (λ item. not (is_item_of other item)) (ledger.disks disk) (all going disk)
  stays_open ledger (WriterLost other) all going =
      let (apart, going) = ends other ledger.requests going in
      λ disk. marked_open Lost other (ledger.disks disk) apart (all going disk)
  stays_open ledger (Read disk block bytes) all going = all going

pub open_later : (ledger : Ledger) (event : HistEvent) → ItemsAreOpen ledger → ItemsAreOpen (ledger_after ledger event)
open_later ledger event are = record {
  each = λ req disk block place item going got is.
      stays_open req ledger event
      (λ going disk block place item got is. are.each req disk block place item going got is) going disk block place
      item got is;
}

along : (events : List HistEvent) (ledger : Ledger) → ItemsAreOpen ledger → ItemsAreOpen (fold ledger_after ledger events)
along [] ledger are = are
along (event ∷ events) ledger are = along events (ledger_after ledger event) (open_later ledger event are)

pub items_open : (history : List HistEvent) → ItemsAreOpen (ledger_of history)
items_open history = along history empty_ledger (record { each = λ req disk block place item going got is. absurd (cc (got)) })
