-- Open items of a request in one block, along events of a history that don't make the disk: they come by writes that the request begins
-- there, and where the request ends none is left.
use Rattle.std.proofs.Common.{◌≡◌, ℕ, zero, suc, ◌==◌, ◌&&◌, ◌||◌, not, Bool, true, false, cond, List, [], ◌∷◌, ◌++◌, map, filter, fold}
use Rattle.std.proofs.Common.{Some, slice_get, refl, sym, ap, subst, ◌∙◌}
use Rattle.std.specs.List.{list_any, list_all}
use Rattle.std.proofs.lemmas.Bool.{and_parts, eqb-true, or_from, or_left, or_parts, or_right}
use Rattle.std.proofs.lemmas.List.Folds.{list_any-append}
use Rattle.std.proofs.lemmas.Option.{same_Some}
use Rattle.disk_history.specs.declared.event.HistEvent.{HistEvent}
use Rattle.disk_history.specs.declared.event.HistEvent.TheVariants.{Create, Copy, Delete, WriteStart, WriteDone, WriteRefused, WriterLost}
use Rattle.disk_history.specs.declared.event.HistEvent.TheVariants.{Read}
use Rattle.disk_history.specs.Changes.{items_in}
use Rattle.disk_history.specs.Ledger.{Mark, Open, Acknowledged, Lost, Item, Ledger, has_block, is_item_of, item_with_mark, ledger_after}
use Rattle.overlap_law.specs.DiskEvents.{ends_write_of}
use Rattle.overlap_law.proofs.BlockItems.{blocks_stay, has_alike, items_after, items_then, kept_along, makes_disk, new_item}
use Rattle.overlap_law.proofs.DiskShapes.{ArePlain, is_plain}
use Rattle.overlap_law.proofs.ItemsOfRequests.{begins_write_of}

-- whether a mark is open
abbrev is_open : Mark → Bool
is_open Open = true
is_open Acknowledged = false
is_open Lost = false

-- whether an item is an open one of a request
abbrev pub is_open_of : ℕ → Item → Bool
is_open_of req item = is_item_of req item && is_open item.mark

-- such an item is among those of a block
pub record HasOpenOne (req : ℕ) (items : List Item) : Type 0 where
  pub place : ℕ
  pub item : Item
  pub got : slice_get items place ≡ Some item
  pub of : is_item_of req item ≡ true
  pub mark : item.mark ≡ Open

mark_open : (mark : Mark) → is_open mark ≡ true → mark ≡ Open
mark_open Open is = refl
mark_open Acknowledged is = absurd (cc (is))
mark_open Lost is = absurd (cc (is))

pub one_open : (req : ℕ) (items : List Item) → list_any (is_open_of req) items ≡ true → HasOpenOne req items
one_open req [] is = absurd (cc (is))
one_open req (item ∷ later) is = by_first (is_open_of req item) refl (one_open req later) is
  where
    by_first : (b : Bool) → is_open_of req item ≡ b → (list_any (is_open_of req) later ≡ true → HasOpenOne req later)
        → (b || list_any (is_open_of req) later) ≡ true → HasOpenOne req (item ∷ later)
    by_first true first rest either =
        let parts = and_parts (is_item_of req item) (is_open item.mark) first in
        record { place = 0; item = item; got = refl; of = parts.0; mark = mark_open item.mark parts.1 }
    by_first false first rest either =
        let one = rest either in
        record { place = suc one.place; item = one.item; got = one.got; of = one.of; mark = one.mark }

pub open_there : (req : ℕ) (items : List Item) (place : ℕ) (item : Item) → slice_get items place ≡ Some item → is_item_of req item ≡ true
    → item.mark ≡ Open → list_any (is_open_of req) items ≡ true
open_there req [] place item got of mark = absurd (cc (got))
open_there req (first ∷ later) zero item got of mark =
    or_left (is_open_of req first) (list_any (is_open_of req) later)
    (ap (is_open_of req) (same_Some first item got) ∙ (λ i. of i && is_open (mark i)))
open_there req (first ∷ later) (suc place) item got of mark =
    or_right (is_open_of req first) (list_any (is_open_of req) later) (open_there req later place item got of mark)

-- plain events make no disk
pub plain_makes : (vid block : ℕ) (events : List HistEvent) → ArePlain events → list_any (makes_disk vid block) events ≡ false
plain_makes vid block [] are = refl
plain_makes vid block (event ∷ events) are =
    let parts = and_parts (is_plain event) (list_all is_plain events) are in
    or_from (makes_disk vid block event) (list_any (makes_disk vid block) events) (one event parts.0) (plain_makes vid block events parts.1)
  where
    one : (event : HistEvent) → is_plain event ≡ true → makes_disk vid block event ≡ false
    one (Create disk blocks) is = absurd (cc (is))
    one (Copy old new) is = absurd (cc (is))
    one (Delete disk) is = refl
    one (WriteStart req disk at coded bytes) is = refl
    one (WriteDone req) is = refl
    one (WriteRefused req) is = refl
    one (WriterLost req) is = refl
    one (Read disk at bytes) is = refl

module _ (req : ℕ) where
  abbrev HasNone : List Item → Type 0
  HasNone items = list_any (is_open_of req) items ≡ false

  -- ---- what events leave of items

  -- a mark that isn't open leaves no more
  marked_one : (mark : Mark) → is_open mark ≡ false → (other : ℕ) (item : Item) → is_open_of req item ≡ false
      → is_open_of req (item_with_mark mark other item) ≡ false
  marked_one mark closed other item none = by_own (is_item_of other item) refl
    where
      by_mark : (b : Bool) → is_item_of req item ≡ b → (b && is_open mark) ≡ false
      by_mark true is = closed
      by_mark false is = refl

      by_own : (b : Bool) → is_item_of other item ≡ b → is_open_of req (cond b (record item { mark = mark }) item) ≡ false
      by_own true own = by_mark (is_item_of req item) refl
      by_own false apart = none

  marked_none : (mark : Mark) → is_open mark ≡ false → (other : ℕ) (items : List Item) → HasNone items
      → HasNone (map (item_with_mark mark other) items)
  marked_none mark closed other [] none = refl
  marked_none mark closed other (item ∷ items) none =
      let parts = or_parts (is_open_of req item) (list_any (is_open_of req) items) none in
      let first = marked_one mark closed other item parts.0 in
      let rest = marked_none mark closed other items parts.1 in
      λ i. first i || rest i

  left_none : (keeps : Item → Bool) (items : List Item) → HasNone items → HasNone (filter keeps items)
  left_none keeps [] none = refl
  left_none keeps (item ∷ items) none =
      let parts = or_parts (is_open_of req item) (list_any (is_open_of req) items) none in
      by_test (keeps item) parts.0 (left_none keeps items parts.1)
    where
      by_test : (b : Bool) → is_open_of req item ≡ false → HasNone (filter keeps items)
          → HasNone (cond b (item ∷ filter keeps items) (filter keeps items))
      by_test true first rest = λ i. first i || rest i
      by_test false first rest = rest

  start_none : (vid block other disk at : ℕ) (coded : Bool) (bytes : List ℕ) (items : List Item) → (other == req) ≡ false → HasNone items
      → HasNone (items_then vid block (WriteStart other disk at coded bytes) items)
  start_none vid block other disk at coded bytes items apart none = by_test (vid == disk && block == at)
    where
      by_test : (b : Bool) → HasNone (cond b (items ++ new_item other coded bytes ∷ []) items)
      by_test true =
          list_any-append (is_open_of req) items (new_item other coded bytes ∷ []) ∙ (λ i. none i || ((apart i && true) || false))
      by_test false = none

  none_stays : (vid block : ℕ) (event : HistEvent) (items : List Item) → begins_write_of req event ≡ false → HasNone items
      → HasNone (items_then vid block event items)
  none_stays vid block (Create disk blocks) items begins none = none
  none_stays vid block (Copy old new) items begins none = none
  none_stays vid block (Delete disk) items begins none = none
  none_stays vid block (WriteStart other disk at coded bytes) items begins none =
      start_none vid block other disk at coded bytes items begins none
  none_stays vid block (WriteDone other) items begins none = marked_none Acknowledged refl other items none
  none_stays vid block (WriteRefused other) items begins none = left_none (λ item. not (is_item_of other item)) items none
  none_stays vid block (WriterLost other) items begins none = marked_none Lost refl other items none
  none_stays vid block (Read disk at bytes) items begins none = none

  -- ---- who ends has none

  own_closed : (mark : Mark) → is_open mark ≡ false → (items : List Item) → HasNone (map (item_with_mark mark req) items)
  own_closed mark closed [] = refl
  own_closed mark closed (item ∷ items) =
      let first = one (is_item_of req item) refl in
      let rest = own_closed mark closed items in
      λ i. first i || rest i
    where
      none_of : (b : Bool) → (b && is_open mark) ≡ false
      none_of true = closed
      none_of false = refl

      one : (b : Bool) → is_item_of req item ≡ b → is_open_of req (cond b (record item { mark = mark }) item) ≡ false
      one true own = none_of (is_item_of req item)
      one false apart = ap (λ (b : Bool). b && is_open item.mark) apart

  own_left : (items : List Item) → HasNone (filter (λ item. not (is_item_of req item)) items)
  own_left [] = refl
  own_left (item ∷ items) = by_test (is_item_of req item) refl (own_left items)
    where
      by_test : (b : Bool) → is_item_of req item ≡ b → HasNone (filter (λ item. not (is_item_of req item)) items)
          → HasNone (cond (not b) (item ∷ filter (λ item. not (is_item_of req item)) items)
          (filter (λ item. not (is_item_of req item)) items))
      by_test true own rest = rest
      by_test false apart rest = let first = ap (λ (b : Bool). b && is_open item.mark) apart in λ i. first i || rest i

  end_none : (vid block : ℕ) (event : HistEvent) (items : List Item) → ends_write_of req event ≡ true
      → HasNone (items_then vid block event items)
  end_none vid block (Create disk blocks) items ends = absurd (cc (ends))
  end_none vid block (Copy old new) items ends = absurd (cc (ends))
  end_none vid block (Delete disk) items ends = absurd (cc (ends))
  end_none vid block (WriteStart other disk at coded bytes) items ends = absurd (cc (ends))
  end_none vid block (WriteDone other) items ends =
      subst (λ (k : ℕ). HasNone (map (item_with_mark Acknowledged k) items)) (sym (eqb-true other req ends))
      (own_closed Acknowledged refl items)
  end_none vid block (WriteRefused other) items ends =
      subst (λ (k : ℕ). HasNone (filter (λ item. not (is_item_of k item)) items)) (sym (eqb-true other req ends)) (own_left items)
  end_none vid block (WriterLost other) items ends =
      subst (λ (k : ℕ). HasNone (map (item_with_mark Lost k) items)) (sym (eqb-true other req ends)) (own_closed Lost refl items)
  end_none vid block (Read disk at bytes) items ends = absurd (cc (ends))

  -- ---- along events

  module _ (vid block : ℕ) where
    -- none is left behind events in which it begins none, if it had none
    pub none_behind : (events : List HistEvent) (ledger : Ledger) → list_any (makes_disk vid block) events ≡ false
        → list_any (begins_write_of req) events ≡ false → has_block (ledger.disks vid) block ≡ true
        → list_any (is_open_of req) (items_in (ledger.disks vid) block) ≡ false
        → list_any (is_open_of req) (items_in ((fold ledger_after ledger events).disks vid) block) ≡ false
    none_behind = kept_along vid block HasNone (begins_write_of req) (none_stays vid block)

    -- nor where it ends among them
    pub none_ended : (events : List HistEvent) (ledger : Ledger) → list_any (makes_disk vid block) events ≡ false
        → list_any (begins_write_of req) events ≡ false → has_block (ledger.disks vid) block ≡ true
        → list_any (ends_write_of req) events ≡ true
        → list_any (is_open_of req) (items_in ((fold ledger_after ledger events).disks vid) block) ≡ false
    none_ended [] ledger makes begins has ends = absurd (cc (ends))
    none_ended (event ∷ later) ledger makes begins has ends =
        by_first (ends_write_of req event) refl
        (λ behind. none_ended later (ledger_after ledger event) made.1 begun.1 has_then behind) ends
      where
        made : (makes_disk vid block event ≡ false) × (list_any (makes_disk vid block) later ≡ false)
        made = or_parts (makes_disk vid block event) (list_any (makes_disk vid block) later) makes

        begun : (begins_write_of req event ≡ false) × (list_any (begins_write_of req) later ≡ false)
        begun = or_parts (begins_write_of req event) (list_any (begins_write_of req) later) begins

        has_then : has_block ((ledger_after ledger event).disks vid) block ≡ true
        has_then = has_alike vid block (ledger.disks vid) ((ledger_after ledger event).disks vid)
            (sym (blocks_stay vid block ledger event made.0)) ∙ has

        by_first : (b : Bool) → ends_write_of req event ≡ b
            → (list_any (ends_write_of req) later ≡ true
            → list_any (is_open_of req) (items_in ((fold ledger_after (ledger_after ledger event) later).disks vid) block) ≡ false)
            → (b || list_any (ends_write_of req) later) ≡ true
            → list_any (is_open_of req) (items_in ((fold ledger_after (ledger_after ledger event) later).disks vid) block) ≡ false
        by_first true first rest either =
            none_behind later (ledger_after ledger event) made.1 begun.1 has_then
            (ap (list_any (is_open_of req)) (items_after vid block ledger event made.0 has)
            ∙ end_none vid block event (items_in (ledger.disks vid) block) first)
        by_first false first rest either = rest either
