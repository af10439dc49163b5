-- A request's open item stays among those by which its block may be read, where only such requests begin writes of the block as wait for
-- it, and none of these is done.
use Rattle.std.proofs.Common.{◌≡◌, ℕ, ◌==◌, Bool, true, false, not, ◌&&◌, ◌||◌, cond, List, [], ◌∷◌, ◌++◌, map, filter, fold, Contains}
use Rattle.std.proofs.Common.{Some, refl, sym, ap, subst, ◌∙◌}
use Rattle.std.specs.Option.{option_map_or}
use Rattle.std.proofs.lemmas.Bool.{eqb-true, or_parts}
use Rattle.std.proofs.lemmas.List.{append_assoc, map-append}
use Rattle.std.proofs.lemmas.List.Elements.{Contains-append_left, Contains-push, filter-append}
use Rattle.std.proofs.lemmas.List.Sums.{fold-append}
use Rattle.disk_history.specs.declared.event.HistEvent.{HistEvent}
use Rattle.disk_history.specs.declared.event.HistEvent.TheVariants.{Create, Copy, Delete, WriteStart, WriteDone, WriteRefused, WriterLost}
use Rattle.disk_history.specs.declared.event.HistEvent.TheVariants.{Read}
use Rattle.disk_history.specs.Ledger.{Mark, Open, Acknowledged, Lost, Item, is_item_of, item_with_mark}
use Rattle.disk_history.specs.Legal.{is_acknowledged, standing}
use Rattle.overlap_law.specs.Pieces.{HasItem}
use Rattle.overlap_law.proofs.BlockItems.{apart_back, new_item, items_then}
use Rattle.overlap_law.proofs.RequestsInRuns.{at_place}

-- the last item is one of the request's
pub record IsLastOf (req : ℕ) (items : List Item) : Type 0 where
  pub earlier : List Item
  pub item : Item
  pub is : items ≡ earlier ++ item ∷ []
  pub of : item.request ≡ Some req

module _ (req : ℕ) (waits : ℕ → Bool) where
  -- an open item of the request
  pub record IsOpenOf (item : Item) : Type 0 where
    pub of : item.request ≡ Some req
    pub mark : item.mark ≡ Open

  -- one that isn't acknowledged, of a request that waits for it
  record IsWaiting (item : Item) : Type 0 where
    other : ℕ
    of : item.request ≡ Some other
    waiting : waits other ≡ true
    left : is_acknowledged item ≡ false

  abbrev AreWaiting : List Item → Type 0
  AreWaiting [] = Unit {0}
  AreWaiting (item ∷ items) = IsWaiting item × AreWaiting items

  more_wait : (items : List Item) (item : Item) → IsWaiting item → AreWaiting items → AreWaiting (items ++ item ∷ [])
  more_wait [] item own all = (own, tt)
  more_wait (first ∷ items) item own all = (all.0, more_wait items item own all.1)

  -- ---- an item isn't changed by what happens to another request

  not_of : (own other : ℕ) (item : Item) → item.request ≡ Some own → (own == other) ≡ false → is_item_of other item ≡ false
  not_of own other item of apart = ap (λ o. option_map_or (λ number. number == other) o false) of ∙ apart

  unmarked : (mark : Mark) (other : ℕ) (item : Item) → is_item_of other item ≡ false → item_with_mark mark other item ≡ item
  unmarked mark other item none = ap (λ (b : Bool). cond b (record item { mark = mark }) item) none

  -- what is done is none that waits
  done_apart : (own other : ℕ) → waits own ≡ true → waits other ≡ false → (own == other) ≡ false
  done_apart own other does not_waiting = by_test (own == other) refl
    where
      by_test : (b : Bool) → (own == other) ≡ b → (own == other) ≡ false
      by_test false is = is
      by_test true is = let same = ap waits (eqb-true own other is) in absurd (cc (same, does, not_waiting))

  all_done : (other : ℕ) (items : List Item) → AreWaiting items → waits other ≡ false
      → map (item_with_mark Acknowledged other) items ≡ items
  all_done other [] all apart = refl
  all_done other (item ∷ items) all apart =
      let own = all.0 in
      let first = unmarked Acknowledged other item
      (not_of own.other other item own.of (done_apart own.other other own.waiting apart)) in
      let rest = all_done other items all.1 apart in
      λ i. first i ∷ rest i

  all_lost : (other : ℕ) (items : List Item) → AreWaiting items → AreWaiting (map (item_with_mark Lost other) items)
  all_lost other [] all = tt
  all_lost other (item ∷ items) all = (by_test (is_item_of other item), all_lost other items all.1)
    where
      by_test : (b : Bool) → IsWaiting (cond b (record item { mark = Lost }) item)
      by_test true = record { other = all.0.other; of = all.0.of; waiting = all.0.waiting; left = refl }
      by_test false = all.0

  all_left : (other : ℕ) (items : List Item) → AreWaiting items → AreWaiting (filter (λ item. not (is_item_of other item)) items)
  all_left other [] all = tt
  all_left other (item ∷ items) all = by_test (not (is_item_of other item)) (all_left other items all.1)
    where
      by_test : (b : Bool) → AreWaiting (filter (λ item. not (is_item_of other item)) items)
          → AreWaiting (cond b (item ∷ filter (λ item. not (is_item_of other item)) items)
          (filter (λ item. not (is_item_of other item)) items))
      by_test true rest = (all.0, rest)
      by_test false rest = rest

  -- ---- the request's item, and what waits behind it

  pub record Stands (bytes : List ℕ) (items : List Item) : Type 0 where
    front : List Item
    item : Item
    back : List Item
    is : items ≡ front ++ item ∷ back
    own : IsOpenOf item
    same : item.bytes ≡ bytes
    behind : AreWaiting back

  pub stands_begins : (coded : Bool) (bytes : List ℕ) (items : List Item) → Stands bytes (items ++ new_item req coded bytes ∷ [])
  stands_begins coded bytes items = record {
    front = items;
    item = new_item req coded bytes;
    back = [];
    is = refl;
    own = record { of = refl; mark = refl };
    same = refl;
    behind = tt;
  }

  marked_stands : (bytes : List ℕ) (mark : Mark) (other : ℕ) (items : List Item) → (other == req) ≡ false → (has : Stands bytes items)
      → AreWaiting (map (item_with_mark mark other) has.back) → Stands bytes (map (item_with_mark mark other) items)
  marked_stands bytes mark other items apart has behind =
      let own = unmarked mark other has.item (not_of req other has.item has.own.of (apart_back other req apart)) in
      record {
        front = map (item_with_mark mark other) has.front;
        item = has.item;
        back = map (item_with_mark mark other) has.back;
        is = ap (map (item_with_mark mark other)) has.is
            ∙ map-append (item_with_mark mark other) has.front (has.item ∷ has.back)
            ∙ (λ i. map (item_with_mark mark other) has.front ++ own i ∷ map (item_with_mark mark other) has.back);
        own = has.own;
        same = has.same;
        behind = behind;
      }

  left_stands : (bytes : List ℕ) (other : ℕ) (items : List Item) → (other == req) ≡ false → Stands bytes items
      → Stands bytes (filter (λ item. not (is_item_of other item)) items)
  left_stands bytes other items apart has = record {
    front = filter (λ item. not (is_item_of other item)) has.front;
    item = has.item;
    back = filter (λ item. not (is_item_of other item)) has.back;
    is = ap (filter (λ item. not (is_item_of other item))) has.is
        ∙ filter-append (λ item. not (is_item_of other item)) has.front (has.item ∷ has.back)
        ∙ ap (λ (b : Bool).
        filter (λ item. not (is_item_of other item)) has.front
        ++ cond (not b) (has.item ∷ filter (λ item. not (is_item_of other item)) has.back)
        (filter (λ item. not (is_item_of other item)) has.back))
        (not_of req other has.item has.own.of (apart_back other req apart));
    own = has.own;
    same = has.same;
    behind = all_left other has.back has.behind;
  }

  -- whether an event ends the request, begins a write of the block that doesn't wait for it, or ends one that does
  abbrev pub disturbs : ℕ → ℕ → HistEvent → Bool
  disturbs vid block (Create disk blocks) = false
  disturbs vid block (Copy old new) = false
  disturbs vid block (Delete disk) = false
  disturbs vid block (WriteStart other disk at coded bytes) = (vid == disk && block == at) && not (waits other)
  disturbs vid block (WriteDone other) = other == req || waits other
  disturbs vid block (WriteRefused other) = other == req
  disturbs vid block (WriterLost other) = other == req
  disturbs vid block (Read disk at bytes) = false

  pub stands_stays : (bytes : List ℕ) (vid block : ℕ) (event : HistEvent) (items : List Item) → disturbs vid block event ≡ false
      → Stands bytes items → Stands bytes (items_then vid block event items)
  stands_stays bytes vid block event items calm has = by_event event calm
    where
      by_event : (event : HistEvent) → disturbs vid block event ≡ false → Stands bytes (items_then vid block event items)
      by_event (Create disk blocks) calm = has
      by_event (Copy old new) calm = has
      by_event (Delete disk) calm = has
      by_event (WriteStart writer disk at coded written) calm = by_test (vid == disk && block == at) refl
        where
          waiting : (vid == disk && block == at) ≡ true → (b : Bool) → waits writer ≡ b → waits writer ≡ true
          waiting here true is = is
          waiting here false is =
              let wrong : ((vid == disk && block == at) && not (waits writer)) ≡ true = λ i. here i && not (is i) in
              absurd (cc (wrong, calm))

          by_test : (b : Bool) → (vid == disk && block == at) ≡ b
              → Stands bytes (cond b (items ++ new_item writer coded written ∷ []) items)
          by_test true is = record {
            front = has.front;
            item = has.item;
            back = has.back ++ new_item writer coded written ∷ [];
            is = ap (λ (list : List Item). list ++ new_item writer coded written ∷ []) has.is
                ∙ append_assoc has.front (has.item ∷ has.back) (new_item writer coded written ∷ []);
            own = has.own;
            same = has.same;
            behind = more_wait has.back (new_item writer coded written)
                (record { other = writer; of = refl; waiting = waiting is (waits writer) refl; left = refl }) has.behind;
          }
          by_test false is = has
      by_event (WriteDone ended) calm =
          let parts = or_parts (ended == req) (waits ended) calm in
          marked_stands bytes Acknowledged ended items parts.0 has
          (subst AreWaiting (sym (all_done ended has.back has.behind parts.1)) has.behind)
      by_event (WriteRefused ended) calm = left_stands bytes ended items calm has
      by_event (WriterLost ended) calm = marked_stands bytes Lost ended items calm has (all_lost ended has.back has.behind)
      by_event (Read disk at read) calm = has

  -- ---- where the request alone waits, the last item is one of its own

  last_behind : (front : List Item) (item : Item) (back : List Item) → item.request ≡ Some req → AreWaiting back
      → ((other : ℕ) → waits other ≡ true → other ≡ req) → IsLastOf req (front ++ item ∷ back)
  last_behind front item [] of all only = record { earlier = front; item = item; is = refl; of = of }
  last_behind front item (next ∷ back) of all only =
      subst (IsLastOf req) (append_assoc front (item ∷ []) (next ∷ back))
      (last_behind (front ++ item ∷ []) next back (all.0.of ∙ ap Some (only all.0.other all.0.waiting)) all.1 only)

  pub stands_last : (bytes : List ℕ) (items : List Item) → ((other : ℕ) → waits other ≡ true → other ≡ req) → Stands bytes items
      → IsLastOf req items
  stands_last bytes items only has =
      subst (IsLastOf req) (sym has.is) (last_behind has.front has.item has.back has.own.of has.behind only)

  -- ---- so it is among those by which the block may be read

  abbrev keep : List Item → Item → List Item
  keep kept item = cond (is_acknowledged item) (item ∷ []) (kept ++ item ∷ [])

  open_left : (item : Item) → IsOpenOf item → is_acknowledged item ≡ false
  open_left item is =
      ap (λ (mark : Mark).
      is_acknowledged (record { request = item.request; bytes = item.bytes; coded = item.coded; mark = mark })) is.mark

  kept_behind : (item : Item) (back acc : List Item) → AreWaiting back → Contains acc item → Contains (fold keep acc back) item
  kept_behind item [] acc all there = there
  kept_behind item (next ∷ back) acc all there =
      kept_behind item back (keep acc next) all.1
      (subst (λ (b : Bool). Contains (cond b (next ∷ []) (acc ++ next ∷ [])) item) (sym all.0.left)
      (Contains-append_left acc (next ∷ []) item there))

  pub stands_item : (bytes : List ℕ) (items : List Item) → Stands bytes items → HasItem items req bytes
  stands_item bytes items has =
      let start = fold keep [] has.front in
      let first : Contains (keep start has.item) has.item
      = subst (λ (b : Bool). Contains (cond b (has.item ∷ []) (start ++ has.item ∷ [])) has.item) (sym (open_left has.item has.own))
      (Contains-push start has.item) in
      let all : standing items ≡ fold keep (keep start has.item) has.back
      = ap standing has.is ∙ fold-append keep [] has.front (has.item ∷ has.back) in
      let (place, among) = at_place (standing items) has.item
      (subst (λ (list : List Item). Contains list has.item) (sym all)
      (kept_behind has.item has.back (keep start has.item) has.behind first)) in
      record {
        place = place;
        item = has.item;
        among = among;
        of = has.own.of;
        mark = has.own.mark;
        same = has.same;
      }
