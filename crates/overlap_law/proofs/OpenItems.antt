-- A request's open item stays among those of its block, as long as the request doesn't end.
use Rattle.std.proofs.Common.{◌≡◌, ℕ, ◌==◌, Bool, true, false, not, ◌&&◌, cond, List, [], ◌∷◌, ◌++◌, map, Contains, Some, refl, ap, subst}
use Rattle.std.proofs.Common.{◌∙◌}
use Rattle.std.specs.Option.{option_map_or}
use Rattle.std.proofs.lemmas.List.Elements.{Contains-append_left, Contains-push}
use Rattle.proof_tools.proofs.Lists.{Contains-filter, Contains-map}
use Rattle.disk_history.specs.declared.event.HistEvent.{HistEvent}
use Rattle.disk_history.specs.declared.event.HistEvent.TheVariants.{Create, Copy, Delete, WriteStart, WriteDone, WriteRefused, WriterLost}
use Rattle.disk_history.specs.declared.event.HistEvent.TheVariants.{Read}
use Rattle.disk_history.specs.Ledger.{Mark, Acknowledged, Lost, Item, is_item_of, item_with_mark}
use Rattle.overlap_law.specs.DiskEvents.{ends_write_of, HasOpenItem}
use Rattle.overlap_law.proofs.BlockItems.{apart_back, new_item, items_then}

module _ (req : ℕ) (bytes : List ℕ) where
  pub open_begins : (coded : Bool) (items : List Item) → HasOpenItem (items ++ new_item req coded bytes ∷ []) req bytes
  open_begins coded items = record {
    item = new_item req coded bytes;
    among = Contains-push items (new_item req coded bytes);
    of = refl;
    mark = refl;
    same = refl;
  }

  -- the item is none of another request's
  not_other : (other : ℕ) (item : Item) → item.request ≡ Some req → (other == req) ≡ false → is_item_of other item ≡ false
  not_other other item of apart =
      ap (λ o. option_map_or (λ (number : ℕ). number == other) o false) of ∙ apart_back other req apart

  unmarked : (mark : Mark) (other : ℕ) (items : List Item) → (other == req) ≡ false → HasOpenItem items req bytes
      → HasOpenItem (map (item_with_mark mark other) items) req bytes
  unmarked mark other items apart has =
      let same : item_with_mark mark other has.item ≡ has.item
      = ap (λ (b : Bool). cond b (record has.item { mark = mark }) has.item) (not_other other has.item has.of apart) in
      record {
        item = has.item;
        among = subst (Contains (map (item_with_mark mark other) items)) same
            (Contains-map (item_with_mark mark other) items has.item has.among);
        of = has.of;
        mark = has.mark;
        same = has.same;
      }

  pub open_stays : (vid block : ℕ) (event : HistEvent) (items : List Item) → ends_write_of req event ≡ false → HasOpenItem items req bytes
      → HasOpenItem (items_then vid block event items) req bytes
  open_stays vid block (Create disk blocks) items other has = has
  open_stays vid block (Copy old new) items other has = has
  open_stays vid block (Delete disk) items other has = has
  open_stays vid block (WriteStart writer disk at coded written) items other has = by_test (vid == disk && block == at)
    where
      more : HasOpenItem (items ++ new_item writer coded written ∷ []) req bytes
      more = record {
        item = has.item;
        among = Contains-append_left items (new_item writer coded written ∷ []) has.item has.among;
        of = has.of;
        mark = has.mark;
        same = has.same;
      }

      by_test : (b : Bool) → HasOpenItem (cond b (items ++ new_item writer coded written ∷ []) items) req bytes
      by_test true = more
      by_test false = has
  open_stays vid block (WriteDone ended) items other has = unmarked Acknowledged ended items other has
  open_stays vid block (WriteRefused ended) items other has = record {
    item = has.item;
    among = Contains-filter (λ item. not (is_item_of ended item)) items has.item has.among
        (ap not (not_other ended has.item has.of other));
    of = has.of;
    mark = has.mark;
    same = has.same;
  }
  open_stays vid block (WriterLost ended) items other has = unmarked Lost ended items other has
  open_stays vid block (Read disk at read) items other has = has
