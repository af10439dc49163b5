-- How the items of a block go on as a history gets an event: what stands, whether the block is torn, and what may be read of it.
use Rattle.std.proofs.Common.{◌≡◌, ◌⊎◌, inl, inr, ⊎_elim, ℕ, suc, zero, ◌&&◌, not, Bool, true, false, cond, List, [], ◌∷◌, ◌++◌, map}
use Rattle.std.proofs.Common.{filter, Option, Some, slice_get, refl, sym, ap, subst, ◌∙◌}
use Rattle.std.specs.List.{list_any}
use Rattle.std.specs.Str.{bytes_eq}
use Rattle.std.proofs.lemmas.Bool.{both_ways, or_parts, or_from}
use Rattle.std.proofs.lemmas.List.Folds.{list_any-append}
use Rattle.std.proofs.lemmas.Option.{same_Some}
use Rattle.std.proofs.lemmas.Slice.Eq.{bytes_eq-Decides}
use Rattle.disk_history.specs.Legal.{is_acknowledged, is_writer_lost, is_torn, standing}
use Rattle.disk_history.specs.Ledger.{Mark, Open, Lost, Item, is_item_of, item_with_mark}
use Rattle.overlap_law.specs.Attempts.{AttemptRecord}
use Rattle.overlap_law.specs.StayingBlocks.{WasServed, Stays, MayStay}
use Rattle.overlap_law.proofs.AttemptLists.{got_still, map_got}
use Rattle.overlap_law.proofs.ItemsStayOpen.{item_of, marked_request, marked_bytes, marked_other}
use Rattle.overlap_law.proofs.StandingItems.{stands_behind, stands_among, changed_stand, left_stand, still_left}

pub same_bytes : (bytes : List ℕ) → bytes_eq bytes bytes ≡ true
same_bytes bytes = (bytes_eq-Decides bytes bytes).1 refl

-- what is torn
abbrev breaks : Item → Bool
breaks item = item.coded && is_writer_lost item

open_whole : (item : Item) → item.mark ≡ Open → breaks item ≡ false
open_whole item unended = ap (λ (m : Mark). item.coded && is_writer_lost (record item { mark = m })) unended ∙ never item.coded
  where
    never : (b : Bool) → (b && false) ≡ false
    never true = refl
    never false = refl

open_unacknowledged : (item : Item) → item.mark ≡ Open → is_acknowledged item ≡ false
open_unacknowledged item unended = ap (λ (m : Mark). is_acknowledged (record item { mark = m })) unended

-- a list that has no more than another has none either
none_of : {X : Type 0} (test : X → Bool) (xs : List X) → ((place : ℕ) (x : X) → slice_get xs place ≡ Some x → test x ≡ false)
    → list_any test xs ≡ false
none_of test [] all = refl
none_of test (x ∷ xs) all =
    or_from (test x) (list_any test xs) (all zero x refl) (none_of test xs (λ place y at. all (suc place) y at))

none_at : {X : Type 0} (test : X → Bool) (xs : List X) → list_any test xs ≡ false → (place : ℕ) (x : X) → slice_get xs place ≡ Some x
    → test x ≡ false
none_at test [] none place x at = absurd (cc (at))
none_at test (y ∷ xs) none zero x at = ap test (sym (same_Some y x at)) ∙ (or_parts (test y) (list_any test xs) none).0
none_at test (y ∷ xs) none (suc place) x at = none_at test xs (or_parts (test y) (list_any test xs) none).1 place x at

module _ (attempts : List AttemptRecord) where
  -- how a block's items go on: it isn't torn newly, and what may be read by all but one may be so still
  pub record GoOn (Apart : Option ℕ → Type 0) (items later : List Item) : Type 0 where
    pub whole : is_torn later ≡ false → is_torn items ≡ false
    pub stay : (by : Option ℕ) (bytes : List ℕ) → Apart by → MayStay attempts items by bytes → MayStay attempts later by bytes

  abbrev pub All : Option ℕ → Type 0
  All by = Unit {0}

  -- the same items stand
  pub alike_go_on : (items later : List Item) → standing later ≡ standing items → GoOn All items later
  alike_go_on items later alike = record {
    whole = λ whole. ap (list_any breaks) (sym alike) ∙ whole;
    stay = λ by bytes apart may. record {
      place = may.place;
      item = may.item;
      among = ap (λ (list : List Item). slice_get list may.place) alike ∙ may.among;
      same = may.same;
      stays = may.stays;
    };
  }

  -- an open item more
  pub more_go_on : (items : List Item) (item : Item) → item.mark ≡ Open → GoOn All items (items ++ item ∷ [])
  more_go_on items item unended = record {
    whole = λ whole. (or_parts (list_any breaks (standing items)) (list_any breaks (item ∷ []))
        (sym (list_any-append breaks (standing items) (item ∷ [])) ∙ sym (ap (list_any breaks) behind) ∙ whole)).0;
    stay = λ by bytes apart may. record {
      place = may.place;
      item = may.item;
      among = ap (λ (list : List Item). slice_get list may.place) behind ∙ got_still (standing items) item may.place may.item may.among;
      same = may.same;
      stays = may.stays;
    };
  }
    where
      behind : standing (items ++ item ∷ []) ≡ standing items ++ item ∷ []
      behind = stands_behind items item (open_unacknowledged item unended)

  module _ (req : ℕ) (items : List Item)
      (unended : (place : ℕ) (item : Item) → slice_get items place ≡ Some item → is_item_of req item ≡ true → item.mark ≡ Open) where
    -- an item of the request isn't acknowledged
    unacknowledged : (place : ℕ) (item : Item) → slice_get items place ≡ Some item → is_item_of req item ≡ true
        → is_acknowledged item ≡ false
    unacknowledged place item at is = open_unacknowledged item (unended place item at is)

    -- its writer is lost
    abbrev lost : Item → Item
    lost item = item_with_mark Lost req item

    lost_stand : standing (map lost items) ≡ map lost (standing items)
    lost_stand = changed_stand lost items (λ place item at. by_test item (is_item_of req item) refl (unacknowledged place item at))
      where
        by_test : (item : Item) (b : Bool) → is_item_of req item ≡ b → (is_item_of req item ≡ true → is_acknowledged item ≡ false)
            → is_acknowledged (cond b (record item { mark = Lost }) item) ≡ is_acknowledged item
        by_test item true is un = sym (un is)
        by_test item false is un = refl

    lost_breaks : (item : Item) → breaks (lost item) ≡ false → breaks item ≡ false
    lost_breaks item whole = by_test (is_item_of req item) whole
      where
        by_coded : (c : Bool) (m : Bool) → (c && true) ≡ false → (c && m) ≡ false
        by_coded true m is = absurd (cc (is))
        by_coded false m is = refl

        by_test : (b : Bool) → breaks (cond b (record item { mark = Lost }) item) ≡ false → breaks item ≡ false
        by_test true is = by_coded item.coded (is_writer_lost item) is
        by_test false is = is

    pub lost_go_on : GoOn All items (map lost items)
    lost_go_on = record {
      whole = λ whole. none_of breaks (standing items) (λ place item at.
          lost_breaks item (none_at breaks (map lost (standing items)) (ap (list_any breaks) (sym lost_stand) ∙ whole) place (lost item)
          (map_got lost (standing items) place item at)));
      stay = λ by bytes apart may. record {
        place = may.place;
        item = lost may.item;
        among = ap (λ (list : List Item). slice_get list may.place) lost_stand
            ∙ map_got lost (standing items) may.place may.item may.among;
        same = ap (λ (b : List ℕ). bytes_eq b bytes) (marked_bytes Lost req may.item) ∙ may.same;
        stays = ⊎_elim
            (λ (own : may.item.request ≡ by). inl (marked_request Lost req may.item ∙ own))
            (λ (stays : Stays attempts may.item). inr (still_stays may.place may.item may.among stays))
            may.stays;
      };
    }
      where
        still_acknowledged : (place : ℕ) (item : Item) → slice_get items place ≡ Some item → is_acknowledged item ≡ true
            → Stays attempts (lost item)
        still_acknowledged place item at done = by_test (is_item_of req item) refl
          where
            by_test : (b : Bool) → is_item_of req item ≡ b → Stays attempts (lost item)
            by_test true is = absurd (both_ways (is_acknowledged item) (unacknowledged place item at is) done)
            by_test false isnt = inr (inl (ap is_acknowledged (marked_other Lost req item isnt) ∙ done))

        still_stays : (may_place : ℕ) (item : Item) → slice_get (standing items) may_place ≡ Some item → Stays attempts item
            → Stays attempts (lost item)
        still_stays may_place item among (inl none) = inl (marked_request Lost req item ∙ none)
        still_stays may_place item among (inr (inl done)) =
            let (place, at) = stands_among items may_place item among in still_acknowledged place item at done
        still_stays may_place item among (inr (inr (other, is, served))) = inr (inr (other, marked_request Lost req item ∙ is, served))

    -- it is refused, of which nothing was served
    abbrev other_than : Item → Bool
    other_than item = not (is_item_of req item)

    left_items : standing (filter other_than items) ≡ filter other_than (standing items)
    left_items = left_stand other_than items (λ place item at gone. unacknowledged place item at (by_not (is_item_of req item) gone))
      where
        by_not : (b : Bool) → not b ≡ false → b ≡ true
        by_not true is = refl
        by_not false is = absurd (cc (is))

    abbrev IsAnother : Option ℕ → Type 0
    IsAnother by = by ≡ Some req → ⊥

    pub refused_go_on : (WasServed attempts req → ⊥) → GoOn IsAnother items (filter other_than items)
    refused_go_on unserved = record {
      whole = λ whole. none_of breaks (standing items) (λ place item at. by_test place item at whole (is_item_of req item) refl);
      stay = λ by bytes apart may.
          let (at, there) = still_left other_than (standing items) may.place may.item may.among
          (by_kept may.item (is_item_of req may.item) refl
          (λ is. stands_no_more by bytes apart may is)) in
          record {
            place = at;
            item = may.item;
            among = ap (λ (list : List Item). slice_get list at) left_items ∙ there;
            same = may.same;
            stays = may.stays;
          };
    }
      where
        by_test : (place : ℕ) (item : Item) → slice_get (standing items) place ≡ Some item → is_torn (filter other_than items) ≡ false
            → (b : Bool) → is_item_of req item ≡ b → breaks item ≡ false
        by_test place item among whole true is =
            let (at, there) = stands_among items place item among in open_whole item (unended at item there is)
        by_test place item among whole false isnt =
            let (at, there) = still_left other_than (standing items) place item among (ap not isnt) in
            none_at breaks (filter other_than (standing items)) (ap (list_any breaks) (sym left_items) ∙ whole) at item there

        by_kept : (item : Item) (b : Bool) → is_item_of req item ≡ b → (is_item_of req item ≡ true → ⊥) → not (is_item_of req item) ≡ true
        by_kept item true is gone = absurd (gone is)
        by_kept item false isnt gone = ap not isnt

        stands_no_more : (by : Option ℕ) (bytes : List ℕ) → IsAnother by → (may : MayStay attempts items by bytes)
            → is_item_of req may.item ≡ true → ⊥
        stands_no_more by bytes apart may is = by_stays may.stays
          where
            of : may.item.request ≡ Some req
            of = item_of req may.item is

            by_stays : (may.item.request ≡ by) ⊎ Stays attempts may.item → ⊥
            by_stays (inl own) = apart (sym own ∙ of)
            by_stays (inr (inl none)) = cc (none, of)
            by_stays (inr (inr (inl done))) =
                let (place, at) = stands_among items may.place may.item may.among in
                both_ways (is_acknowledged may.item) (unacknowledged place may.item at is) done
            by_stays (inr (inr (inr (other, own, served)))) =
                unserved (subst (WasServed attempts) (same_Some other req (sym own ∙ of)) served)
