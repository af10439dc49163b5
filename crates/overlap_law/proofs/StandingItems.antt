-- What stands of a block's items, as one is added, as those of a request get another mark, or are taken out.
use Rattle.std.proofs.Common.{◌≡◌, ◌⊎◌, inl, inr, ⊎_elim, ℕ, suc, zero, Bool, true, false, cond, List, [], ◌∷◌, ◌++◌, map, filter, length}
use Rattle.std.proofs.Common.{Some, slice_get, refl, sym, ap, subst, ◌∙◌, append-nil}
use Rattle.std.proofs.lemmas.List.{map-append}
use Rattle.std.proofs.lemmas.List.Elements.{filter-append}
use Rattle.std.proofs.lemmas.Option.{same_Some}
use Rattle.disk_history.specs.Ledger.{Acknowledged, Item, is_item_of, item_with_mark}
use Rattle.disk_history.specs.Legal.{is_acknowledged, standing}
use Rattle.disk_history.proofs.ItemLemmas.{standing-push}
use Rattle.overlap_law.proofs.AttemptLists.{got_more, got_still, got_last}
use Rattle.overlap_law.proofs.ItemsStayOpen.{marked_other}

-- what holds of no elements, and of one more where it holds before
pub by_pushes : {X : Type 0} (P : List X → Type 0) → P [] → ((xs : List X) (x : X) → P xs → P (xs ++ x ∷ [])) → (xs : List X) → P xs
by_pushes {X} P none more xs = later [] xs none
  where
    joined : (before : List X) (x : X) (xs : List X) → (before ++ x ∷ []) ++ xs ≡ before ++ x ∷ xs
    joined [] x xs = refl
    joined (y ∷ before) x xs = ap (λ (rest : List X). y ∷ rest) (joined before x xs)

    later : (before xs : List X) → P before → P (before ++ xs)
    later before [] holds = subst P (sym (append-nil before)) holds
    later before (x ∷ xs) holds = subst P (joined before x xs) (later (before ++ x ∷ []) xs (more before x holds))

-- an item that isn't acknowledged is added behind what stands
pub stands_behind : (items : List Item) (item : Item) → is_acknowledged item ≡ false
    → standing (items ++ item ∷ []) ≡ standing items ++ item ∷ []
stands_behind items item going =
    standing-push items item ∙ ap (λ (b : Bool). cond b (item ∷ []) (standing items ++ item ∷ [])) going

pub stands_alone : (items : List Item) (item : Item) → is_acknowledged item ≡ true → standing (items ++ item ∷ []) ≡ item ∷ []
stands_alone items item done =
    standing-push items item ∙ ap (λ (b : Bool). cond b (item ∷ []) (standing items ++ item ∷ [])) done

-- what stands is among the items
pub stands_among : (items : List Item) (place : ℕ) (item : Item) → slice_get (standing items) place ≡ Some item
    → (at : ℕ) × (slice_get items at ≡ Some item)
stands_among = by_pushes
    (λ (items : List Item). (place : ℕ) (item : Item) → slice_get (standing items) place ≡ Some item
    → (at : ℕ) × (slice_get items at ≡ Some item))
    (λ place item is. absurd (cc (is))) more
  where
    more : (items : List Item) (new : Item)
        → ((place : ℕ) (item : Item) → slice_get (standing items) place ≡ Some item → (at : ℕ) × (slice_get items at ≡ Some item))
        → (place : ℕ) (item : Item) → slice_get (standing (items ++ new ∷ [])) place ≡ Some item
        → (at : ℕ) × (slice_get (items ++ new ∷ []) at ≡ Some item)
    more items new before place item is = by_mark (is_acknowledged new) refl
      where
        own : new ≡ item → (at : ℕ) × (slice_get (items ++ new ∷ []) at ≡ Some item)
        own same = (length items, got_last items new ∙ ap (λ (i : Item). Some i) same)

        only : (place : ℕ) → slice_get (new ∷ []) place ≡ Some item → new ≡ item
        only zero is = same_Some new item is
        only (suc place) is = absurd (cc (is))

        by_mark : (b : Bool) → is_acknowledged new ≡ b → (at : ℕ) × (slice_get (items ++ new ∷ []) at ≡ Some item)
        by_mark true done = own (only place (ap (λ (list : List Item). slice_get list place) (sym (stands_alone items new done)) ∙ is))
        by_mark false going = ⊎_elim
            (λ (old : slice_get (standing items) place ≡ Some item).
            let (at, was) = before place item old in (at, got_still items new at item was))
            (λ (last : (place ≡ length (standing items)) × (new ≡ item)). own last.1)
            (got_more (standing items) new place item
            (ap (λ (list : List Item). slice_get list place) (sym (stands_behind items new going)) ∙ is))

-- ---- other marks

-- where a change leaves whether items are acknowledged, the same ones stand
pub changed_stand : (change : Item → Item) (items : List Item)
    → ((place : ℕ) (item : Item) → slice_get items place ≡ Some item → is_acknowledged (change item) ≡ is_acknowledged item)
    → standing (map change items) ≡ map change (standing items)
changed_stand change = by_pushes
    (λ (items : List Item).
    ((place : ℕ) (item : Item) → slice_get items place ≡ Some item → is_acknowledged (change item) ≡ is_acknowledged item)
    → standing (map change items) ≡ map change (standing items))
    (λ same. refl) more
  where
    more : (items : List Item) (item : Item)
        → (((place : ℕ) (other : Item) → slice_get items place ≡ Some other → is_acknowledged (change other) ≡ is_acknowledged other)
        → standing (map change items) ≡ map change (standing items))
        → ((place : ℕ) (other : Item) → slice_get (items ++ item ∷ []) place ≡ Some other
        → is_acknowledged (change other) ≡ is_acknowledged other)
        → standing (map change (items ++ item ∷ [])) ≡ map change (standing (items ++ item ∷ []))
    more items item before same =
        ap standing (map-append change items (item ∷ [])) ∙ by_mark (is_acknowledged item) refl
      where
        own : is_acknowledged (change item) ≡ is_acknowledged item
        own = same (length items) item (got_last items item)

        were : standing (map change items) ≡ map change (standing items)
        were = before (λ place other at. same place other (got_still items item place other at))

        by_mark : (b : Bool) → is_acknowledged item ≡ b
            → standing (map change items ++ change item ∷ []) ≡ map change (standing (items ++ item ∷ []))
        by_mark true done =
            stands_alone (map change items) (change item) (own ∙ done) ∙ sym (ap (map change) (stands_alone items item done))
        by_mark false going =
            stands_behind (map change items) (change item) (own ∙ going)
            ∙ ap (λ (list : List Item). list ++ change item ∷ []) were
            ∙ sym (map-append change (standing items) (item ∷ []))
            ∙ sym (ap (map change) (stands_behind items item going))

-- ---- some are taken out

pub left_stand : (keeps : Item → Bool) (items : List Item)
    → ((place : ℕ) (item : Item) → slice_get items place ≡ Some item → keeps item ≡ false → is_acknowledged item ≡ false)
    → standing (filter keeps items) ≡ filter keeps (standing items)
left_stand keeps = by_pushes
    (λ (items : List Item).
    ((place : ℕ) (item : Item) → slice_get items place ≡ Some item → keeps item ≡ false → is_acknowledged item ≡ false)
    → standing (filter keeps items) ≡ filter keeps (standing items))
    (λ same. refl) more
  where
    more : (items : List Item) (item : Item)
        → (((place : ℕ) (other : Item) → slice_get items place ≡ Some other → keeps other ≡ false → is_acknowledged other ≡ false)
        → standing (filter keeps items) ≡ filter keeps (standing items))
        → ((place : ℕ) (other : Item) → slice_get (items ++ item ∷ []) place ≡ Some other → keeps other ≡ false
        → is_acknowledged other ≡ false)
        → standing (filter keeps (items ++ item ∷ [])) ≡ filter keeps (standing (items ++ item ∷ []))
    more items item before same = ap standing (filter-append keeps items (item ∷ [])) ∙ by_test (keeps item) refl
      where
        were : standing (filter keeps items) ≡ filter keeps (standing items)
        were = before (λ place other at. same place other (got_still items item place other at))

        -- of the new one alone
        alone : (b : Bool) → keeps item ≡ b → filter keeps (item ∷ []) ≡ cond b (item ∷ []) []
        alone b is = ap (λ (b : Bool). cond b (item ∷ []) []) is

        behind : (b : Bool) → keeps item ≡ b → is_acknowledged item ≡ false
            → filter keeps (standing (items ++ item ∷ [])) ≡ filter keeps (standing items) ++ cond b (item ∷ []) []
        behind b is going =
            ap (filter keeps) (stands_behind items item going) ∙ filter-append keeps (standing items) (item ∷ [])
            ∙ ap (λ (list : List Item). filter keeps (standing items) ++ list) (alone b is)

        by_mark : (m : Bool) → is_acknowledged item ≡ m → keeps item ≡ true
            → standing (filter keeps items ++ item ∷ []) ≡ filter keeps (standing (items ++ item ∷ []))
        by_mark true done is =
            stands_alone (filter keeps items) item done
            ∙ sym (ap (filter keeps) (stands_alone items item done) ∙ alone true is)
        by_mark false going is =
            stands_behind (filter keeps items) item going ∙ ap (λ (list : List Item). list ++ item ∷ []) were ∙ sym (behind true is going)

        by_test : (b : Bool) → keeps item ≡ b
            → standing (filter keeps items ++ cond b (item ∷ []) []) ≡ filter keeps (standing (items ++ item ∷ []))
        by_test true is = by_mark (is_acknowledged item) refl is
        by_test false is =
            ap standing (append-nil (filter keeps items)) ∙ were
            ∙ sym (behind false is (same (length items) item (got_last items item) is) ∙ append-nil (filter keeps (standing items)))

-- what is kept of a list is in what is left
pub still_left : {X : Type 0} (keeps : X → Bool) (xs : List X) (place : ℕ) (x : X) → slice_get xs place ≡ Some x → keeps x ≡ true
    → (at : ℕ) × (slice_get (filter keeps xs) at ≡ Some x)
still_left keeps [] place x is kept = absurd (cc (is))
still_left keeps (y ∷ xs) zero x is kept =
    (zero, ap (λ (b : Bool). slice_get (cond b (y ∷ filter keeps xs) (filter keeps xs)) zero) (ap keeps (same_Some y x is) ∙ kept) ∙ is)
still_left {X} keeps (y ∷ xs) (suc place) x is kept =
    let (at, there) = still_left keeps xs place x is kept in
    by_test (keeps y) at there
  where
    by_test : (b : Bool) (at : ℕ) → slice_get (filter keeps xs) at ≡ Some x
        → (later : ℕ) × (slice_get (cond b (y ∷ filter keeps xs) (filter keeps xs)) later ≡ Some x)
    by_test true at there = (suc at, there)
    by_test false at there = (at, there)

-- ---- a request's items are acknowledged

-- the items of a request, acknowledged
abbrev pub as_acknowledged : ℕ → List Item → List Item
as_acknowledged req items = map (item_with_mark Acknowledged req) items

-- one of a request's items stands, acknowledged
pub record StandsDone (req : ℕ) (items : List Item) : Type 0 where
  pub place : ℕ
  pub item : Item
  pub among : slice_get (standing items) place ≡ Some item
  pub of : is_item_of req item ≡ true
  pub at : ℕ
  pub found : slice_get (standing (as_acknowledged req items)) at ≡ Some (record item { mark = Acknowledged })

-- either one of the request's items stood, and stands acknowledged; or the same items stand as before
pub done_stand : (req : ℕ) (items : List Item) → StandsDone req items ⊎ (standing (as_acknowledged req items) ≡ standing items)
done_stand req = by_pushes (λ (items : List Item). StandsDone req items ⊎ (standing (as_acknowledged req items) ≡ standing items))
    (inr refl) more
  where
    more : (items : List Item) (item : Item) → StandsDone req items ⊎ (standing (as_acknowledged req items) ≡ standing items)
        → StandsDone req (items ++ item ∷ []) ⊎ (standing (as_acknowledged req (items ++ item ∷ [])) ≡ standing (items ++ item ∷ []))
    more items item before = by_test (is_item_of req item) refl
      where
        now : Item
        now = item_with_mark Acknowledged req item

        joined : standing (as_acknowledged req (items ++ item ∷ [])) ≡ standing (as_acknowledged req items ++ now ∷ [])
        joined = ap standing (map-append (item_with_mark Acknowledged req) items (item ∷ []))

        last : (b : Bool) → is_acknowledged item ≡ b → (at : ℕ) × (slice_get (standing (items ++ item ∷ [])) at ≡ Some item)
        last true done = (zero, ap (λ (list : List Item). slice_get list zero) (stands_alone items item done))
        last false going = (
          length (standing items),
          ap (λ (list : List Item). slice_get list (length (standing items))) (stands_behind items item going)
              ∙ got_last (standing items) item,
        )

        own : is_item_of req item ≡ true → StandsDone req (items ++ item ∷ [])
        own is =
            let marked : now ≡ record item { mark = Acknowledged }
            = ap (λ (b : Bool). cond b (record item { mark = Acknowledged }) item) is in
            let (place, among) = last (is_acknowledged item) refl in
            record {
              place = place;
              item = item;
              among = among;
              of = is;
              at = zero;
              found = ap (λ (list : List Item). slice_get list zero)
                  (joined ∙ stands_alone (as_acknowledged req items) now (ap is_acknowledged marked))
                  ∙ ap (λ (i : Item). Some i) marked;
            }

        same : is_item_of req item ≡ false → now ≡ item
        same isnt = marked_other Acknowledged req item isnt

        joined_same : is_item_of req item ≡ false
            → standing (as_acknowledged req (items ++ item ∷ [])) ≡ standing (as_acknowledged req items ++ item ∷ [])
        joined_same isnt = joined ∙ ap (λ (i : Item). standing (as_acknowledged req items ++ i ∷ [])) (same isnt)

        still : is_item_of req item ≡ false → is_acknowledged item ≡ false → StandsDone req items → StandsDone req (items ++ item ∷ [])
        still isnt going stood = record {
          place = stood.place;
          item = stood.item;
          among = ap (λ (list : List Item). slice_get list stood.place) (stands_behind items item going)
              ∙ got_still (standing items) item stood.place stood.item stood.among;
          of = stood.of;
          at = stood.at;
          found = ap (λ (list : List Item). slice_get list stood.at)
              (joined_same isnt ∙ stands_behind (as_acknowledged req items) item going)
              ∙ got_still (standing (as_acknowledged req items)) item stood.at (record stood.item { mark = Acknowledged }) stood.found;
        }

        by_mark : is_item_of req item ≡ false → (b : Bool) → is_acknowledged item ≡ b
            → StandsDone req (items ++ item ∷ []) ⊎ (standing (as_acknowledged req (items ++ item ∷ [])) ≡ standing (items ++ item ∷ []))
        by_mark isnt true done =
            inr (joined_same isnt ∙ stands_alone (as_acknowledged req items) item done ∙ sym (stands_alone items item done))
        by_mark isnt false going = ⊎_elim
            (λ (stood : StandsDone req items). inl (still isnt going stood))
            (λ (alike : standing (as_acknowledged req items) ≡ standing items).
            inr (joined_same isnt ∙ stands_behind (as_acknowledged req items) item going
            ∙ ap (λ (list : List Item). list ++ item ∷ []) alike ∙ sym (stands_behind items item going)))
            before

        by_test : (b : Bool) → is_item_of req item ≡ b
            → StandsDone req (items ++ item ∷ []) ⊎ (standing (as_acknowledged req (items ++ item ∷ [])) ≡ standing (items ++ item ∷ []))
        by_test true is = inl (own is)
        by_test false isnt = by_mark isnt (is_acknowledged item) refl
