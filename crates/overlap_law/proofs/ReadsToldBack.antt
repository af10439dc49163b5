-- What may be read of a block behind the ends of some writes might be read of it before them: an acknowledgement, or a refusal, leaves no
-- more to be read. So what is told in a step may be read in the order in which the history has it.
use Rattle.std.proofs.Common.{◌≡◌, ◌⊎◌, inl, inr, ⊎_elim, ℕ, ◌<◌, ◌&&◌, ◌||◌, not, Bool, true, false, cond, List, [], ◌∷◌, ◌++◌, length}
use Rattle.std.proofs.Common.{map}
use Rattle.std.proofs.Common.{filter, fold, Option, None, Some, option_map, slice_get, refl, sym, ap, subst, ◌∙◌}
use Rattle.std.specs.List.{list_all, list_any}
use Rattle.std.specs.Str.{bytes_eq}
use Rattle.std.proofs.lemmas.Bool.{and_parts, or_cases, or_left, or_right}
use Rattle.std.proofs.lemmas.List.Folds.{list_any-append}
use Rattle.std.proofs.lemmas.Option.{same_Some}
use Rattle.object_id.specs.declared.limits.TheConstants.{BLOCK_BYTES}
use Rattle.disk_history.specs.declared.event.HistEvent.{HistEvent}
use Rattle.disk_history.specs.declared.event.HistEvent.TheVariants.{Create, Copy, Delete, WriteStart, WriteDone, WriteRefused, WriterLost}
use Rattle.disk_history.specs.declared.event.HistEvent.TheVariants.{Read}
use Rattle.disk_history.specs.Changes.{items_in}
use Rattle.disk_history.specs.Ledger.{Mark, Open, Acknowledged, Item, Disk, Ledger, is_item_of, item_with_mark, ledger_after}
use Rattle.disk_history.specs.Legal.{has_begun_to_write, is_acknowledged, is_writer_lost, standing}
use Rattle.overlap_law.specs.StayingBlocks.{ItemsAreOpen}
use Rattle.overlap_law.specs.ToldReads.{AllElseMayFollow, IsToldAsItMay, MayBeReadAs, MayFollowUnlessRead, WhatIsToldMayBeRead}
use Rattle.overlap_law.proofs.ItemsStayOpen.{open_later}
use Rattle.overlap_law.proofs.StandingItems.{left_stand}
use Rattle.overlap_law.proofs.ToldBlocks.{AreReadAs, IsReadAs, IsToldAs}

-- ---- items

abbrev pushed : List Item → Item → List Item
pushed kept item = cond (is_acknowledged item) (item ∷ []) (kept ++ item ∷ [])

module _ (p : Item → Bool) where
  -- of one that is there, or that is changed so that it has it only where it had it before
  one_more : (kept : List Item) (item : Item) → list_any p (kept ++ item ∷ []) ≡ true → (list_any p kept ≡ true) ⊎ (p item ≡ true)
  one_more kept item is = ⊎_elim
      (λ (old : list_any p kept ≡ true). inl old)
      (λ (new : (p item || false) ≡ true). ⊎_elim
      (λ (own : p item ≡ true). inr own) (λ (never : false ≡ true). absurd (cc (never))) (or_cases (p item) false new))
      (or_cases (list_any p kept) (p item || false) (sym (list_any-append p kept (item ∷ [])) ∙ is))

  among_more : (kept : List Item) (item : Item) → (list_any p kept ≡ true) ⊎ (p item ≡ true) → list_any p (kept ++ item ∷ []) ≡ true
  among_more kept item is =
      list_any-append p kept (item ∷ []) ∙ ⊎_elim
      (λ (old : list_any p kept ≡ true). or_left (list_any p kept) (p item || false) old)
      (λ (new : p item ≡ true). or_right (list_any p kept) (p item || false) (or_left (p item) false new)) is

  has_pushed : (kept : List Item) (item : Item) → p item ≡ true → list_any p (pushed kept item) ≡ true
  has_pushed kept item own = by_test (is_acknowledged item)
    where
      by_test : (b : Bool) → list_any p (cond b (item ∷ []) (kept ++ item ∷ [])) ≡ true
      by_test true = or_left (p item) false own
      by_test false = among_more kept item (inr own)

  module _ (change : Item → Item) (only : (item : Item) → p (change item) ≡ true → p item ≡ true)
      (kept_so : (item : Item) → is_acknowledged item ≡ true → is_acknowledged (change item) ≡ true) where
    pushed_back : (kept later : List Item) (item : Item) → (list_any p later ≡ true → list_any p kept ≡ true)
        → list_any p (pushed later (change item)) ≡ true → list_any p (pushed kept item) ≡ true
    pushed_back kept later item before is = by_test (is_acknowledged (change item)) refl is
      where
        own : p (change item) ≡ true → list_any p (pushed kept item) ≡ true
        own has = has_pushed kept item (only item has)

        open_before : (b : Bool) → is_acknowledged item ≡ b → is_acknowledged (change item) ≡ false → list_any p kept ≡ true
            → list_any p (cond b (item ∷ []) (kept ++ item ∷ [])) ≡ true
        open_before true done unended had = let now = kept_so item done in absurd (cc (now, unended))
        open_before false undone unended had = among_more kept item (inl had)

        by_test : (b : Bool) → is_acknowledged (change item) ≡ b
            → list_any p (cond b (change item ∷ []) (later ++ change item ∷ [])) ≡ true → list_any p (pushed kept item) ≡ true
        by_test true done has = ⊎_elim
            (λ (here : p (change item) ≡ true). own here) (λ (never : false ≡ true). absurd (cc (never)))
            (or_cases (p (change item)) false has)
        by_test false undone has = ⊎_elim
            (λ (old : list_any p later ≡ true). open_before (is_acknowledged item) refl undone (before old))
            (λ (new : p (change item) ≡ true). own new) (one_more later (change item) has)

    folded_back : (items kept later : List Item) → (list_any p later ≡ true → list_any p kept ≡ true)
        → list_any p (fold pushed later (map change items)) ≡ true → list_any p (fold pushed kept items) ≡ true
    folded_back [] kept later before is = before is
    folded_back (item ∷ items) kept later before is =
        folded_back items (pushed kept item) (pushed later (change item)) (pushed_back kept later item before) is

    pub stood_back : (items : List Item) → list_any p (standing (map change items)) ≡ true → list_any p (standing items) ≡ true
    stood_back items is = folded_back items [] [] (λ same. same) is

  -- of fewer it is of more
  any_left : (keeps : Item → Bool) (items : List Item) → list_any p (filter keeps items) ≡ true → list_any p items ≡ true
  any_left keeps [] is = is
  any_left keeps (item ∷ items) is = by_test (keeps item) is (any_left keeps items)
    where
      by_test : (b : Bool) → list_any p (cond b (item ∷ filter keeps items) (filter keeps items)) ≡ true
          → (list_any p (filter keeps items) ≡ true → list_any p items ≡ true) → (p item || list_any p items) ≡ true
      by_test true is rest = ⊎_elim
          (λ (own : p item ≡ true). or_left (p item) (list_any p items) own)
          (λ (later : list_any p (filter keeps items) ≡ true). or_right (p item) (list_any p items) (rest later))
          (or_cases (p item) (list_any p (filter keeps items)) is)
      by_test false is rest = or_right (p item) (list_any p items) (rest is)

  left_back : (keeps : Item → Bool) (items : List Item)
      → ((place : ℕ) (item : Item) → slice_get items place ≡ Some item → keeps item ≡ false → is_acknowledged item ≡ false)
      → list_any p (standing (filter keeps items)) ≡ true → list_any p (standing items) ≡ true
  left_back keeps items unended is =
      any_left keeps (standing items) (ap (list_any p) (sym (left_stand keeps items unended)) ∙ is)

-- ---- what may be read

module _ (req : ℕ) where
  abbrev marked : Item → Item
  marked item = item_with_mark Acknowledged req item

  no_more_torn : (item : Item) → (marked item).coded && is_writer_lost (marked item) ≡ true → item.coded && is_writer_lost item ≡ true
  no_more_torn item is = by_test (is_item_of req item) is
    where
      never : (b : Bool) → (b && false) ≡ true → ⊥
      never true is = cc (is)
      never false is = cc (is)

      by_test : (b : Bool)
          → ((cond b (record item { mark = Acknowledged }) item).coded
          && is_writer_lost (cond b (record item { mark = Acknowledged }) item)) ≡ true
          → (item.coded && is_writer_lost item) ≡ true
      by_test true is = absurd (never item.coded is)
      by_test false is = is

  same_bytes : (bytes : List ℕ) (item : Item) → bytes_eq (marked item).bytes bytes ≡ true → bytes_eq item.bytes bytes ≡ true
  same_bytes bytes item is = by_test (is_item_of req item) is
    where
      by_test : (b : Bool) → bytes_eq (cond b (record item { mark = Acknowledged }) item).bytes bytes ≡ true
          → bytes_eq item.bytes bytes ≡ true
      by_test true is = is
      by_test false is = is

  still_done : (item : Item) → is_acknowledged item ≡ true → is_acknowledged (marked item) ≡ true
  still_done item done = by_test (is_item_of req item)
    where
      by_test : (b : Bool) → is_acknowledged (cond b (record item { mark = Acknowledged }) item) ≡ true
      by_test true = refl
      by_test false = done

  done_back : (items : List Item) (bytes : List ℕ) → MayBeReadAs (map (item_with_mark Acknowledged req) items) bytes
      → MayBeReadAs items bytes
  done_back items bytes (inl torn) =
      inl (stood_back (λ (item : Item). item.coded && is_writer_lost item) (item_with_mark Acknowledged req) no_more_torn still_done items
      torn)
  done_back items bytes (inr allowed) =
      inr (stood_back (λ (item : Item). bytes_eq item.bytes bytes) (item_with_mark Acknowledged req) (same_bytes bytes) still_done items
      allowed)

  refused_back : (items : List Item) (bytes : List ℕ)
      → ((place : ℕ) (item : Item) → slice_get items place ≡ Some item → not (is_item_of req item) ≡ false → is_acknowledged item ≡ false)
      → MayBeReadAs (filter (λ item. not (is_item_of req item)) items) bytes → MayBeReadAs items bytes
  refused_back items bytes unended (inl torn) =
      inl (left_back (λ (item : Item). item.coded && is_writer_lost item) (λ item. not (is_item_of req item)) items unended torn)
  refused_back items bytes unended (inr allowed) =
      inr (left_back (λ (item : Item). bytes_eq item.bytes bytes) (λ item. not (is_item_of req item)) items unended allowed)

-- ---- an event

-- whether an event is one that replies may add
abbrev pub is_told : HistEvent → Bool
is_told (Create disk blocks) = false
is_told (Copy old new) = false
is_told (Delete disk) = false
is_told (WriteStart req disk block coded bytes) = false
is_told (WriteDone req) = true
is_told (WriteRefused req) = true
is_told (WriterLost req) = false
is_told (Read disk block bytes) = true

module _ (vid block : ℕ) (bytes : List ℕ) where
  abbrev Told : Ledger → Type 0
  Told ledger = IsToldAs MayBeReadAs ledger vid block bytes

  -- where the items of each block are changed
  changed_back : (change : List Item → List Item) (ledger : Ledger)
      → ((was : Disk) → ledger.disks vid ≡ Some was → MayBeReadAs (change (was.items block)) bytes → MayBeReadAs (was.items block) bytes)
      → (disk : Disk)
      → option_map (λ (d : Disk). record d { items = λ at. change (d.items at) }) (ledger.disks vid) ≡ Some disk
      → block < disk.blocks → (disk.deleted ≡ true) ⊎ MayBeReadAs (disk.items block) bytes → length bytes ≡ BLOCK_BYTES → Told ledger
  changed_back change ledger back disk there within given whole = by_disk (ledger.disks vid) refl there
    where
      by_disk : (o : Option Disk) → ledger.disks vid ≡ o
          → option_map (λ (d : Disk). record d { items = λ at. change (d.items at) }) o ≡ Some disk → Told ledger
      by_disk None none is = absurd (cc (is))
      by_disk (Some was) got is =
          let same : record was { items = λ at. change (was.items at) } ≡ disk
          = same_Some (record was { items = λ at. change (was.items at) }) disk is in
          record {
            disk = was;
            there = got;
            within = subst (λ (d : Disk). block < d.blocks) (sym same) within;
            whole = whole;
            given = ⊎_elim
                (λ (gone : was.deleted ≡ true). inl gone)
                (λ (may : MayBeReadAs (change (was.items block)) bytes). inr (back was got may))
                (subst (λ (d : Disk). (d.deleted ≡ true) ⊎ MayBeReadAs (d.items block) bytes) (sym same) given);
          }

  one_back : (event : HistEvent) (ledger : Ledger) → is_told event ≡ true → ItemsAreOpen ledger → MayFollowUnlessRead ledger event
      → Told (ledger_after ledger event) → Told ledger
  one_back (Create disk blocks) ledger is unended may told = absurd (cc (is))
  one_back (Copy old new) ledger is unended may told = absurd (cc (is))
  one_back (Delete disk) ledger is unended may told = absurd (cc (is))
  one_back (WriteStart req disk at coded written) ledger is unended may told = absurd (cc (is))
  one_back (WriteDone req) ledger is unended may told =
      changed_back (map (item_with_mark Acknowledged req)) ledger (λ was got. done_back req (was.items block) bytes) told.disk told.there
      told.within told.given told.whole
  one_back (WriteRefused req) ledger is unended may told =
      changed_back (filter (λ item. not (is_item_of req item))) ledger
      (λ was got. refused_back req (was.items block) bytes
      (λ place item at own. open_item item
      (unended.each req vid block place item going (ap (λ (o : Option Disk). slice_get (items_in o block) place) got ∙ at)
      (by_not (is_item_of req item) own)))) told.disk
      told.there told.within told.given told.whole
    where
      by_not : (b : Bool) → not b ≡ false → b ≡ true
      by_not true is = refl
      by_not false is = absurd (cc (is))

      false_by : (b : Bool) → not b ≡ true → b ≡ false
      false_by true is = absurd (cc (is))
      false_by false is = refl

      going : (ledger.requests req).ended ≡ false
      going =
          false_by (ledger.requests req).ended
          (and_parts (has_begun_to_write (ledger.requests req)) (not (ledger.requests req).ended) may).1

      open_item : (item : Item) → item.mark ≡ Open → is_acknowledged item ≡ false
      open_item item is = ap (λ (m : Mark). is_acknowledged (record item { mark = m })) is
  one_back (WriterLost req) ledger is unended may told = absurd (cc (is))
  one_back (Read disk at read) ledger is unended may told = told

  pub all_back : (events : List HistEvent) (ledger : Ledger) → list_all is_told events ≡ true → ItemsAreOpen ledger
      → AllElseMayFollow ledger events → Told (fold ledger_after ledger events) → Told ledger
  all_back [] ledger are unended may told = told
  all_back (event ∷ events) ledger are unended may told =
      let parts = and_parts (is_told event) (list_all is_told events) are in
      one_back event ledger parts.0 unended may.0
      (all_back events (ledger_after ledger event) parts.1 (open_later ledger event unended) may.1 told)

-- ---- several, one after the other

module _ (good_id : ℕ → Bool) where
  one_told : (ledger last : Ledger) (event : HistEvent)
      → ((vid block : ℕ) (bytes : List ℕ) → IsToldAs MayBeReadAs last vid block bytes → IsToldAs MayBeReadAs ledger vid block bytes)
      → IsReadAs MayBeReadAs last good_id event → IsToldAsItMay good_id ledger event
  one_told ledger last (Create disk blocks) back is = tt
  one_told ledger last (Copy old new) back is = tt
  one_told ledger last (Delete disk) back is = tt
  one_told ledger last (WriteStart req disk at coded bytes) back is = tt
  one_told ledger last (WriteDone req) back is = tt
  one_told ledger last (WriteRefused req) back is = tt
  one_told ledger last (WriterLost req) back is = tt
  one_told ledger last (Read disk at bytes) back is = λ good.
      let told = back disk at bytes (is good) in
      record { disk = told.disk; there = told.there; within = told.within; whole = told.whole; given = told.given }

  -- what may be read behind all of them may be read in its turn
  pub told_in_turn : (events : List HistEvent) (ledger : Ledger) → list_all is_told events ≡ true → ItemsAreOpen ledger
      → AllElseMayFollow ledger events → AreReadAs MayBeReadAs (fold ledger_after ledger events) good_id events
      → WhatIsToldMayBeRead good_id ledger events
  told_in_turn [] ledger are unended may read = tt
  told_in_turn (event ∷ events) ledger are unended may read = (
    one_told ledger (fold ledger_after (ledger_after ledger event) events) event
        (λ vid block bytes told. all_back vid block bytes (event ∷ events) ledger are unended may told) read.0,
    told_in_turn events (ledger_after ledger event) (and_parts (is_told event) (list_all is_told events) are).1
        (open_later ledger event unended) may.1 read.1,
  )
