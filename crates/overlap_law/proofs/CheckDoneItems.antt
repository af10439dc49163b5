-- A block whose last item is a request's, acknowledged, has one value; and so it stays until a write of the block begins.
use Rattle.std.proofs.Common.{◌≡◌, ℕ, ◌==◌, Bool, true, false, not, ◌&&◌, ◌||◌, cond, List, [], ◌∷◌, ◌++◌, map, filter, fold}
use Rattle.std.proofs.Common.{Option, Some, None, refl, sym, ap, subst, ◌∙◌}
use Rattle.std.specs.Prelude.{is_none, is_some, length}
use Rattle.std.specs.List.{list_any}
use Rattle.std.specs.Option.{option_map_or}
use Rattle.std.specs.Str.{bytes_eq}
use Rattle.std.proofs.Math.Bool.{or-false}
use Rattle.std.proofs.lemmas.Bool.{and_parts, eqb-true, lt-ltb, ltb-true, or_parts}
use Rattle.std.proofs.lemmas.List.{map-append}
use Rattle.std.proofs.lemmas.List.Elements.{filter-append}
use Rattle.object_id.specs.declared.limits.TheConstants.{BLOCK_BYTES}
use Rattle.disk_history.specs.declared.event.HistEvent.{HistEvent}
use Rattle.disk_history.specs.declared.event.HistEvent.TheVariants.{Create, Copy, Delete, WriteStart, WriteDone, WriteRefused, WriterLost}
use Rattle.disk_history.specs.declared.event.HistEvent.TheVariants.{Read}
use Rattle.disk_history.specs.Changes.{items_in}
use Rattle.disk_history.specs.Ledger.{Mark, Acknowledged, Lost, Item, Disk, Ledger, has_block, is_item_of, item_with_mark}
use Rattle.disk_history.specs.Ledger.{ledger_after}
use Rattle.disk_history.specs.Legal.{has_begun_to_write, has_place, is_acknowledged, is_torn, is_writer_lost, may_read, standing}
use Rattle.overlap_law.specs.CheckDone.{HasOneValue, begins_on_block}
use Rattle.overlap_law.specs.DiskEvents.{ends_write_of}
use Rattle.overlap_law.specs.ToldReads.{AllElseMayFollow, MayFollowUnlessRead}
use Rattle.overlap_law.proofs.BlockItems.{apart_back, blocks_along, blocks_stay, has_alike, items_then, kept_along, makes_disk, new_item}
use Rattle.overlap_law.proofs.ItemsOfRequests.{begins_write_of}
use Rattle.overlap_law.proofs.RequestsTold.{and_false, ended_after}
use Rattle.overlap_law.proofs.StandingItems.{stands_alone}

-- ---- what follows a request's end

-- a request that has ended begins and ends no more
module _ (req : ℕ) where
  begins_none : (whole : Bool) (ended : Bool) (fresh : Bool) → ended ≡ true → (whole && not ended && fresh) ≡ true → ⊥
  begins_none whole true fresh is follows = by_whole whole follows
    where
      by_whole : (b : Bool) → (b && not true && fresh) ≡ true → ⊥
      by_whole true follows = cc (follows)
      by_whole false follows = cc (follows)
  begins_none whole false fresh is follows = cc (is)

  -- an end needs one that hasn't ended
  pub unended : (begun : Bool) (ended : Bool) → (begun && not ended) ≡ true → ended ≡ false
  unended true true follows = absurd (cc (follows))
  unended false true follows = absurd (cc (follows))
  unended begun false follows = refl

  pub unended_before : (begun : Bool) (ended : Bool) (there : Bool) → (begun && not ended && there) ≡ true → ended ≡ false
  unended_before true true there follows = absurd (cc (follows))
  unended_before false true there follows = absurd (cc (follows))
  unended_before begun false there follows = refl

  -- another number, where this one has ended
  other_ended : (ledger : Ledger) (other : ℕ) → (ledger.requests req).ended ≡ true → ((ledger.requests other).ended ≡ true → ⊥)
      → (other == req) ≡ false
  other_ended ledger other ended never = by_test (other == req) refl
    where
      by_test : (b : Bool) → (other == req) ≡ b → (other == req) ≡ false
      by_test false apart = apart
      by_test true same = absurd (never (ap (λ (k : ℕ). (ledger.requests k).ended) (eqb-true other req same) ∙ ended))

  one_none : (event : HistEvent) (ledger : Ledger) → MayFollowUnlessRead ledger event → (ledger.requests req).ended ≡ true
      → (begins_write_of req event ≡ false) × (ends_write_of req event ≡ false)
  one_none (Create disk blocks) ledger follows ended = (refl, refl)
  one_none (Copy old new) ledger follows ended = (refl, refl)
  one_none (Delete disk) ledger follows ended = (refl, refl)
  one_none (WriteStart other disk block coded bytes) ledger follows ended = (
    other_ended ledger other ended (λ is.
        begins_none (length bytes == BLOCK_BYTES) (ledger.requests other).ended (not (has_place (ledger.requests other) disk block)) is
        follows),
    refl,
  )
  one_none (WriteDone other) ledger follows ended = (
    refl,
    other_ended ledger other ended (λ is.
        let none = unended_before (has_begun_to_write (ledger.requests other)) (ledger.requests other).ended
        (not (ledger.requests other).stray) follows in
        cc (none, is)),
  )
  one_none (WriteRefused other) ledger follows ended = (
    refl,
    other_ended ledger other ended (λ is.
        let none = unended (has_begun_to_write (ledger.requests other)) (ledger.requests other).ended follows in cc (none, is)),
  )
  one_none (WriterLost other) ledger follows ended = (
    refl,
    other_ended ledger other ended (λ is.
        let none = unended (has_begun_to_write (ledger.requests other)) (ledger.requests other).ended follows in cc (none, is)),
  )
  one_none (Read disk block bytes) ledger follows ended = (refl, refl)

  pub none_more : (events : List HistEvent) (ledger : Ledger) → AllElseMayFollow ledger events → (ledger.requests req).ended ≡ true
      → (list_any (begins_write_of req) events ≡ false) × (list_any (ends_write_of req) events ≡ false)
  none_more [] ledger follows ended = (refl, refl)
  none_more (event ∷ later) ledger follows ended =
      let first = one_none event ledger follows.0 ended in
      let rest = none_more later (ledger_after ledger event) follows.1
      (ended_after req event ledger ∙ (λ i. ended i || ends_write_of req event)) in
      (λ i. first.0 i || rest.0 i, λ i. first.1 i || rest.1 i)

  pub still_ended : (events : List HistEvent) (ledger : Ledger) → (ledger.requests req).ended ≡ true
      → ((fold ledger_after ledger events).requests req).ended ≡ true
  still_ended [] ledger ended = ended
  still_ended (event ∷ later) ledger ended =
      still_ended later (ledger_after ledger event) (ended_after req event ledger ∙ (λ i. ended i || ends_write_of req event))

-- what may follow behind some may follow in its turn
pub follow_behind : (front back : List HistEvent) (ledger : Ledger) → AllElseMayFollow ledger (front ++ back)
    → AllElseMayFollow (fold ledger_after ledger front) back
follow_behind [] back ledger follows = follows
follow_behind (event ∷ front) back ledger follows = follow_behind front back (ledger_after ledger event) follows.1

-- ---- the last item is the request's, acknowledged

module _ (req : ℕ) (bytes : List ℕ) where
  pub record EndsDone (items : List Item) : Type 0 where
    pub earlier : List Item
    pub item : Item
    pub is : items ≡ earlier ++ item ∷ []
    pub of : item.request ≡ Some req
    pub same : item.bytes ≡ bytes
    pub mark : item.mark ≡ Acknowledged

  -- each item is changed
  pub changed_done : (change : Item → Item) (items earlier : List Item) (item : Item) → items ≡ earlier ++ item ∷ []
      → (change item).request ≡ Some req → (change item).bytes ≡ bytes → (change item).mark ≡ Acknowledged → EndsDone (map change items)
  changed_done change items earlier item is of same mark = record {
    earlier = map change earlier;
    item = change item;
    is = ap (map change) is ∙ map-append change earlier (item ∷ []);
    of = of;
    same = same;
    mark = mark;
  }

  module _ (vid block : ℕ) where
    -- whether an event begins a write of the block, or takes the request's away
    abbrev pub touches : HistEvent → Bool
    touches (Create disk blocks) = false
    touches (Copy old new) = false
    touches (Delete disk) = false
    touches (WriteStart other disk at coded written) = vid == disk && block == at
    touches (WriteDone other) = false
    touches (WriteRefused other) = other == req
    touches (WriterLost other) = other == req
    touches (Read disk at read) = false

    pub none_touch : (events : List HistEvent) → list_any (begins_on_block vid block) events ≡ false
        → list_any (ends_write_of req) events ≡ false → list_any touches events ≡ false
    none_touch [] begins ends = refl
    none_touch (event ∷ later) begins ends =
        let begin = or_parts (begins_on_block vid block event) (list_any (begins_on_block vid block) later) begins in
        let end = or_parts (ends_write_of req event) (list_any (ends_write_of req) later) ends in
        let first = one event begin.0 end.0 in
        let rest = none_touch later begin.1 end.1 in
        λ i. first i || rest i
      where
        one : (event : HistEvent) → begins_on_block vid block event ≡ false → ends_write_of req event ≡ false → touches event ≡ false
        one (Create disk blocks) begin end = refl
        one (Copy old new) begin end = refl
        one (Delete disk) begin end = refl
        one (WriteStart other disk at coded written) begin end = begin
        one (WriteDone other) begin end = refl
        one (WriteRefused other) begin end = end
        one (WriterLost other) begin end = end
        one (Read disk at read) begin end = refl

    -- the item isn't another request's
    not_other : (other : ℕ) (item : Item) → item.request ≡ Some req → (other == req) ≡ false → is_item_of other item ≡ false
    not_other other item of apart =
        ap (λ (o : Option ℕ). option_map_or (λ (number : ℕ). number == other) o false) of ∙ apart_back other req apart

    pub done_stays : (event : HistEvent) (items : List Item) → touches event ≡ false → EndsDone items
        → EndsDone (items_then vid block event items)
    done_stays (Create disk blocks) items calm has = has
    done_stays (Copy old new) items calm has = has
    done_stays (Delete disk) items calm has = has
    done_stays (WriteStart other disk at coded written) items calm has =
        subst (λ (b : Bool). EndsDone (cond b (items ++ new_item other coded written ∷ []) items)) (sym calm) has
    done_stays (WriteDone other) items calm has =
        let (of, same, mark) = by_test (is_item_of other has.item) in
        changed_done (item_with_mark Acknowledged other) items has.earlier has.item has.is of same mark
      where
        by_test : (b : Bool) → ((cond b (record has.item { mark = Acknowledged }) has.item).request ≡ Some req)
            × ((cond b (record has.item { mark = Acknowledged }) has.item).bytes ≡ bytes)
            × ((cond b (record has.item { mark = Acknowledged }) has.item).mark ≡ Acknowledged)
        by_test true = (has.of, has.same, refl)
        by_test false = (has.of, has.same, has.mark)
    done_stays (WriteRefused other) items calm has =
        let apart = not_other other has.item has.of calm in
        record {
          earlier = filter (λ item. not (is_item_of other item)) has.earlier;
          item = has.item;
          is = ap (filter (λ item. not (is_item_of other item))) has.is
              ∙ filter-append (λ item. not (is_item_of other item)) has.earlier (has.item ∷ [])
              ∙ ap (λ (b : Bool). filter (λ item. not (is_item_of other item)) has.earlier ++ cond (not b) (has.item ∷ []) []) apart;
          of = has.of;
          same = has.same;
          mark = has.mark;
        }
    done_stays (WriterLost other) items calm has =
        let apart = not_other other has.item has.of calm in
        let unchanged : item_with_mark Lost other has.item ≡ has.item
        = ap (λ (b : Bool). cond b (record has.item { mark = Lost }) has.item) apart in
        changed_done (item_with_mark Lost other) items has.earlier has.item has.is (ap (λ (item : Item). item.request) unchanged ∙ has.of)
        (ap (λ (item : Item). item.bytes) unchanged ∙ has.same) (ap (λ (item : Item). item.mark) unchanged ∙ has.mark)
    done_stays (Read disk at read) items calm has = has

  -- ---- so the block has one value

  done_is : (item : Item) → item.mark ≡ Acknowledged → is_acknowledged item ≡ true
  done_is item mark =
      ap (λ (mark : Mark). is_acknowledged (record { request = item.request; bytes = item.bytes; coded = item.coded; mark = mark })) mark

  not_lost : (item : Item) → item.mark ≡ Acknowledged → is_writer_lost item ≡ false
  not_lost item mark =
      ap (λ (mark : Mark). is_writer_lost (record { request = item.request; bytes = item.bytes; coded = item.coded; mark = mark })) mark

  module _ (ledger : Ledger) (vid block : ℕ) (has : has_block (ledger.disks vid) block ≡ true)
      (ends : EndsDone (items_in (ledger.disks vid) block)) (ended : (ledger.requests req).ended ≡ true) where
    of_disk : (o : Option Disk) → ledger.disks vid ≡ o → has_block o block ≡ true → EndsDone (items_in o block)
        → HasOneValue ledger vid block req bytes
    of_disk None at has ends = absurd (cc (has))
    of_disk (Some disk) at has ends =
        let alone : standing (disk.items block) ≡ ends.item ∷ []
        = ap standing ends.is ∙ stands_alone ends.earlier ends.item (done_is ends.item ends.mark) in
        let kept = not_lost ends.item ends.mark in
        let whole : is_torn (disk.items block) ≡ false
        = ap (list_any (λ (item : Item). item.coded && is_writer_lost item)) alone
        ∙ (λ i. (ends.item.coded && kept i) || false) ∙ or-false (ends.item.coded && false) ∙ and_false req ends.item.coded in
        record {
          disk = disk;
          there = at;
          within = ltb-true block disk.blocks has;
          earlier = ends.earlier;
          item = ends.item;
          last = ends.is;
          of = ends.of;
          same = ends.same;
          acknowledged = ends.mark;
          ended = ended;
          whole = whole;
          only = λ read.
              ap (λ (o : Option Disk). may_read o block read) at
              ∙ (λ i. disk.deleted || whole i || list_any (λ (item : Item). bytes_eq item.bytes read) (alone i))
              ∙ by_deleted disk.deleted read;
        }
      where
        by_deleted : (b : Bool) (read : List ℕ) → (b || false || list_any (λ (item : Item). bytes_eq item.bytes read) (ends.item ∷ []))
            ≡ (b || bytes_eq bytes read)
        by_deleted true read = refl
        by_deleted false read = or-false (bytes_eq ends.item.bytes read) ∙ ap (λ (own : List ℕ). bytes_eq own read) ends.same

    pub one_value : HasOneValue ledger vid block req bytes
    one_value = of_disk (ledger.disks vid) refl has ends

  -- ---- along events that begin no write of the block, and don't end the request

  module _ (vid block : ℕ) (ledger : Ledger) (later : List HistEvent) (makes : list_any (makes_disk vid block) later ≡ false)
      (calm : list_any (touches vid block) later ≡ false) (has : has_block (ledger.disks vid) block ≡ true)
      (ends : EndsDone (items_in (ledger.disks vid) block)) (ended : (ledger.requests req).ended ≡ true) where
    pub value_then : HasOneValue (fold ledger_after ledger later) vid block req bytes
    value_then =
        one_value (fold ledger_after ledger later) vid block
        (has_alike vid block (ledger.disks vid) ((fold ledger_after ledger later).disks vid)
        (sym (blocks_along vid block later ledger makes)) ∙ has)
        (kept_along vid block EndsDone (touches vid block) (done_stays vid block) later ledger makes calm has ends)
        (still_ended req later ledger ended)

-- ---- a block that has one value keeps it

module _ (vid block : ℕ) where
  -- nothing makes a disk that is there
  one_makes : (event : HistEvent) (ledger : Ledger) (disk : Disk) → ledger.disks vid ≡ Some disk → MayFollowUnlessRead ledger event
      → makes_disk vid block event ≡ false
  one_makes (Create new blocks) ledger disk there follows = by_test (new == vid) refl
    where
      by_test : (b : Bool) → (new == vid) ≡ b → (new == vid) ≡ false
      by_test false apart = apart
      by_test true same =
          let some : is_none (ledger.disks new) ≡ false = ap is_none (ap ledger.disks (eqb-true new vid same) ∙ there) in
          absurd (cc (some, follows))
  one_makes (Copy old new) ledger disk there follows = by_test (new == vid) refl
    where
      by_test : (b : Bool) → (new == vid) ≡ b → (new == vid) ≡ false
      by_test false apart = apart
      by_test true same =
          let some : is_none (ledger.disks new) ≡ false = ap is_none (ap ledger.disks (eqb-true new vid same) ∙ there) in
          let none = (and_parts (is_some (ledger.disks old)) (is_none (ledger.disks new)) follows).1 in
          absurd (cc (some, none))
  one_makes (Delete gone) ledger disk there follows = refl
  one_makes (WriteStart req on at coded bytes) ledger disk there follows = refl
  one_makes (WriteDone req) ledger disk there follows = refl
  one_makes (WriteRefused req) ledger disk there follows = refl
  one_makes (WriterLost req) ledger disk there follows = refl
  one_makes (Read on at bytes) ledger disk there follows = refl

  -- so it is there behind it
  found_disk : (o : Option Disk) → has_block o block ≡ true → (disk : Disk) × (o ≡ Some disk)
  found_disk None has = absurd (cc (has))
  found_disk (Some disk) has = (disk, refl)

  none_makes : (events : List HistEvent) (ledger : Ledger) → AllElseMayFollow ledger events → has_block (ledger.disks vid) block ≡ true
      → list_any (makes_disk vid block) events ≡ false
  none_makes [] ledger follows has = refl
  none_makes (event ∷ later) ledger follows has =
      let (disk, there) = found_disk (ledger.disks vid) has in
      let first = one_makes event ledger disk there follows.0 in
      let rest = none_makes later (ledger_after ledger event) follows.1
      (has_alike vid block (ledger.disks vid) ((ledger_after ledger event).disks vid) (sym (blocks_stay vid block ledger event first))
      ∙ has)
      in λ i. first i || rest i

  pub value_stays : (req : ℕ) (bytes : List ℕ) (ledger : Ledger) (later : List HistEvent) → AllElseMayFollow ledger later
      → list_any (begins_on_block vid block) later ≡ false → HasOneValue ledger vid block req bytes
      → HasOneValue (fold ledger_after ledger later) vid block req bytes
  value_stays req bytes ledger later follows none value =
      let has : has_block (ledger.disks vid) block ≡ true
      = ap (λ (o : Option Disk). has_block o block) value.there ∙ lt-ltb block value.disk.blocks value.within in
      value_then req bytes vid block ledger later (none_makes later ledger follows has)
      (none_touch req bytes vid block later none (none_more req later ledger follows value.ended).1) has
      (record {
        earlier = value.earlier;
        item = value.item;
        is = ap (λ (o : Option Disk). items_in o block) value.there ∙ value.last;
        of = value.of;
        same = value.same;
        mark = value.acknowledged;
      })
      value.ended
