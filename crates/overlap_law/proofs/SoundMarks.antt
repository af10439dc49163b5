-- Once a request has ended none of its items is open, in a history in which each write begins for a request that hasn't ended.
use Rattle.std.proofs.Common.{◌≡◌, ⊎_elim, ℕ, suc, zero, ◌==◌, ◌&&◌, ◌||◌, not, Bool, true, false, cond, List, [], ◌∷◌, ◌++◌, map, filter}
use Rattle.std.proofs.Common.{fold, length, Option, Some, None, option_map, slice_get, refl, sym, ap, subst, ◌∙◌}
use Rattle.std.specs.Option.{option_map_or}
use Rattle.std.proofs.lemmas.Bool.{and_parts, both_ways, eqb-true}
use Rattle.std.proofs.lemmas.Option.{same_Some}
use Rattle.object_id.specs.declared.limits.TheConstants.{BLOCK_BYTES}
use Rattle.disk_history.specs.declared.event.HistEvent.{HistEvent}
use Rattle.disk_history.specs.declared.event.HistEvent.TheVariants.{Create, Copy, Delete, WriteStart, WriteDone, WriteRefused, WriterLost}
use Rattle.disk_history.specs.declared.event.HistEvent.TheVariants.{Read}
use Rattle.disk_history.specs.Changes.{items_in}
use Rattle.disk_history.specs.Ledger.{Mark, Open, Acknowledged, Lost, Item, Disk, Ledger, WriteRequest, zeros_item, empty_ledger}
use Rattle.disk_history.specs.Ledger.{is_item_of, item_with_mark, changed_at, with_item, with_ended_request, has_block, ledger_after}
use Rattle.disk_history.specs.Legal.{has_place}
use Rattle.overlap_law.specs.Headline.{ledger_of}
use Rattle.overlap_law.specs.ToldReads.{MayFollowUnlessRead, AllElseMayFollow}
use Rattle.overlap_law.proofs.AttemptLists.{got_more, got_map}
use Rattle.overlap_law.proofs.BlockItems.{apart_back, new_item}
use Rattle.overlap_law.proofs.ItemsStayOpen.{item_of, left_was, marked_other, marked_request, of_one}

-- what is left of a list passes
left_passes : {X : Type 0} (keeps : X → Bool) (xs : List X) (place : ℕ) (x : X) → slice_get (filter keeps xs) place ≡ Some x
    → keeps x ≡ true
left_passes keeps [] place x got = absurd (cc (got))
left_passes {X} keeps (y ∷ xs) place x got = by_keep (keeps y) refl place (λ k there. left_passes keeps xs k x there) got
  where
    by_keep : (b : Bool) → keeps y ≡ b → (place : ℕ) → ((k : ℕ) → slice_get (filter keeps xs) k ≡ Some x → keeps x ≡ true)
        → slice_get (cond b (y ∷ filter keeps xs) (filter keeps xs)) place ≡ Some x → keeps x ≡ true
    by_keep true is zero further got = ap keeps (sym (same_Some y x got)) ∙ is
    by_keep true is (suc place) further got = further place got
    by_keep false is place further got = further place got

-- none of a disk's items of a request is open
abbrev NoneIsOpen : ℕ → Option Disk → Type 0
NoneIsOpen req found = (block place : ℕ) (item : Item) → slice_get (items_in found block) place ≡ Some item → is_item_of req item ≡ true
    → item.mark ≡ Open → ⊥

-- a mark that isn't open
abbrev IsClosed : Mark → Type 0
IsClosed mark = mark ≡ Open → ⊥

done_closed : IsClosed Acknowledged
done_closed is = cc (is)

lost_closed : IsClosed Lost
lost_closed is = cc (is)

module _ (req : ℕ) where
  changed_none : (place : ℕ) (new : Option Disk) (disks : ℕ → Option Disk) → NoneIsOpen req new → ((disk : ℕ) → NoneIsOpen req (disks disk))
      → (disk : ℕ) → NoneIsOpen req (changed_at place new disks disk)
  changed_none place new disks own all disk = by_test (disk == place)
    where
      by_test : (b : Bool) → NoneIsOpen req (cond b new (disks disk))
      by_test true = own
      by_test false = all disk

  new_none : (blocks : ℕ) → NoneIsOpen req (Some (record { blocks = blocks; items = λ block. zeros_item ∷ []; deleted = false }))
  new_none blocks block zero item got is mark_so =
      let none : is_item_of req item ≡ false = ap (is_item_of req) (sym (same_Some zeros_item item got)) in
      both_ways (is_item_of req item) none is
  new_none blocks block (suc place) item got is mark_so = cc (got)

  copied_none : (deleted : Bool) (found : Option Disk) → NoneIsOpen req found
      → NoneIsOpen req (option_map (λ (disk : Disk). record disk { deleted = deleted }) found)
  copied_none deleted None none = none
  copied_none deleted (Some disk) none = none

  -- one of another request
  item_none : (other block : ℕ) (bytes : List ℕ) (coded : Bool) (found : Option Disk) → (req == other) ≡ false → NoneIsOpen req found
      → NoneIsOpen req (option_map (with_item block (new_item other coded bytes)) found)
  item_none other block bytes coded None apart none = none
  item_none other block bytes coded (Some disk) apart none = λ at. by_test (at == block) at
    where
      by_test : (b : Bool) (at place : ℕ) (item : Item)
          → slice_get (cond b (disk.items block ++ new_item other coded bytes ∷ []) (disk.items at)) place ≡ Some item
          → is_item_of req item ≡ true → item.mark ≡ Open → ⊥
      by_test true at place item got is mark_so = ⊎_elim
          (λ (old : slice_get (disk.items block) place ≡ Some item). none block place item old is mark_so)
          (λ (own : (place ≡ length (disk.items block)) × (new_item other coded bytes ≡ item)).
          let of : is_item_of req item ≡ false = ap (is_item_of req) (sym own.1) ∙ apart_back req other apart in
          both_ways (is_item_of req item) of is)
          (got_more (disk.items block) (new_item other coded bytes) place item got)
      by_test false at place item got is mark_so = none at place item got is mark_so

  -- who ends has another mark
  marked_none : (mark : Mark) → IsClosed mark → (other : ℕ) (found : Option Disk) → ((req == other) ≡ false → NoneIsOpen req found)
      → NoneIsOpen req (option_map
      (λ (disk : Disk). record disk { items = λ block. map (item_with_mark mark other) (disk.items block) }) found)
  marked_none mark closed other None none block place item got is mark_so = cc (got)
  marked_none mark closed other (Some disk) none block place item got is mark_so =
      let (was, at, same) = got_map (item_with_mark mark other) (disk.items block) place item got in
      by_request was at same (is_item_of other was) refl
    where
      by_request : (was : Item) → slice_get (disk.items block) place ≡ Some was → item_with_mark mark other was ≡ item → (b : Bool)
          → is_item_of other was ≡ b → ⊥
      by_request was at same true own =
          closed (ap (λ (i : Item). i.mark)
          (sym (ap (λ (b : Bool). cond b (record was { mark = mark }) was) own) ∙ same) ∙ mark_so)
      by_request was at same false apart =
          let kept : was ≡ item = sym (marked_other mark other was apart) ∙ same in
          let of : is_item_of req was ≡ true = ap (is_item_of req) kept ∙ is in
          none (others (req == other) refl of apart) block place was at of (ap (λ (i : Item). i.mark) kept ∙ mark_so)
        where
          others : (b : Bool) → (req == other) ≡ b → is_item_of req was ≡ true → is_item_of other was ≡ false → (req == other) ≡ false
          others true same of apart =
              let own : is_item_of other was ≡ true = ap (λ (k : ℕ). is_item_of k was) (sym (eqb-true req other same)) ∙ of in
              absurd (both_ways (is_item_of other was) apart own)
          others false same of apart = same

  -- who is refused has none left
  left_none : (other : ℕ) (found : Option Disk) → ((req == other) ≡ false → NoneIsOpen req found)
      → NoneIsOpen req
      (option_map (λ (disk : Disk). record disk { items = λ block. filter (λ item. not (is_item_of other item)) (disk.items block) }) found)
  left_none other None none block place item got is mark_so = cc (got)
  left_none other (Some disk) none block place item got is mark_so = by_test (req == other) refl
    where
      by_test : (b : Bool) → (req == other) ≡ b → ⊥
      by_test true same =
          let kept = left_passes (λ item. not (is_item_of other item)) (disk.items block) place item got in
          let own : is_item_of other item ≡ true = ap (λ (k : ℕ). is_item_of k item) (sym (eqb-true req other same)) ∙ is in
          let both : not true ≡ true = sym (ap not own) ∙ kept in
          cc (both)
      by_test false apart =
          let (at, was) = left_was (λ item. not (is_item_of other item)) (disk.items block) place item got in
          none apart block at item was is mark_so

  -- ---- one event

  abbrev IsSo : Ledger → Type 0
  IsSo ledger = (ledger.requests req).ended ≡ true → (disk : ℕ) → NoneIsOpen req (ledger.disks disk)

  -- who is ended behind another's end was before
  ended_before : (other : ℕ) (requests : ℕ → WriteRequest) → (with_ended_request other requests req).ended ≡ true → (req == other) ≡ false
      → (requests req).ended ≡ true
  ended_before other requests is apart =
      sym (ap (λ (b : Bool). (cond b (record (requests other) { ended = true }) (requests req)).ended) apart) ∙ is

  -- who has ended begins none
  starts_other : (ledger : Ledger) (other disk block : ℕ) (coded : Bool) (bytes : List ℕ)
      → MayFollowUnlessRead ledger (WriteStart other disk block coded bytes)
      → (changed_at other (record {
        places = (ledger.requests other).places ++ (disk, block) ∷ [];
        stray = (ledger.requests other).stray || not (has_block (ledger.disks disk) block);
        ended = (ledger.requests other).ended;
      }) ledger.requests req).ended ≡ true → ((req == other) ≡ false) × ((ledger.requests req).ended ≡ true)
  starts_other ledger other disk block coded bytes may is = by_test (req == other) refl is
    where
      going : not (ledger.requests other).ended ≡ true
      going =
          (and_parts (length bytes == BLOCK_BYTES) (not (ledger.requests other).ended)
          (and_parts (length bytes == BLOCK_BYTES && not (ledger.requests other).ended)
          (not (has_place (ledger.requests other) disk block)) may).0).1

      by_test : (b : Bool) → (req == other) ≡ b
          → (cond b (record {
            places = (ledger.requests other).places ++ (disk, block) ∷ [];
            stray = (ledger.requests other).stray || not (has_block (ledger.disks disk) block);
            ended = (ledger.requests other).ended;
          }) (ledger.requests req)).ended ≡ true → ((req == other) ≡ false) × ((ledger.requests req).ended ≡ true)
      by_test true same is = let both : not true ≡ true = sym (ap not is) ∙ going in absurd (cc (both))
      by_test false apart is = (apart, is)

  stays_so : (ledger : Ledger) (event : HistEvent) → MayFollowUnlessRead ledger event → IsSo ledger → IsSo (ledger_after ledger event)
  stays_so ledger (Create disk blocks) may so ended =
      changed_none disk (Some (record { blocks = blocks; items = λ block. zeros_item ∷ []; deleted = false })) ledger.disks
      (new_none blocks) (so ended)
  stays_so ledger (Copy old new) may so ended =
      changed_none new (option_map (λ (disk : Disk). record disk { deleted = false }) (ledger.disks old)) ledger.disks
      (copied_none false (ledger.disks old) (so ended old)) (so ended)
  stays_so ledger (Delete disk) may so ended =
      changed_none disk (option_map (λ (disk : Disk). record disk { deleted = true }) (ledger.disks disk)) ledger.disks
      (copied_none true (ledger.disks disk) (so ended disk)) (so ended)
  stays_so ledger (WriteStart other disk block coded bytes) may so ended = by_test (has_block (ledger.disks disk) block)
    where
      parts : ((req == other) ≡ false) × ((ledger.requests req).ended ≡ true)
      parts = starts_other ledger other disk block coded bytes may ended

      written : Option Disk
      written = option_map (with_item block (new_item other coded bytes)) (ledger.disks disk)

      by_test : (b : Bool) (at : ℕ) → NoneIsOpen req (cond b (changed_at disk written ledger.disks) ledger.disks at)
      by_test true = changed_none disk written ledger.disks
          (item_none other block bytes coded (ledger.disks disk) parts.0 (so parts.1 disk)) (so parts.1)
      by_test false = so parts.1
  stays_so ledger (WriteDone other) may so ended = λ disk.
      marked_none Acknowledged done_closed other (ledger.disks disk) (λ apart. so (ended_before other ledger.requests ended apart) disk)
  stays_so ledger (WriteRefused other) may so ended = λ disk.
      left_none other (ledger.disks disk) (λ apart. so (ended_before other ledger.requests ended apart) disk)
  stays_so ledger (WriterLost other) may so ended = λ disk.
      marked_none Lost lost_closed other (ledger.disks disk) (λ apart. so (ended_before other ledger.requests ended apart) disk)
  stays_so ledger (Read disk block bytes) may so ended = so ended

  along : (events : List HistEvent) (ledger : Ledger) → AllElseMayFollow ledger events → IsSo ledger
      → IsSo (fold ledger_after ledger events)
  along [] ledger may so = so
  along (event ∷ events) ledger may so = along events (ledger_after ledger event) may.1 (stays_so ledger event may.0 so)

  -- so whose item is open hasn't ended
  pub open_unended : (history : List HistEvent) → AllElseMayFollow empty_ledger history → (disk block place : ℕ) (item : Item)
      → slice_get (items_in ((ledger_of history).disks disk) block) place ≡ Some item → is_item_of req item ≡ true → item.mark ≡ Open
      → ((ledger_of history).requests req).ended ≡ false
  open_unended history may disk block place item got is mark_so = by_value ((ledger_of history).requests req).ended refl
    where
      by_value : (b : Bool) → ((ledger_of history).requests req).ended ≡ b → ((ledger_of history).requests req).ended ≡ false
      by_value false going = going
      by_value true ended =
          absurd (along history empty_ledger may (λ never. absurd (cc (never))) ended disk block place item got is mark_so)
