-- Where a request's writes stand on a block, and it alone begins writes of it, its acknowledgement leaves the block with one value.
use Rattle.std.proofs.Common.{◌≡◌, ⊎_elim, ℕ, ◌==◌, Bool, true, false, not, ◌&&◌, ◌||◌, cond, List, [], ◌∷◌, ◌++◌, map, fold, Contains}
use Rattle.std.proofs.Common.{Option, refl, sym, ap, subst, ◌∙◌}
use Rattle.std.specs.List.{list_any}
use Rattle.std.specs.Option.{option_map_or}
use Rattle.std.proofs.lemmas.Bool.{eq-eqb, eqb-true, or_parts}
use Rattle.std.proofs.lemmas.List.Elements.{Contains-append_cases, Contains-append_left, Contains-append_right}
use Rattle.std.proofs.lemmas.List.Folds.{list_any-append}
use Rattle.std.proofs.lemmas.List.Sums.{fold-append}
use Rattle.proof_tools.proofs.Lists.{Contains-nil, Contains-cons_cases}
use Rattle.disk_history.specs.declared.event.HistEvent.{HistEvent}
use Rattle.disk_history.specs.declared.event.HistEvent.TheVariants.{Create, Copy, Delete, WriteStart, WriteDone, WriteRefused, WriterLost}
use Rattle.disk_history.specs.declared.event.HistEvent.TheVariants.{Read}
use Rattle.disk_history.specs.Changes.{items_in}
use Rattle.disk_history.specs.Ledger.{Acknowledged, Item, Ledger, empty_ledger, has_block, is_item_of, item_with_mark, ledger_after}
use Rattle.disk_history.specs.Legal.{has_begun_to_write}
use Rattle.overlap_law.specs.CheckDone.{HasOneValue, begins_on_block}
use Rattle.overlap_law.specs.DiskEvents.{begins_by_others, ends_write_of}
use Rattle.overlap_law.specs.Headline.{ledger_of}
use Rattle.overlap_law.specs.ToldReads.{AllElseMayFollow}
use Rattle.overlap_law.proofs.BegunWriters.{begun_in}
use Rattle.overlap_law.proofs.BlockItems.{blocks_along, has_alike, items_after}
use Rattle.overlap_law.proofs.CheckDoneItems.{EndsDone, changed_done, follow_behind, none_more, none_touch, unended_before, value_then}
use Rattle.overlap_law.proofs.ItemsOfRequests.{begins_write_of}
use Rattle.overlap_law.proofs.OpenItemsInRuns.{fewer_make, kept_then}
use Rattle.overlap_law.proofs.RequestsTold.{ended_after, ended_told}
use Rattle.overlap_law.proofs.StandingBefore.{IsLastOf, Stands, disturbs, stands_begins, stands_last, stands_stays}
use Rattle.overlap_law.proofs.StandingInRuns.{all_calm}

-- a list up to one of its elements, and behind it
pub record IsParted {X : Type 0} (list : List X) (x : X) : Type 0 where
  pub front : List X
  pub back : List X
  pub is : list ≡ front ++ x ∷ back

pub parted : {X : Type 0} (list : List X) (x : X) → Contains list x → IsParted list x
parted {X = X} [] x among = absurd (Contains-nil x among)
parted {X = X} (first ∷ later) x among = ⊎_elim
    (λ (own : first ≡ x). record { front = []; back = later; is = ap (λ (y : X). y ∷ later) own })
    (λ (behind : Contains later x).
    let rest = parted later x behind in
    record { front = first ∷ rest.front; back = rest.back; is = ap (λ (list : List X). first ∷ list) rest.is })
    (Contains-cons_cases first later x among)

module _ (req : ℕ) where
  -- whether a request is this one
  abbrev pub own : ℕ → Bool
  own other = other == req

  -- who begins no write of the request, and none by others on the disk, begins none of the block
  module _ (vid block : ℕ) where
    one_block : (event : HistEvent) → begins_by_others vid own event ≡ false → begins_write_of req event ≡ false
        → begins_on_block vid block event ≡ false
    one_block (Create disk blocks) others none = refl
    one_block (Copy old new) others none = refl
    one_block (Delete disk) others none = refl
    one_block (WriteStart other disk at coded bytes) others none = by_disk (vid == disk) refl
      where
        by_disk : (b : Bool) → (vid == disk) ≡ b → (b && block == at) ≡ false
        by_disk false apart = refl
        by_disk true same =
            let here : (disk == vid) ≡ true = eq-eqb disk vid (sym (eqb-true vid disk same)) in
            let wrong : (disk == vid && not (other == req)) ≡ true = λ i. here i && not (none i) in
            absurd (cc (wrong, others))
    one_block (WriteDone other) others none = refl
    one_block (WriteRefused other) others none = refl
    one_block (WriterLost other) others none = refl
    one_block (Read disk at bytes) others none = refl

    none_on_block : (events : List HistEvent) → list_any (begins_by_others vid own) events ≡ false
        → list_any (begins_write_of req) events ≡ false → list_any (begins_on_block vid block) events ≡ false
    none_on_block [] others none = refl
    none_on_block (event ∷ later) others none =
        let two = or_parts (begins_by_others vid own event) (list_any (begins_by_others vid own) later) others in
        let one = or_parts (begins_write_of req event) (list_any (begins_write_of req) later) none in
        let first = one_block event two.0 one.0 in
        let rest = none_on_block later two.1 one.1 in
        λ i. first i || rest i

  -- the last item is acknowledged with the request
  last_done : (items : List Item) → (last : IsLastOf req items) → EndsDone req last.item.bytes (map (item_with_mark Acknowledged req) items)
  last_done items last =
      let its : is_item_of req last.item ≡ true
      = ap (λ (o : Option ℕ). option_map_or (λ (number : ℕ). number == req) o false) last.of ∙ eq-eqb req req refl in
      let marked : item_with_mark Acknowledged req last.item ≡ record last.item { mark = Acknowledged }
      = ap (λ (b : Bool). cond b (record last.item { mark = Acknowledged }) last.item) its in
      changed_done req last.item.bytes (item_with_mark Acknowledged req) items last.earlier last.item last.is
      (ap (λ (item : Item). item.request) marked ∙ last.of) (ap (λ (item : Item). item.bytes) marked)
      (ap (λ (item : Item). item.mark) marked)

  module _ (vid block : ℕ) (history front back : List HistEvent)
      (follow : AllElseMayFollow (ledger_of history) (front ++ WriteDone req ∷ back))
      (others : list_any (begins_by_others vid own) (front ++ WriteDone req ∷ back) ≡ false)
      (has : has_block ((ledger_of history).disks vid) block ≡ true) (coded : Bool) (bytes : List ℕ)
      (was : Contains history (WriteStart req vid block coded bytes)
      → Stands req own bytes (items_in ((ledger_of history).disks vid) block))
      (there : Contains (history ++ (front ++ WriteDone req ∷ back)) (WriteStart req vid block coded bytes)) where
    abbrev middle : Ledger
    middle = ledger_of (history ++ front)

    abbrev done : Ledger
    done = ledger_after middle (WriteDone req)

    middle_so : middle ≡ fold ledger_after (ledger_of history) front
    middle_so = fold-append ledger_after empty_ledger history front

    rest : AllElseMayFollow middle (WriteDone req ∷ back)
    rest =
        subst (λ (ledger : Ledger). AllElseMayFollow ledger (WriteDone req ∷ back)) (sym middle_so)
        (follow_behind front (WriteDone req ∷ back) (ledger_of history) follow)

    -- it ends there
    open_before : (middle.requests req).ended ≡ false
    open_before =
        unended_before req (has_begun_to_write (middle.requests req)) (middle.requests req).ended (not (middle.requests req).stray) rest.0

    ends_front : list_any (ends_write_of req) front ≡ false
    ends_front =
        (or_parts (list_any (ends_write_of req) history) (list_any (ends_write_of req) front)
        (sym (list_any-append (ends_write_of req) history front) ∙ sym (ended_told req (history ++ front)) ∙ open_before)).1

    ended : (done.requests req).ended ≡ true
    ended =
        let same : (req == req) ≡ true = eq-eqb req req refl in
        ended_after req (WriteDone req) middle ∙ (λ i. open_before i || same i)

    no_more : (list_any (begins_write_of req) back ≡ false) × (list_any (ends_write_of req) back ≡ false)
    no_more = none_more req back done rest.1 ended

    both_others : (list_any (begins_by_others vid own) front ≡ false) × (list_any (begins_by_others vid own) back ≡ false)
    both_others =
        or_parts (list_any (begins_by_others vid own) front) (list_any (begins_by_others vid own) back)
        (sym (list_any-append (begins_by_others vid own) front (WriteDone req ∷ back)) ∙ others)

    -- what began on the block did so before
    in_front : Contains (history ++ front) (WriteStart req vid block coded bytes)
    in_front = ⊎_elim
        (λ (old : Contains history (WriteStart req vid block coded bytes)).
        Contains-append_left history front (WriteStart req vid block coded bytes) old)
        (λ (new : Contains (front ++ WriteDone req ∷ back) (WriteStart req vid block coded bytes)). ⊎_elim
        (λ (here : Contains front (WriteStart req vid block coded bytes)).
        Contains-append_right history front (WriteStart req vid block coded bytes) here)
        (λ (later : Contains (WriteDone req ∷ back) (WriteStart req vid block coded bytes)). ⊎_elim
        (λ (same : WriteDone req ≡ WriteStart req vid block coded bytes). absurd (cc (same)))
        (λ (behind : Contains back (WriteStart req vid block coded bytes)).
        let begun = begun_in back req vid block coded bytes behind in
        let none = no_more.0 in
        absurd (cc (begun, none)))
        (Contains-cons_cases (WriteDone req) back (WriteStart req vid block coded bytes) later))
        (Contains-append_cases front (WriteDone req ∷ back) (WriteStart req vid block coded bytes) new))
        (Contains-append_cases history (front ++ WriteDone req ∷ back) (WriteStart req vid block coded bytes) there)

    has_middle : has_block (middle.disks vid) block ≡ true
    has_middle =
        subst (λ (ledger : Ledger). has_block (ledger.disks vid) block ≡ true) (sym middle_so)
        (has_alike vid block ((ledger_of history).disks vid) ((fold ledger_after (ledger_of history) front).disks vid)
        (sym (blocks_along vid block front (ledger_of history) (fewer_make own vid block front both_others.0))) ∙ has)

    -- so the last item there is the request's
    stands : Stands req own bytes (items_in (middle.disks vid) block)
    stands =
        kept_then req vid block coded bytes (Stands req own bytes) (disturbs req own vid block) (stands_stays req own bytes vid block)
        (stands_begins req own coded bytes) history front (fewer_make own vid block front both_others.0)
        (all_calm req vid block front ends_front both_others.0) has_middle (λ old had. was old) in_front

    last : IsLastOf req (items_in (middle.disks vid) block)
    last = stands_last req own bytes (items_in (middle.disks vid) block) (λ other same. eqb-true other req same) stands

    has_done : has_block (done.disks vid) block ≡ true
    has_done =
        has_alike vid block (middle.disks vid) (done.disks vid)
        (sym (blocks_along vid block (WriteDone req ∷ []) middle refl)) ∙ has_middle

    items_done : EndsDone req last.item.bytes (items_in (done.disks vid) block)
    items_done =
        subst (EndsDone req last.item.bytes) (sym (items_after vid block middle (WriteDone req) refl has_middle))
        (last_done (items_in (middle.disks vid) block) last)

    end_so : ledger_of (history ++ (front ++ WriteDone req ∷ back)) ≡ fold ledger_after done back
    end_so =
        fold-append ledger_after empty_ledger history (front ++ WriteDone req ∷ back)
        ∙ fold-append ledger_after (ledger_of history) front (WriteDone req ∷ back)
        ∙ ap (λ (ledger : Ledger). fold ledger_after ledger (WriteDone req ∷ back)) (sym middle_so)

    value_at_end : (given : List ℕ) × HasOneValue (ledger_of (history ++ (front ++ WriteDone req ∷ back))) vid block req given
    value_at_end = (
      last.item.bytes,
      subst (λ (ledger : Ledger). HasOneValue ledger vid block req last.item.bytes) (sym end_so)
          (value_then req last.item.bytes vid block done back (fewer_make own vid block back both_others.1)
          (none_touch req last.item.bytes vid block back (none_on_block vid block back both_others.1 no_more.0) no_more.1) has_done
          items_done ended),
    )

  -- ---- behind what an event adds

  pub value_behind : (vid block : ℕ) (history grown : List HistEvent) → AllElseMayFollow (ledger_of history) grown
      → list_any (begins_by_others vid own) grown ≡ false → has_block ((ledger_of history).disks vid) block ≡ true
      → Contains grown (WriteDone req) → (coded : Bool) (bytes : List ℕ)
      → (Contains history (WriteStart req vid block coded bytes) → Stands req own bytes (items_in ((ledger_of history).disks vid) block))
      → Contains (history ++ grown) (WriteStart req vid block coded bytes)
      → (given : List ℕ) × HasOneValue (ledger_of (history ++ grown)) vid block req given
  value_behind vid block history grown follow others has done coded bytes was there =
      let parts = parted grown (WriteDone req) done in
      subst (λ (events : List HistEvent). (given : List ℕ) × HasOneValue (ledger_of (history ++ events)) vid block req given) (sym parts.is)
      (value_at_end vid block history parts.front parts.back
      (subst (λ (events : List HistEvent). AllElseMayFollow (ledger_of history) events) parts.is follow)
      (subst (λ (events : List HistEvent). list_any (begins_by_others vid own) events ≡ false) parts.is others) has coded bytes was
      (subst (λ (events : List HistEvent). Contains (history ++ events) (WriteStart req vid block coded bytes)) parts.is there))
