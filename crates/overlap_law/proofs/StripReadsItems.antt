-- What is had of the item of each write that a history begins, and of zeros, whatever mark it gets, is had of each item of a block of its
-- ledger.
use Rattle.std.proofs.Common.{◌≡◌, ⊎_elim, arith, ℕ, zero, suc, ◌<◌, ◌==◌, not, Bool, true, false, cond, Contains, List, [], ◌∷◌, ◌++◌}
use Rattle.std.proofs.Common.{filter, fold, map}
use Rattle.std.proofs.Common.{Option, Some, None, option_map, slice_get, slice_index, refl, subst}
use Rattle.std.proofs.lemmas.Option.{same_Some}
use Rattle.proof_tools.proofs.Lists.{Contains-cons, Contains-head}
use Rattle.object_id.specs.declared.limits.TheConstants.{BLOCK_BYTES}
use Rattle.object_id.specs.Fields.{AreBytes, zeros}
use Rattle.disk_history.specs.declared.event.HistEvent.{HistEvent}
use Rattle.disk_history.specs.declared.event.HistEvent.TheVariants.{Create, Copy, Delete, WriteStart, WriteDone, WriteRefused, WriterLost}
use Rattle.disk_history.specs.declared.event.HistEvent.TheVariants.{Read}
use Rattle.disk_history.specs.Ledger.{Mark, Open, Lost, Acknowledged, Item, Disk, Ledger, changed_at, empty_ledger, has_block, is_item_of}
use Rattle.disk_history.specs.Ledger.{item_with_mark, ledger_after, with_item, with_items, zeros_item}
use Rattle.overlap_law.specs.Headline.{ledger_of}
use Rattle.overlap_law.specs.StripReadsAlike.{ItemsAreOfBytes, CodedWritesAreOfBytes}
use Rattle.overlap_law.proofs.AttemptLists.{got_map}
use Rattle.overlap_law.proofs.KnownFates.{got_either}

module _ (P : Item → Type 0) (on_zeros : P zeros_item) (marked : (mark : Mark) (item : Item) → P item → P (record item { mark = mark }))
  where
    -- ---- lists of items

    abbrev AllIn : List Item → Type 0
    AllIn items = (place : ℕ) (item : Item) → slice_get items place ≡ Some item → P item

    zeros_in : AllIn (zeros_item ∷ [])
    zeros_in zero item got = subst P (same_Some zeros_item item got) on_zeros
    zeros_in (suc place) item got = absurd (cc (got))

    map_in : (mark : Mark) (req : ℕ) (items : List Item) → AllIn items → AllIn (map (item_with_mark mark req) items)
    map_in mark req items all place item got =
        let (one, found, same) = got_map (item_with_mark mark req) items place item got in
        subst P same (by_test one (is_item_of req one) (all place one found))
      where
        by_test : (one : Item) (b : Bool) → P one → P (cond b (record one { mark = mark }) one)
        by_test one true has = marked mark one has
        by_test one false has = has

    filter_in : (p : Item → Bool) (items : List Item) → AllIn items → AllIn (filter p items)
    filter_in p [] all place item got = absurd (cc (got))
    filter_in p (first ∷ items) all place item got =
        by_test (filter_in p items (λ k one at. all (suc k) one at)) (p first) place got
      where
        by_test : AllIn (filter p items) → (b : Bool) (k : ℕ) → slice_get (cond b (first ∷ filter p items) (filter p items)) k ≡ Some item
            → P item
        by_test rest true zero at = subst P (same_Some first item at) (all zero first refl)
        by_test rest true (suc k) at = rest k item at
        by_test rest false k at = rest k item at

    push_in : (items : List Item) (new : Item) → AllIn items → P new → AllIn (items ++ new ∷ [])
    push_in items new all own place item got = ⊎_elim
        (λ (old : slice_get items place ≡ Some item). all place item old)
        (λ (last : (k : ℕ) × (slice_get (new ∷ []) k ≡ Some item)). by_last last.0 last.1)
        (got_either items (new ∷ []) place item got)
      where
        by_last : (k : ℕ) → slice_get (new ∷ []) k ≡ Some item → P item
        by_last zero at = subst P (same_Some new item at) own
        by_last (suc k) at = absurd (cc (at))

    -- ---- disks

    abbrev AllOn : Disk → Type 0
    AllOn disk = (block : ℕ) → AllIn (disk.items block)

    abbrev AllOf : (ℕ → Option Disk) → Type 0
    AllOf disks = (vid : ℕ) (disk : Disk) → disks vid ≡ Some disk → AllOn disk

    changed : (place : ℕ) (new : Option Disk) (disks : ℕ → Option Disk) → AllOf disks → ((disk : Disk) → new ≡ Some disk → AllOn disk)
        → AllOf (changed_at place new disks)
    changed place new disks all own vid disk there = by_test (vid == place) there
      where
        by_test : (b : Bool) → cond b new (disks vid) ≡ Some disk → AllOn disk
        by_test true is = own disk is
        by_test false is = all vid disk is

    -- what is had of disks is had of those that are made of them
    mapped : (change : Disk → Disk) → ((disk : Disk) → AllOn disk → AllOn (change disk)) → (old : Option Disk)
        → ((disk : Disk) → old ≡ Some disk → AllOn disk) → (disk : Disk) → option_map change old ≡ Some disk → AllOn disk
    mapped change keeps None all disk is = absurd (cc (is))
    mapped change keeps (Some was) all disk is = subst AllOn (same_Some (change was) disk is) (keeps was (all was refl))

    with_all : (change : List Item → List Item) → ((items : List Item) → AllIn items → AllIn (change items)) → (disks : ℕ → Option Disk)
        → AllOf disks → AllOf (with_items change disks)
    with_all change keeps disks all vid =
        mapped (λ (disk : Disk). record disk { items = λ block. change (disk.items block) })
        (λ disk has block. keeps (disk.items block) (has block)) (disks vid) (λ disk there. all vid disk there)

    with_one : (at : ℕ) (new : Item) → P new → (disk : Disk) → AllOn disk → AllOn (with_item at new disk)
    with_one at new own disk all block = by_test (block == at)
      where
        by_test : (b : Bool) → AllIn (cond b (disk.items at ++ new ∷ []) (disk.items block))
        by_test true = push_in (disk.items at) new (all at) own
        by_test false = all block

    -- ---- events

    -- if the event begins a write, that is so
    abbrev BeginsSo : HistEvent → Type 0
    BeginsSo event = (req vid block : ℕ) (coded : Bool) (bytes : List ℕ) → event ≡ WriteStart req vid block coded bytes
        → P (record { request = Some req; bytes = bytes; coded = coded; mark = Open })

    kept : (ledger : Ledger) (event : HistEvent) → BeginsSo event → AllOf ledger.disks → AllOf (ledger_after ledger event).disks
    kept ledger (Create at blocks) begins all =
        changed at (Some (record { blocks = blocks; items = λ block. zeros_item ∷ []; deleted = false })) ledger.disks all
        (λ disk is. subst AllOn (same_Some (record { blocks = blocks; items = λ block. zeros_item ∷ []; deleted = false }) disk is)
        (λ block. zeros_in))
    kept ledger (Copy old new) begins all =
        changed new (option_map (λ (disk : Disk). record disk { deleted = false }) (ledger.disks old)) ledger.disks all
        (mapped (λ (disk : Disk). record disk { deleted = false }) (λ disk has. has) (ledger.disks old) (λ disk there. all old disk there))
    kept ledger (Delete at) begins all =
        changed at (option_map (λ (disk : Disk). record disk { deleted = true }) (ledger.disks at)) ledger.disks all
        (mapped (λ (disk : Disk). record disk { deleted = true }) (λ disk has. has) (ledger.disks at) (λ disk there. all at disk there))
    kept ledger (WriteStart req at block coded bytes) begins all = by_test (has_block (ledger.disks at) block)
      where
        by_test : (b : Bool) → AllOf (cond b
            (changed_at at (option_map (with_item block (record { request = Some req; bytes = bytes; coded = coded; mark = Open }))
            (ledger.disks at)) ledger.disks) ledger.disks)
        by_test true =
            changed at (option_map (with_item block (record { request = Some req; bytes = bytes; coded = coded; mark = Open }))
            (ledger.disks at))
            ledger.disks all
            (mapped (with_item block (record { request = Some req; bytes = bytes; coded = coded; mark = Open }))
            (with_one block (record { request = Some req; bytes = bytes; coded = coded; mark = Open })
            (begins req at block coded bytes refl))
            (ledger.disks at) (λ disk there. all at disk there))
        by_test false = all
    kept ledger (WriteDone req) begins all = with_all (map (item_with_mark Acknowledged req)) (map_in Acknowledged req) ledger.disks all
    kept ledger (WriteRefused req) begins all =
        with_all (filter (λ (item : Item). not (is_item_of req item))) (filter_in (λ (item : Item). not
        (is_item_of req item))) ledger.disks all
    kept ledger (WriterLost req) begins all = with_all (map (item_with_mark Lost req)) (map_in Lost req) ledger.disks all
    kept ledger (Read from at bytes) begins all = all

    -- ---- a history

    abbrev AllBeginSo : List HistEvent → Type 0
    AllBeginSo history = (req vid block : ℕ) (coded : Bool) (bytes : List ℕ) → Contains history (WriteStart req vid block coded bytes)
        → P (record { request = Some req; bytes = bytes; coded = coded; mark = Open })

    all_kept : (events : List HistEvent) (ledger : Ledger) → AllBeginSo events → AllOf ledger.disks → AllOf
        (fold ledger_after ledger events).disks
    all_kept [] ledger begin all = all
    all_kept (event ∷ events) ledger begin all =
        all_kept events (ledger_after ledger event)
        (λ req vid block coded bytes among. begin req vid block coded bytes (Contains-cons event events
        (WriteStart req vid block coded bytes) among))
        (kept ledger event
        (λ req vid block coded bytes same. begin req vid block coded bytes (subst (Contains (event ∷ events)) same
        (Contains-head event events)))
        all)

    pub items_so : (history : List HistEvent) → AllBeginSo history → (vid block place : ℕ) (disk : Disk) (item : Item)
        → (ledger_of history).disks vid ≡ Some disk → slice_get (disk.items block) place ≡ Some item → P item
    items_so history begin vid block place disk item there got =
        all_kept history empty_ledger begin (λ v d is. absurd (cc (is))) vid disk there block place item got

-- ---- bytes

zeros_bytes : (n k : ℕ) → slice_index (zeros n) k < 256
zeros_bytes zero zero = omega arith
zeros_bytes zero (suc k) = omega arith
zeros_bytes (suc n) zero = omega arith
zeros_bytes (suc n) (suc k) = zeros_bytes n k

-- so coded items are bytes, and those of no request, if the history begins coded writes of bytes alone
abbrev IsOfBytes : Item → Type 0
IsOfBytes item = (item.coded ≡ true → AreBytes item.bytes) × (item.request ≡ None → AreBytes item.bytes)

begun_so : (req : ℕ) (coded : Bool) (bytes : List ℕ) → (coded ≡ true → AreBytes bytes)
    → IsOfBytes (record { request = Some req; bytes = bytes; coded = coded; mark = Open })
begun_so req coded bytes of = (of, λ none. absurd (cc (none)))

pub bytes_stand : (history : List HistEvent) → CodedWritesAreOfBytes history → ItemsAreOfBytes (ledger_of history)
bytes_stand history begun = record {
  each = λ vid block place disk item there got.
      items_so IsOfBytes ((λ coded. λ k. zeros_bytes BLOCK_BYTES k), (λ none. λ k. zeros_bytes BLOCK_BYTES k)) (λ mark one has. has) history
      (λ req v b coded bytes among. begun_so req coded bytes
      (λ is. begun.each req v b bytes (subst (λ (c : Bool). Contains history (WriteStart req v b c bytes)) is among)))
      vid block place disk item there got;
}
