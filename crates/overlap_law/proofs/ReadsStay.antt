-- What was read of a block, so that it stays, is still as it may be read after a history gets events that keep it so.
use Rattle.std.proofs.Common.{◌≡◌, inl, inr, ℕ, ◌==◌, not, Bool, true, false, cond, List, [], ◌∷◌, ◌++◌, map, filter, fold, Option, Some}
use Rattle.std.proofs.Common.{None, option_map, slice_get, refl, sym, ap, subst, ◌∙◌}
use Rattle.std.specs.List.{list_any}
use Rattle.std.proofs.lemmas.Bool.{both_ways, or_parts, eqb-true}
use Rattle.std.proofs.lemmas.List.Sums.{fold-append}
use Rattle.std.proofs.lemmas.Option.{same_Some}
use Rattle.disk_history.specs.declared.event.HistEvent.{HistEvent}
use Rattle.disk_history.specs.declared.event.HistEvent.TheVariants.{Create, Copy, Delete, WriteStart, WriteDone, WriteRefused, WriterLost}
use Rattle.disk_history.specs.declared.event.HistEvent.TheVariants.{Read}
use Rattle.disk_history.specs.Changes.{items_in}
use Rattle.disk_history.specs.Legal.{is_torn}
use Rattle.disk_history.specs.Ledger.{Mark, Open, Acknowledged, Lost, Item, Disk, Ledger, empty_ledger, zeros_item, is_item_of}
use Rattle.disk_history.specs.Ledger.{item_with_mark, changed_at, with_item, has_block, ledger_after}
use Rattle.cluster_script.specs.declared.statement.Statement.{Statement}
use Rattle.overlap_law.specs.Attempts.{AttemptRecord}
use Rattle.overlap_law.specs.Headline.{ledger_of}
use Rattle.overlap_law.specs.MomentChanges.{MomentChange, MomentTrail, RunsAreInRange}
use Rattle.overlap_law.specs.Past.{MomentWithPast, run_with_past}
use Rattle.overlap_law.specs.StayingBlocks.{ItemsAreOpen}
use Rattle.overlap_law.specs.ToldReads.{MayStayReadAs, KeepsReadsOf, AllKeepReadsOf, StoodBefore}
use Rattle.overlap_law.proofs.BlocksInMoments.{may_still}
use Rattle.overlap_law.proofs.ItemsStayOpen.{marked_other, open_later, items_open}
use Rattle.overlap_law.proofs.ItemsGoOn.{GoOn, more_go_on, lost_go_on, refused_go_on}
use Rattle.sheep_world.specs.RunsWithAsks.{Move}

-- marks of a request without items change nothing
unmarked : (mark : Mark) (req : ℕ) (items : List Item) → list_any (is_item_of req) items ≡ false
    → map (item_with_mark mark req) items ≡ items
unmarked mark req [] none = refl
unmarked mark req (item ∷ items) none =
    let parts = or_parts (is_item_of req item) (list_any (is_item_of req) items) none in
    let first = marked_other mark req item parts.0 in
    let rest = unmarked mark req items parts.1 in
    λ i. first i ∷ rest i

module _ (attempts : List AttemptRecord) where
  -- items that go on let be read what stays
  gone_on : (Apart : Option ℕ → Type 0) (items later : List Item) → GoOn attempts Apart items later → Apart None → (bytes : List ℕ)
      → MayStayReadAs attempts items bytes → MayStayReadAs attempts later bytes
  gone_on Apart items later goes nobody bytes may = by_torn (is_torn later) refl may
    where
      by_torn : (b : Bool) → is_torn later ≡ b → MayStayReadAs attempts items bytes → MayStayReadAs attempts later bytes
      by_torn true is may = inl is
      by_torn false is (inl torn) = absurd (both_ways (is_torn items) (goes.whole is) torn)
      by_torn false is (inr may) = inr (goes.stay None bytes nobody may)

  module _ (ledger : Ledger) (vid block : ℕ) where
    abbrev Stood : Disk → Type 0
    Stood disk = StoodBefore attempts ledger vid block disk

    stood_same : (disk : Disk) → ledger.disks vid ≡ Some disk → disk.deleted ≡ false → Stood disk
    stood_same disk there kept = record { was = disk; there = there; kept = kept; blocks = refl; stays = λ bytes may. may }

    -- another disk is changed, or this one
    one_changed : (place : ℕ) (new : Option Disk) (disk : Disk) → ((vid == place) ≡ true → new ≡ Some disk → Stood disk)
        → changed_at place new ledger.disks vid ≡ Some disk → disk.deleted ≡ false → Stood disk
    one_changed place new disk own there kept = by_test (vid == place) refl there
      where
        by_test : (b : Bool) → (vid == place) ≡ b → cond b new (ledger.disks vid) ≡ Some disk → Stood disk
        by_test true same there = own same there
        by_test false apart there = stood_same disk there kept

    -- all items are changed alike
    all_changed : (change : List Item → List Item) (disk : Disk)
        → ((was : Disk) → ledger.disks vid ≡ Some was → (bytes : List ℕ) → MayStayReadAs attempts (was.items block) bytes
        → MayStayReadAs attempts (change (was.items block)) bytes)
        → option_map (λ (disk : Disk). record disk { items = λ block. change (disk.items block) }) (ledger.disks vid) ≡ Some disk
        → disk.deleted ≡ false → Stood disk
    all_changed change disk goes there kept = by_disk (ledger.disks vid) refl there
      where
        by_disk : (o : Option Disk) → ledger.disks vid ≡ o
            → option_map (λ (disk : Disk). record disk { items = λ block. change (disk.items block) }) o ≡ Some disk → Stood disk
        by_disk None is there = absurd (cc (there))
        by_disk (Some was) is there =
            let same = same_Some (record was { items = λ block. change (was.items block) }) disk there in
            record {
              was = was;
              there = is;
              kept = ap (λ (d : Disk). d.deleted) same ∙ kept;
              blocks = ap (λ (d : Disk). d.blocks) (sym same);
              stays = λ bytes may.
                  subst (λ (d : Disk). MayStayReadAs attempts (d.items block) bytes) same (goes was is bytes may);
            }

    -- an item more
    item_more : (req at : ℕ) (coded : Bool) (written : List ℕ) (disk : Disk)
        → option_map (with_item at (record { request = Some req; bytes = written; coded = coded; mark = Open })) (ledger.disks vid)
        ≡ Some disk
        → disk.deleted ≡ false → Stood disk
    item_more req at coded written disk there kept = by_disk (ledger.disks vid) refl there
      where
        new : Item
        new = record { request = Some req; bytes = written; coded = coded; mark = Open }

        by_block : (was : Disk) (bytes : List ℕ) → MayStayReadAs attempts (was.items block) bytes → (b : Bool) → (block == at) ≡ b
            → MayStayReadAs attempts (cond b (was.items at ++ new ∷ []) (was.items block)) bytes
        by_block was bytes may true here =
            gone_on (λ (by : Option ℕ). Unit {0}) (was.items at) (was.items at ++ new ∷ [])
            (more_go_on attempts (was.items at) new refl) tt bytes
            (subst (λ (k : ℕ). MayStayReadAs attempts (was.items k) bytes) (eqb-true block at here) may)
        by_block was bytes may false apart = may

        by_disk : (o : Option Disk) → ledger.disks vid ≡ o → option_map (with_item at new) o ≡ Some disk → Stood disk
        by_disk None is there = absurd (cc (there))
        by_disk (Some was) is there =
            let same = same_Some (with_item at new was) disk there in
            record {
              was = was;
              there = is;
              kept = ap (λ (d : Disk). d.deleted) same ∙ kept;
              blocks = ap (λ (d : Disk). d.blocks) (sym same);
              stays = λ bytes may.
                  subst (λ (d : Disk). MayStayReadAs attempts (d.items block) bytes) same (by_block was bytes may (block == at) refl);
            }

    event_stood : (event : HistEvent) → ItemsAreOpen ledger → KeepsReadsOf attempts ledger vid block event → (disk : Disk)
        → (ledger_after ledger event).disks vid ≡ Some disk → disk.deleted ≡ false → Stood disk
    event_stood (Create place blocks) unended keeps disk there kept =
        one_changed place (Some (record { blocks = blocks; items = λ block. zeros_item ∷ []; deleted = false })) disk
        (λ same. absurd (cc (keeps, same))) there
        kept
    event_stood (Copy old new) unended keeps disk there kept =
        one_changed new (option_map (λ (disk : Disk). record disk { deleted = false }) (ledger.disks old)) disk
        (λ same. absurd (cc (keeps, same))) there kept
    event_stood (Delete place) unended keeps disk there kept =
        one_changed place (option_map (λ (disk : Disk). record disk { deleted = true }) (ledger.disks place)) disk
        (λ same gone. absurd (none_left (ledger.disks place) gone)) there kept
      where
        none_left : (o : Option Disk) → option_map (λ (disk : Disk). record disk { deleted = true }) o ≡ Some disk → ⊥
        none_left None gone = cc (gone)
        none_left (Some was) gone =
            let is : true ≡ disk.deleted = ap (λ (d : Disk). d.deleted) (same_Some (record was { deleted = true }) disk gone) in
            cc (is, kept)
    event_stood (WriteStart req place at coded written) unended keeps disk there kept = by_test (has_block (ledger.disks place) at) there
      where
        new : Option Disk
        new = option_map (with_item at (record { request = Some req; bytes = written; coded = coded; mark = Open })) (ledger.disks place)

        by_test : (b : Bool) → cond b (changed_at place new ledger.disks) ledger.disks vid ≡ Some disk → Stood disk
        by_test true there =
            one_changed place new disk
            (λ same is. item_more req at coded written disk
            (subst (λ (v : ℕ). option_map (with_item at (record { request = Some req; bytes = written; coded = coded; mark = Open }))
            (ledger.disks v) ≡ Some disk) (sym (eqb-true vid place same)) is) kept) there kept
        by_test false there = stood_same disk there kept
    event_stood (WriteDone req) unended keeps disk there kept =
        all_changed (map (item_with_mark Acknowledged req)) disk
        (λ was is bytes may.
        subst (λ (items : List Item). MayStayReadAs attempts items bytes)
        (sym (unmarked Acknowledged req (was.items block)
        (ap (λ (o : Option Disk). list_any (is_item_of req) (items_in o block)) (sym is) ∙ keeps))) may)
        there kept
    event_stood (WriteRefused req) unended keeps disk there kept =
        all_changed (filter (λ item. not (is_item_of req item))) disk
        (λ was is bytes may.
        gone_on (λ (by : Option ℕ). by ≡ Some req → ⊥) (was.items block) (filter (λ item. not (is_item_of req item)) (was.items block))
        (refused_go_on attempts req (was.items block)
        (λ place item got own. unended.each req vid block place item keeps.0
        (ap (λ (o : Option Disk). slice_get (items_in o block) place) is ∙ got) own) keeps.1)
        (λ none. cc (none)) bytes may)
        there kept
    event_stood (WriterLost req) unended keeps disk there kept =
        all_changed (map (item_with_mark Lost req)) disk
        (λ was is bytes may.
        gone_on (λ (by : Option ℕ). Unit {0}) (was.items block) (map (item_with_mark Lost req) (was.items block))
        (lost_go_on attempts req (was.items block)
        (λ place item got own. unended.each req vid block place item keeps
        (ap (λ (o : Option Disk). slice_get (items_in o block) place) is ∙ got) own))
        tt bytes may)
        there kept
    event_stood (Read place at bytes) unended keeps disk there kept = stood_same disk there kept

  -- ---- several events

  all_stood : (events : List HistEvent) (ledger : Ledger) (vid block : ℕ) → ItemsAreOpen ledger
      → AllKeepReadsOf attempts ledger vid block events → (disk : Disk) → (fold ledger_after ledger events).disks vid ≡ Some disk
      → disk.deleted ≡ false → StoodBefore attempts ledger vid block disk
  all_stood [] ledger vid block unended keep disk there kept = stood_same ledger vid block disk there kept
  all_stood (event ∷ events) ledger vid block unended keep disk there kept =
      let next = all_stood events (ledger_after ledger event) vid block (open_later ledger event unended) keep.1 disk there kept in
      let before = event_stood ledger vid block event unended keep.0 next.was next.there next.kept in
      record {
        was = before.was;
        there = before.there;
        kept = before.kept;
        blocks = next.blocks ∙ before.blocks;
        stays = λ bytes may. next.stays bytes (before.stays bytes may);
      }

  pub stood : (history grown : List HistEvent) (vid block : ℕ) (disk : Disk) → AllKeepReadsOf attempts (ledger_of history) vid block grown
      → (ledger_of (history ++ grown)).disks vid ≡ Some disk → disk.deleted ≡ false
      → StoodBefore attempts (ledger_of history) vid block disk
  stood history grown vid block disk keep there kept =
      all_stood grown (ledger_of history) vid block (items_open history) keep disk
      (ap (λ (ledger : Ledger). ledger.disks vid) (sym (fold-append ledger_after empty_ledger history grown)) ∙ there) kept

-- ---- over a change

-- as attempts go on, what was read stays so
pub read_still : (script : List Statement) → RunsAreInRange script → (events : List Move) (start before after : MomentWithPast)
    → run_with_past script events ≡ Some start → MomentTrail script start before → MomentChange script start before after
    → (items : List Item) (bytes : List ℕ) → MayStayReadAs before.past.attempts items bytes → MayStayReadAs after.past.attempts items bytes
read_still script range events start before after run trail change items bytes (inl torn) = inl torn
read_still script range events start before after run trail change items bytes (inr may) =
    inr (may_still script range events start before after run trail change items None bytes may)
