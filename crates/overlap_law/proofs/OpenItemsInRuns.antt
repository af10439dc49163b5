-- In each run in range what a request without reply began to write, on the working disk that its session has open, is open.
use Rattle.std.proofs.Common.{◌≡◌, ⊎_elim, ℕ, Bool, true, false, List, [], ◌∷◌, ◌++◌, fold, Contains, Some, refl, sym, subst, ◌∙◌, ◌||◌}
use Rattle.std.specs.List.{list_any}
use Rattle.std.proofs.lemmas.Bool.{or_parts}
use Rattle.std.proofs.lemmas.List.Elements.{Contains-append_cases}
use Rattle.std.proofs.lemmas.List.Sums.{fold-append}
use Rattle.object_id.specs.declared.entry.Entry.{Entry}
use Rattle.disk_history.specs.declared.event.HistEvent.{HistEvent}
use Rattle.disk_history.specs.declared.event.HistEvent.TheVariants.{Create, Copy, Delete, WriteStart, WriteDone, WriteRefused, WriterLost}
use Rattle.disk_history.specs.declared.event.HistEvent.TheVariants.{Read}
use Rattle.disk_history.specs.Changes.{items_in}
use Rattle.disk_history.specs.Ledger.{Item, Ledger, empty_ledger, has_block, ledger_after}
use Rattle.cluster_script.specs.declared.statement.Statement.{Statement}
use Rattle.sheep_world.specs.EventKinds.{outcome_of_step}
use Rattle.sheep_world.specs.NodeCauses.{GuestAsks}
use Rattle.sheep_world.specs.RunsWithAsks.{Move}
use Rattle.overlap_law.specs.DiskEvents.{begins_by_others, is_asked_in, ends_write_of, HasOpenItem, WritesUnderWayAreOpen}
use Rattle.overlap_law.specs.Headline.{ledger_of}
use Rattle.overlap_law.specs.MomentChanges.{RunsAreInRange}
use Rattle.overlap_law.specs.Past.{MomentWithPast, run_with_past}
use Rattle.overlap_law.proofs.BegunWriters.{begun_in}
use Rattle.overlap_law.proofs.BlockItems.{begun_along, blocks_along, has_alike, items_then, kept_along, makes_disk, new_item}
use Rattle.overlap_law.proofs.DisksOfWriters.{IsWriterAt}
use Rattle.overlap_law.proofs.OpenItems.{open_begins, open_stays}
use Rattle.overlap_law.proofs.UnderWay.{IsKeptOnHeld}
use Rattle.overlap_law.proofs.UnderWayInRuns.{holds-in_run, writer_in_run}
use Rattle.overlap_law.proofs.UnderWayOfEvents.{HoldsAtBegin}

-- where others begin nothing on a disk, nothing makes it
pub fewer_make : (owns : ℕ → Bool) (vid block : ℕ) (events : List HistEvent)
    → list_any (begins_by_others vid owns) events ≡ false → list_any (makes_disk vid block) events ≡ false
fewer_make owns vid block [] none = refl
fewer_make owns vid block (event ∷ later) none =
    let parts = or_parts (begins_by_others vid owns event) (list_any (begins_by_others vid owns) later) none in
    let first = one event parts.0 in
    let rest = fewer_make owns vid block later parts.1 in
    λ i. first i || rest i
  where
    one : (event : HistEvent) → begins_by_others vid owns event ≡ false → makes_disk vid block event ≡ false
    one (Create disk blocks) none = none
    one (Copy old new) none = none
    one (Delete disk) none = refl
    one (WriteStart req disk at coded bytes) none = refl
    one (WriteDone req) none = refl
    one (WriteRefused req) none = refl
    one (WriterLost req) none = refl
    one (Read disk at bytes) none = refl

-- ---- one event that doesn't make the disk

module _ (req : ℕ) (vid block : ℕ) (coded : Bool) (bytes : List ℕ) (K : List Item → Type 0) (harms : HistEvent → Bool)
    (keeps : (event : HistEvent) (items : List Item) → harms event ≡ false → K items → K (items_then vid block event items))
    (begins : (items : List Item) → K (items ++ new_item req coded bytes ∷ [])) (history grown : List HistEvent)
    (none : list_any (makes_disk vid block) grown ≡ false) (calm : list_any harms grown ≡ false) where
  both : ledger_of (history ++ grown) ≡ fold ledger_after (ledger_of history) grown
  both = fold-append ledger_after empty_ledger history grown

  -- the disk had the block before
  had : has_block ((ledger_of (history ++ grown)).disks vid) block ≡ true → has_block ((ledger_of history).disks vid) block ≡ true
  had has =
      has_alike vid block ((fold ledger_after (ledger_of history) grown).disks vid) ((ledger_of history).disks vid)
      (blocks_along vid block grown (ledger_of history) none)
      ∙ subst (λ (ledger : Ledger). has_block (ledger.disks vid) block ≡ true) both has

  -- what holds of a write that began holds then, and of one that begins
  pub kept_then : has_block ((ledger_of (history ++ grown)).disks vid) block ≡ true
      → (Contains history (WriteStart req vid block coded bytes) → has_block ((ledger_of history).disks vid) block ≡ true
      → K (items_in ((ledger_of history).disks vid) block))
      → Contains (history ++ grown) (WriteStart req vid block coded bytes)
      → K (items_in ((ledger_of (history ++ grown)).disks vid) block)
  kept_then has before there =
      subst (λ (ledger : Ledger). K (items_in (ledger.disks vid) block)) (sym both) (⊎_elim
      (λ (old : Contains history (WriteStart req vid block coded bytes)).
      kept_along vid block K harms keeps grown (ledger_of history) none calm (had has) (before old (had has)))
      (λ (new : Contains grown (WriteStart req vid block coded bytes)).
      begun_along vid block K harms keeps req coded bytes begins grown (ledger_of history) none calm (had has) new)
      (Contains-append_cases history grown (WriteStart req vid block coded bytes) there))

module _ (script : List Statement) (range : RunsAreInRange script) (req : ℕ) where
  -- what began on the disk, on a block that it has, is open
  abbrev pub IsOpenOn : List Entry → List HistEvent → ℕ → Type 0
  IsOpenOn log history vid = (block : ℕ) (coded : Bool) (bytes : List ℕ) → Contains history (WriteStart req vid block coded bytes)
      → has_block ((ledger_of history).disks vid) block ≡ true
      → HasOpenItem (items_in ((ledger_of history).disks vid) block) req bytes

  -- ---- in each run

  module _ (writer : IsWriterAt script req) where
    open_keeps : IsKeptOnHeld script range req writer IsOpenOn
    open_keeps world began event made happened grows n host there up request got disk opened working others ends history was
        block coded bytes there_is has =
        kept_then req disk.inode.vid block coded bytes (λ items. HasOpenItem items req bytes) (ends_write_of req)
        (open_stays req bytes disk.inode.vid block) (open_begins req bytes coded) history made.grown
        (fewer_make (is_asked_in script request.session) disk.inode.vid block made.grown others) ends has (was block coded bytes) there_is

    open_starts : HoldsAtBegin script range req writer IsOpenOn
    open_starts world began n host there session other ask caused own request got disk opened working others ends history unbegun
        block coded bytes there_is has =
        kept_then req disk.inode.vid block coded bytes (λ items. HasOpenItem items req bytes) (ends_write_of req)
        (open_stays req bytes disk.inode.vid block) (open_begins req bytes coded) history
        (outcome_of_step script n host (GuestAsks session other ask) world).grown
        (fewer_make (is_asked_in script session.number) disk.inode.vid block
        (outcome_of_step script n host (GuestAsks session other ask) world).grown others) ends has
        (λ old has_old.
        let begun = begun_in history req disk.inode.vid block coded bytes old in
        absurd (cc (unbegun, begun))) there_is

pub under_way-in_run : (script : List Statement) → RunsAreInRange script → (events : List Move) (moment : MomentWithPast)
    → run_with_past script events ≡ Some moment → WritesUnderWayAreOpen moment.past.history moment.world.hosts
under_way-in_run script range events moment is = record {
  each = λ n host there up req block opened coded bytes way there_is has.
      let writer = writer_in_run script range req events moment is
      (begun_in moment.past.history req opened.inode.vid block coded bytes there_is) in
      holds-in_run script range req writer (IsOpenOn script range req) (open_keeps script range req writer)
      (open_starts script range req writer) events moment is n host there up opened way block coded bytes there_is has;
}
