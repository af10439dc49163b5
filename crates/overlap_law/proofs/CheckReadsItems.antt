-- In each run in range a block of the working disk that a request's session has open has no item of the request, as long as that began no
-- write of the block.
use Rattle.std.proofs.Common.{◌≡◌, ℕ, ◌==◌, ◌&&◌, ◌||◌, not, Bool, true, false, cond, List, [], ◌∷◌, ◌++◌, fold, Some}
use Rattle.std.proofs.Common.{refl, sym, subst, ◌∙◌}
use Rattle.std.specs.List.{list_any}
use Rattle.std.specs.FinMap as tree
use Rattle.std.proofs.lemmas.Bool.{and_from, and_parts, both_ways, eq-eqb, eqb-true, or_parts}
use Rattle.std.proofs.lemmas.List.Folds.{list_any-append}
use Rattle.std.proofs.lemmas.List.Sums.{fold-append}
use Rattle.object_id.specs.declared.entry.Entry.{Entry}
use Rattle.cluster_script.specs.declared.statement.Statement.{Statement}
use Rattle.disk_history.specs.declared.event.HistEvent.{HistEvent}
use Rattle.disk_history.specs.declared.event.HistEvent.TheVariants.{Create, Copy, Delete, WriteStart, WriteDone, WriteRefused, WriterLost}
use Rattle.disk_history.specs.declared.event.HistEvent.TheVariants.{Read}
use Rattle.disk_history.specs.Changes.{items_in}
use Rattle.disk_history.specs.Ledger.{Acknowledged, Lost, Item, Ledger, empty_ledger, has_block, is_item_of, ledger_after}
use Rattle.guest_driver.specs.declared.disk.Disk.{Disk}
use Rattle.sheep_world.specs.EventKinds.{outcome_of_step}
use Rattle.sheep_world.specs.NodeCauses.{GuestAsks}
use Rattle.sheep_world.specs.World.{Host}
use Rattle.sheep_world.specs.RunsWithAsks.{Move}
use Rattle.overlap_law.specs.DiskEvents.{IsUnderWay, is_asked_in}
use Rattle.overlap_law.specs.Headline.{ledger_of}
use Rattle.overlap_law.specs.MomentChanges.{RunsAreInRange}
use Rattle.overlap_law.specs.Past.{MomentWithPast, run_with_past}
use Rattle.overlap_law.specs.ToldReads.{begins_write_at}
use Rattle.overlap_law.proofs.BlockItems.{blocks_along, has_alike, items_then, kept_along, makes_disk, new_item}
use Rattle.overlap_law.proofs.DisksOfWriters.{IsWriterAt}
use Rattle.overlap_law.proofs.ItemsOfRequests.{left_none, marked_none, none_behind, none_by_history}
use Rattle.overlap_law.proofs.OpenItemsInRuns.{fewer_make}
use Rattle.overlap_law.proofs.UnderWay.{IsKeptOnHeld}
use Rattle.overlap_law.proofs.UnderWayInRuns.{holds-in_run}
use Rattle.overlap_law.proofs.UnderWayOfEvents.{HoldsAtBegin}

-- what fails with another thing that holds fails
fails_with : (a b : Bool) → b ≡ true → (a && b) ≡ false → a ≡ false
fails_with false b is none = refl
fails_with true b is none = absurd (both_ways b none is)

module _ (req vid block : ℕ) where
  -- none of these items is of the request
  abbrev HasNone : List Item → Type 0
  HasNone items = list_any (is_item_of req) items ≡ false

  -- ---- one event that begins no write of the block

  starts_none : (other disk at : ℕ) (coded : Bool) (bytes : List ℕ) (items : List Item)
      → begins_write_at req vid block (WriteStart other disk at coded bytes) ≡ false → HasNone items → (b : Bool)
      → (vid == disk && block == at) ≡ b → HasNone (cond b (items ++ new_item other coded bytes ∷ []) items)
  starts_none other disk at coded bytes items harm none false off = none
  starts_none other disk at coded bytes items harm none true on =
      let parts = and_parts (vid == disk) (block == at) on in
      let here : (disk == vid && at == block) ≡ true
      = and_from (disk == vid) (at == block) (eq-eqb disk vid (sym (eqb-true vid disk parts.0)))
      (eq-eqb at block (sym (eqb-true block at parts.1))) in
      let apart : (other == req) ≡ false = fails_with (other == req) (disk == vid && at == block) here harm in
      list_any-append (is_item_of req) items (new_item other coded bytes ∷ []) ∙ (λ i. none i || (apart i || false))

  none_stays : (event : HistEvent) (items : List Item) → begins_write_at req vid block event ≡ false → HasNone items
      → HasNone (items_then vid block event items)
  none_stays (Create disk blocks) items harm none = none
  none_stays (Copy old new) items harm none = none
  none_stays (Delete disk) items harm none = none
  none_stays (WriteStart other disk at coded bytes) items harm none =
      starts_none other disk at coded bytes items harm none (vid == disk && block == at) refl
  none_stays (WriteDone other) items harm none = marked_none Acknowledged other req items none
  none_stays (WriteRefused other) items harm none = left_none (λ (item : Item). not (is_item_of other item)) req items none
  none_stays (WriterLost other) items harm none = marked_none Lost other req items none
  none_stays (Read disk at bytes) items harm none = none

  -- ---- several

  -- so it is by a history, where the disk has the block
  abbrev pub HasNoneBy : List HistEvent → Type 0
  HasNoneBy history = list_any (begins_write_at req vid block) history ≡ false → has_block ((ledger_of history).disks vid) block ≡ true
      → list_any (is_item_of req) (items_in ((ledger_of history).disks vid) block) ≡ false

  none_then : (history grown : List HistEvent) → list_any (makes_disk vid block) grown ≡ false → HasNoneBy history
      → HasNoneBy (history ++ grown)
  none_then history grown makes before none has =
      let parts = or_parts (list_any (begins_write_at req vid block) history) (list_any (begins_write_at req vid block) grown)
      (sym (list_any-append (begins_write_at req vid block) history grown) ∙ none) in
      let both : ledger_of (history ++ grown) ≡ fold ledger_after (ledger_of history) grown
      = fold-append ledger_after empty_ledger history grown in
      let had : has_block ((ledger_of history).disks vid) block ≡ true
      = has_alike vid block ((fold ledger_after (ledger_of history) grown).disks vid) ((ledger_of history).disks vid)
      (blocks_along vid block grown (ledger_of history) makes)
      ∙ subst (λ (ledger : Ledger). has_block (ledger.disks vid) block ≡ true) both has in
      subst (λ (ledger : Ledger). HasNone (items_in (ledger.disks vid) block)) (sym both)
      (kept_along vid block HasNone (begins_write_at req vid block) none_stays grown (ledger_of history) makes parts.1 had
      (before parts.0 had))

-- ---- in each run

module _ (script : List Statement) (range : RunsAreInRange script) (req : ℕ) (writer : IsWriterAt script req) where
  abbrev HasNoneOn : List Entry → List HistEvent → ℕ → Type 0
  HasNoneOn log history vid = (block : ℕ) → HasNoneBy req vid block history

  none_keeps : IsKeptOnHeld script range req writer HasNoneOn
  none_keeps world began event made happened grows n host there up request got disk opened working others ends history was block =
      none_then req disk.inode.vid block history made.grown
      (fewer_make (is_asked_in script request.session) disk.inode.vid block made.grown others) (was block)

  none_starts : HoldsAtBegin script range req writer HasNoneOn
  none_starts world began n host there session other ask caused own request got disk opened working others ends history unbegun block =
      none_then req disk.inode.vid block history (outcome_of_step script n host (GuestAsks session other ask) world).grown
      (fewer_make (is_asked_in script session.number) disk.inode.vid block
      (outcome_of_step script n host (GuestAsks session other ask) world).grown others)
      (λ none has. none_by_history req history (none_behind req history false unbegun refl) disk.inode.vid block)

  pub unbegun_none-in_run : (events : List Move) (moment : MomentWithPast) → run_with_past script events ≡ Some moment → (n : ℕ)
      (host : Host) → tree.get moment.world.hosts n ≡ Some host → host.is_lost ≡ false → (opened : Disk)
      → IsUnderWay host.node req opened → (block : ℕ) → HasNoneBy req opened.inode.vid block moment.past.history
  unbegun_none-in_run events moment run n host there up opened way block =
      holds-in_run script range req writer HasNoneOn none_keeps none_starts events moment run n host there up opened way block
