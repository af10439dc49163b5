-- In every run in range each item of a request that hasn't ended is on the disk on which the request is under way.
use Rattle.std.proofs.Common.{◌≡◌, ⊎_elim, ℕ, zero, suc, ◌<◌, ◌==◌, Bool, true, false, List, [], ◌∷◌, ◌++◌, fold, Option, Some, None}
use Rattle.std.proofs.Common.{option_map, slice_get, refl, sym, ap, subst, ◌∙◌}
use Rattle.std.specs.List.{list_any}
use Rattle.std.specs.FinMap as tree
use Rattle.std.proofs.lemmas.Bool.{both_ways, eq-eqb, or_left, or_right, or_parts, lt-ltb}
use Rattle.std.proofs.lemmas.List.Folds.{list_any-append}
use Rattle.std.proofs.lemmas.List.Sums.{fold-append}
use Rattle.std.proofs.lemmas.Option.{same_Some}
use Rattle.object_id.specs.declared.entry.Entry.{Entry}
use Rattle.object_id.specs.declared.oid.Vid.{Vid}
use Rattle.cluster_script.specs.declared.statement.Statement.{Statement}
use Rattle.disk_history.specs.declared.event.HistEvent.{HistEvent}
use Rattle.disk_history.specs.declared.event.HistEvent.TheVariants.{Copy}
use Rattle.disk_history.specs.Changes.{items_in}
use Rattle.disk_history.specs.Ledger.{Item, Disk, Ledger, empty_ledger, has_block, is_item_of, ledger_after}
use Rattle.vdi_directory.specs.Chains.{is_above}
use Rattle.vdi_directory.specs.Decisions.{log_effects}
use Rattle.vdi_directory.specs.References.{parent_of}
use Rattle.vdi_directory.proofs.ChainLemmas.{is_parent_or_above}
use Rattle.vdi_directory.proofs.LineLemmas.{above-line, line-log_effects}
use Rattle.sheep_node.specs.declared.event.Event.{Event}
use Rattle.sheep_world.specs.Began.{Began, MakesMove}
use Rattle.sheep_world.specs.EventKinds.{EventKind}
use Rattle.sheep_world.specs.Step.{EventOutcome}
use Rattle.sheep_world.specs.World.{World}
use Rattle.sheep_world.proofs.ClientReads.{goes_by_kind}
use Rattle.sheep_world.specs.RunsWithAsks.{Move}
use Rattle.overlap_law.specs.DiskEvents.{ends_write_of}
use Rattle.overlap_law.specs.Headline.{ledger_of}
use Rattle.overlap_law.specs.LastReads.{was_snapped}
use Rattle.overlap_law.specs.MomentChanges.{RunsAreInRange, Still}
use Rattle.overlap_law.specs.Past.{MomentWithPast, past_after_event, first_moment, moment_after, run_on, run_with_past}
use Rattle.overlap_law.specs.Writers.{session_holder}
use Rattle.overlap_law.specs.SoundItems.{IsUnderWayOn, OpenItemsAreUnderWay}
use Rattle.overlap_law.proofs.ClosedSnapshots.{snapped_no_more}
use Rattle.overlap_law.proofs.CopiesMade.{IsCopyMade, copy_made}
use Rattle.overlap_law.proofs.DisksOfWriters.{IsOnOpenDisk, IsWriterAt, no_command, on_open_disk}
use Rattle.overlap_law.proofs.DisksPublished.{AreOut, kept_out, disks_out}
use Rattle.overlap_law.proofs.DraftsOfLogs.{parent_stays, used_reserved}
use Rattle.overlap_law.proofs.HoldersInWorlds.{held_given, working_held}
use Rattle.overlap_law.proofs.ItemsInRuns.{BothAt, opens_known, events_known}
use Rattle.overlap_law.proofs.ItemsOfRequests.{begins_write_of, may_have_items, none_behind, none_by_history}
use Rattle.overlap_law.proofs.ItemsOfWriters.{Writing}
use Rattle.overlap_law.proofs.LegalRuns.{legal-in_run}
use Rattle.overlap_law.proofs.NoRecoveredDue.{began-with_past}
use Rattle.overlap_law.proofs.PublishedChains.{chain_was_snapped}
use Rattle.overlap_law.proofs.PublishedInodes.{was_published}
use Rattle.overlap_law.proofs.RefusedInRuns.{AreAnsweredAt, opens_answered, events_answered}
use Rattle.overlap_law.proofs.RequestsTold.{ended_told}
use Rattle.overlap_law.proofs.RunsByChanges.{on_the_way}
use Rattle.overlap_law.proofs.RunsByEvents.{run-kept_by_events}
use Rattle.overlap_law.proofs.RunsWithOneMore.{run_with_one_more}
use Rattle.overlap_law.proofs.SoundAtWork.{IsAtWork, work_stays}
use Rattle.overlap_law.proofs.SoundItems.{HasItemOf}
use Rattle.overlap_law.proofs.SoundMarks.{open_unended}
use Rattle.overlap_law.proofs.SoundOpen.{Origin, Had, Begun, Copied, origin}
use Rattle.overlap_law.proofs.SoundWorking.{on_working_disk}
use Rattle.overlap_law.proofs.StartedOnce.{UnansweredAreOnce, once-in_run, disk_of_began}
use Rattle.overlap_law.proofs.UnderWayInRuns.{writer_in_run}

-- a disk that has a block is there
has_disk : (o : Option Disk) (block : ℕ) → has_block o block ≡ true → (disk : Disk) × (o ≡ Some disk)
has_disk None block has = absurd (cc (has))
has_disk (Some disk) block has = (disk, refl)

module _ (script : List Statement) (range : RunsAreInRange script) where
  -- ---- at the end of an event

  module _ (events : List Move) (moment : MomentWithPast) (run : run_with_past script events ≡ Some moment) (req : ℕ) where
    began : Began script moment.world
    began = began-with_past script events moment run

    -- who has an item may have some
    may_have : (vid : ℕ) → HasItemOf req (ledger_of moment.past.history) vid → may_have_items req moment.past.history ≡ true
    may_have vid has = by_value (may_have_items req moment.past.history) refl
      where
        by_value : (b : Bool) → may_have_items req moment.past.history ≡ b → may_have_items req moment.past.history ≡ true
        by_value true is = is
        by_value false none =
            let all = none_by_history req moment.past.history none vid has.block in
            absurd (both_ways (list_any (is_item_of req) (items_in ((ledger_of moment.past.history).disks vid) has.block)) all has.item)

    -- and began a write
    pub has_begun : (vid : ℕ) → HasItemOf req (ledger_of moment.past.history) vid
        → list_any (begins_write_of req) moment.past.history ≡ true
    has_begun vid has = by_value (list_any (begins_write_of req) moment.past.history) refl
      where
        by_value : (b : Bool) → list_any (begins_write_of req) moment.past.history ≡ b
            → list_any (begins_write_of req) moment.past.history ≡ true
        by_value true is = is
        by_value false none =
            absurd (both_ways (may_have_items req moment.past.history) (none_behind req moment.past.history false none refl)
            (may_have vid has))

    pub writes : (vid : ℕ) → HasItemOf req (ledger_of moment.past.history) vid → Writing script range req moment.world.hosts
    writes vid has =
        (run-kept_by_events script (BothAt script range req) (opens_known script range req) (events_known script range req) events
        moment run).1.1
        (may_have vid has)

    module _ (vid : ℕ) (work : IsAtWork script moment.world.hosts moment.world.guests req vid) (writer : IsWriterAt script req) where
      abbrev open_disk : IsOnOpenDisk script range moment.world began work.n work.host work.there req work.request work.got writer
      open_disk = on_open_disk script range moment.world began work.n work.host work.there req work.request work.got writer

      -- it has the disk open
      same_disk : (on_open_disk script range moment.world began work.n work.host work.there req work.request work.got writer).disk.inode.vid
          ≡ vid
      same_disk =
          let single = once-in_run script events moment run in
          same_Some open_disk.disk.inode.vid vid
          (sym (disk_of_began script moment.world single req (Some open_disk.disk.inode.vid) open_disk.on)
          ∙ disk_of_began script moment.world single req (Some vid) work.on)

      pub under_way : IsUnderWayOn moment.world.hosts req vid
      under_way = record {
        n = work.n;
        host = work.host;
        there = work.there;
        up = work.up;
        opened = open_disk.disk;
        way = record {
          request = work.request;
          there = work.got;
          on = open_disk.opened;
          working = on_working_disk script range moment.world began work.n work.host work.there req work.request work.got writer;
        };
        on = same_disk;
      }

      -- so its disk has no child
      no_child : (child : ℕ) → was_published moment.world.log child ≡ true → is_above (log_effects moment.world.log) vid child ≡ true → ⊥
      no_child child published above =
          let held = working_held script range moment.world began work.n work.host work.there work.up work.request.session open_disk.disk
          open_disk.opened (on_working_disk script range moment.world began work.n work.host work.there req work.request work.got writer)
          (no_command script range moment.world began work.n work.host work.there req work.request work.got writer) in
          held_given moment.world.log open_disk.disk.inode.vid (session_holder work.n work.request.session) held
          (snapped_no_more open_disk.disk.inode.vid moment.world.log
          (ap (was_snapped moment.world.log) same_disk ∙ chain_was_snapped moment.world.log vid child published above))

  -- ---- over an event

  abbrev OpenAt : MomentWithPast → Type 0
  OpenAt moment = (req vid : ℕ) → list_any (ends_write_of req) moment.past.history ≡ false
      → HasItemOf req (ledger_of moment.past.history) vid → IsAtWork script moment.world.hosts moment.world.guests req vid

  module _ (events : List Move) (event : Event) (before : MomentWithPast) (made : EventOutcome)
      (run : run_with_past script events ≡ Some before) (happened : MakesMove script event before.world made) (all : OpenAt before)
      (req vid : ℕ) where
    abbrev after : MomentWithPast
    after = moment_after script event before made

    run_after : run_with_past script (events ++ happened.move ∷ []) ≡ Some (moment_after script event before made)
    run_after = run_with_one_more script event made events before happened run

    began_before : Began script before.world
    began_before = began-with_past script events before run

    history_so : (moment_after script event before made).past.history ≡ before.past.history ++ made.grown
    unfolding past_after_event
    history_so = refl

    -- a disk that is copied is at nobody's work
    copied_none : (entry : Entry) (old : ℕ) → made.world.log ≡ before.world.log ++ entry ∷ []
        → IsCopyMade before.world.log old vid → IsAtWork script made.world.hosts made.world.guests req old → IsWriterAt script req
        → HasItemOf req (ledger_of (moment_after script event before made).past.history) vid → ⊥
    copied_none entry old longer copy work writer item =
        let used = used_reserved before.world.log vid copy.reservation copy.stands in
        let parent : parent_of (log_effects made.world.log) vid ≡ Some copy.base
        = ap (λ (log : List Entry). parent_of (log_effects log) vid) longer ∙ parent_stays before.world.log (entry ∷ []) vid used
        ∙ copy.parent in
        let above : is_above (log_effects made.world.log) old vid ≡ true
        = above-line (log_effects made.world.log) (line-log_effects made.world.log) old vid
        ∙ ap (λ (o : Option Vid). is_parent_or_above (is_above (log_effects made.world.log)) old o) parent
        ∙ or_left (copy.base.0 == old) (is_above (log_effects made.world.log) old copy.base.0) (eq-eqb copy.base.0 old copy.same) in
        let (disk, there) = has_disk ((ledger_of (moment_after script event before made).past.history).disks vid) item.block item.has in
        let published = (disks_out (moment_after script event before made)
        (on_the_way script AreOut (kept_out script range) (events ++ happened.move ∷ []) (moment_after script event before made)
        (moment_after script event before made) run_after Still)).each vid disk there in
        no_child (events ++ happened.move ∷ []) (moment_after script event before made) run_after req old work writer vid published above

    stays_open : list_any (ends_write_of req) (moment_after script event before made).past.history ≡ false
        → HasItemOf req (ledger_of (moment_after script event before made).past.history) vid
        → IsAtWork script made.world.hosts made.world.guests req vid
    stays_open unended item =
        by_origin (origin script range before.world began_before before.past.refused are once req vid (ledger_of before.past.history) event
        made kind parts.1 item_then)
      where
        are : AreAnsweredAt script before
        are = run-kept_by_events script (AreAnsweredAt script) (opens_answered script) (events_answered script) events before run

        once : UnansweredAreOnce before.world.guests
        once = once-in_run script events before run

        kind : EventKind script event before.world made
        kind = goes_by_kind script event before.world made happened

        parts : (list_any (ends_write_of req) before.past.history ≡ false) × (list_any (ends_write_of req) made.grown ≡ false)
        parts = or_parts (list_any (ends_write_of req) before.past.history) (list_any (ends_write_of req) made.grown)
            (sym (list_any-append (ends_write_of req) before.past.history made.grown)
            ∙ ap (list_any (ends_write_of req)) (sym history_so) ∙ unended)

        item_then : HasItemOf req (fold ledger_after (ledger_of before.past.history) made.grown) vid
        item_then =
            subst (λ (ledger : Ledger). HasItemOf req ledger vid)
            (ap ledger_of history_so ∙ fold-append ledger_after empty_ledger before.past.history made.grown) item

        stays : (of : ℕ) → HasItemOf req (ledger_of before.past.history) of → IsAtWork script made.world.hosts made.world.guests req of
        stays of has =
            work_stays script range before.world began_before before.past.refused are once req (writes events before run req of has) of
            (all req of parts.0 has) event made kind parts.1

        by_origin : Origin script range before.world began_before before.past.refused are once req vid (ledger_of before.past.history) made
            → IsAtWork script made.world.hosts made.world.guests req vid
        by_origin (Had has) = stays vid has
        by_origin (Begun work) = work
        by_origin (Copied entry old longer adds has) =
            absurd (copied_none entry old longer (copy_made before.world.log old vid entry adds) (stays old has)
            (writer_in_run script range req events before run (has_begun events before run req old has)) item)

  -- ---- every run

  abbrev HoldsInRun : MomentWithPast → Type 0
  HoldsInRun moment = (events : List Move) × (run_with_past script events ≡ Some moment) × OpenAt moment

  opens : HoldsInRun (first_moment script)
  unfolding run_with_past run_on
  opens = ([], refl, λ req vid unended item. let has = item.has in absurd (cc (has)))

  keeps : (event : Event) (before : MomentWithPast) (made : EventOutcome) → Began script before.world
      → MakesMove script event before.world made → HoldsInRun before → HoldsInRun (moment_after script event before made)
  keeps event before made begun is holds = (
    holds.0 ++ is.move ∷ [],
    run_with_one_more script event made holds.0 before is holds.1,
    λ req vid. stays_open holds.0 event before made holds.1 is holds.2 req vid,
  )

  open-in_run : (events : List Move) (moment : MomentWithPast) → run_with_past script events ≡ Some moment → OpenAt moment
  open-in_run events moment run = (run-kept_by_events script HoldsInRun opens keeps events moment run).2

  -- an item among a block's
  item_among : (req : ℕ) (items : List Item) (place : ℕ) (item : Item) → slice_get items place ≡ Some item → is_item_of req item ≡ true
      → list_any (is_item_of req) items ≡ true
  item_among req [] place item got of = absurd (cc (got))
  item_among req (first ∷ later) zero item got of =
      or_left (is_item_of req first) (list_any (is_item_of req) later) (ap (is_item_of req) (same_Some first item got) ∙ of)
  item_among req (first ∷ later) (suc place) item got of =
      or_right (is_item_of req first) (list_any (is_item_of req) later) (item_among req later place item got of)

  pub has_item : (events : List Move) (moment : MomentWithPast) → run_with_past script events ≡ Some moment → (req vid block place : ℕ)
      (disk : Disk) (item : Item) → (ledger_of moment.past.history).disks vid ≡ Some disk → block < disk.blocks
      → slice_get (disk.items block) place ≡ Some item → is_item_of req item ≡ true → HasItemOf req (ledger_of moment.past.history) vid
  has_item events moment run req vid block place disk item there below got of = record {
    block = block;
    has = ap (λ (o : Option Disk). has_block o block) there ∙ lt-ltb block disk.blocks below;
    item = ap (λ (o : Option Disk). list_any (is_item_of req) (items_in o block)) there
        ∙ item_among req (disk.items block) place item got of;
  }

  -- who has one is a write or a check
  pub item_writer : (events : List Move) (moment : MomentWithPast) → run_with_past script events ≡ Some moment → (req vid block place : ℕ)
      (disk : Disk) (item : Item) → (ledger_of moment.past.history).disks vid ≡ Some disk → block < disk.blocks
      → slice_get (disk.items block) place ≡ Some item → is_item_of req item ≡ true → IsWriterAt script req
  item_writer events moment run req vid block place disk item there below got of =
      writer_in_run script range req events moment run
      (has_begun events moment run req vid (has_item events moment run req vid block place disk item there below got of))

  pub open_under_way-in_run : (events : List Move) (moment : MomentWithPast) → run_with_past script events ≡ Some moment
      → OpenItemsAreUnderWay (ledger_of moment.past.history) moment.world.hosts
  open_under_way-in_run events moment run = record {
    unended = λ req vid block place disk item there got of mark_so.
        open_unended req moment.past.history (legal-in_run script range events moment run) vid block place item
        (ap (λ (o : Option Disk). slice_get (items_in o block) place) there ∙ got) of mark_so;
    each = λ req vid block place disk item there below got of going.
        let has = has_item events moment run req vid block place disk item there below got of in
        under_way events moment run req vid
        (open-in_run events moment run req vid (sym (ended_told req moment.past.history) ∙ going) has)
        (writer_in_run script range req events moment run (has_begun events moment run req vid has));
  }
