-- In each run in range the items of a request without reply are on the working disk that its session has open alone: those of a check begin
-- there, as those of a write do, and a disk that is copied is given no more.
use Rattle.std.proofs.Common.{◌≡◌, inl, inr, ⊎_elim, ℕ, Bool, true, false, List, [], ◌++◌, Option, Some, None, slice_get, refl, sym, ap}
use Rattle.std.proofs.Common.{subst, ◌∙◌}
use Rattle.std.specs.List.{list_any}
use Rattle.std.specs.Option.{option_map_or, option_and_then}
use Rattle.std.specs.FinMap as tree
use Rattle.std.proofs.lemmas.List.Sums.{fold-append}
use Rattle.object_id.specs.declared.entry.Entry.{Entry}
use Rattle.disk_history.specs.declared.event.HistEvent.{HistEvent}
use Rattle.disk_history.specs.Changes.{items_in}
use Rattle.disk_history.specs.Ledger.{Ledger, empty_ledger, ledger_after}
use Rattle.vdi_directory.specs.States.{is_live_state}
use Rattle.vdi_directory.proofs.DecisionLaws.{held-works}
use Rattle.cluster_script.specs.declared.statement.Statement.{Statement}
use Rattle.cluster_script.specs.declared.statement.Statement.TheVariants as lines
use Rattle.cluster_script.specs.NumberedRequests.{request_at}
use Rattle.guest_driver.specs.declared.disk.Disk.{Disk}
use Rattle.peer_proto.specs.declared.guest.DiskAsk.TheVariants as disk_asks
use Rattle.sheep_node.specs.declared.ask.Ask.TheVariants as asks
use Rattle.sheep_world.specs.Asking.{ask_of_statement}
use Rattle.sheep_world.specs.Effects.{open_disk_at, request_started}
use Rattle.sheep_world.specs.EventKinds.{outcome_of_step}
use Rattle.sheep_world.specs.HistoryAdditions.{begins_on, is_write, replies_grown, request_grown}
use Rattle.sheep_world.specs.NodeCauses.{GuestAsks, world_after_cause}
use Rattle.sheep_world.specs.World.{Host, World}
use Rattle.sheep_world.proofs.ClientReads.{goes_by_kind}
use Rattle.sheep_world.specs.RunsWithAsks.{Move}
use Rattle.overlap_law.specs.AloneOnDisks.{HasItemsOn, ItemsAreOnTheirDisk}
use Rattle.overlap_law.specs.DiskEvents.{IsUnderWay}
use Rattle.overlap_law.specs.Headline.{ledger_of}
use Rattle.overlap_law.specs.MomentChanges.{RunsAreInRange}
use Rattle.overlap_law.specs.Past.{MomentWithPast, run_with_past}
use Rattle.overlap_law.specs.WriterClaims.{IsGivenNoMore}
use Rattle.overlap_law.specs.Writers.{session_holder}
use Rattle.overlap_law.proofs.AloneChecks.{AllBeginOn, IsThatDisk, begin_joined, begin_not, event_on, on_fine}
use Rattle.overlap_law.proofs.AloneCopies.{asks_copy_none, event_copies, no_check, replies_copy_none}
use Rattle.overlap_law.proofs.AloneItems.{AreSo, along, at_place, copies_disk, without_items}
use Rattle.overlap_law.proofs.AloneItemsInRuns.{own_items-in_run}
use Rattle.overlap_law.proofs.DiskEventsOfHolders.{append_none}
use Rattle.overlap_law.proofs.DisksOfWriters.{IsWriterAt, no_command, no_more_then}
use Rattle.overlap_law.proofs.HoldersInWorlds.{held_given, working_held}
use Rattle.overlap_law.proofs.ItemsAtBegin.{request_begins}
use Rattle.overlap_law.proofs.ItemsOfReplies as replied
use Rattle.overlap_law.proofs.ItemsOfReplies.{is_check_at}
use Rattle.overlap_law.proofs.ItemsOfRequests.{begins_write_of, none_behind, none_by_history}
use Rattle.overlap_law.proofs.NoRecoveredDue.{began-with_past}
use Rattle.overlap_law.proofs.PublishedInodes.{live_was}
use Rattle.overlap_law.proofs.UnderWay.{IsKeptOnHeld}
use Rattle.overlap_law.proofs.UnderWayInRuns.{holds-in_run, writer_in_run}
use Rattle.overlap_law.proofs.UnderWayOfEvents.{HoldsAtBegin}

-- a write of the script asks to write
pub write_asks : (o : Option Statement) → option_map_or is_write o false ≡ true
    → (offset : ℕ) × (payload : List ℕ) × (option_and_then ask_of_statement o ≡ Some (asks.Disk (disk_asks.Write offset payload)))
write_asks None is = absurd (cc (is))
write_asks (Some (lines.Write session offset length pattern)) is = (_, _, refl)
write_asks (Some s) is = absurd (cc (is))

module _ (req vid : ℕ) where
  abbrev pub AreOn : Ledger → Type 0
  AreOn ledger = AreSo req (IsThatDisk req vid) ledger

  -- a history that grows
  pub still_on : (history grown : List HistEvent) → list_any (copies_disk vid) grown ≡ false → AllBeginOn req vid grown
      → AreOn (ledger_of history) → AreOn (ledger_of (history ++ grown))
  still_on history grown copies on all =
      subst (AreSo req (IsThatDisk req vid)) (sym (fold-append ledger_after empty_ledger history grown))
      (along req (IsThatDisk req vid) grown (ledger_of history) (on_fine req vid grown copies on) all)

  -- one in which the request began nothing
  pub unbegun_on : (history : List HistEvent) → list_any (begins_write_of req) history ≡ false → AreOn (ledger_of history)
  unbegun_on history none =
      without_items req (IsThatDisk req vid) (ledger_of history) (none_by_history req history (none_behind req history false none refl))

  pub items_on : (ledger : Ledger) → AreOn ledger → HasItemsOn req vid ledger
  items_on ledger all disk block place item got own =
      at_place req (IsThatDisk req vid) disk block (items_in (ledger.disks disk) block) place item (all disk block) got own

-- ---- of checks

module _ (script : List Statement) (range : RunsAreInRange script) (req : ℕ) (checks : is_check_at script req ≡ true) where
  -- as long as the disk may be given
  abbrev OnOwn : List Entry → List HistEvent → ℕ → Type 0
  OnOwn log history vid = (IsGivenNoMore log vid → ⊥) → AreOn req vid (ledger_of history)

  keeps : IsKeptOnHeld script range req (inr checks) OnOwn
  keeps world began event made happened grows n host there up request got disk opened working others ends history was yet =
      let kind = goes_by_kind script event world made happened in
      let vid : ℕ = disk.inode.vid in
      let held = working_held script range world began n host there up request.session disk opened working
      (no_command script range world began n host there req request got (inr checks)) in
      let published = live_was vid world.log
      (ap is_live_state (held-works world.log vid (session_holder n request.session) held)) in ⊎_elim
      (λ (none : list_any (copies_disk disk.inode.vid) made.grown ≡ false).
      still_on req disk.inode.vid history made.grown none
      (event_on script range world began req n host there request got disk opened event made kind)
      (was (λ gone.
      yet (subst (λ (log : List Entry). IsGivenNoMore log disk.inode.vid) (sym grows.1) (no_more_then world.log grows.0 vid gone)))))
      (λ (gone : IsGivenNoMore made.world.log disk.inode.vid). absurd (yet gone))
      (event_copies script vid world published event made kind)

  -- it begins without a write
  pub begins_none : (session : Option Disk) (other : ℕ) → other ≡ req
      → list_any (begins_write_of req) (option_map_or (begins_on other session) (request_at script other) []) ≡ false
  begins_none session other own =
      by_value (list_any (begins_write_of req) (option_map_or (begins_on other session) (request_at script other) [])) refl
    where
      by_value : (b : Bool) → list_any (begins_write_of req) (option_map_or (begins_on other session) (request_at script other) []) ≡ b
          → b ≡ false
      by_value false is = refl
      by_value true is =
          absurd (no_check (request_at script other) (request_begins req other session (request_at script other) is).2
          (ap (is_check_at script) own ∙ checks))

  starts : HoldsAtBegin script range req (inr checks) OnOwn
  starts world began n host there session other ask caused own request got disk opened working others ends history unbegun yet =
      let vid : ℕ = disk.inode.vid in
      let begun = request_grown script world session (Some other) in
      let found = request_started session (Some other) world in
      let after = world_after_cause script n host (GuestAsks session other ask) world in
      let told = replies_grown script found None after in
      still_on req disk.inode.vid history (outcome_of_step script n host (GuestAsks session other ask) world).grown
      (append_none (copies_disk vid) begun told (asks_copy_none script vid other (open_disk_at session world) (request_at script other))
      (replies_copy_none script vid found None after.outputs.replies))
      (begin_joined req vid begun told (begin_not req vid begun (begins_none (open_disk_at session world) other own))
      (begin_not req vid told (replied.replies_none script req found None after.outputs.replies)))
      (unbegun_on req vid history unbegun)

  pub check_on-in_run : (events : List Move) (moment : MomentWithPast) → run_with_past script events ≡ Some moment → (n : ℕ) (host : Host)
      → tree.get moment.world.hosts n ≡ Some host → host.is_lost ≡ false → (opened : Disk) → IsUnderWay host.node req opened
      → AreOn req opened.inode.vid (ledger_of moment.past.history)
  check_on-in_run events moment ran n host there up opened way =
      let began = began-with_past script events moment ran in
      let held = working_held script range moment.world began n host there up way.request.session opened way.on way.working
      (no_command script range moment.world began n host there req way.request way.there (inr checks)) in
      holds-in_run script range req (inr checks) OnOwn keeps starts events moment ran n host there up opened way
      (held_given moment.world.log opened.inode.vid (session_holder n way.request.session) held)

-- ---- of each request

module _ (script : List Statement) (range : RunsAreInRange script) (events : List Move) (moment : MomentWithPast)
    (ran : run_with_past script events ≡ Some moment) where
  module _ (n : ℕ) (host : Host) (there : tree.get moment.world.hosts n ≡ Some host) (up : host.is_lost ≡ false) (req : ℕ)
      (opened : Disk) (way : IsUnderWay host.node req opened) where
    by_writer : IsWriterAt script req → HasItemsOn req opened.inode.vid (ledger_of moment.past.history)
    by_writer (inl writes) = λ disk block place item got own.
        let (offset, payload, asked) = write_asks (request_at script req) writes in
        ((own_items-in_run script range events moment ran).each n host there up req offset payload opened way asked disk block place item
        got own).same
    by_writer (inr checks) =
        items_on req opened.inode.vid (ledger_of moment.past.history)
        (check_on-in_run script range req checks events moment ran n host there up opened way)

    by_value : (b : Bool) → list_any (begins_write_of req) moment.past.history ≡ b
        → HasItemsOn req opened.inode.vid (ledger_of moment.past.history)
    by_value false none =
        items_on req opened.inode.vid (ledger_of moment.past.history) (unbegun_on req opened.inode.vid moment.past.history none)
    by_value true so = by_writer (writer_in_run script range req events moment ran so)

  pub on_their_disk-in_run : ItemsAreOnTheirDisk (ledger_of moment.past.history) moment.world.hosts
  on_their_disk-in_run = record {
    each = λ n host there up req opened way.
        by_value n host there up req opened way (list_any (begins_write_of req) moment.past.history) refl;
  }
