-- In each run in range the items of a write without reply are on the working disk that its session has open alone, and have the bytes of
-- the write's blocks: for they began there, and a disk that is copied is given no more.
use Rattle.std.proofs.Common.{◌≡◌, inl, ⊎_elim, ℕ, zero, suc, ◌+◌, ◌<◌, ◌==◌, Bool, true, false, List, [], ◌∷◌, ◌++◌, length, map, fold}
use Rattle.std.proofs.Common.{Option, Some, None, slice_get, refl, sym, ap, subst, ◌∙◌, arith}
use Rattle.std.specs.Prelude.{◌/◌}
use Rattle.std.specs.List.{list_any, range_with_len}
use Rattle.std.specs.Option.{option_map_or, option_and_then}
use Rattle.std.specs.FinMap as tree
use Rattle.std.proofs.lemmas.List.Sums.{fold-append}
use Rattle.object_id.specs.declared.entry.Entry.{Entry}
use Rattle.object_id.specs.declared.limits.TheConstants.{BLOCK_BYTES}
use Rattle.object_id.specs.declared.oid.Kind.TheVariants.{Block}
use Rattle.gf256.specs.Part.{is_in_strips}
use Rattle.disk_history.specs.declared.event.HistEvent.{HistEvent}
use Rattle.disk_history.specs.declared.event.HistEvent.TheVariants.{WriteStart}
use Rattle.disk_history.specs.Changes.{items_in}
use Rattle.disk_history.specs.Ledger.{Item, Ledger, empty_ledger, is_item_of, ledger_after}
use Rattle.vdi_directory.specs.Decisions.{log_effects}
use Rattle.vdi_directory.specs.States.{is_live_state}
use Rattle.vdi_directory.proofs.DecisionLaws.{held-works}
use Rattle.cluster_script.specs.declared.statement.Statement.{Statement}
use Rattle.cluster_script.specs.declared.statement.Statement.TheVariants as lines
use Rattle.cluster_script.specs.NumberedRequests.{request_at, payload_of}
use Rattle.guest_driver.specs.declared.disk.Disk.{Disk}
use Rattle.sheep_world.specs.Asking.{ask_of_statement}
use Rattle.sheep_world.specs.Effects.{open_disk_at, request_started}
use Rattle.sheep_world.specs.EventKinds.{outcome_of_step}
use Rattle.sheep_world.specs.HistoryAdditions.{begins_on, block_in, replies_grown, request_grown}
use Rattle.sheep_world.specs.NodeCauses.{GuestAsks, world_after_cause}
use Rattle.sheep_world.specs.World.{Host}
use Rattle.sheep_world.proofs.ClientReads.{goes_by_kind}
use Rattle.sheep_world.specs.RunsWithAsks.{Move}
use Rattle.overlap_law.specs.AloneItems.{IsOwnItem, HasOwnItems, WritesHaveOwnItems}
use Rattle.overlap_law.specs.DiskEvents.{IsUnderWay}
use Rattle.overlap_law.specs.Headline.{ledger_of}
use Rattle.overlap_law.specs.MomentChanges.{RunsAreInRange}
use Rattle.overlap_law.specs.Past.{MomentWithPast, run_with_past}
use Rattle.overlap_law.specs.WriterClaims.{IsGivenNoMore}
use Rattle.overlap_law.specs.Writers.{session_holder}
use Rattle.overlap_law.proofs.AloneCopies.{event_begins_none, event_copies, replies_copy_none}
use Rattle.overlap_law.proofs.AloneItems.{AreSo, AreFine, IsFine, along, at_place, copies_disk, fine_joined, fine_of, without_items}
use Rattle.overlap_law.proofs.DisksOfWriters.{IsWriterAt, no_command, no_more_then}
use Rattle.overlap_law.proofs.HoldersInWorlds.{held_given, working_held}
use Rattle.overlap_law.proofs.ItemsOfReplies as replied
use Rattle.overlap_law.proofs.ItemsOfRequests.{begins_write_of, none_behind, none_by_history}
use Rattle.overlap_law.proofs.NoRecoveredDue.{began-with_past}
use Rattle.overlap_law.proofs.PublishedInodes.{live_was}
use Rattle.overlap_law.proofs.StartedWrites.{WritesBytes, writes_is}
use Rattle.overlap_law.proofs.UnderWay.{IsKeptOnHeld}
use Rattle.overlap_law.proofs.UnderWayInRuns.{holds-in_run}
use Rattle.overlap_law.proofs.UnderWayOfEvents.{HoldsAtBegin}

-- ---- what a write begins

module _ (req vid offset : ℕ) (payload : List ℕ) where
  abbrev pub Own : ℕ → ℕ → List ℕ → Type 0
  Own disk block bytes = IsOwnItem vid offset payload disk block bytes

  abbrev pub AreOwn : Ledger → Type 0
  AreOwn ledger = AreSo req (IsOwnItem vid offset payload) ledger

  abbrev pub AreOwnBegun : List HistEvent → Type 0
  AreOwnBegun events = AreFine req (IsOwnItem vid offset payload) events

  row_fine : (make : ℕ → HistEvent) (first count : ℕ) → ((k : ℕ) → k < first + count → IsFine req (IsOwnItem vid offset payload) (make k))
      → AreOwnBegun (map make (range_with_len first count))
  row_fine make first zero each = tt
  row_fine make first (suc count) each =
      (each first (omega arith), row_fine make (first + 1) count (λ k within. each k (omega (arith, within))))

  -- on the disk it is what is asked
  module _ (other : ℕ) (disk : Disk) (on : disk.inode.vid ≡ vid) where
    statement_fine : (s : Statement) → WritesBytes offset payload (ask_of_statement s) → AreOwnBegun (begins_on other (Some disk) s)
    statement_fine (lines.Write number from size pattern) is =
        let start : from ≡ offset = cc (is) in
        let bytes : payload_of pattern size ≡ payload = cc (is) in
        row_fine
        (λ (place : ℕ). WriteStart other disk.inode.vid (from / BLOCK_BYTES + place) (is_in_strips disk.inode.spec.policy Block)
        (block_in (payload_of pattern size) place)) 0 (length (payload_of pattern size) / BLOCK_BYTES)
        (λ place within own.
        let less : place < length (payload_of pattern size) / BLOCK_BYTES = omega (arith, within) in
        record {
          same = on;
          place = place;
          inside = subst (λ (list : List ℕ). place < length list / BLOCK_BYTES) bytes less;
          at = ap (λ (k : ℕ). k / BLOCK_BYTES + place) start;
          is = ap (λ (list : List ℕ). block_in list place) bytes;
        })
    statement_fine (lines.Create session policy shift name size) is = absurd (cc (is))
    statement_fine (lines.OpenDisk session name tag) is = absurd (cc (is))
    statement_fine (lines.Close session) is = absurd (cc (is))
    statement_fine (lines.Read session from size) is = absurd (cc (is))
    statement_fine (lines.Snapshot session tag) is = absurd (cc (is))
    statement_fine (lines.Clone session base tag name) is = absurd (cc (is))
    statement_fine (lines.Delete session name tag) is = absurd (cc (is))
    statement_fine (lines.Check session) is = absurd (cc (is))
    statement_fine s is = absurd (cc (is))

    pub begun_fine : (o : Option Disk) (s : Option Statement) → o ≡ Some disk
        → WritesBytes offset payload (option_and_then ask_of_statement s)
        → AreOwnBegun (option_map_or (begins_on other o) s [])
    begun_fine o None opened is = absurd (cc (is))
    begun_fine o (Some s) opened is =
        subst (λ (found : Option Disk). AreOwnBegun (begins_on other found s)) (sym opened) (statement_fine s is)

  -- what neither begins a write of it nor copies a disk
  pub others_fine : (events : List HistEvent) → list_any (copies_disk vid) events ≡ false → list_any (begins_write_of req) events ≡ false
      → AreOwnBegun events
  others_fine = fine_of req vid (IsOwnItem vid offset payload) (λ disk block bytes is. is.same)

  -- a history that grows
  pub grown_own : (history grown : List HistEvent) → AreOwnBegun grown → AreOwn (ledger_of history) → AreOwn (ledger_of (history ++ grown))
  grown_own history grown fine all =
      subst (AreSo req (IsOwnItem vid offset payload)) (sym (fold-append ledger_after empty_ledger history grown))
      (along req (IsOwnItem vid offset payload) grown (ledger_of history) fine all)

  -- one in which the request began nothing
  pub unbegun_own : (history : List HistEvent) → list_any (begins_write_of req) history ≡ false → AreOwn (ledger_of history)
  unbegun_own history none =
      without_items req (IsOwnItem vid offset payload) (ledger_of history)
      (none_by_history req history (none_behind req history false none refl))

  pub items_own : (ledger : Ledger) → AreOwn ledger → HasOwnItems req vid offset payload ledger
  items_own ledger all disk block place item got own =
      at_place req (IsOwnItem vid offset payload) disk block (items_in (ledger.disks disk) block) place item (all disk block) got own

-- ---- in each run

module _ (script : List Statement) (range : RunsAreInRange script) (req offset : ℕ) (payload : List ℕ)
    (is : WritesBytes offset payload (option_and_then ask_of_statement (request_at script req))) where
  writer : IsWriterAt script req
  writer = inl (writes_is offset payload (request_at script req) is)

  -- as long as the disk may be given
  abbrev OwnOn : List Entry → List HistEvent → ℕ → Type 0
  OwnOn log history vid = (IsGivenNoMore log vid → ⊥) → AreOwn req vid offset payload (ledger_of history)

  own_keeps : IsKeptOnHeld script range req writer OwnOn
  own_keeps world began event made happened grows n host there up request got disk opened working others ends history was yet =
      let kind = goes_by_kind script event world made happened in
      let vid : ℕ = disk.inode.vid in
      let held = working_held script range world began n host there up request.session disk opened working
      (no_command script range world began n host there req request got writer) in
      let published = live_was vid world.log
      (ap is_live_state (held-works world.log vid (session_holder n request.session) held)) in ⊎_elim
      (λ (none : list_any (copies_disk disk.inode.vid) made.grown ≡ false).
      grown_own req vid offset payload history made.grown
      (others_fine req vid offset payload made.grown none
      (event_begins_none script range world began req (writes_is offset payload (request_at script req) is) n host there request got event
      made kind))
      (was (λ gone.
      yet (subst (λ (log : List Entry). IsGivenNoMore log disk.inode.vid) (sym grows.1) (no_more_then world.log grows.0 vid gone)))))
      (λ (gone : IsGivenNoMore made.world.log disk.inode.vid). absurd (yet gone))
      (event_copies script vid world published event made kind)

  own_starts : HoldsAtBegin script range req writer OwnOn
  own_starts world began n host there session other ask caused own request got disk opened working others ends history unbegun yet =
      let vid : ℕ = disk.inode.vid in
      let starts = request_grown script world session (Some other) in
      let found = request_started session (Some other) world in
      let after = world_after_cause script n host (GuestAsks session other ask) world in
      let asked : WritesBytes offset payload (option_and_then ask_of_statement (request_at script other))
      = subst (λ (k : ℕ). WritesBytes offset payload (option_and_then ask_of_statement (request_at script k))) (sym own) is in
      grown_own req vid offset payload history (outcome_of_step script n host (GuestAsks session other ask) world).grown
      (fine_joined req (IsOwnItem vid offset payload) starts (replies_grown script found None after)
      (begun_fine req vid offset payload other disk refl (open_disk_at session world) (request_at script other) opened asked)
      (others_fine req vid offset payload (replies_grown script found None after)
      (replies_copy_none script vid found None after.outputs.replies)
      (replied.replies_none script req found None after.outputs.replies)))
      (unbegun_own req vid offset payload history unbegun)

-- at the end of an event
pub are_own-in_run : (script : List Statement) → RunsAreInRange script → (events : List Move) (moment : MomentWithPast)
    → run_with_past script events ≡ Some moment → (n : ℕ) (host : Host) → tree.get moment.world.hosts n ≡ Some host → host.is_lost ≡ false
    → (req offset : ℕ) (payload : List ℕ) (opened : Disk) → IsUnderWay host.node req opened
    → WritesBytes offset payload (option_and_then ask_of_statement (request_at script req))
    → AreOwn req opened.inode.vid offset payload (ledger_of moment.past.history)
are_own-in_run script range events moment ran n host there up req offset payload opened way asked =
    let began = began-with_past script events moment ran in
    let held = working_held script range moment.world began n host there up way.request.session opened way.on way.working
    (no_command script range moment.world began n host there req way.request way.there (writer script range req offset payload asked)) in
    holds-in_run script range req (writer script range req offset payload asked) (OwnOn script range req offset payload asked)
    (own_keeps script range req offset payload asked) (own_starts script range req offset payload asked) events moment ran n host there up
    opened way
    (held_given moment.world.log opened.inode.vid (session_holder n way.request.session) held)

pub own_items-in_run : (script : List Statement) → RunsAreInRange script → (events : List Move) (moment : MomentWithPast)
    → run_with_past script events ≡ Some moment → WritesHaveOwnItems script (ledger_of moment.past.history) moment.world.hosts
own_items-in_run script range events moment ran = record {
  each = λ n host there up req offset payload opened way asked.
      items_own req opened.inode.vid offset payload (ledger_of moment.past.history)
      (are_own-in_run script range events moment ran n host there up req offset payload opened way asked);
}
