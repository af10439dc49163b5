-- In the middle of a step a disk on which a session has a read is one of the history, as large as its inode says; and the read began on it.
use Rattle.std.proofs.Common.{◌≡◌, ⊎_elim, arith, ℕ, Bool, true, false, List, [], ◌∷◌, ◌++◌, append_assoc, fold, Option, None, Some, IfSome}
use Rattle.std.proofs.Common.{refl, sym, ap, subst, ◌∙◌}
use Rattle.std.specs.Prelude.{◌/◌, flat_map}
use Rattle.std.specs.List.{list_all, list_any}
use Rattle.std.specs.FinMap as tree
use Rattle.std.proofs.lemmas.Bool.{and_parts, both_ways, or_from}
use Rattle.std.proofs.lemmas.List.Sums.{fold-append}
use Rattle.std.proofs.lemmas.Option.{same_Some}
use Rattle.proof_tools.proofs.FiniteMaps.{get-insert_same}
use Rattle.object_id.specs.declared.entry.Entry.{Entry}
use Rattle.object_id.specs.declared.entry.VdiSpec.{VdiSpec}
use Rattle.cluster_script.specs.declared.statement.Statement.{Statement}
use Rattle.disk_history.specs.declared.event.HistEvent.{HistEvent}
use Rattle.disk_history.specs.declared.event.HistEvent.TheVariants.{Create, Copy, Delete, WriteStart, WriteDone, WriteRefused, WriterLost}
use Rattle.disk_history.specs.declared.event.HistEvent.TheVariants.{Read}
use Rattle.disk_history.specs.Changes.{blocks_in}
use Rattle.disk_history.specs.Ledger as histories
use Rattle.disk_history.specs.Ledger.{Ledger, empty_ledger, ledger_after}
use Rattle.guest_driver.specs.declared.disk.Disk.{Disk}
use Rattle.inode.specs.Layout.{Content}
use Rattle.peer_proto.specs.declared.guest.GuestRsp.{GuestRsp}
use Rattle.vdi_directory.specs.Decisions.{log_effects}
use Rattle.vdi_directory.specs.States.{Working, is_live_state, state_of}
use Rattle.vdi_directory.proofs.DecisionLaws.{held-works}
use Rattle.vdi_ops.specs.Op.{Op}
use Rattle.sheep_node.specs.declared.course.Course.{Course}
use Rattle.sheep_node.specs.declared.course.Course.TheVariants.{Commanding}
use Rattle.sheep_node.specs.declared.course.Request.{Request}
use Rattle.sheep_node.specs.Changes.{HasRequest}
use Rattle.sheep_node.specs.May.{is_disk_course}
use Rattle.sheep_node.specs.State.{session_at}
use Rattle.sheep_node.specs.StepState.{StepState}
use Rattle.sheep_world.specs.Began.{Began}
use Rattle.sheep_world.specs.HistoryAdditions.{disk_of}
use Rattle.sheep_world.specs.NodeCauses.{NodeCause, GuestAsks, RequestComes, ReplyComes, LossIsTold, EntryIsRead, EntryIsPut, RecoveryTicks}
use Rattle.sheep_world.specs.NodeCauses.{WorkIsRetried, ClientAsks, host_with_node, input_of_cause, progress_at_cause}
use Rattle.sheep_world.specs.World.{Host, World}
use Rattle.sheep_world.specs.RunsWithAsks.{Move}
use Rattle.overlap_law.specs.Each.{spec_in}
use Rattle.overlap_law.specs.Headline.{ledger_of}
use Rattle.overlap_law.specs.HistoryGrowth.{added_at_cause, added_by_reply, world_at_cause}
use Rattle.overlap_law.specs.MomentChanges.{MomentTrail, Still, RunsAreInRange}
use Rattle.overlap_law.specs.Past.{MomentWithPast, run_with_past}
use Rattle.overlap_law.specs.RequestsOfScript.{IsOnDisk}
use Rattle.overlap_law.specs.Sessions.{HoldsDisk, IsLettingGo}
use Rattle.overlap_law.specs.StepMoments.{SteppingNode, IsStepping, StepsByChanges, LeadsInStep, first_in_step, moment_in_step}
use Rattle.overlap_law.specs.ToldReads.{IsDiskOf}
use Rattle.overlap_law.specs.Writers.{session_holder}
use Rattle.overlap_law.proofs.AnswersInMoments.{not_lost}
use Rattle.overlap_law.proofs.BlockItems.{blocks_along, makes_disk}
use Rattle.overlap_law.proofs.BlocksInRuns.{blocks-in_run}
use Rattle.overlap_law.proofs.ClosedSnapshots.{on_snapshot}
use Rattle.overlap_law.proofs.CoursesOfAsks.{IsPlacedAt, PlacedSoFar, course_placed, plain}
use Rattle.overlap_law.proofs.CoursesAtChanges.{placed_in_chain}
use Rattle.overlap_law.proofs.CoursesOfScript.{BeganOn, asked_by, brings, placed_found, requests_placed}
use Rattle.overlap_law.proofs.CreatesFirst.{session_of}
use Rattle.overlap_law.proofs.DiskShapes.{ArePlain, cause_plain, flat_plain, is_plain, joined_plain, reply_plain, shape, shapes_so}
use Rattle.overlap_law.proofs.DisksByTheLog.{AreThere, kept_there, disks_live}
use Rattle.overlap_law.proofs.DrawnClones.{shown}
use Rattle.overlap_law.proofs.EntriesFollow.{AreShown, kept_shown}
use Rattle.overlap_law.proofs.HeldDisks.{held-in_run}
use Rattle.overlap_law.proofs.HistoryInMoments.{history_so}
use Rattle.overlap_law.proofs.LogsOfMoments.{log_by_changes}
use Rattle.overlap_law.proofs.NoRecoveredDue.{began-with_past}
use Rattle.overlap_law.proofs.OpenSnapshotsOfHistory.{snapped_shown}
use Rattle.overlap_law.proofs.ReadInMoments.{HostsAreSound, kept_sound}
use Rattle.overlap_law.proofs.ReadsInSteps.{alone_so_far, may, queued, sole}
use Rattle.overlap_law.proofs.RefusedInRuns.{AreAnsweredAt, opens_answered, events_answered}
use Rattle.overlap_law.proofs.RunsByChanges.{on_the_way}
use Rattle.overlap_law.proofs.RunsByEvents.{run-kept_by_events}
use Rattle.overlap_law.proofs.SharedTables.{IsSharedDisk}
use Rattle.overlap_law.proofs.StartedOnce.{UnansweredAreOnce, caused_once, disk_of_began, once-in_run}
use Rattle.overlap_law.proofs.TablesOfReads.{disks_along, reading_along}
use Rattle.overlap_law.proofs.UnansweredRequests.{Guests}

-- plain events make no disk
plain_none : (vid : ℕ) (events : List HistEvent) → ArePlain events → list_any (makes_disk vid 0) events ≡ false
plain_none vid [] are = refl
plain_none vid (event ∷ events) are =
    let parts = and_parts (is_plain event) (list_all is_plain events) are in
    or_from (makes_disk vid 0 event) (list_any (makes_disk vid 0) events) (one event parts.0) (plain_none vid events parts.1)
  where
    one : (event : HistEvent) → is_plain event ≡ true → makes_disk vid 0 event ≡ false
    one (Create disk blocks) is = absurd (cc (is))
    one (Copy old new) is = absurd (cc (is))
    one (Delete disk) is = refl
    one (WriteStart req disk at coded bytes) is = refl
    one (WriteDone req) is = refl
    one (WriteRefused req) is = refl
    one (WriterLost req) is = refl
    one (Read disk at bytes) is = refl

module _ (script : List Statement) (range : RunsAreInRange script) (events : List Move) (start : MomentWithPast)
    (run : run_with_past script events ≡ Some start) where
  began : Began script start.world
  began = began-with_past script events start run

  module _ (stepping : SteppingNode) (is : IsStepping script start.world stepping) (by : StepsByChanges stepping.cause) (so_far : StepState)
      (leads : LeadsInStep stepping (first_in_step stepping) so_far) where
    abbrev here : MomentWithPast
    here = moment_in_step script stepping start so_far

    abbrev was : Host
    was = host_with_node stepping.host so_far.node

    pub at_host : tree.get here.world.hosts stepping.n ≡ Some (host_with_node stepping.host so_far.node)
    at_host = get-insert_same start.world.hosts stepping.n was

    -- what the history got since the event began
    abbrev pub grown : List HistEvent
    grown = added_at_cause script start.world stepping.cause
        ++ flat_map (added_by_reply script start.world stepping.cause) so_far.outputs.replies

    pub grown_so : here.past.history ≡ start.past.history ++ grown
    grown_so =
        history_so script range start began stepping by so_far
        ∙ append_assoc start.past.history (added_at_cause script start.world stepping.cause)
        (flat_map (added_by_reply script start.world stepping.cause) so_far.outputs.replies)

    grown_plain : ArePlain grown
    grown_plain =
        joined_plain (added_at_cause script start.world stepping.cause)
        (flat_map (added_by_reply script start.world stepping.cause) so_far.outputs.replies)
        (cause_plain script start.world stepping.cause)
        (flat_plain (added_by_reply script start.world stepping.cause) (reply_plain script start.world stepping.cause)
        so_far.outputs.replies)

    same_blocks : (vid : ℕ) → blocks_in ((ledger_of here.past.history).disks vid) ≡ blocks_in ((ledger_of start.past.history).disks vid)
    same_blocks vid =
        ap (λ (history : List HistEvent). blocks_in ((ledger_of history).disks vid)) grown_so
        ∙ ap (λ (ledger : Ledger). blocks_in (ledger.disks vid)) (fold-append ledger_after empty_ledger start.past.history grown)
        ∙ blocks_along vid 0 grown (ledger_of start.past.history) (plain_none vid grown grown_plain)

    log_same : here.world.log ≡ start.world.log
    log_same = log_by_changes stepping.cause by start.world.log

    -- a disk that is there then has the blocks that the log says
    blocks_so : (vid : ℕ) (found : histories.Disk) (spec : VdiSpec) → (ledger_of here.past.history).disks vid ≡ Some found
        → spec_in (log_effects here.world.log) vid ≡ Some spec → found.blocks ≡ spec.size / 512
    blocks_so vid found spec got made =
        by_first ((ledger_of start.past.history).disks vid) refl (sym (same_blocks vid) ∙ ap blocks_in got)
      where
        by_first : (o : Option histories.Disk) → (ledger_of start.past.history).disks vid ≡ o → blocks_in o ≡ Some found.blocks
            → found.blocks ≡ spec.size / 512
        by_first None none many = absurd (cc (many))
        by_first (Some first) there many =
            let has = blocks-in_run script range events start run vid first there in
            let same : has.spec ≡ spec
            = same_Some has.spec spec
            (sym has.made ∙ ap (λ (log : List Entry). spec_in (log_effects log) vid) (sym log_same) ∙ made) in
            let as_many : first.blocks ≡ found.blocks = same_Some first.blocks found.blocks many in
            sym as_many ∙ has.whole ∙ ap (λ (s : VdiSpec). s.size / 512) same

    module _ (trail : MomentTrail script start (moment_in_step script stepping start so_far)) (session req : ℕ) (course : Course)
        (there : HasRequest session req course so_far) (is_disk : is_disk_course course ≡ true) (disk : Disk)
        (opened : (session_at session so_far.node).disk ≡ Some disk) where
      are_shown : AreShown here
      are_shown = on_the_way script AreShown (kept_shown script range) events start here run trail

      -- no command goes on in the session
      no_command : (q : ℕ) (request : Request) (op : Op) → tree.get so_far.node.requests q ≡ Some request → request.session ≡ session
          → request.course ≡ Commanding op → ⊥
      no_command q request op got same command =
          let reads : is_disk_course request.course ≡ true
          = plain session req course so_far (alone_so_far script range start began stepping is by so_far leads) there is_disk q request got
          same in
          let none : is_disk_course request.course ≡ false = ap is_disk_course command in
          both_ways (is_disk_course request.course) none reads

      made : spec_in (log_effects here.world.log) disk.inode.vid ≡ Some disk.inode.spec
      made = (disks_along script range start began trail stepping.n was at_host session disk opened).disk.made

      -- where the history has it by the log
      found_by : (b : Bool) → shown (state_of (log_effects here.world.log) disk.inode.vid) ≡ Some b
          → (found : histories.Disk) × ((ledger_of here.past.history).disks disk.inode.vid ≡ Some found)
      found_by b is_shown =
          by_found ((ledger_of here.past.history).disks disk.inode.vid) refl
          (shapes_so here.past.history disk.inode.vid ∙ are_shown disk.inode.vid ∙ is_shown)
        where
          by_found : (o : Option histories.Disk) → (ledger_of here.past.history).disks disk.inode.vid ≡ o → shape o ≡ Some b
              → (found : histories.Disk) × ((ledger_of here.past.history).disks disk.inode.vid ≡ Some found)
          by_found None got is = absurd (cc (is))
          by_found (Some found) got is = (found, got)

      is_of : (b : Bool) → shown (state_of (log_effects here.world.log) disk.inode.vid) ≡ Some b
          → IsDiskOf (ledger_of here.past.history) (log_effects here.world.log) disk.inode
      is_of b is_shown =
          let (found, got) = found_by b is_shown in
          let whole = blocks_so disk.inode.vid found disk.inode.spec got made in
          record {
            disk = found;
            there = got;
            large = omega (arith, whole);
            made_with = made;
            live = λ kept.
                (disks_live here (on_the_way script AreThere (kept_there script range) events start here run trail)).each disk.inode.vid
                found got kept;
          }

      pub disk_in_step : IsDiskOf (ledger_of here.past.history) (log_effects here.world.log) disk.inode
      disk_in_step = by_kind disk.snapshot refl
        where
          by_kind : (b : Bool) → disk.snapshot ≡ b → IsDiskOf (ledger_of here.past.history) (log_effects here.world.log) disk.inode
          by_kind true snapshot =
              let read = ((on_the_way script HostsAreSound (kept_sound script range) events start here run trail).each stepping.n was
              at_host).read in
              let shared : IsSharedDisk so_far.node.peer.entries disk
              = subst (λ (o : Option Disk). IfSome o (IsSharedDisk so_far.node.peer.entries)) opened
              ((reading_along script range start began trail stepping.n was at_host).shared.disks session) in
              let snapped = (on_snapshot here.world.log stepping.n so_far.node.me so_far.node.peer read disk.inode.vid
              (shared.closed snapshot)).snapped in
              let (b, shows) = snapped_shown disk.inode.vid here.world.log snapped in
              is_of b shows
          by_kind false working =
              let (one, in_node, on) = session_of so_far.node session disk opened in
              ⊎_elim
              (λ (held : HoldsDisk here.world.log stepping.n session disk.inode.vid so_far.node).
              is_of false
              (ap shown (held-works here.world.log disk.inode.vid (session_holder stepping.n session) held.holder)))
              (λ (goes : IsLettingGo so_far.node session). absurd (no_command goes.req goes.request goes.op goes.there goes.own
              goes.command)) ((held-in_run script range events start here run trail).each stepping.n was at_host
              (not_lost stepping.host is.up) session one disk in_node on working)

    -- ---- the disk on which a request began

    guests_so : (cause : NodeCause) → (world_at_cause start.world cause).guests ≡ progress_at_cause cause start.world
    guests_so (GuestAsks session req ask) = refl
    guests_so (RequestComes name to request) = refl
    guests_so (ReplyComes name from rsp) = refl
    guests_so (LossIsTold name packet) = refl
    guests_so (EntryIsRead entry) = refl
    guests_so (EntryIsPut entry) = refl
    guests_so RecoveryTicks = refl
    guests_so WorkIsRetried = refl
    guests_so (ClientAsks req ask) = refl

    once : UnansweredAreOnce (world_at_cause start.world stepping.cause).guests
    once =
        subst UnansweredAreOnce (sym (guests_so stepping.cause))
        (caused_once script start.world stepping.n stepping.host start.past.refused stepping.cause is.caused
        (run-kept_by_events script (AreAnsweredAt script) (opens_answered script) (events_answered script) events start run)
        (once-in_run script events start run))

    placed : PlacedSoFar (asked_by script) (BeganOn script (progress_at_cause stepping.cause start.world)) so_far
    placed =
        placed_in_chain (asked_by script) (BeganOn script (progress_at_cause stepping.cause start.world)) (input_of_cause stepping.cause)
        stepping.host.node (may script range start began stepping is by) (queued script range start began stepping is by)
        (sole script range start began stepping is by) (brings script start.world stepping.n stepping.host stepping.cause is.there
        is.caused) (placed_found script range start.world began stepping.n stepping.host stepping.cause stepping.host.node
        (requests_placed script range start.world began stepping.n stepping.host is.there)) so_far leads

    pub placed_at : (session req : ℕ) (course : Course) → HasRequest session req course so_far
        → IsPlacedAt (asked_by script) (BeganOn script (progress_at_cause stepping.cause start.world)) req
        (session_at session so_far.node).disk course
    placed_at session req course there =
        course_placed (asked_by script) (BeganOn script (progress_at_cause stepping.cause start.world)) session req course so_far there
        placed

    pub began_on : (req : ℕ) (disk : Option ℕ) → BeganOn script (progress_at_cause stepping.cause start.world) req disk
        → disk_of script req (world_at_cause start.world stepping.cause) ≡ disk
    began_on req disk on =
        disk_of_began script (world_at_cause start.world stepping.cause) once req disk
        (subst (λ (g : Guests). BeganOn script g req disk) (sym (guests_so stepping.cause)) on)
