-- What writes that create their objects read of other disks' objects stays as it was served there, over events, by the test for good ids of
-- the moment at which the event ends; so it does in every run in range, of disks of whole copies that were available. For those objects are
-- snapshots', and nothing begins on them.
use Rattle.std.proofs.Common.{◌≡◌, ⊎_elim, arith, ℕ, ◌*◌, Bool, true, List, [], ◌∷◌, ◌++◌, length, Some, slice_get}
use Rattle.std.proofs.Common.{sym, ap, ◌∙◌}
use Rattle.std.proofs.lemmas.Option.{slice_get_within}
use Rattle.object_id.specs.declared.entry.Entry.{Entry}
use Rattle.object_id.specs.declared.entry.VdiSpec.{VdiSpec}
use Rattle.object_id.specs.declared.limits.TheConstants.{BLOCK_BYTES}
use Rattle.object_id.specs.Oid.{object_number, vid_of}
use Rattle.object_store.specs.Bytes.{piece_at}
use Rattle.cluster_script.specs.declared.statement.Statement.{Statement}
use Rattle.peer_proto.specs.Work.{oid_of}
use Rattle.gateway.specs.State.{Open, Work}
use Rattle.vdi_directory.specs.Decisions.{log_effects}
use Rattle.sheep_node.specs.Changes.{attempt_in}
use Rattle.sheep_world.specs.Began.{Began}
use Rattle.sheep_world.specs.NodeCauses.{host_with_node}
use Rattle.sheep_world.specs.RunsWithAsks.{Move}
use Rattle.overlap_law.specs.Attempts.{AttemptRecord, object_of}
use Rattle.overlap_law.specs.CreatedPieces.{CreatesAreOf}
use Rattle.overlap_law.specs.Grants.{writer_of}
use Rattle.overlap_law.specs.HistoryStands.{CallsAvailable}
use Rattle.overlap_law.specs.LastReads.{was_snapped}
use Rattle.overlap_law.specs.MomentChanges.{MomentTrail, MomentChange, TrailLeft, RunsAreInRange, Then}
use Rattle.overlap_law.specs.Overlap.{CallsFewer}
use Rattle.overlap_law.specs.Past.{MomentWithPast, first_moment, next_moment, run_with_past}
use Rattle.overlap_law.specs.ServedLast.{makes_unit, no_work, IsReadOfSnapshot, IsFetchedServed}
use Rattle.overlap_law.proofs.CarriedTables.{good_id_at}
use Rattle.overlap_law.proofs.ClosedSnapshots.{snapped-later, snapped-no_writer}
use Rattle.overlap_law.proofs.CreatedFetches.{fetches_served}
use Rattle.overlap_law.proofs.AttemptLists.{got_last}
use Rattle.overlap_law.proofs.GrantedAttempts.{only_writer-in_run}
use Rattle.overlap_law.proofs.HistoryTests.{test_before, test_at_start, IsKeptByTests, by_tests-on_the_way}
use Rattle.overlap_law.proofs.KnownDisks.{vid-of_object}
use Rattle.overlap_law.proofs.LogsInMoments.{LogGrows, log_grows}
use Rattle.overlap_law.proofs.LogsOfMoments.{log_of_change}
use Rattle.overlap_law.proofs.NamedEntries.{opened_there, opened_up}
use Rattle.overlap_law.proofs.NewAttempts.{IsOpened, WasAttempt, come_from}
use Rattle.overlap_law.proofs.NoRecoveredDue.{began-with_past}
use Rattle.overlap_law.proofs.PiecesMade.{ArePiecesMade, pieces_stay, pieces_open, pieces_more, creates_so}
use Rattle.overlap_law.proofs.ServedLast.{served_stays}
use Rattle.overlap_law.proofs.TablesStay.{lived}

abbrev pub HasServed : (ℕ → Bool) → MomentWithPast → Type 0
HasServed good_id moment =
    ArePiecesMade (IsFetchedServed moment.world.log good_id moment.world.hosts moment.past.attempts) moment

-- what is so of more ids is so of fewer
fewer_served : (few many : ℕ → Bool) (moment : MomentWithPast) → CallsFewer few many → HasServed many moment → HasServed few moment
fewer_served few many moment fewer =
    pieces_more (IsFetchedServed moment.world.log many moment.world.hosts moment.past.attempts)
    (IsFetchedServed moment.world.log few moment.world.hosts moment.past.attempts)
    (λ vid spec home index bytes served good. served (fewer vid good)) moment

-- ---- over a change

module _ (script : List Statement) (range : RunsAreInRange script) (events : List Move) (start before after : MomentWithPast)
    (run : run_with_past script events ≡ Some start) (trail : MomentTrail script start before)
    (change : MomentChange script start before after) where
  began : Began script start.world
  began = began-with_past script events start run

  grows : LogGrows before.world.log after.world.log
  grows = log_grows script change

  pub snapped_still : (home : ℕ) → was_snapped before.world.log home ≡ true → was_snapped after.world.log home ≡ true
  snapped_still home snapped =
      ap (λ (log : List Entry). was_snapped log home) grows.is ∙ (snapped-later before.world.log home snapped grows.rest).0

  -- nothing begins on what became a snapshot
  pub none_on_snapped : (home index : ℕ) (attempt : AttemptRecord) → vid_of (object_number home index) ≡ home
      → was_snapped after.world.log home ≡ true → after.past.attempts ≡ before.past.attempts ++ attempt ∷ []
      → object_of attempt ≡ object_number home index → ⊥
  none_on_snapped home index attempt own snapped grown object = ⊎_elim
      (λ (w : WasAttempt before (length before.past.attempts) attempt).
      let within = slice_get_within before.past.attempts (length before.past.attempts) w.was w.at in omega (arith, within))
      (λ (o : IsOpened script start after attempt).
      let work : Work = record o.asked { stage = Open (attempt_in o.asked o.lined.node) } in
      let writes = (only_writer-in_run script range events start after run (Then trail change)).each o.stepping.n
      (host_with_node o.stepping.host o.next.node) (opened_there script start after attempt o) (opened_up script start after attempt o)
      o.req work o.at_gateway o.making in
      let on : oid_of o.asked.work ≡ object_number home index = ap (λ (a : AttemptRecord). object_of a) o.opened ∙ object in
      snapped-no_writer after.world.log home _ snapped
      (ap (writer_of (log_effects after.world.log)) (sym own ∙ ap vid_of (sym on)) ∙ writes.may.writer))
      (come_from script range start began change (length before.past.attempts) attempt
      (ap (λ (list : List AttemptRecord). slice_get list (length before.past.attempts)) grown ∙ got_last before.past.attempts attempt))

  read_still : (spec : VdiSpec) (home index : ℕ) (bytes : List ℕ)
      → IsReadOfSnapshot before.world.log before.world.hosts before.past.attempts spec home index bytes
      → IsReadOfSnapshot after.world.log after.world.hosts after.past.attempts spec home index bytes
  read_still spec home index bytes read = record {
    id = read.id;
    few = read.few;
    snapped = snapped_still home read.snapped;
    served = λ unit below.
        served_stays script range events start before after run trail change
        (makes_unit unit (piece_at bytes (BLOCK_BYTES * unit) BLOCK_BYTES)) no_work (object_number home index) unit
        (λ attempt grown object covers.
        absurd (none_on_snapped home index attempt (vid-of_object home index read.id read.few) (snapped_still home read.snapped) grown
        object))
        (read.served unit below);
  }

  served_still : (good_id : ℕ → Bool)
      → ArePiecesMade (IsFetchedServed before.world.log good_id before.world.hosts before.past.attempts) after → HasServed good_id after
  served_still good_id =
      pieces_more (IsFetchedServed before.world.log good_id before.world.hosts before.past.attempts)
      (IsFetchedServed after.world.log good_id after.world.hosts after.past.attempts)
      (λ vid spec home index bytes served good alive whole.
      read_still spec home index bytes
      (served good (lived before.world.log after.world.log (log_of_change script change) vid alive) whole)) after

module _ (script : List Statement) (range : RunsAreInRange script) where
  served_kept : IsKeptByTests script HasServed
  served_kept = record {
    fewer = fewer_served;
    opens =
        pieces_open (IsFetchedServed (first_moment script).world.log (good_id_at (first_moment script)) (first_moment script).world.hosts
        (first_moment script).past.attempts) script;
    keeps = λ events event start end before after way good_id test served.
        served_still script range events start before after way.run way.behind way.change good_id
        (pieces_stay (IsFetchedServed before.world.log good_id before.world.hosts before.past.attempts) script range events start before
        after way.run way.behind way.change
        (fetches_served script range events start way.run good_id test.fewer
        (test_at_start script way.change good_id (test_before script way.change good_id test)) before way.behind) served);
  }

  pub creates_served : (events : List Move) (event : Move) (start end : MomentWithPast) → run_with_past script events ≡ Some start
      → next_moment script event start ≡ Some end → (good_id : ℕ → Bool) → {moment : MomentWithPast} → MomentTrail script start moment
      → TrailLeft script start moment end → CallsAvailable start moment good_id
      → CreatesAreOf (IsFetchedServed moment.world.log good_id moment.world.hosts moment.past.attempts) moment.world.hosts
  creates_served events event start end run happens good_id {moment} trail left test =
      creates_so (IsFetchedServed moment.world.log good_id moment.world.hosts moment.past.attempts) moment
      (by_tests-on_the_way script HasServed served_kept events event start end run happens good_id trail left test)
