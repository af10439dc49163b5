-- Behind each change on the way of an event, in a run in range, what a write has still to write has its items.
use Rattle.std.proofs.Common.{◌≡◌, ◌≢◌, ⊎_elim, ℕ, List, [], ◌∷◌, ◌++◌, Option, Some, append_assoc, sym, subst, ◌∙◌, arith}
use Rattle.std.specs.Prelude.{flat_map}
use Rattle.std.specs.FinMap as tree
use Rattle.proof_tools.proofs.FiniteMaps.{get-insert_cases}
use Rattle.disk_history.specs.declared.event.HistEvent.{HistEvent}
use Rattle.cluster_script.specs.declared.statement.Statement.{Statement}
use Rattle.guest_driver.specs.declared.disk.Disk.{Disk}
use Rattle.sheep_node.specs.Changes as changes
use Rattle.sheep_node.specs.declared.event.Event.{Event}
use Rattle.sheep_node.specs.StepState.{StepState}
use Rattle.sheep_world.specs.Began.{Began}
use Rattle.sheep_world.specs.NodeCauses.{host_with_node, progress_at_cause}
use Rattle.sheep_world.specs.Began.{MakesMove}
use Rattle.sheep_world.specs.Step.{EventOutcome}
use Rattle.sheep_world.specs.World.{Host}
use Rattle.sheep_world.specs.RunsWithAsks.{Move}
use Rattle.overlap_law.specs.Headline.{ledger_of}
use Rattle.overlap_law.specs.HistoryGrowth.{added_at_cause, added_by_reply}
use Rattle.overlap_law.specs.MomentChanges as moments
use Rattle.overlap_law.specs.MomentChanges.{MomentChange, RunsAreInRange}
use Rattle.overlap_law.specs.Past.{MomentWithPast, moment_after, run_with_past}
use Rattle.overlap_law.specs.Pieces.{WritesHaveItems}
use Rattle.overlap_law.specs.RequestsOfScript.{IsCourseOfAsk}
use Rattle.overlap_law.specs.StepMoments.{SteppingNode, IsStepping, LeadsInStep, StepsByChanges, first_in_step, hosts_in_step}
use Rattle.overlap_law.specs.StepMoments.{moment_in_step}
use Rattle.overlap_law.proofs.CausedWorks.{by_changes}
use Rattle.overlap_law.proofs.CoursesOfAsks.{IsPlacedIn, placed_as}
use Rattle.overlap_law.proofs.CoursesOfScript.{asked_by, BeganOn, placed_found, requests_placed}
use Rattle.overlap_law.proofs.EntryWorks.{known_disk}
use Rattle.overlap_law.proofs.EventsOfChanges.{by_change}
use Rattle.overlap_law.proofs.HistoryInMoments.{history_so}
use Rattle.overlap_law.proofs.NoRecoveredDue.{began-with_past}
use Rattle.overlap_law.proofs.PiecesUnderWay.{left_of_scripts}
use Rattle.overlap_law.proofs.RunsWithOneMore.{run_with_one_more}
use Rattle.overlap_law.proofs.StandingEvents.{stand-in_run}
use Rattle.overlap_law.proofs.StandingMoments.{stands_then}
use Rattle.overlap_law.proofs.StandingPieces.{piece_has_item, written-in_run}
use Rattle.overlap_law.proofs.StandingSteps.{placed}
use Rattle.overlap_law.proofs.WorksInMoments.{HaveWellWorks, well_after}
use Rattle.sheep_node.specs.SessionQueues.{session_among}

module _ (script : List Statement) (range : RunsAreInRange script) (events : List Move) (start : MomentWithPast)
    (ran : run_with_past script events ≡ Some start) where
  begun : Began script start.world
  begun = began-with_past script events start ran

  -- ---- in the middle of a step

  module _ (on : SteppingNode) (is : IsStepping script start.world on) (by : StepsByChanges on.cause) (so_far : StepState)
      (leads : LeadsInStep on (first_in_step on) so_far) (well : HaveWellWorks (hosts_in_step on start.world so_far)) where
    -- each request there is at a place that its statement allows
    pub placed_there : (q : ℕ) (now : Host) → tree.get (hosts_in_step on start.world so_far) q ≡ Some now → (req : ℕ)
        → IsPlacedIn (asked_by script) (BeganOn script (progress_at_cause on.cause start.world)) req now.node.sessions
        (tree.get now.node.requests req)
    placed_there q now at req = ⊎_elim
        (λ (own : (q ≡ on.n) × (host_with_node on.host so_far.node ≡ now)).
        subst (λ (h : Host).
        IsPlacedIn (asked_by script) (BeganOn script (progress_at_cause on.cause start.world)) req h.node.sessions
        (tree.get h.node.requests req)) own.1
        (placed script range start.world begun on.n on.host is.there is.up on.cause (by_changes on.cause by) is.caused so_far leads req))
        (λ (other : (q ≢ on.n) × (tree.get start.world.hosts q ≡ Some now)).
        placed_found script range start.world begun on.n on.host on.cause now.node
        (requests_placed script range start.world begun q now other.1) req)
        (get-insert_cases start.world.hosts on.n (host_with_node on.host so_far.node) q now at)

    abbrev told : List HistEvent
    told = flat_map (added_by_reply script start.world on.cause) so_far.outputs.replies

    abbrev so : List HistEvent
    so = start.past.history ++ (added_at_cause script start.world on.cause ++ told)

    step_written : WritesHaveItems (ledger_of so) (hosts_in_step on start.world so_far)
    step_written = record {
      each = λ q now at up req i unit request opened disk piece at_disk got inside.
          let (began, known_so, course) = placed_as (asked_by script) (BeganOn script (progress_at_cause on.cause start.world)) req
          (session_among request.session now.node.sessions).disk request.course
          (left_of_scripts opened.inode.spec.shift request.course i piece got)
          (subst (IsPlacedIn (asked_by script) (BeganOn script (progress_at_cause on.cause start.world)) req now.node.sessions)
          at_disk.there (placed_there q now at req)) in
          let known = known_disk now.node (well q now at) request.session opened at_disk.on in
          let shift = known.disk.spec_valid.shift.0 in
          piece_has_item script range now req request opened began
          (subst (λ (o : Option Disk). IsCourseOfAsk (asked_by script req) o began request.course) at_disk.on course)
          (omega (arith, shift)) so
          (λ same offset payload asked place within.
          stands_then script range events start ran (stand-in_run script range events start ran) on is by so_far leads req offset payload
          asked place within q now at up request at_disk.there opened.inode.vid
          (subst (BeganOn script (progress_at_cause on.cause start.world) req) same known_so))
          disk at_disk.known i unit piece got inside;
    }

    pub step_written-then : WritesHaveItems (ledger_of (moment_in_step script on start so_far).past.history)
        (moment_in_step script on start so_far).world.hosts
    step_written-then =
        subst (λ (history : List HistEvent). WritesHaveItems (ledger_of history) (hosts_in_step on start.world so_far))
        (sym (history_so script range start begun on by so_far
        ∙ append_assoc start.past.history (added_at_cause script start.world on.cause) told)) step_written

  -- ---- each change

  at_end : (event : Event) (made : EventOutcome) → MakesMove script event start.world made
      → WritesHaveItems (ledger_of (moment_after script event start made).past.history) (moment_after script event start made).world.hosts
  at_end event made happened =
      written-in_run script range (events ++ happened.move ∷ []) (moment_after script event start made)
      (run_with_one_more script event made events start happened ran)

  pub written_after : {before after : MomentWithPast} → MomentChange script start before after
      → WritesHaveItems (ledger_of after.past.history) after.world.hosts
  written_after change =
      by_change script start (λ before after. WritesHaveItems (ledger_of after.past.history) after.world.hosts)
      (λ on is by.
      step_written-then on is by (first_in_step on) changes.Still
      (well_after script range start begun (moments.StepBegins on is by)))
      (λ on is by so_far next within.
      step_written-then on is by next (changes.Then within.leads within.change)
      (well_after script range start begun (moments.StepGoesOn on so_far next is by within)))
      at_end change
