-- Where a create or write of an object is done, in the middle of a step of a run in range, it alone is to come of each unit that it covers:
-- its attempt is made, and is the last on the object.
use Rattle.std.proofs.Common.{◌≡◌, ⊎_elim, arith, ℕ, ◌<◌, ◌≤◌, true, List, Some, slice_get, sym, ap, ◌∙◌}
use Rattle.std.proofs.lemmas.Bool.{cases_lt}
use Rattle.std.proofs.lemmas.Option.{same_Some}
use Rattle.proof_tools.proofs.FiniteMaps.{get-insert_same}
use Rattle.cluster_script.specs.declared.statement.Statement.{Statement}
use Rattle.peer_proto.specs.Work.{oid_of}
use Rattle.gateway.specs.Attempt as gateways
use Rattle.gateway.specs.State.{Work}
use Rattle.gateway.specs.Work.{is_making}
use Rattle.gateway.specs.declared.message.Status.{Status}
use Rattle.sheep_node.specs.Changes.{LearnsStatus}
use Rattle.sheep_node.specs.StepState.{StepState}
use Rattle.sheep_world.specs.NodeCauses.{input_of_cause, host_with_node}
use Rattle.sheep_world.specs.RunsWithAsks.{Move}
use Rattle.overlap_law.specs.Attempts.{AttemptRecord, object_of}
use Rattle.overlap_law.specs.MomentChanges.{MomentTrail, RunsAreInRange}
use Rattle.overlap_law.specs.Past.{MomentWithPast, run_with_past}
use Rattle.overlap_law.specs.StepMoments.{SteppingNode, IsStepping, StepsByChanges, LeadsInStep, first_in_step, moment_in_step}
use Rattle.overlap_law.specs.TiedAttempts.{IsTied}
use Rattle.overlap_law.specs.ToCome.{IsToCome}
use Rattle.overlap_law.specs.Units.{covers_by}
use Rattle.overlap_law.specs.Words.{is_made}
use Rattle.overlap_law.proofs.AnswersInMoments.{not_lost}
use Rattle.overlap_law.proofs.DoneMade.{done_made}
use Rattle.overlap_law.proofs.LatestInRuns.{latest-in_run}
use Rattle.overlap_law.proofs.RunsByChanges.{on_the_way}
use Rattle.overlap_law.proofs.TiedInRuns.{kept_tied}
use Rattle.overlap_law.proofs.WorkedInRuns.{holds_then}

module _ (script : List Statement) (range : RunsAreInRange script) (events : List Move) (start : MomentWithPast)
    (ran : run_with_past script events ≡ Some start) (on : SteppingNode) (is : IsStepping script start.world on)
    (by : StepsByChanges on.cause) (so_far : StepState) (leads : LeadsInStep on (first_in_step on) so_far)
    (trail : MomentTrail script start (moment_in_step script on start so_far)) (req number : ℕ) (work : Work)
    (current : gateways.Attempt) (status : Status)
    (learns : LearnsStatus (input_of_cause on.cause) on.host.node so_far req number work current status)
    (done : gateways.is_done work.work (gateways.messages_with_status number status current.messages) ≡ true)
    (making : is_making work.work ≡ true) (unit : ℕ) (covered : covers_by unit work.work ≡ true) where
  abbrev here : MomentWithPast
  here = moment_in_step script on start so_far

  pub done_alone : (j : ℕ) (attempt : AttemptRecord)
      → IsToCome (moment_in_step script on start so_far).world.hosts (moment_in_step script on start so_far).past.attempts
      (oid_of work.work) unit j attempt → attempt.work ≡ work.work
  done_alone j attempt comes =
      let holds = holds_then script range events start ran in
      let (k, own, last, opened) = (latest-in_run script range events start here ran trail).each on.n
      (host_with_node on.host so_far.node) (get-insert_same start.world.hosts on.n (host_with_node on.host so_far.node))
      (not_lost on.host is.up) req work current learns.there making learns.open_so in
      let made : is_made own ≡ true
      = done_made script range start holds.begun holds.tied holds.fit on is by so_far leads req number work current status learns done k own
      last.there opened
      ((on_the_way script IsTied (kept_tied script range) events start here ran trail).fates.whole k own last.there) in
      let object : object_of own ≡ oid_of work.work = ap oid_of opened.same.work in
      let within : j ≤ k = last.last j attempt comes.there (comes.object ∙ sym object) in
      ⊎_elim
      (λ (behind : j < k).
      let unmade = comes.last k own last.there behind object (ap (covers_by unit) opened.same.work ∙ covered) in
      absurd (cc (made, unmade)))
      (λ (beyond : k ≤ j).
      let place : j ≡ k = omega (arith, within, beyond) in
      let same : attempt ≡ own
      = same_Some attempt own
      (sym comes.there ∙ ap (slice_get (moment_in_step script on start so_far).past.attempts) place ∙ last.there) in
      ap (λ (a : AttemptRecord). a.work) same ∙ opened.same.work)
      (cases_lt j k)
