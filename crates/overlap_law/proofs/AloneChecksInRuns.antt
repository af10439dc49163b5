-- In each run in range, at the end of every event and at each point of a node's step, each block of which a check has begun a write is of a
-- value that is written so.
use Rattle.std.proofs.Common.{◌≡◌, ℕ, Bool, false, List, [], ◌++◌, Contains, Some, filter, refl, sym, ap, subst}
use Rattle.std.proofs.Common.{⊎_elim, ◌∙◌}
use Rattle.std.specs.List.{list_any}
use Rattle.std.specs.Ordering.{nat_cmp}
use Rattle.std.specs.FinMap as tree
use Rattle.std.proofs.lemmas.Bool.{eq-eqb}
use Rattle.std.proofs.lemmas.List.Elements.{Contains-append_cases}
use Rattle.proof_tools.proofs.Lists.{list_any-none}
use Rattle.cluster_script.specs.declared.statement.Statement.{Statement}
use Rattle.cluster_script.specs.NumberedRequests.{numbered_requests}
use Rattle.disk_check.specs.Check.{Check}
use Rattle.disk_history.specs.declared.event.HistEvent.{HistEvent}
use Rattle.disk_history.specs.declared.event.HistEvent.TheVariants.{WriteStart}
use Rattle.guest_driver.specs.declared.disk.Disk.{Disk}
use Rattle.sheep_node.specs.declared.course.Course.TheVariants.{Checking}
use Rattle.sheep_node.specs.declared.course.Request.{Request}
use Rattle.sheep_node.specs.declared.event.Event.{Event}
use Rattle.sheep_node.specs.SessionQueues.{session_among}
use Rattle.sheep_node.specs.StepState.{StepState}
use Rattle.sheep_node.proofs.OneWorkParts.{Requests}
use Rattle.sheep_node.proofs.StepChain.{step_chain}
use Rattle.sheep_world.specs.EventKinds as kinds
use Rattle.sheep_world.specs.EventKinds.{log_after_return, EventKind}
use Rattle.sheep_world.specs.HistoryAdditions.{is_lost_write, writers_lost}
use Rattle.sheep_world.specs.HostChanges.{host_after_return, joined_host}
use Rattle.sheep_world.specs.MembershipChanges.{lost_host}
use Rattle.sheep_world.specs.NodeCauses.{NodeCause, GuestAsks, RequestComes, ReplyComes, LossIsTold, EntryIsRead, EntryIsPut, RecoveryTicks}
use Rattle.sheep_world.specs.NodeCauses.{WorkIsRetried, ClientAsks, input_of_cause, history_of_cause, host_with_node}
use Rattle.sheep_world.specs.Step.{EventOutcome}
use Rattle.sheep_world.specs.World.{Host}
use Rattle.sheep_world.proofs.ClientReads.{goes_by_kind}
use Rattle.sheep_world.specs.RunsWithAsks.{Move, event_of_move}
use Rattle.sheep_world.specs.Began.{MakesMove}
use Rattle.overlap_law.specs.AloneChecksWritten.{ChecksHaveWritten, IsOfValue, NoneComes}
use Rattle.overlap_law.specs.MomentChanges as moments
use Rattle.overlap_law.specs.MomentChanges.{MomentChange, RunsAreInRange}
use Rattle.overlap_law.specs.Past.{MomentWithPast, first_moment, moment_after, next_moment, past_after_event, run_with_past}
use Rattle.overlap_law.specs.StepMoments.{SteppingNode, IsStepping, StepsByChanges, StepsAtOnce, LeadsInStep, first_in_step, last_in_step}
use Rattle.overlap_law.specs.StepMoments.{moment_in_step, world_in_step}
use Rattle.overlap_law.proofs.AloneChecksFrames.{stays_there}
use Rattle.overlap_law.proofs.AloneChecksInSteps.{last_written, step_written}
use Rattle.overlap_law.proofs.AloneChecksSteps.{ComesBy}
use Rattle.overlap_law.proofs.CheckedAtOnce.{once_none}
use Rattle.overlap_law.proofs.GuestsInMoments.{AllGuestsChange, GuestsChange, GuestsStay, GuestsAreNone, made_guests, one_guests}
use Rattle.overlap_law.proofs.GuestsInMoments.{returned_none}
use Rattle.overlap_law.proofs.GuestsInMoments.{same_guests}
use Rattle.overlap_law.proofs.ItemsAtBegin as begins
use Rattle.overlap_law.proofs.ItemsOfRequests.{begins_write_of}
use Rattle.overlap_law.proofs.KeptInRuns.{KeptAtEvents, kept_at_events}
use Rattle.overlap_law.proofs.OpenInMoments.{made_gateway}
use Rattle.overlap_law.proofs.OpeningOverlap.{no_request}
use Rattle.overlap_law.proofs.GoingOn.{goes_as, has_gone}

-- it is so at the end of an event
abbrev pub HaveWritten : MomentWithPast → Type 0
HaveWritten moment = ChecksHaveWritten NoneComes moment.past.history moment.world.hosts moment.past.attempts

module _ (script : List Statement) (range : RunsAreInRange script) (events : List Move) (start : MomentWithPast)
    (ran : run_with_past script events ≡ Some start) (all : HaveWritten start) where
  -- ---- an event at which no node steps by changes

  -- no write begins
  abbrev BeginsNone : List HistEvent → Type 0
  BeginsNone grown = (req : ℕ) → list_any (begins_write_of req) grown ≡ false

  old_start : (grown : List HistEvent) → BeginsNone grown → (req vid block : ℕ) (coded : Bool) (bytes : List ℕ)
      → Contains (start.past.history ++ grown) (WriteStart req vid block coded bytes)
      → Contains start.past.history (WriteStart req vid block coded bytes)
  old_start grown none req vid block coded bytes among = ⊎_elim
      (λ (old : Contains start.past.history (WriteStart req vid block coded bytes)). old)
      (λ (new : Contains grown (WriteStart req vid block coded bytes)).
      let never = list_any-none (begins_write_of req) grown (WriteStart req vid block coded bytes) (none req) new in
      let same = eq-eqb req req refl in
      absurd (cc (never, same)))
      (Contains-append_cases start.past.history grown (WriteStart req vid block coded bytes) among)

  module _ (after : MomentWithPast) (change : MomentChange script start start after) (guests : AllGuestsChange start after)
      (grown : List HistEvent) (history : after.past.history ≡ start.past.history ++ grown) (none : BeginsNone grown) where
    by_guests : (n : ℕ) (host : Host) → tree.get after.world.hosts n ≡ Some host → host.is_lost ≡ false → (req vid block : ℕ)
        (coded : Bool) (bytes : List ℕ) (request : Request) (opened : Disk) (check : Check) → tree.get host.node.requests req ≡ Some request
        → (session_among request.session host.node.sessions).disk ≡ Some opened → request.course ≡ Checking check
        → Contains after.past.history (WriteStart req vid block coded bytes) → GuestsChange start n host
        → IsOfValue (NoneComes n req) after.past.attempts host.node opened req check block bytes
    by_guests n host at_host up req vid block coded bytes request opened check there at course among
        (GuestsStay was was_there still gateway sessions requests) =
        stays_there script range events start start after ran moments.Still change n host at_host up req request there opened at check
        course
        all (NoneComes n req) was was_there (still up) gateway sessions requests vid block coded bytes
        (old_start grown none req vid block coded bytes
        (subst (λ (list : List HistEvent). Contains list (WriteStart req vid block coded bytes)) history among))
    by_guests n host at_host up req vid block coded bytes request opened check there at course among (GuestsAreNone gone requests) =
        let empty = ap (λ (r : Requests). tree.get r req) requests ∙ tree.get-empty {X = Request} nat_cmp req in
        absurd (cc (empty, there))

    still_written : HaveWritten after
    still_written = record {
      each = λ n host at_host up req vid block coded bytes request opened check there at course among.
          by_guests n host at_host up req vid block coded bytes request opened check there at course among (guests n host at_host);
    }

  -- ---- a step

  module _ (on : SteppingNode) (is : IsStepping script start.world on) where
    by_changes : StepsByChanges on.cause → HaveWritten (moment_in_step script on start (last_in_step on))
    by_changes by =
        last_written script range events start ran on is by all (step_chain (input_of_cause on.cause) on.host.node)

    at_once : StepsAtOnce on.cause → HaveWritten (moment_in_step script on start (last_in_step on))
    unfolding past_after_event
    at_once once =
        let after : MomentWithPast = moment_in_step script on start (last_in_step on) in
        still_written after (moments.StepIsMade on is once)
        (one_guests start after on.n (host_with_node on.host (last_in_step on).node) refl
        (GuestsStay on.host is.there (λ up. up) (made_gateway on.cause on.host.node once) (made_guests on.cause on.host.node once).0
        (made_guests on.cause on.host.node once).1))
        (history_of_cause script on.cause start.world (world_in_step script on start.world (last_in_step on))) refl
        (once_none script start.world on.cause once on.n on.host (last_in_step on))

    either_way : (cause : NodeCause)
        → (StepsByChanges cause → HaveWritten (moment_in_step script on start (last_in_step on)))
        → (StepsAtOnce cause → HaveWritten (moment_in_step script on start (last_in_step on)))
        → HaveWritten (moment_in_step script on start (last_in_step on))
    either_way (GuestAsks session req ask) many one = many tt
    either_way (RequestComes name to request) many one = one tt
    either_way (ReplyComes name from rsp) many one = many tt
    either_way (LossIsTold name packet) many one = many tt
    either_way (EntryIsRead entry) many one = many tt
    either_way (EntryIsPut entry) many one = one tt
    either_way RecoveryTicks many one = one tt
    either_way WorkIsRetried many one = many tt
    either_way (ClientAsks req ask) many one = many tt

    step_so : HaveWritten (moment_in_step script on start (last_in_step on))
    step_so = either_way on.cause by_changes at_once

  -- ---- each event

  abbrev Leaves : Event → EventOutcome → Type 0
  Leaves event made = HaveWritten (moment_after script event start made)

  so_made : {event own : Event} {made its : EventOutcome} → own ≡ event → its ≡ made → Leaves own its → Leaves event made
  so_made {event} {own} {made} {its} same so leaves = subst (λ (e : Event). Leaves e made) same (subst (Leaves own) so leaves)

  module _ (event : Event) (made : EventOutcome) where
    module _ (change : MomentChange script start start (moment_after script event start made))
        (guests : AllGuestsChange start (moment_after script event start made)) (grown : List HistEvent) (so : made.grown ≡ grown)
        (none : BeginsNone grown) where
      still : Leaves event made
      unfolding past_after_event
      still =
          still_written (moment_after script event start made) change guests grown
          (ap (λ (list : List HistEvent). start.past.history ++ list) so) none

    abbrev after : MomentWithPast
    after = moment_after script event start made

    by_kind : MakesMove script event start.world made → EventKind script event start.world made → Leaves event made
    by_kind happened (kinds.NodeStep h) =
        so_made h.event_so h.made_so
        (step_so (record { n = h.n; host = h.host; cause = h.cause }) (record {
          there = h.there;
          up = h.up;
          caused = h.caused;
          made = goes_as script start.world h.event_so h.made_so happened;
        }))
    by_kind happened (kinds.UntoldLoss h) =
        still (moments.LossIsUntold event made happened h)
        (same_guests start after (ap (λ (m : EventOutcome). m.world.hosts) (sym h.made_so))) []
        (ap (λ (m : EventOutcome). m.grown) (sym h.made_so)) (λ req. refl)
    by_kind happened (kinds.UnreadDelivery h) =
        still (moments.DeliveryIsUnread event made happened h)
        (same_guests start after (ap (λ (m : EventOutcome). m.world.hosts) (sym h.made_so))) []
        (ap (λ (m : EventOutcome). m.grown) (sym h.made_so)) (λ req. refl)
    by_kind happened (kinds.NodeLoss h) =
        still (moments.NodeIsLost event made happened h)
        (one_guests start after h.n (lost_host h.host) (ap (λ (m : EventOutcome). m.world.hosts) (sym h.made_so))
        (GuestsStay h.host h.there (λ up. absurd (cc (up))) refl refl refl)) (writers_lost script start.world h.n (Some h.host))
        (ap (λ (m : EventOutcome). m.grown) (sym h.made_so))
        (λ req. begins.lost_none req (filter (is_lost_write script start.world h.n h.host) (numbered_requests script)))
    by_kind happened (kinds.NodeLeave h) =
        still (moments.NodeLeaves event made happened h)
        (same_guests start after (ap (λ (m : EventOutcome). m.world.hosts) (sym h.made_so))) []
        (ap (λ (m : EventOutcome). m.grown) (sym h.made_so)) (λ req. refl)
    by_kind happened (kinds.NodeReweight h) =
        still (moments.NodeIsReweighted event made happened h)
        (same_guests start after (ap (λ (m : EventOutcome). m.world.hosts) (sym h.made_so))) []
        (ap (λ (m : EventOutcome). m.grown) (sym h.made_so)) (λ req. refl)
    by_kind happened (kinds.NodeJoin h) =
        still (moments.NodeJoins event made happened h)
        (one_guests start after h.n (joined_host script h.n) (ap (λ (m : EventOutcome). m.world.hosts) (sym h.made_so))
        (GuestsAreNone refl refl)) [] (ap (λ (m : EventOutcome). m.grown) (sym h.made_so)) (λ req. refl)
    by_kind happened (kinds.NodeReturn h) =
        let log = log_after_return script h.n start.world in
        still (moments.NodeComesBack event made happened h)
        (one_guests start after h.n (host_after_return log h.host) (ap (λ (m : EventOutcome). m.world.hosts) (sym h.made_so))
        (GuestsAreNone (returned_none log h.host.node).0 (returned_none log h.host.node).1)) []
        (ap (λ (m : EventOutcome). m.grown) (sym h.made_so)) (λ req. refl)
    by_kind happened (kinds.PhaseEnd h) =
        still (moments.PhaseEnds event made happened h)
        (same_guests start after (ap (λ (m : EventOutcome). m.world.hosts) (sym h.made_so))) []
        (ap (λ (m : EventOutcome). m.grown) (sym h.made_so)) (λ req. refl)

  pub event_written : (event : Move) (then : MomentWithPast) → next_moment script event start ≡ Some then → HaveWritten then
  event_written event then is =
      let gone = has_gone script event start then is in
      subst HaveWritten gone.after_so
      (by_kind (event_of_move event) gone.made gone.goes (goes_by_kind script (event_of_move event) start.world gone.made gone.goes))

-- ---- every run

module _ (script : List Statement) (range : RunsAreInRange script) where
  opens : HaveWritten (first_moment script)
  opens = record {
    each = λ n host at_host up req vid block coded bytes request opened check there. no_request script n host at_host req request there;
  }

  keeps : KeptAtEvents script HaveWritten
  keeps events event start then ran run happened all = event_written script range events start ran all event then happened

  pub written-in_run : (events : List Move) (moment : MomentWithPast) → run_with_past script events ≡ Some moment → HaveWritten moment
  written-in_run = kept_at_events script HaveWritten opens keeps

  pub written-in_step : (events : List Move) (start : MomentWithPast) → run_with_past script events ≡ Some start → (on : SteppingNode)
      → IsStepping script start.world on → StepsByChanges on.cause → (so_far : StepState)
      → LeadsInStep on (first_in_step on) so_far → LeadsInStep on so_far (last_in_step on)
      → ChecksHaveWritten (ComesBy on) (moment_in_step script on start so_far).past.history
      (moment_in_step script on start so_far).world.hosts (moment_in_step script on start so_far).past.attempts
  written-in_step events start ran on is by so_far leads rest =
      step_written script range events start ran on is by (written-in_run events start ran) so_far leads rest
