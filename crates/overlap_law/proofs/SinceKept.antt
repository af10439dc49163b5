-- Each change of a moment on the way of an event keeps that each row has what it owes, if before it what a recovery finds has what it
-- needs: by the kinds of change, one after the other.
use Rattle.std.proofs.Common.{◌≡◌, ℕ, Bool, List, Some, refl, sym, ap, subst, ◌∙◌}
use Rattle.std.proofs.lemmas.Option.{same_Some}
use Rattle.object_id.specs.declared.entry.Entry.{Entry}
use Rattle.object_id.specs.declared.policy.Policy.{Policy}
use Rattle.cluster_script.specs.declared.statement.Statement.{Statement}
use Rattle.peer_proto.specs.declared.ask.PeerReq.{PeerReq}
use Rattle.vdi_directory.specs.Decisions.{log_effects}
use Rattle.recovery.specs.Level.{own_index, own_part, rows_found}
use Rattle.recovery.specs.State.{Search, RecoveryState}
use Rattle.sheep_node.specs.declared.input.Input.TheVariants as inputs
use Rattle.sheep_node.specs.RecoveryView.{shown_node}
use Rattle.sheep_node.specs.StepState.{StepState}
use Rattle.sheep_node.specs.Step.{node_step}
use Rattle.sheep_node.proofs.StepResults.{step_peer}
use Rattle.sheep_world.specs.World.{Host}
use Rattle.sheep_world.specs.EventKinds as kinds
use Rattle.sheep_world.specs.NodeCauses.{NodeCause, GuestAsks, RequestComes, ReplyComes, LossIsTold, EntryIsRead, EntryIsPut}
use Rattle.sheep_world.specs.NodeCauses.{RecoveryTicks, WorkIsRetried, ClientAsks, input_of_cause}
use Rattle.sheep_world.specs.Began.{Began}
use Rattle.sheep_world.specs.RunsWithAsks.{Move}
use Rattle.overlap_law.specs.Each.{policy_in}
use Rattle.overlap_law.specs.MomentChanges as moments
use Rattle.overlap_law.specs.MomentChanges.{MomentChange, MomentTrail, RunsAreInRange, Still, Then}
use Rattle.overlap_law.specs.Past.{MomentWithPast, run_with_past}
use Rattle.overlap_law.specs.Since.{IsSince, RowsAreSince}
use Rattle.overlap_law.specs.StepMoments.{SteppingNode, IsStepping, StepsByChanges, StepsAtOnce, IsWithinStep, first_in_step}
use Rattle.overlap_law.specs.StepMoments.{last_in_step, moment_in_step}
use Rattle.overlap_law.proofs.AnswersInMoments.{not_lost}
use Rattle.overlap_law.proofs.AttemptsInSteps.{attempts-at_first, attempts-at_end}
use Rattle.overlap_law.proofs.BegunInMoments.{RowsBegin, kept_begun, begun-at}
use Rattle.overlap_law.proofs.CopiesAtSteps.{policy_later}
use Rattle.overlap_law.proofs.FinishedInMoments.{TermsHold, kept_terms}
use Rattle.overlap_law.proofs.LaterAttempts.{AreLater, later-same, later-lost}
use Rattle.overlap_law.proofs.LogsInMoments.{log_grows}
use Rattle.overlap_law.proofs.MakersInTraffic.{HasMakersOfAttempts, kept_makers}
use Rattle.overlap_law.proofs.MessagesInMoments.{Have, kept_messages}
use Rattle.overlap_law.proofs.NoRecoveredDue.{began-with_past}
use Rattle.overlap_law.proofs.OrderedInRuns.{ordered-in_run}
use Rattle.overlap_law.proofs.PlacedInMoments.{placed-in_run, placed-on_the_way}
use Rattle.overlap_law.proofs.ReadInMoments.{kept_sound}
use Rattle.overlap_law.proofs.RowKeeping.{MayFind}
use Rattle.overlap_law.proofs.RunsByChanges.{run-kept, on_the_way}
use Rattle.overlap_law.proofs.SinceAtEvents.{since_elsewhere}
use Rattle.overlap_law.proofs.SinceAtNodes.{FindsSince, finds_nothing, grown}
use Rattle.overlap_law.proofs.SinceAtReadings.{since_after}
use Rattle.overlap_law.proofs.SinceAtSteps.{since_at_step}
use Rattle.overlap_law.proofs.SinceFound.{known_found, found_since}
use Rattle.overlap_law.proofs.SinceInSteps.{since_goes_on}
use Rattle.overlap_law.proofs.SinceLater.{NoneTold, since_later}
use Rattle.overlap_law.proofs.SinceRequests.{since_served}
use Rattle.overlap_law.proofs.SoundSearches.{FoundNeeds, IsSoundSearch, sound_anew, sound_first, sound_answered}
use Rattle.overlap_law.proofs.StayingRows.{RowsHold, kept_rows}
use Rattle.overlap_law.proofs.StoodNodes.{TheUpHaveStood, kept_stood}
use Rattle.overlap_law.proofs.WholeInRuns.{whole-on_the_way}
use Rattle.overlap_law.proofs.WorksOfAttempts.{AreOfWorks, kept_works}

module _ (script : List Statement) (range : RunsAreInRange script) (events : List Move) (start : MomentWithPast)
    (is : run_with_past script events ≡ Some start) where
  began : Began script start.world
  began = began-with_past script events start is

  terms : TermsHold start
  terms = run-kept script TermsHold (kept_terms script range) events start is

  holds : RowsHold start
  holds = run-kept script RowsHold (kept_rows script range) events start is

  -- ---- where the event begins

  module _ (good : ℕ → Bool) (needs : FoundNeeds good start) where
    abbrev SinceAt : MomentWithPast → Type 0
    SinceAt moment = RowsAreSince (log_effects moment.world.log) good moment.world.hosts moment.past.attempts

    since : SinceAt start
    since = needs.since

    -- ---- a step of a node

    module _ (n : ℕ) (host : Host) (cause : NodeCause)
        (stepped : IsStepping script start.world (record { n = n; host = host; cause = cause }))
        (so_far : StepState)
        (change : MomentChange script start start (moment_in_step script (record { n = n; host = host; cause = cause }) start so_far))
        (peer_so : (node_step (input_of_cause cause) host.node).node.peer ≡ so_far.node.peer)
        (pairs : AreLater script range start start (moment_in_step script (record { n = n; host = host; cause = cause }) start so_far) began
        change terms holds.shaped holds.tied NoneTold) where
      abbrev stepping : SteppingNode
      stepping = record { n = n; host = host; cause = cause }

      abbrev after : MomentWithPast
      after = moment_in_step script stepping start so_far

      abbrev Finds : (Search → Type 0) → Type 0
      Finds Q = FindsSince script range start start after began change good since n host.node (input_of_cause cause) Q

      stepped_with : (Q : Search → Type 0) → Finds Q → ((request : PeerReq) → input_of_cause cause ≡ inputs.Request request → ⊥)
          → ((entry : Entry) → input_of_cause cause ≡ inputs.LogEntry entry → ⊥)
          → RowsAreSince (log_effects after.world.log) good after.world.hosts after.past.attempts
      stepped_with Q finds not_served no_entry =
          since_at_step script range start began stepping stepped so_far change peer_so good terms holds.shaped holds.tied since pairs Q
          finds not_served no_entry

      -- what its recovery finds
      abbrev Sound : Search → Type 0
      Sound = IsSoundSearch script range events start is good needs n host stepped.there (not_lost host stepped.up)

      finds_sound : Finds Sound
      finds_sound = record {
        answered = λ number said tells message sent oid level asks_row search on own.
            sound_answered script range events start is good needs n host stepped.there (not_lost host stepped.up)
            number message sent oid level asks_row search on own cause stepped.caused said tells;
        anew = sound_anew script range events start is good needs n host stepped.there (not_lost host stepped.up);
        first = sound_first script range events start is good needs n host stepped.there (not_lost host stepped.up);
        found = λ may recovery me_so epoch_so search shown_policy so live_so pending enough policy is_good known.
            let state : RecoveryState = record { recovery = recovery; shown = shown_node host.node } in
            let bytes : List ℕ = own_part shown_policy search (rows_found state shown_policy search) state in
            let index : ℕ = own_index shown_policy search state in
            let longer = log_grows script change in
            let was = known_found script range events start is good needs n host stepped.there
            (not_lost host stepped.up) recovery search shown_policy so live_so pending enough is_good in
            let then : policy_in (log_effects after.world.log) search.oid ≡ Some shown_policy
            = ap (λ (log : List Entry). policy_in (log_effects log) search.oid) longer.is
            ∙ policy_later start.world.log longer.rest search.oid shown_policy was in
            let same : shown_policy ≡ policy = same_Some shown_policy policy (sym then ∙ known) in
            subst (λ (p : Policy). IsSince p search.oid after.world.hosts after.past.attempts (record { 0 = n }) index host.node.peer.epoch
            host.node.peer.epoch bytes) same
            (since_later start.world.hosts after.world.hosts NoneTold start.past.attempts after.past.attempts pairs
            (grown script range start start after began change good since) shown_policy search.oid n index host.node.peer.epoch
            host.node.peer.epoch bytes
            (found_since script range events start is good needs n host stepped.there (not_lost host stepped.up)
            recovery search shown_policy so live_so pending enough is_good)
            (λ j now at told most. told));
      }

      abbrev Anything : Search → Type 0
      Anything search = Unit {0}

      -- so it is where a recovery finds nothing
      without_finds : (MayFind (input_of_cause cause) → ⊥) → ((request : PeerReq) → input_of_cause cause ≡ inputs.Request request → ⊥)
          → ((entry : Entry) → input_of_cause cause ≡ inputs.LogEntry entry → ⊥) → SinceAt after
      without_finds none not_served no_entry =
          stepped_with Anything
          (finds_nothing script range start start after began change good since n host.node (input_of_cause cause) none) not_served no_entry

      -- and where it finds what it may
      with_finds : ((request : PeerReq) → input_of_cause cause ≡ inputs.Request request → ⊥)
          → ((entry : Entry) → input_of_cause cause ≡ inputs.LogEntry entry → ⊥) → SinceAt after
      with_finds not_served no_entry = stepped_with Sound finds_sound not_served no_entry

    step_begins : (n : ℕ) (host : Host) (cause : NodeCause)
        → (stepped : IsStepping script start.world (record { n = n; host = host; cause = cause })) → StepsByChanges cause
        → SinceAt (moment_in_step script (record { n = n; host = host; cause = cause }) start
        (first_in_step (record { n = n; host = host; cause = cause })))
    step_begins n host (GuestAsks session req ask) stepped by =
        let s : SteppingNode = record { n = n; host = host; cause = GuestAsks session req ask } in
        let change = moments.StepBegins s stepped by in
        let pairs = later-same script range start start (moment_in_step script s start (first_in_step s)) began change terms holds.shaped
        holds.tied (attempts-at_first script start s stepped by) in
        without_finds n host (GuestAsks session req ask) stepped (first_in_step s) change (step_peer (input_of_cause s.cause) host.node)
        pairs (λ may. may) (λ request same. absurd (cc (same))) (λ entry same. absurd (cc (same)))
    step_begins n host (RequestComes name to request) stepped by = absurd by
    step_begins n host (ReplyComes name from rsp) stepped by =
        let s : SteppingNode = record { n = n; host = host; cause = ReplyComes name from rsp } in
        let change = moments.StepBegins s stepped by in
        let pairs = later-same script range start start (moment_in_step script s start (first_in_step s)) began change terms holds.shaped
        holds.tied (attempts-at_first script start s stepped by) in
        let peer_so = step_peer (input_of_cause s.cause) host.node in
        with_finds n host (ReplyComes name from rsp) stepped (first_in_step s) change peer_so pairs
        (λ request same. absurd (cc (same))) (λ entry same. absurd (cc (same)))
    step_begins n host (LossIsTold name packet) stepped by =
        let s : SteppingNode = record { n = n; host = host; cause = LossIsTold name packet } in
        let change = moments.StepBegins s stepped by in
        let pairs = later-lost script range start start (moment_in_step script s start (first_in_step s)) began change terms holds.shaped
        holds.tied name packet (attempts-at_first script start s stepped by) in
        let peer_so = step_peer (input_of_cause s.cause) host.node in
        with_finds n host (LossIsTold name packet) stepped (first_in_step s) change peer_so pairs
        (λ request same. absurd (cc (same))) (λ entry same. absurd (cc (same)))
    step_begins n host (EntryIsRead entry) stepped by =
        let s : SteppingNode = record { n = n; host = host; cause = EntryIsRead entry } in
        let change = moments.StepBegins s stepped by in
        since_after script range start began n host entry stepped good holds.shaped holds.tied holds.turns holds.sound
        ((kept_sound script range).keeps start start (moment_in_step script s start (first_in_step s)) began change holds.sound)
        (placed-in_run script range events start is) since
    step_begins n host (EntryIsPut entry) stepped by = absurd by
    step_begins n host RecoveryTicks stepped by = absurd by
    step_begins n host WorkIsRetried stepped by =
        let s : SteppingNode = record { n = n; host = host; cause = WorkIsRetried } in
        let change = moments.StepBegins s stepped by in
        let pairs = later-same script range start start (moment_in_step script s start (first_in_step s)) began change terms holds.shaped
        holds.tied (attempts-at_first script start s stepped by) in
        without_finds n host WorkIsRetried stepped (first_in_step s) change (step_peer (input_of_cause s.cause) host.node)
        pairs (λ may. may) (λ request same. absurd (cc (same))) (λ entry same. absurd (cc (same)))
    step_begins n host (ClientAsks req ask) stepped by =
        let s : SteppingNode = record { n = n; host = host; cause = (ClientAsks req ask) } in
        let change = moments.StepBegins s stepped by in
        let pairs = later-same script range start start (moment_in_step script s start (first_in_step s)) began change terms holds.shaped
        holds.tied (attempts-at_first script start s stepped by) in
        without_finds n host (ClientAsks req ask) stepped (first_in_step s) change (step_peer (input_of_cause s.cause) host.node)
        pairs (λ may. may) (λ request same. absurd (cc (same))) (λ entry same. absurd (cc (same)))

    step_is_made : (n : ℕ) (host : Host) (cause : NodeCause)
        → (stepped : IsStepping script start.world (record { n = n; host = host; cause = cause })) → StepsAtOnce cause
        → SinceAt (moment_in_step script (record { n = n; host = host; cause = cause }) start
        (last_in_step (record { n = n; host = host; cause = cause })))
    step_is_made n host (GuestAsks session req ask) stepped by = absurd by
    step_is_made n host (RequestComes name to request) stepped by =
        since_served script range start began n host name to request stepped good terms holds.shaped holds.tied holds.turns holds.sound
        (ordered-in_run script range events start start is Still)
        (run-kept script HasMakersOfAttempts (kept_makers script range) events start is)
        (run-kept script AreOfWorks (kept_works script range) events start is) (whole-on_the_way script range events start start is Still)
        since
    step_is_made n host (ReplyComes name from rsp) stepped by = absurd by
    step_is_made n host (LossIsTold name packet) stepped by = absurd by
    step_is_made n host (EntryIsRead entry) stepped by = absurd by
    step_is_made n host (EntryIsPut entry) stepped by =
        let s : SteppingNode = record { n = n; host = host; cause = EntryIsPut entry } in
        let change = moments.StepIsMade s stepped by in
        let pairs = later-same script range start start (moment_in_step script s start (last_in_step s)) began change terms holds.shaped
        holds.tied (attempts-at_end script start s stepped by) in
        without_finds n host (EntryIsPut entry) stepped (last_in_step s) change refl
        pairs (λ may. may) (λ request same. absurd (cc (same))) (λ entry same. absurd (cc (same)))
    step_is_made n host RecoveryTicks stepped by =
        let s : SteppingNode = record { n = n; host = host; cause = RecoveryTicks } in
        let change = moments.StepIsMade s stepped by in
        let pairs = later-same script range start start (moment_in_step script s start (last_in_step s)) began change terms holds.shaped
        holds.tied (attempts-at_end script start s stepped by) in
        with_finds n host RecoveryTicks stepped (last_in_step s) change refl pairs
        (λ request same. absurd (cc (same))) (λ entry same. absurd (cc (same)))
    step_is_made n host WorkIsRetried stepped by = absurd by
    step_is_made n host (ClientAsks req ask) stepped by = absurd by

  -- ---- in the middle of a step

  goes_on : (stepping : SteppingNode) (so_far next : StepState) → IsStepping script start.world stepping → StepsByChanges stepping.cause
      → IsWithinStep stepping so_far next → MomentTrail script start (moment_in_step script stepping start so_far)
      → (good : ℕ → Bool)
      → RowsAreSince (log_effects (moment_in_step script stepping start so_far).world.log) good
      (moment_in_step script stepping start so_far).world.hosts (moment_in_step script stepping start so_far).past.attempts
      → RowsAreSince (log_effects (moment_in_step script stepping start next).world.log) good
      (moment_in_step script stepping start next).world.hosts (moment_in_step script stepping start next).past.attempts
  goes_on stepping so_far next stepped by within trail good since =
      let after : MomentWithPast = moment_in_step script stepping start next in
      let way = Then trail (moments.StepGoesOn stepping so_far next stepped by within) in
      let hold : RowsHold after = on_the_way script RowsHold (kept_rows script range) events start after is way in
      let stood : TheUpHaveStood after.world.log after.world.hosts
      = on_the_way script (λ (moment : MomentWithPast). TheUpHaveStood moment.world.log moment.world.hosts) (kept_stood script range)
      events start after is way in
      let have = on_the_way script (Have script range) (kept_messages script range) events start after is way in
      since_goes_on script range start began stepping stepped by so_far next within good good (λ oid is_good. is_good) hold.shaped hold.tied
      stood hold.sound hold.turns have (ordered-in_run script range events start after is way)
      (placed-on_the_way script range events start after is way)
      (begun-at after (on_the_way script RowsBegin (kept_begun script range) events start after is way) good) since

  -- ---- every change

  pub since_kept : {before after : MomentWithPast} → MomentTrail script start before → MomentChange script start before after
      → (good : ℕ → Bool) → FoundNeeds good before → RowsAreSince (log_effects after.world.log) good after.world.hosts after.past.attempts
  since_kept trail (moments.StepBegins stepping stepped by) good needs =
      step_begins good needs stepping.n stepping.host stepping.cause stepped by
  since_kept trail (moments.StepGoesOn stepping so_far next stepped by within) good needs =
      goes_on stepping so_far next stepped by within trail good needs.since
  since_kept trail (moments.StepIsMade stepping stepped by) good needs =
      step_is_made good needs stepping.n stepping.host stepping.cause stepped by
  since_kept trail (moments.LossIsUntold event made happened h) good needs =
      since_elsewhere script range start began good terms holds.shaped holds.tied needs.since event made happened
      (kinds.UntoldLoss h) tt
  since_kept trail (moments.DeliveryIsUnread event made happened h) good needs =
      since_elsewhere script range start began good terms holds.shaped holds.tied needs.since event made happened
      (kinds.UnreadDelivery h) tt
  since_kept trail (moments.NodeIsLost event made happened h) good needs =
      since_elsewhere script range start began good terms holds.shaped holds.tied needs.since event made happened
      (kinds.NodeLoss h) tt
  since_kept trail (moments.NodeLeaves event made happened h) good needs =
      since_elsewhere script range start began good terms holds.shaped holds.tied needs.since event made happened
      (kinds.NodeLeave h) tt
  since_kept trail (moments.NodeIsReweighted event made happened h) good needs =
      since_elsewhere script range start began good terms holds.shaped holds.tied needs.since event made happened
      (kinds.NodeReweight h) tt
  since_kept trail (moments.NodeJoins event made happened h) good needs =
      since_elsewhere script range start began good terms holds.shaped holds.tied needs.since event made happened
      (kinds.NodeJoin h) tt
  since_kept trail (moments.NodeComesBack event made happened h) good needs =
      since_elsewhere script range start began good terms holds.shaped holds.tied needs.since event made happened
      (kinds.NodeReturn h) tt
  since_kept trail (moments.PhaseEnds event made happened h) good needs =
      since_elsewhere script range start began good terms holds.shaped holds.tied needs.since event made happened
      (kinds.PhaseEnd h) tt
