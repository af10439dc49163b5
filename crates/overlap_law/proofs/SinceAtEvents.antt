-- An event at which no node steps, or one comes back, keeps that each row has what it owes: who is lost or came to an epoch is so still,
-- and the rows of a node that comes back end where they ended.
use Rattle.std.proofs.Common.{◌≡◌, ◌≢◌, ⊎_elim, ℕ, Bool, List, Some, sym, ap, subst, ◌∙◌}
use Rattle.std.specs.FinMap as tree
use Rattle.proof_tools.proofs.FiniteMaps.{get-insert_cases}
use Rattle.object_id.specs.declared.entry.Entry.{Entry}
use Rattle.cluster_script.specs.declared.statement.Statement.{Statement}
use Rattle.cluster_script.specs.Settings.{tries_of}
use Rattle.vdi_directory.specs.Decisions.{log_effects}
use Rattle.sheep_node.specs.declared.event.Event.{Event}
use Rattle.sheep_node.specs.declared.input.Input.TheVariants as inputs
use Rattle.sheep_world.specs.World.{Host}
use Rattle.sheep_world.specs.Step.{EventOutcome}
use Rattle.sheep_world.specs.MembershipChanges.{lost_host}
use Rattle.sheep_world.specs.EventKinds as kinds
use Rattle.sheep_world.specs.EventKinds.{log_after_return, EventKind}
use Rattle.sheep_world.specs.HostChanges.{host_after_return, joined_host}
use Rattle.sheep_world.specs.Began.{Began, MakesMove}
use Rattle.overlap_law.specs.Past.{MomentWithPast, moment_after}
use Rattle.overlap_law.specs.MomentChanges as moments
use Rattle.overlap_law.specs.MomentChanges.{MomentChange, RunsAreInRange}
use Rattle.overlap_law.specs.ShapedAttempts.{AreShaped}
use Rattle.overlap_law.specs.Since.{RowsAreSince}
use Rattle.overlap_law.specs.StepMoments.{attempts_with_loss}
use Rattle.overlap_law.specs.TiedAttempts.{IsTied}
use Rattle.overlap_law.specs.EventsElsewhere.{IsElsewhere}
use Rattle.overlap_law.specs.Words.{Hosts}
use Rattle.overlap_law.proofs.AttemptsOfEvents.{attempts-of_untold_loss, attempts-of_unread_delivery, attempts-of_loss, attempts-of_leave}
use Rattle.overlap_law.proofs.AttemptsOfEvents.{attempts-of_reweight, attempts-of_join, attempts-of_return, attempts-of_phase_end}
use Rattle.overlap_law.proofs.FinishedInMoments.{TermsHold}
use Rattle.overlap_law.proofs.LaterAttempts.{AreLater, later-same, later-lost}
use Rattle.overlap_law.proofs.NewAttempts.{attempts_made}
use Rattle.overlap_law.proofs.SinceAtNodes.{PeerSince, all_since, had_since, new_since, finds_nothing, stepped_since}
use Rattle.overlap_law.proofs.SinceLater.{NoneTold}

module _ (script : List Statement) (range : RunsAreInRange script) (start : MomentWithPast) (began : Began script start.world)
    (good : ℕ → Bool) (terms : TermsHold start) (shaped : AreShaped start) (tied : IsTied start)
    (since : RowsAreSince (log_effects start.world.log) good start.world.hosts start.past.attempts) where
  -- over a change at which nobody is told to have served anything
  module _ (after : MomentWithPast) (change : MomentChange script start start after)
      (pairs : AreLater script range start start after began change terms shaped tied NoneTold) where
    abbrev Since : Type 0
    Since = RowsAreSince (log_effects after.world.log) good after.world.hosts after.past.attempts

    abbrev NodeSince : ℕ → Host → Type 0
    NodeSince n host = PeerSince script range start start after began change good since n host.node.peer

    stays : (n : ℕ) (host : Host) → tree.get start.world.hosts n ≡ Some host → NodeSince n host
    stays n host there =
        had_since script range start start after began change good since NoneTold pairs n host there
        (λ oid i row got j now at told most. told)

    pub same_nodes : after.world.hosts ≡ start.world.hosts → Since
    same_nodes same =
        all_since script range start start after began change good since
        (λ n host there. stays n host (ap (λ (held : Hosts). tree.get held n) (sym same) ∙ there))

    pub one_node : (k : ℕ) (new : Host) → after.world.hosts ≡ tree.insert start.world.hosts k new → NodeSince k new → Since
    one_node k new same own =
        all_since script range start start after began change good since
        (λ n host there. ⊎_elim
        (λ (is : (n ≡ k) × (new ≡ host)).
        subst (λ (q : ℕ). NodeSince q host) (sym is.0) (subst (NodeSince k) is.1 own))
        (λ (other : (n ≢ k) × (tree.get start.world.hosts n ≡ Some host)). stays n host other.1)
        (get-insert_cases start.world.hosts k new n host (ap (λ (held : Hosts). tree.get held n) (sym same) ∙ there)))

    -- a node that comes back finds nothing yet
    back_since : (n : ℕ) (host : Host) → tree.get start.world.hosts n ≡ Some host → (entries : List Entry)
        → NodeSince n (host_after_return entries host)
    back_since n host there entries =
        stepped_since script range start start after began change good since n host.node (inputs.Back entries) (λ search. Unit {0})
        (stays n host there)
        (finds_nothing script range start start after began change good since n host.node (inputs.Back entries) (λ may. may))
        (λ request is. absurd (cc (is))) (λ entry is. absurd (cc (is)))

  -- ---- every event

  module _ (event : Event) (made : EventOutcome) (happened : MakesMove script event start.world made) where
    abbrev after : MomentWithPast
    after = moment_after script event start made

    -- the attempts are as they were
    module _ (change : MomentChange script start start after) (same : after.past.attempts ≡ start.past.attempts) where
      still : AreLater script range start start after began change terms shaped tied NoneTold
      still = later-same script range start start after began change terms shaped tied same

      nodes_same : made.world.hosts ≡ start.world.hosts
          → RowsAreSince (log_effects after.world.log) good after.world.hosts after.past.attempts
      nodes_same hosts = same_nodes after change still hosts

    pub since_elsewhere : (kind : EventKind script event start.world made) → IsElsewhere script event start.world made kind
        → RowsAreSince (log_effects after.world.log) good after.world.hosts after.past.attempts
    since_elsewhere (kinds.NodeStep h) none = absurd none
    since_elsewhere (kinds.UntoldLoss h) none =
        let change = moments.LossIsUntold event made happened h in
        same_nodes after change
        (later-lost script range start start after began change terms shaped tied h.name h.packet
        (attempts_made script range start began event made (attempts_with_loss h.name h.packet start.past.attempts)
        (attempts-of_untold_loss script event start.world made start.past.attempts h)))
        (ap (λ (m : EventOutcome). m.world.hosts) (sym h.made_so))
    since_elsewhere (kinds.UnreadDelivery h) none =
        nodes_same (moments.DeliveryIsUnread event made happened h)
        (attempts_made script range start began event made start.past.attempts
        (attempts-of_unread_delivery script event start.world made start.past.attempts h))
        (ap (λ (m : EventOutcome). m.world.hosts) (sym h.made_so))
    since_elsewhere (kinds.NodeLoss h) none =
        let change = moments.NodeIsLost event made happened h in
        let pairs = still change (attempts_made script range start began event made start.past.attempts
        (attempts-of_loss script event start.world made start.past.attempts h)) in
        one_node after change pairs h.n (lost_host h.host) (ap (λ (m : EventOutcome). m.world.hosts) (sym h.made_so))
        (stays after change pairs h.n h.host h.there)
    since_elsewhere (kinds.NodeLeave h) none =
        nodes_same (moments.NodeLeaves event made happened h)
        (attempts_made script range start began event made start.past.attempts
        (attempts-of_leave script event start.world made start.past.attempts h))
        (ap (λ (m : EventOutcome). m.world.hosts) (sym h.made_so))
    since_elsewhere (kinds.NodeReweight h) none =
        nodes_same (moments.NodeIsReweighted event made happened h)
        (attempts_made script range start began event made start.past.attempts
        (attempts-of_reweight script event start.world made start.past.attempts h))
        (ap (λ (m : EventOutcome). m.world.hosts) (sym h.made_so))
    since_elsewhere (kinds.NodeJoin h) none =
        let change = moments.NodeJoins event made happened h in
        one_node after change
        (still change (attempts_made script range start began event made start.past.attempts
        (attempts-of_join script event start.world made start.past.attempts h)))
        h.n (joined_host script h.n) (ap (λ (m : EventOutcome). m.world.hosts) (sym h.made_so))
        (new_since script range start start after began change good since h.n (tries_of script))
    since_elsewhere (kinds.NodeReturn h) none =
        let change = moments.NodeComesBack event made happened h in
        let log = log_after_return script h.n start.world in
        let pairs = still change (attempts_made script range start began event made start.past.attempts
        (attempts-of_return script event start.world made start.past.attempts h)) in
        one_node after change pairs h.n (host_after_return log h.host) (ap (λ (m : EventOutcome). m.world.hosts) (sym h.made_so))
        (back_since after change pairs h.n h.host h.there log)
    since_elsewhere (kinds.PhaseEnd h) none =
        nodes_same (moments.PhaseEnds event made happened h)
        (attempts_made script range start began event made start.past.attempts
        (attempts-of_phase_end script event start.world made start.past.attempts h))
        (ap (λ (m : EventOutcome). m.world.hosts) (sym h.made_so))
