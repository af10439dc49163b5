-- Over a change of a moment a node keeps its peer, or has the one that it has after its whole step, or is new. So what holds of each peer
-- of a world that began holds of each peer at each moment on the way of an event.
use Rattle.std.proofs.Common.{◌≡◌, ◌≢◌, ⊎_elim, ℕ, false, List, ◌∷◌, [], ◌++◌, Some, is_some, refl, sym, ap, subst, ◌∙◌, append_assoc}
use Rattle.std.specs.FinMap as tree
use Rattle.proof_tools.proofs.FiniteMaps.{get-insert_same, get-insert_cases, insert-insert}
use Rattle.object_id.specs.declared.entry.Entry.{Entry}
use Rattle.cluster_script.specs.declared.statement.Statement.{Statement}
use Rattle.cluster_script.specs.declared.statement.Statement.TheVariants as lines
use Rattle.cluster_script.specs.Settings.{tries_of}
use Rattle.peer_service.specs.State.{Peer}
use Rattle.sheep_node.specs.declared.input.Input.{Input}
use Rattle.sheep_node.specs.declared.input.Input.TheVariants as inputs
use Rattle.sheep_node.specs.Changes as changes
use Rattle.sheep_node.specs.State as nodes
use Rattle.sheep_node.specs.StepState.{StepState}
use Rattle.sheep_node.specs.Step.{node_step}
use Rattle.sheep_node.specs.StepFacts.{read_after}
use Rattle.sheep_node.proofs.StepChain.{step_chain}
use Rattle.sheep_node.proofs.StepEffects.{Untouched}
use Rattle.sheep_node.proofs.StepResults.{step_peer}
use Rattle.sheep_world.specs.World.{Host, World}
use Rattle.sheep_world.specs.Step.{EventOutcome}
use Rattle.sheep_world.specs.MembershipChanges.{lost_host, join_of, last_weight}
use Rattle.sheep_world.specs.NodeCauses.{input_of_cause, event_of_cause, host_with_node, world_after_cause}
use Rattle.sheep_world.specs.EventKinds.{log_after_return, outcome_of_step}
use Rattle.sheep_world.specs.HostChanges.{host_after_return, joined_host}
use Rattle.sheep_world.specs.Began.{Began}
use Rattle.sheep_world.proofs.BegunWorlds.{goes_on}
use Rattle.sheep_world.proofs.ControlLaws.{next_fits}
use Rattle.sheep_world.proofs.LogFrontLaws.{all_read}
use Rattle.overlap_law.specs.Reached.{Hosts}
use Rattle.overlap_law.specs.Past.{MomentWithPast}
use Rattle.overlap_law.specs.StepMoments.{SteppingNode, IsStepping, first_in_step, last_in_step, LeadsInStep, moment_in_step}
use Rattle.overlap_law.specs.StepMoments.{StepsByChanges}
use Rattle.overlap_law.specs.MomentChanges as moments
use Rattle.overlap_law.specs.MomentChanges.{MomentChange, RunsAreInRange}
use Rattle.overlap_law.proofs.EpochsRise.{same_so_far, read_more, read_with_more}
use Rattle.overlap_law.proofs.KnownSteps.{together}
use Rattle.overlap_law.proofs.SendsOfChanges.{in_order_so_far}
use Rattle.overlap_law.proofs.ClosedWorlds.{hosts_after}

-- what a node steps on, and what it reads more by that
pub record PeerStep (was : Host) (host : Host) : Type 0 where
  pub input : Input
  pub more : List Entry
  pub reads : read_after input was.node.peer.entries ≡ was.node.peer.entries ++ more
  pub peer_so : (node_step input was.node).node.peer ≡ host.node.peer

-- how the peer of a node came to be as it is
pub data PeerChange (before : MomentWithPast) (n : ℕ) (host : Host) : Type 0 where
  PeerStays : (was : Host) → tree.get before.world.hosts n ≡ Some was → was.node.peer ≡ host.node.peer → PeerChange before n host
  PeerSteps : (was : Host) → tree.get before.world.hosts n ≡ Some was → PeerStep was host → PeerChange before n host
  PeerIsNew : (tries : ℕ) → is_some (tree.get before.world.hosts n) ≡ false
      → (nodes.initial_node (record { 0 = n }) tries).peer ≡ host.node.peer → PeerChange before n host

-- one host is another
one_peer : (before after : MomentWithPast) (k : ℕ) (new : Host) → after.world.hosts ≡ tree.insert before.world.hosts k new
    → PeerChange before k new → (n : ℕ) (host : Host) → tree.get after.world.hosts n ≡ Some host → PeerChange before n host
one_peer before after k new is change n host there = ⊎_elim
    (λ (own : (n ≡ k) × (new ≡ host)).
    subst (λ (q : ℕ). PeerChange before q host) (sym own.0) (subst (PeerChange before k) own.1 change))
    (λ (other : (n ≢ k) × (tree.get before.world.hosts n ≡ Some host)). PeerStays host other.1 refl)
    (get-insert_cases before.world.hosts k new n host (ap (λ (held : Hosts). tree.get held n) (sym is) ∙ there))

same_peers : (before after : MomentWithPast) → after.world.hosts ≡ before.world.hosts → (n : ℕ) (host : Host)
    → tree.get after.world.hosts n ≡ Some host → PeerChange before n host
same_peers before after same n host there = PeerStays host (ap (λ (held : Hosts). tree.get held n) (sym same) ∙ there) refl

module _ (script : List Statement) (range : RunsAreInRange script) (start : MomentWithPast) (began : Began script start.world) where
  pub peers_change : {before after : MomentWithPast} → MomentChange script start before after → (n : ℕ) (host : Host)
      → tree.get after.world.hosts n ≡ Some host → PeerChange before n host
  peers_change (moments.StepBegins stepping is by) n host there =
      one_peer start (moment_in_step script stepping start (first_in_step stepping)) stepping.n
      (host_with_node stepping.host (first_in_step stepping).node) refl
      (PeerSteps stepping.host is.there (record {
        input = input_of_cause stepping.cause;
        more = read_more stepping.cause;
        reads = read_with_more stepping.cause stepping.host.node.peer.entries;
        peer_so = step_peer (input_of_cause stepping.cause) stepping.host.node;
      })) n host there
  peers_change (moments.StepGoesOn stepping so_far next is by within) n host there =
      let was = host_with_node stepping.host so_far.node in
      let now = host_with_node stepping.host next.node in
      one_peer (moment_in_step script stepping start so_far) (moment_in_step script stepping start next) stepping.n now
      (sym (insert-insert start.world.hosts stepping.n was now))
      (PeerStays was (get-insert_same start.world.hosts stepping.n was)
      (same_so_far script range start began stepping so_far within.leads
      ∙ sym (same_so_far script range start began stepping next (changes.Then within.leads within.change)))) n host there
  peers_change (moments.StepIsMade stepping is by) n host there =
      one_peer start (moment_in_step script stepping start (last_in_step stepping)) stepping.n
      (host_with_node stepping.host (last_in_step stepping).node) refl
      (PeerSteps stepping.host is.there (record {
        input = input_of_cause stepping.cause;
        more = read_more stepping.cause;
        reads = read_with_more stepping.cause stepping.host.node.peer.entries;
        peer_so = refl;
      })) n host there
  peers_change {before} {after} (moments.LossIsUntold event made happened h) n host there =
      same_peers before after (ap (λ (m : EventOutcome). m.world.hosts) (sym h.made_so)) n host there
  peers_change {before} {after} (moments.DeliveryIsUnread event made happened h) n host there =
      same_peers before after (ap (λ (m : EventOutcome). m.world.hosts) (sym h.made_so)) n host there
  peers_change {before} {after} (moments.NodeIsLost event made happened h) n host there =
      one_peer before after h.n (lost_host h.host) (ap (λ (m : EventOutcome). m.world.hosts) (sym h.made_so))
      (PeerStays h.host h.there refl) n host there
  peers_change {before} {after} (moments.NodeLeaves event made happened h) n host there =
      same_peers before after (ap (λ (m : EventOutcome). m.world.hosts) (sym h.made_so)) n host there
  peers_change {before} {after} (moments.NodeIsReweighted event made happened h) n host there =
      same_peers before after (ap (λ (m : EventOutcome). m.world.hosts) (sym h.made_so)) n host there
  peers_change {before} {after} (moments.NodeJoins event made happened h) n host there =
      one_peer before after h.n (joined_host script h.n) (ap (λ (m : EventOutcome). m.world.hosts) (sym h.made_so))
      (PeerIsNew (tries_of script)
      (next_fits script start.world (lines.Join h.n) h.control (together script range start.world began).fit).1 refl) n host there
  peers_change {before} {after} (moments.NodeComesBack event made happened h) n host there =
      let join = join_of script h.n (last_weight start.world.log h.n) in
      let log = log_after_return script h.n start.world in
      let front = all_read script start.world began h.n h.host h.there in
      one_peer before after h.n (host_after_return log h.host) (ap (λ (m : EventOutcome). m.world.hosts) (sym h.made_so))
      (PeerSteps h.host h.there (record {
        input = inputs.Back log;
        more = front.rest ++ join ∷ [];
        reads = ap (λ (entries : List Entry). entries ++ join ∷ []) front.is
            ∙ append_assoc h.host.node.peer.entries front.rest (join ∷ []);
        peer_so = refl;
      })) n host there
  peers_change {before} {after} (moments.PhaseEnds event made happened h) n host there =
      same_peers before after (ap (λ (m : EventOutcome). m.world.hosts) (sym h.made_so)) n host there

-- ---- what holds of each peer

module _ (script : List Statement) (Q : ℕ → Peer → Type 0)
    (holds : (world : World) → Began script world → (n : ℕ) (host : Host) → tree.get world.hosts n ≡ Some host → Q n host.node.peer)
    (start : MomentWithPast) (began : Began script start.world) where
  so_in_step : (stepping : SteppingNode) → IsStepping script start.world stepping → StepsByChanges stepping.cause → (so_far : StepState)
      → LeadsInStep stepping (first_in_step stepping) so_far → Q stepping.n so_far.node.peer
  so_in_step stepping is by so_far leads =
      let last = host_with_node stepping.host (last_in_step stepping).node in
      let end = world_after_cause script stepping.n stepping.host stepping.cause start.world in
      let ended : Began script end = goes_on script (event_of_cause stepping.n stepping.cause) start.world
      (outcome_of_step script stepping.n stepping.host stepping.cause start.world) began is.made in
      let peer_so : (last_in_step stepping).node.peer ≡ so_far.node.peer
      = ap (λ (u : Untouched). u.peer)
      ((in_order_so_far (last_in_step stepping) (step_chain (input_of_cause stepping.cause) stepping.host.node)).same
      ∙ sym (in_order_so_far so_far leads).same) in
      subst (Q stepping.n) peer_so (holds end ended stepping.n last (get-insert_same start.world.hosts stepping.n last))

  pub peers_so : {before after : MomentWithPast} → MomentChange script start before after → (n : ℕ) (host : Host)
      → tree.get after.world.hosts n ≡ Some host → Q n host.node.peer
  peers_so change = hosts_after script (λ (n : ℕ) (host : Host). Q n host.node.peer) holds start began so_in_step change
