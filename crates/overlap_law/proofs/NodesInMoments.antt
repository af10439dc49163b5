-- Over a change of a moment a node keeps its peer; or it steps for a cause, or comes back, where the event begins; or it is new.
use Rattle.std.proofs.Common.{◌≡◌, ◌≢◌, ⊎_elim, ℕ, List, Some, refl, sym, ap, subst, ◌∙◌}
use Rattle.std.specs.FinMap as tree
use Rattle.proof_tools.proofs.FiniteMaps.{get-insert_same, get-insert_cases, insert-insert}
use Rattle.cluster_script.specs.declared.statement.Statement.{Statement}
use Rattle.cluster_script.specs.Settings.{tries_of}
use Rattle.sheep_node.specs.declared.input.Input.TheVariants as inputs
use Rattle.sheep_node.specs.Changes as changes
use Rattle.sheep_node.specs.State as nodes
use Rattle.sheep_node.specs.Step.{node_step}
use Rattle.sheep_node.proofs.StepResults.{step_peer}
use Rattle.sheep_world.specs.World.{Host}
use Rattle.sheep_world.specs.Step.{EventOutcome}
use Rattle.sheep_world.specs.MembershipChanges.{lost_host}
use Rattle.sheep_world.specs.NodeCauses.{input_of_cause, host_with_node, log_after_cause}
use Rattle.sheep_world.specs.EventKinds.{log_after_return}
use Rattle.sheep_world.specs.HostChanges.{host_after_return, joined_host}
use Rattle.sheep_world.specs.Began.{Began}
use Rattle.overlap_law.specs.Reached.{Hosts}
use Rattle.overlap_law.specs.Past.{MomentWithPast}
use Rattle.overlap_law.specs.StepMoments.{SteppingNode, IsStepping, first_in_step, last_in_step, moment_in_step}
use Rattle.overlap_law.specs.MomentChanges as moments
use Rattle.overlap_law.specs.MomentChanges.{MomentChange, RunsAreInRange}
use Rattle.overlap_law.proofs.EpochsRise.{same_so_far}

-- how a node came to have the peer that it has
pub data NodeChange (script : List Statement) (start before after : MomentWithPast) (n : ℕ) (host : Host) : Type 0 where
  PeerStays : (was : Host) → tree.get before.world.hosts n ≡ Some was → was.node.peer ≡ host.node.peer
      → NodeChange script start before after n host
  NodeSteps : (stepping : SteppingNode) → IsStepping script start.world stepping → start ≡ before → stepping.n ≡ n
      → log_after_cause stepping.cause start.world.log ≡ after.world.log
      → (node_step (input_of_cause stepping.cause) stepping.host.node).node.peer ≡ host.node.peer
      → NodeChange script start before after n host
  NodeReturns : (was : Host) → tree.get before.world.hosts n ≡ Some was → start ≡ before
      → (node_step (inputs.Back (log_after_return script n before.world)) was.node).node.peer ≡ host.node.peer
      → NodeChange script start before after n host
  NodeIsNew : (tries : ℕ) → (nodes.initial_node (record { 0 = n }) tries).peer ≡ host.node.peer
      → NodeChange script start before after n host

module _ (script : List Statement) (start : MomentWithPast) where
  one_node : (before after : MomentWithPast) (k : ℕ) (new : Host) → after.world.hosts ≡ tree.insert before.world.hosts k new
      → NodeChange script start before after k new → (n : ℕ) (host : Host) → tree.get after.world.hosts n ≡ Some host
      → NodeChange script start before after n host
  one_node before after k new is change n host there = ⊎_elim
      (λ (own : (n ≡ k) × (new ≡ host)).
      subst (λ (q : ℕ). NodeChange script start before after q host) (sym own.0)
      (subst (NodeChange script start before after k) own.1 change))
      (λ (other : (n ≢ k) × (tree.get before.world.hosts n ≡ Some host)). PeerStays host other.1 refl)
      (get-insert_cases before.world.hosts k new n host (ap (λ (held : Hosts). tree.get held n) (sym is) ∙ there))

  same_nodes : (before after : MomentWithPast) → after.world.hosts ≡ before.world.hosts → (n : ℕ) (host : Host)
      → tree.get after.world.hosts n ≡ Some host → NodeChange script start before after n host
  same_nodes before after same n host there = PeerStays host (ap (λ (held : Hosts). tree.get held n) (sym same) ∙ there) refl

module _ (script : List Statement) (range : RunsAreInRange script) (start : MomentWithPast) (began : Began script start.world) where
  pub nodes_change : {before after : MomentWithPast} → MomentChange script start before after → (n : ℕ) (host : Host)
      → tree.get after.world.hosts n ≡ Some host → NodeChange script start before after n host
  nodes_change (moments.StepBegins stepping is by) n host there =
      one_node script start start (moment_in_step script stepping start (first_in_step stepping)) stepping.n
      (host_with_node stepping.host (first_in_step stepping).node) refl
      (NodeSteps stepping is refl refl refl (step_peer (input_of_cause stepping.cause) stepping.host.node)) n host there
  nodes_change (moments.StepGoesOn stepping so_far next is by within) n host there =
      let was = host_with_node stepping.host so_far.node in
      let now = host_with_node stepping.host next.node in
      one_node script start (moment_in_step script stepping start so_far) (moment_in_step script stepping start next) stepping.n now
      (sym (insert-insert start.world.hosts stepping.n was now))
      (PeerStays was (get-insert_same start.world.hosts stepping.n was)
      (same_so_far script range start began stepping so_far within.leads
      ∙ sym (same_so_far script range start began stepping next (changes.Then within.leads within.change)))) n host there
  nodes_change (moments.StepIsMade stepping is by) n host there =
      one_node script start start (moment_in_step script stepping start (last_in_step stepping)) stepping.n
      (host_with_node stepping.host (last_in_step stepping).node) refl (NodeSteps stepping is refl refl refl refl) n host there
  nodes_change {before} {after} (moments.LossIsUntold event made happened h) n host there =
      same_nodes script start before after (ap (λ (m : EventOutcome). m.world.hosts) (sym h.made_so)) n host there
  nodes_change {before} {after} (moments.DeliveryIsUnread event made happened h) n host there =
      same_nodes script start before after (ap (λ (m : EventOutcome). m.world.hosts) (sym h.made_so)) n host there
  nodes_change {before} {after} (moments.NodeIsLost event made happened h) n host there =
      one_node script start before after h.n (lost_host h.host) (ap (λ (m : EventOutcome). m.world.hosts) (sym h.made_so))
      (PeerStays h.host h.there refl) n host there
  nodes_change {before} {after} (moments.NodeLeaves event made happened h) n host there =
      same_nodes script start before after (ap (λ (m : EventOutcome). m.world.hosts) (sym h.made_so)) n host there
  nodes_change {before} {after} (moments.NodeIsReweighted event made happened h) n host there =
      same_nodes script start before after (ap (λ (m : EventOutcome). m.world.hosts) (sym h.made_so)) n host there
  nodes_change {before} {after} (moments.NodeJoins event made happened h) n host there =
      one_node script start before after h.n (joined_host script h.n) (ap (λ (m : EventOutcome). m.world.hosts) (sym h.made_so))
      (NodeIsNew (tries_of script) refl) n host there
  nodes_change {before} {after} (moments.NodeComesBack event made happened h) n host there =
      one_node script start before after h.n (host_after_return (log_after_return script h.n start.world) h.host)
      (ap (λ (m : EventOutcome). m.world.hosts) (sym h.made_so)) (NodeReturns h.host h.there refl refl) n host there
  nodes_change {before} {after} (moments.PhaseEnds event made happened h) n host there =
      same_nodes script start before after (ap (λ (m : EventOutcome). m.world.hosts) (sym h.made_so)) n host there
