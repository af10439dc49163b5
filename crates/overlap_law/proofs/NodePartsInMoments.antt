-- Over a change of a moment a node keeps what no change of its step touches, or has it as by its input, or is new: itself, its peer, its
-- epochs and its recovery.
use Rattle.std.proofs.Common.{◌≡◌, ◌≢◌, ⊎_elim, ℕ, false, true, List, Some, is_some, refl, sym, ap, subst, ◌∙◌}
use Rattle.std.specs.FinMap as tree
use Rattle.proof_tools.proofs.FiniteMaps.{get-insert_same, get-insert_cases, insert-insert}
use Rattle.object_id.specs.declared.entry.Entry.{Entry}
use Rattle.cluster_script.specs.declared.statement.Statement.{Statement}
use Rattle.cluster_script.specs.declared.statement.Statement.TheVariants as lines
use Rattle.cluster_script.specs.Settings.{tries_of}
use Rattle.sheep_node.specs.declared.input.Input.TheVariants as inputs
use Rattle.sheep_node.specs.Changes as changes
use Rattle.sheep_node.specs.Changes.{input_received}
use Rattle.sheep_node.specs.State as nodes
use Rattle.sheep_node.specs.State.{Node}
use Rattle.sheep_node.specs.StepState.{StepState, at_first}
use Rattle.sheep_node.proofs.StepChain.{step_chain}
use Rattle.sheep_node.proofs.StepEffects.{Untouched, untouched_in, step_in_order}
use Rattle.sheep_world.specs.World.{Host, is_host_up}
use Rattle.sheep_world.specs.Step.{EventOutcome}
use Rattle.sheep_world.specs.MembershipChanges.{lost_host}
use Rattle.sheep_world.specs.NodeCauses.{NodeCause, IsCause, input_of_cause, host_with_node}
use Rattle.sheep_world.specs.EventKinds.{log_after_return}
use Rattle.sheep_world.specs.HostChanges.{host_after_return, joined_host}
use Rattle.sheep_world.specs.Began.{Began}
use Rattle.sheep_world.proofs.ControlLaws.{next_fits}
use Rattle.overlap_law.specs.Reached.{Hosts}
use Rattle.overlap_law.specs.Past.{MomentWithPast}
use Rattle.overlap_law.specs.StepMoments.{SteppingNode, IsStepping, first_in_step, last_in_step, moment_in_step}
use Rattle.overlap_law.specs.MomentChanges as moments
use Rattle.overlap_law.specs.MomentChanges.{MomentChange, RunsAreInRange}
use Rattle.overlap_law.proofs.KnownSteps.{together}
use Rattle.overlap_law.proofs.SendsOfChanges.{in_order_so_far}

-- what of a node no change of its step touches is as in another
pub record HasPartsOf (old new : Node) : Type 0 where
  pub me : new.me ≡ old.me
  pub peer : new.peer ≡ old.peer
  pub epochs : new.epochs ≡ old.epochs
  pub recovery : new.recovery ≡ old.recovery

pub same_parts : (node : Node) → HasPartsOf node node
same_parts node = record { me = refl; peer = refl; epochs = refl; recovery = refl }

pub parts_of : (old new : StepState) → untouched_in new ≡ untouched_in old → HasPartsOf old.node new.node
parts_of old new same = record {
  me = ap (λ (u : Untouched). u.me) same;
  peer = ap (λ (u : Untouched). u.peer) same;
  epochs = ap (λ (u : Untouched). u.epochs) same;
  recovery = ap (λ (u : Untouched). u.recovery) same;
}

-- how the node of a host came to be as it is
pub data PartsChange (script : List Statement) (before : MomentWithPast) (n : ℕ) (host : Host) : Type 0 where
  PartsStay : (was : Host) → tree.get before.world.hosts n ≡ Some was → (host.is_lost ≡ false → was.is_lost ≡ false)
      → HasPartsOf was.node host.node → PartsChange script before n host
  PartsStep : (was : Host) (cause : NodeCause) → Began script before.world → tree.get before.world.hosts n ≡ Some was
      → is_host_up was ≡ true
      → IsCause script before.world n was cause
      → HasPartsOf (input_received (input_of_cause cause) (at_first was.node)).node host.node → PartsChange script before n host
  PartsReturn : (was : Host) → Began script before.world → tree.get before.world.hosts n ≡ Some was → was.is_lost ≡ true
      → HasPartsOf (input_received (inputs.Back (log_after_return script n before.world)) (at_first was.node)).node host.node
      → PartsChange script before n host
  PartsAreNew : is_some (tree.get before.world.hosts n) ≡ false
      → HasPartsOf (nodes.initial_node (record { 0 = n }) (tries_of script)) host.node → PartsChange script before n host

abbrev pub AllPartsChange : List Statement → MomentWithPast → MomentWithPast → Type 0
AllPartsChange script before after = (n : ℕ) (host : Host) → tree.get after.world.hosts n ≡ Some host → PartsChange script before n host

-- one host is another
one_parts : (script : List Statement) (before after : MomentWithPast) (k : ℕ) (new : Host)
    → after.world.hosts ≡ tree.insert before.world.hosts k new → PartsChange script before k new → AllPartsChange script before after
one_parts script before after k new is change n host there = ⊎_elim
    (λ (own : (n ≡ k) × (new ≡ host)).
    subst (λ (q : ℕ). PartsChange script before q host) (sym own.0) (subst (PartsChange script before k) own.1 change))
    (λ (other : (n ≢ k) × (tree.get before.world.hosts n ≡ Some host)). PartsStay host other.1 (λ up. up) (same_parts host.node))
    (get-insert_cases before.world.hosts k new n host (ap (λ (held : Hosts). tree.get held n) (sym is) ∙ there))

unchanged_parts : (script : List Statement) (before after : MomentWithPast) → after.world.hosts ≡ before.world.hosts
    → AllPartsChange script before after
unchanged_parts script before after same n host there =
    PartsStay host (ap (λ (held : Hosts). tree.get held n) (sym same) ∙ there) (λ up. up) (same_parts host.node)

module _ (script : List Statement) (range : RunsAreInRange script) (start : MomentWithPast) (began : Began script start.world) where
  -- how far a node has come in its step
  stepped : (stepping : SteppingNode) → IsStepping script start.world stepping → (so_far : StepState)
      → untouched_in so_far ≡ untouched_in (first_in_step stepping)
      → PartsChange script start stepping.n (host_with_node stepping.host so_far.node)
  stepped stepping is so_far same =
      PartsStep stepping.host stepping.cause began is.there is.up is.caused (parts_of (first_in_step stepping) so_far same)

  pub parts_change : {before after : MomentWithPast} → MomentChange script start before after → AllPartsChange script before after
  parts_change (moments.StepBegins stepping is by) =
      one_parts script start (moment_in_step script stepping start (first_in_step stepping)) stepping.n
      (host_with_node stepping.host (first_in_step stepping).node) refl (stepped stepping is (first_in_step stepping) refl)
  parts_change (moments.StepGoesOn stepping so_far next is by within) =
      let was = host_with_node stepping.host so_far.node in
      let now = host_with_node stepping.host next.node in
      one_parts script (moment_in_step script stepping start so_far) (moment_in_step script stepping start next) stepping.n now
      (sym (insert-insert start.world.hosts stepping.n was now))
      (PartsStay was (get-insert_same start.world.hosts stepping.n was) (λ up. up)
      (parts_of so_far next
      ((in_order_so_far next (changes.Then within.leads within.change)).same ∙ sym (in_order_so_far so_far within.leads).same)))
  parts_change (moments.StepIsMade stepping is by) =
      one_parts script start (moment_in_step script stepping start (last_in_step stepping)) stepping.n
      (host_with_node stepping.host (last_in_step stepping).node) refl
      (stepped stepping is (last_in_step stepping)
      (in_order_so_far (last_in_step stepping) (step_chain (input_of_cause stepping.cause) stepping.host.node)).same)
  parts_change {before} {after} (moments.LossIsUntold event made happened h) =
      unchanged_parts script before after (ap (λ (m : EventOutcome). m.world.hosts) (sym h.made_so))
  parts_change {before} {after} (moments.DeliveryIsUnread event made happened h) =
      unchanged_parts script before after (ap (λ (m : EventOutcome). m.world.hosts) (sym h.made_so))
  parts_change {before} {after} (moments.NodeIsLost event made happened h) =
      one_parts script before after h.n (lost_host h.host) (ap (λ (m : EventOutcome). m.world.hosts) (sym h.made_so))
      (PartsStay h.host h.there (λ up. absurd (cc (up))) (same_parts h.host.node))
  parts_change {before} {after} (moments.NodeLeaves event made happened h) =
      unchanged_parts script before after (ap (λ (m : EventOutcome). m.world.hosts) (sym h.made_so))
  parts_change {before} {after} (moments.NodeIsReweighted event made happened h) =
      unchanged_parts script before after (ap (λ (m : EventOutcome). m.world.hosts) (sym h.made_so))
  parts_change {before} {after} (moments.NodeJoins event made happened h) =
      one_parts script before after h.n (joined_host script h.n) (ap (λ (m : EventOutcome). m.world.hosts) (sym h.made_so))
      (PartsAreNew (next_fits script start.world (lines.Join h.n) h.control (together script range start.world began).fit).1
      (same_parts (nodes.initial_node (record { 0 = h.n }) (tries_of script))))
  parts_change {before} {after} (moments.NodeComesBack event made happened h) =
      let log : List Entry = log_after_return script h.n start.world in
      one_parts script before after h.n (host_after_return log h.host) (ap (λ (m : EventOutcome). m.world.hosts) (sym h.made_so))
      (PartsReturn h.host began h.there h.lost
      (record {
        me = ap (λ (u : Untouched). u.me) (step_in_order (inputs.Back log) h.host.node).same;
        peer = ap (λ (u : Untouched). u.peer) (step_in_order (inputs.Back log) h.host.node).same;
        epochs = ap (λ (u : Untouched). u.epochs) (step_in_order (inputs.Back log) h.host.node).same;
        recovery = ap (λ (u : Untouched). u.recovery) (step_in_order (inputs.Back log) h.host.node).same;
      }))
  parts_change {before} {after} (moments.PhaseEnds event made happened h) =
      unchanged_parts script before after (ap (λ (m : EventOutcome). m.world.hosts) (sym h.made_so))
