-- Which steps leave what a recovery knows of in range.
use Rattle.std.proofs.Common.{◌≡◌, ℕ, List, [], ◌∷◌, None, refl, sym, ap, subst, ◌∙◌, ◌<◌, ◌≤◌, map, All}
use native.Mathlib.Omega.{arith}
use Rattle.std.specs.Ordering.{nat_cmp}
use Rattle.std.specs.FinMap as tree
use Rattle.std.proofs.lemmas.List.Elements.{All-nil}
use Rattle.std.proofs.Math.Nat.{min-le_left}
use Rattle.proof_tools.proofs.Booleans.{cond_either}
use Rattle.object_id.specs.Oid.{IsOid, kind_of}
use Rattle.object_id.specs.Policy.{wanted_of}
use Rattle.object_store.specs.Store.{SeenRow}
use Rattle.hash_ring.specs.Circle.{hash_of_object}
use Rattle.hash_ring.specs.Placement.{zone_count}
use Rattle.hash_ring.proofs.TargetLaws.{length-targets_of}
use Rattle.vnode_table.specs.Epochs.{members_at}
use Rattle.vdi_directory.specs.Effects.{header_of}
use Rattle.vdi_directory.specs.Decisions.{log_effects}
use Rattle.sheep_node.specs.State as nodes
use Rattle.std.proofs.lemmas.List.{nil_from_length}
use Rattle.object_id.specs.declared.entry.Entry.{Entry}
use Rattle.object_id.specs.declared.node.NodeId.{NodeId}
use Rattle.vnode_table.specs.Epochs.{EpochMembers}
use Rattle.vnode_table.specs.Targets.{targets_in}
use Rattle.peer_service.specs.State as peers
use Rattle.peer_service.specs.State.{Peer, is_dead_object, length_of_rows}
use Rattle.gateway.specs.State as gateways
use Rattle.recovery.specs.Frame.{Frame}
use Rattle.recovery.specs.Range.{IsInRange}
use Rattle.recovery.specs.State.{RecoveryState}
use Rattle.recovery.specs.Shown.{NodeView}
use Rattle.recovery.specs.State.{Recovery}
use Rattle.recovery.specs.Steps as recovery_steps
use Rattle.recovery.proofs.StepLemmas.{frame_of_end}
use Rattle.recovery.proofs.RangeLemmas.{ended_in_range}
use Rattle.sheep_node.specs.declared.input.Input.{Input}
use Rattle.sheep_node.specs.declared.input.Input.TheVariants as inputs
use Rattle.sheep_node.specs.State.{Node}
use Rattle.sheep_node.specs.RecoveryView.{recovery_state_of, with_state}
use Rattle.sheep_node.specs.StepState.{StepState, at_first}
use Rattle.sheep_node.specs.Step.{recovery_stepped, on_put, node_step}
use Rattle.sheep_node.specs.Changes.{input_received}
use Rattle.sheep_node.proofs.StepEffects.{Untouched, step_in_order}
use Rattle.sheep_node.specs.RecoveryRange.{RecoversInRange}

-- what a recovery sees of a node, by its peer and its epochs
abbrev shown_by : Peer → List EpochMembers → NodeView
shown_by peer epochs = record {
  epoch = peer.epoch;
  settled = peer.settled;
  rows = peer.rows;
  pending = peer.pending;
  policy_of = peers.object_policy peer;
  is_dead = is_dead_object peer;
  size_of = length_of_rows peer;
  targets = targets_in epochs;
}

-- a node with the same recovery, peer and epochs
kept_range : (old new : Node) → new.me ≡ old.me → new.recovery ≡ old.recovery → new.peer ≡ old.peer → new.epochs ≡ old.epochs
    → RecoversInRange old → RecoversInRange new
kept_range old new me_so recovery_so peer_so epochs_so range = record {
  own = ap (λ (recovery : Recovery). recovery.me) recovery_so ∙ range.own ∙ sym me_so;
  range = subst (λ (recovery : Recovery). IsInRange (record { recovery = recovery; shown = shown_by new.peer new.epochs })) (sym recovery_so)
      (subst (λ (peer : Peer). IsInRange (record { recovery = old.recovery; shown = shown_by peer new.epochs })) (sym peer_so)
      (subst (λ (epochs : List EpochMembers). IsInRange (record { recovery = old.recovery; shown = shown_by old.peer epochs })) (sym epochs_so) range.range));
}

-- a step leaves a recovery in range where its input by itself does: the changes of the step leave it alone
pub stepped_range : (input : Input) (node : Node) → RecoversInRange (input_received input (at_first node)).node → RecoversInRange (node_step input node).node
stepped_range input node range =
    let same = (step_in_order input node).same in
    kept_range (input_received input (at_first node)).node (node_step input node).node
    (ap (λ (u : Untouched). u.me) same) (ap (λ (u : Untouched). u.recovery) same)
    (ap (λ (u : Untouched). u.peer) same) (ap (λ (u : Untouched). u.epochs) same) range

-- Put
pub put_range : (node : Node) → RecoversInRange node → RecoversInRange (node_step inputs.Put node).node
put_range node range = stepped_range inputs.Put node (by_outbox node.outbox)
  where
    by_outbox : (outbox : List Entry) → RecoversInRange (on_put outbox (at_first node)).node
    by_outbox [] = range
    by_outbox (entry ∷ later) = record { own = range.own; range = range.range }

-- a step of a node's recovery, in the node's name and in range
pub recovered_in_range : (node : Node) (state : RecoveryState) → state.recovery.me ≡ node.recovery.me → IsInRange state → RecoversInRange node
    → RecoversInRange (with_state state node)
recovered_in_range node state me_so after range = record {
  own = me_so ∙ range.own;
  range = record {
    me = after.me;
    epoch = after.epoch;
    settled = range.range.settled;
    waiting = after.waiting;
    policies = range.range.policies;
    targets = range.range.targets;
    named = after.named;
    kept = after.kept;
    pending = after.pending;
    search = after.search;
  };
}

-- a loss
recovery_range : (node : Node) (number : ℕ) → RecoversInRange node
    → RecoversInRange (recovery_stepped (recovery_steps.message_end number None (recovery_state_of node)) (at_first node)).node
recovery_range node number range =
    recovered_in_range node (recovery_steps.message_end number None (recovery_state_of node))
    (ap (λ (f : Frame). f.me) (frame_of_end number None (recovery_state_of node)))
    (ended_in_range number None (recovery_state_of node) tt range.range) range

pub told_range : (node : Node) (number : ℕ) → RecoversInRange node → RecoversInRange (node_step (inputs.Lost number) node).node
unfolding recovery_steps.recovery_on_loss
told_range node number range = stepped_range
    (inputs.Lost number) node
    (cond_either (λ (so_far : StepState). RecoversInRange so_far.node) (gateways.gateway_awaits number node.gateway) (at_first node)
    (recovery_stepped (recovery_steps.message_end number None (recovery_state_of node)) (at_first node)) range (recovery_range node number range))

-- a node that has read nothing is in range
none_kept : All IsOid (tree.keys (tree.empty {X = List SeenRow} {R = nat_cmp}))
none_kept =
    subst (λ (es : List (ℕ × List SeenRow)). All IsOid (map (λ (e : ℕ × List SeenRow). e.0) es))
    (sym (nil_from_length (tree.entries {R = nat_cmp} (tree.empty {X = List SeenRow})) (sym (tree.len-entries tree.empty) ∙ tree.len-empty nat_cmp (List SeenRow))))
    (All-nil IsOid)

pub opening_range : (me : NodeId) (tries : ℕ) → me.0 < 64 → RecoversInRange (nodes.initial_node me tries)
unfolding log_effects header_of targets_in
opening_range me tries below = record {
  own = refl;
  range = record {
    me = below;
    epoch = (omega arith, omega arith);
    settled = omega arith;
    waiting = omega arith;
    policies = λ oid. tt;
    targets = λ level oid policy.
        subst (λ (n : ℕ). n ≤ wanted_of policy (kind_of oid))
        (sym (length-targets_of (members_at [] level) (hash_of_object oid) (wanted_of policy (kind_of oid))))
        (min-le_left (wanted_of policy (kind_of oid)) (zone_count (members_at [] level)));
    named = All-nil IsOid;
    kept = none_kept;
    pending = All-nil IsOid;
    search = tt;
  };
}
