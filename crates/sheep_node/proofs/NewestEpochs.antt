-- A node enters the newest epoch of the log that it has read, and its recovery begins.
use Rattle.std.proofs.Common.{◌≡◌, ℕ, ◌+◌, ◌≤◌, ◌==◌, ◌||◌, false, cond, List, ◌∷◌, ap, sym, subst, ◌∙◌, arith}
use Rattle.std.specs.Prelude.{IsTrue}
use Rattle.std.proofs.lemmas.Bool.{eq-eqb}
use Rattle.object_id.specs.declared.node.NodeId.{NodeId}
use Rattle.object_id.specs.declared.entry.Entry.{Entry}
use Rattle.epoch_log.specs.Members.{AreMembers, is_member}
use Rattle.epoch_log.specs.Epochs.{epoch_of, members_in}
use Rattle.epoch_log.proofs.MembersLemmas.{IsLog-members}
use Rattle.vnode_table.specs.Epochs.{EpochMembers, is_entered, members_at}
use Rattle.peer_service.specs.Epochs.{peer_in_next_epoch}
use Rattle.recovery.specs.State.{Recovery, RecoveryState}
use Rattle.recovery.specs.Steps.{recovery_from_epoch}
use Rattle.recovery.specs.Kept.{recovery_state}
use Rattle.sheep_node.specs.State.{Node}
use Rattle.sheep_node.specs.RecoveryRange.{RecoveryMayBegin}
use Rattle.sheep_node.specs.RecoveryView.{PlacedPeer, shown_peer, placed_peer_of, recovery_state_of}
use Rattle.sheep_node.specs.LogReading.{epoch_members, is_epoch_member, entered_in}
use Rattle.sheep_node.proofs.BegunRecoveries.{may_begin, begun_shows}
use Rattle.sheep_node.specs.KeptLog.{with_placed, with_newest_entered, in_newest_epoch, in_recovery_with, IsBeforeNewEpoch, IsInNewestEpoch}

-- ---- the newest epoch is entered

pub newest_is_entered : (placed : PlacedPeer) → IsBeforeNewEpoch placed
    → IsTrue (is_entered (with_newest_entered placed).epochs (placed.peer.epoch + 1))
newest_is_entered placed before =
    ap (λ b. b || is_entered placed.epochs (placed.peer.epoch + 1)) (eq-eqb (epoch_of placed.peer.entries) (placed.peer.epoch + 1) before.next)

entered_members : (entries : List Entry) (epoch : ℕ) (epochs : List EpochMembers) → epoch_of entries ≡ epoch
    → members_at (entered_in entries (epoch_of entries) ∷ epochs) epoch ≡ members_in entries epoch
entered_members entries epoch epochs newest =
    ap (λ b. cond b (members_in entries (epoch_of entries)) (members_at epochs epoch)) (eq-eqb (epoch_of entries) epoch newest)
    ∙ ap (members_in entries) newest

pub goes_to_newest : (node : Node) → IsBeforeNewEpoch (placed_peer_of node) → node.recovery.me ≡ node.me
    → IsInNewestEpoch (with_placed (in_newest_epoch node.me (placed_peer_of node)) node)
unfolding peer_in_next_epoch
goes_to_newest node before own =
    let begun : 1 ≤ node.peer.epoch = before.begun in
    record {
      log = before.entering.log;
      newest = sym before.next;
      above_1 = omega arith;
      members = entered_members node.peer.entries (node.peer.epoch + 1) node.epochs before.next;
      own = own;
    }

-- ---- its recovery begins

-- whether a node is a member of the newest epoch, and the nodes of that epoch
pub member_of_newest : (node : Node) → IsInNewestEpoch node
    → is_member node.me.0 (members_in node.peer.entries (epoch_of node.peer.entries)) ≡ is_epoch_member node
member_of_newest node in_newest =
    ap (λ (epoch : ℕ). is_member node.me.0 (members_in node.peer.entries epoch)) (sym in_newest.newest)
    ∙ ap (is_member node.me.0) (sym in_newest.members)

pub nodes_of_newest : (node : Node) → IsInNewestEpoch node → members_in node.peer.entries (epoch_of node.peer.entries) ≡ epoch_members node
nodes_of_newest node in_newest = ap (members_in node.peer.entries) (sym in_newest.newest) ∙ sym in_newest.members

pub newest_may_begin : (node : Node) → IsInNewestEpoch node → IsTrue (is_epoch_member node) → RecoveryMayBegin node
newest_may_begin node in_newest member =
    let is : node.peer.epoch ≡ epoch_of node.peer.entries = in_newest.newest in
    may_begin node in_newest.own in_newest.above_1
    (subst AreMembers (sym in_newest.members) (IsLog-members node.peer.entries node.peer.epoch in_newest.log (omega arith)).0) member

-- a recovery has begun over a node's rows, and they go back to the node
pub begun_in_node : (nodes : List NodeId) (node : Node) (recovery : Recovery) (placed : PlacedPeer)
    → recovery_state recovery (shown_peer placed) ≡ recovery_from_epoch node.peer.epoch nodes (recovery_state_of node)
    → placed.peer.entries ≡ node.peer.entries → placed.epochs ≡ node.epochs
    → record (with_placed placed node) { recovery = recovery; recovered = false } ≡ in_recovery_with nodes node
begun_in_node nodes node recovery placed begun entries epochs =
    let kept = begun_shows node.peer.epoch nodes (recovery_state_of node) in
    let epoch : placed.peer.epoch ≡ node.peer.epoch = ap (λ (state : RecoveryState). state.shown.epoch) begun ∙ kept.epoch in
    let settled : placed.peer.settled ≡ node.peer.settled = ap (λ (state : RecoveryState). state.shown.settled) begun ∙ kept.settled in
    λ i. record node {
      peer = record {
        epoch = epoch i;
        settled = settled i;
        rows = (begun i).shown.rows;
        pending = (begun i).shown.pending;
        entries = entries i;
      };
      epochs = epochs i;
      recovery = (begun i).recovery;
      recovered = false;
    }
