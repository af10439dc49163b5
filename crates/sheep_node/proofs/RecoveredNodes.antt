-- What the code of a recovery's step leaves of a node is the node with what the recovery made of it.
use Rattle.std.proofs.Common.{◌≡◌, ℕ, List, Option, Some, None, Result, Ok, Err, OnOk, ap, ◌∙◌}
use Rattle.object_id.specs.declared.entry.Entry.{Entry}
use Rattle.vnode_table.specs.Epochs.{EpochMembers}
use Rattle.peer_proto.specs.declared.say.PeerRsp.{PeerRsp}
use Rattle.peer_proto.specs.declared.say.PeerSay.{PeerSay}
use Rattle.recovery.specs.Frame.{Frame}
use Rattle.recovery.specs.Kept.{recovery_state}
use Rattle.recovery.specs.State.{Recovery, RecoveryState}
use Rattle.recovery.specs.Steps.{message_end, recovery_on_reply, recovery_on_loss}
use Rattle.recovery.specs.Tick.{state_after_tick}
use Rattle.recovery.proofs.StepLemmas.{frame_of_tick, frame_of_end}
use Rattle.sheep_node.specs.State.{Node}
use Rattle.sheep_node.specs.RecoveryView.{PlacedPeer, shown_peer, recovery_state_of, with_state}

-- a node with a recovery, a peer and the epochs of that
abbrev pub with_recovery : Recovery → PlacedPeer → Node → Node
with_recovery recovery placed node = record node { recovery = recovery; peer = placed.peer; epochs = placed.epochs }

-- the entries and epochs that a recovery leaves as they are
abbrev pub rest_of : PlacedPeer → List Entry × List EpochMembers
rest_of placed = (placed.peer.entries, placed.epochs)

module _ (node : Node) (recovery : Recovery) (placed : PlacedPeer) where
  -- a recovery leaves the node in its epoch, with its settled one
  by_parts : (state : RecoveryState) → state.shown.epoch ≡ node.peer.epoch → state.shown.settled ≡ node.peer.settled
      → recovery_state recovery (shown_peer placed) ≡ state → rest_of placed ≡ (node.peer.entries, node.epochs)
      → with_recovery recovery placed node ≡ with_state state node
  by_parts state epoch_so settled_so is rest =
      let epoch = ap (λ (state : RecoveryState). state.shown.epoch) is ∙ epoch_so in
      let settled = ap (λ (state : RecoveryState). state.shown.settled) is ∙ settled_so in
      λ i. record node {
        recovery = (is i).recovery;
        peer = record {
          epoch = epoch i;
          settled = settled i;
          rows = (is i).shown.rows;
          pending = (is i).shown.pending;
          entries = (rest i).0;
        };
        epochs = (rest i).1;
      }

  module _ {A E : Type 0} (result : Result A E) (rest : rest_of placed ≡ (node.peer.entries, node.epochs)) where
    on_ok : (state : RecoveryState) → state.shown.epoch ≡ node.peer.epoch → state.shown.settled ≡ node.peer.settled
        → OnOk result (recovery_state recovery (shown_peer placed) ≡ state) → OnOk result (with_recovery recovery placed node ≡ with_state state node)
    on_ok state epoch_so settled_so is = by_result result is
      where
        by_result : (result : Result A E) → OnOk result (recovery_state recovery (shown_peer placed) ≡ state)
            → OnOk result (with_recovery recovery placed node ≡ with_state state node)
        by_result (Ok value) is = by_parts state epoch_so settled_so is rest
        by_result (Err error) is = tt

    by_end : (number : ℕ) (said : Option PeerSay)
        → OnOk result (recovery_state recovery (shown_peer placed) ≡ message_end number said (recovery_state_of node))
        → OnOk result (with_recovery recovery placed node ≡ with_state (message_end number said (recovery_state_of node)) node)
    by_end number said is =
        let same = frame_of_end number said (recovery_state_of node) in
        on_ok (message_end number said (recovery_state_of node)) (ap (λ (f : Frame). f.epoch) same) (ap (λ (f : Frame). f.settled) same) is

    pub recovered_by_reply : (rsp : PeerRsp) → OnOk result (recovery_state recovery (shown_peer placed) ≡ recovery_on_reply rsp (recovery_state_of node))
        → OnOk result (with_recovery recovery placed node ≡ with_state (recovery_on_reply rsp (recovery_state_of node)) node)
    unfolding recovery_on_reply
    recovered_by_reply rsp is = by_end rsp.number (Some rsp.say) is

    pub recovered_by_loss : (number : ℕ) → OnOk result (recovery_state recovery (shown_peer placed) ≡ recovery_on_loss number (recovery_state_of node))
        → OnOk result (with_recovery recovery placed node ≡ with_state (recovery_on_loss number (recovery_state_of node)) node)
    unfolding recovery_on_loss
    recovered_by_loss number is = by_end number None is

    pub recovered_by_tick : (first : ℕ) → OnOk result (recovery_state recovery (shown_peer placed) ≡ state_after_tick first (recovery_state_of node))
        → OnOk result (with_recovery recovery placed node ≡ with_state (state_after_tick first (recovery_state_of node)) node)
    recovered_by_tick first is =
        let same = frame_of_tick first (recovery_state_of node) in
        on_ok (state_after_tick first (recovery_state_of node)) (ap (λ (f : Frame). f.epoch) same) (ap (λ (f : Frame). f.settled) same) is
