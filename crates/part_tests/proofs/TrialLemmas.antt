-- The recovery of a trial: after each step it is still that of node 2, and may step.
use Rattle.std.proofs.Common.{◌≡◌, ℕ, true, Some, None, List, ap, ◌∙◌}
use Rattle.proof_tools.proofs.Booleans.{cond_either}
use Rattle.object_id.specs.declared.node.NodeId.{NodeId}
use Rattle.peer_proto.specs.declared.say.PeerRsp.{PeerRsp}
use Rattle.recovery.specs.Shown.{shown_with_pending}
use Rattle.recovery.specs.State.{RecoveryState, is_listed, MayBegin, MayTick}
use Rattle.recovery.specs.Tick.{state_after_tick}
use Rattle.recovery.specs.Fits.{fits_recovery}
use Rattle.recovery.specs.Steps.{recovery_on_reply, recovery_on_loss, recovery_from_epoch, to_recover, at_start}
use Rattle.recovery.specs.Frame.{Frame}
use Rattle.recovery.specs.Step.{MayStep}
use Rattle.recovery.proofs.StepLemmas.{frame_of_tick, frame_of_end}
use Rattle.recovery.proofs.MayLemmas.{may_after_tick, may_after_reply, may_after_loss, may_after_begin}

abbrev pub IsOfNode2 : RecoveryState → Type 0
IsOfNode2 state = (state.recovery.me ≡ record { 0 = 2 }) × MayStep state

pub node-after_tick : (first : ℕ) (state : RecoveryState) → MayTick first state → IsOfNode2 state → IsOfNode2 (state_after_tick first state)
node-after_tick first state may is =
    (ap (λ (frame : Frame). frame.me) (frame_of_tick first state) ∙ is.0, may_after_tick first state may is.1)

pub node-after_reply : (rsp : PeerRsp) (state : RecoveryState) → fits_recovery rsp state ≡ true → IsOfNode2 state
    → IsOfNode2 (recovery_on_reply rsp state)
unfolding recovery_on_reply
node-after_reply rsp state fits is =
    (ap (λ (frame : Frame). frame.me) (frame_of_end rsp.number (Some rsp.say) state) ∙ is.0, may_after_reply rsp state fits is.1)

pub node-after_loss : (number : ℕ) (state : RecoveryState) → IsOfNode2 state → IsOfNode2 (recovery_on_loss number state)
unfolding recovery_on_loss
node-after_loss number state is =
    (ap (λ (frame : Frame). frame.me) (frame_of_end number None state) ∙ is.0, may_after_loss number state is.1)

pub node-after_begin : (epoch : ℕ) (members : List NodeId) (state : RecoveryState) → MayBegin epoch members state → IsOfNode2 state
    → IsOfNode2 (recovery_from_epoch epoch members state)
unfolding recovery_from_epoch
node-after_begin epoch members state may is =
    let begun : RecoveryState = at_start epoch members state in (
      cond_either (λ (state : RecoveryState). state.recovery.me ≡ record { 0 = 2 }) (is_listed begun.recovery)
          (record begun { shown = shown_with_pending (to_recover begun) begun.shown }) begun is.0 is.0,
      may_after_begin epoch members state may is.1,
    )
