use Rattle.std.proofs.Common.{ap, sym, subst, ◌∙◌, List}
use Rattle.object_id.specs.declared.node.NodeId.{NodeId}
use Rattle.recovery.specs.State.{MayBegin}
use Rattle.sheep_node.specs.RecoveryView.{recovery_state_of}
use Rattle.sheep_node.specs.KeptLog.{in_recovery_with}
use Rattle.sheep_node.proofs.NewestEpochs.{newest_may_begin}
use Rattle.sheep_node.proofs.state.NodeState.begin_recovery.Goals as goal

pub recover_with-requires : goal.recover_with-requires
recover_with-requires c =
    subst (λ (nodes : List NodeId). MayBegin c.args.self.now.peer.epoch nodes (recovery_state_of c.args.self.now))
    (sym (c.as_slice.ensures.value ∙ c.in_ok-nodes.ensures))
    (newest_may_begin c.args.self.now c.requires.newest c.requires.member)

pub returns : goal.returns
returns c =
    c.in_ok-recover_with.ensures
    ∙ ap (λ (nodes : List NodeId). in_recovery_with nodes c.args.self.now) (c.as_slice.ensures.value ∙ c.in_ok-nodes.ensures)
