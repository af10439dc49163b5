use Rattle.std.proofs.Common.{sym, subst}
use Rattle.sheep_node.specs.KeptLog.{IsInNewestEpoch}
use Rattle.sheep_node.proofs.NewestEpochs.{goes_to_newest}
use Rattle.sheep_node.proofs.state.NodeState.enter_and_recover.Goals as goal

pub begin_recovery_if_member-requires : goal.begin_recovery_if_member-requires
begin_recovery_if_member-requires c =
    subst IsInNewestEpoch (sym c.in_ok-go_to_newest.ensures) (goes_to_newest c.args.self.now c.requires.before c.requires.own)
