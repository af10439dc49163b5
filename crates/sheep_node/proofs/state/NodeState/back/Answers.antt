use Rattle.std.proofs.Common.{ap, sym, subst, ◌∙◌}
use Rattle.std.specs.Prelude.{IsTrue}
use Rattle.sheep_node.specs.State.{Node}
use Rattle.sheep_node.specs.LogReading.{is_epoch_member}
use Rattle.sheep_node.specs.KeptLog.{in_recovery, IsInNewestEpoch}
use Rattle.sheep_node.proofs.EntryParts.{log_back, back_in_newest, back_is_member, back_by_parts}
use Rattle.sheep_node.proofs.state.NodeState.back.Goals as goal

pub come_back_with-requires : goal.come_back_with-requires
come_back_with-requires c = log_back c.args.entries.now c.args.self.now c.requires.log c.requires.may

pub begin_recovery-requires-clause-newest : goal.begin_recovery-requires-clause-newest
begin_recovery-requires-clause-newest c =
    subst IsInNewestEpoch (sym c.in_ok-come_back_with.ensures) (back_in_newest c.args.entries.now c.args.self.now c.requires.log c.requires.may)

pub begin_recovery-requires-clause-member : goal.begin_recovery-requires-clause-member
begin_recovery-requires-clause-member c =
    subst (λ (node : Node). IsTrue (is_epoch_member node)) (sym c.in_ok-come_back_with.ensures)
    (back_is_member c.args.entries.now c.args.self.now c.requires.may)

pub returns : goal.returns
returns c =
    c.in_ok-begin_recovery.ensures ∙ ap in_recovery c.in_ok-come_back_with.ensures ∙ back_by_parts c.args.entries.now c.args.self.now
