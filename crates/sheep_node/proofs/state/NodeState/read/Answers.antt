use Rattle.std.proofs.Common.{ap, sym, subst, ◌∙◌}
use Rattle.epoch_log.specs.Appending.{IsLog}
use Rattle.sheep_node.specs.State.{Node}
use Rattle.sheep_node.specs.KeptLog.{with_epoch_of_entry, with_entries_settled, HasReadEntry}
use Rattle.sheep_node.proofs.EntryParts.{entry_was_read, log_with_epoch, read_by_parts}
use Rattle.sheep_node.proofs.state.NodeState.read.Goals as goal

pub enter_epoch_of-requires : goal.enter_epoch_of-requires
enter_epoch_of-requires c =
    subst (HasReadEntry c.args.entry.now) (sym c.in_ok-decision.ensures.node)
    (entry_was_read c.args.entry.now c.args.self.now c.requires.log c.requires.by_the_log c.requires.may c.requires.own)

pub settle-requires : goal.settle-requires
settle-requires c =
    subst (λ (node : Node). IsLog node.peer.entries)
    (sym (c.in_ok-enter_epoch_of.ensures ∙ ap (with_epoch_of_entry c.args.entry.now) c.in_ok-decision.ensures.node))
    (log_with_epoch c.args.entry.now _
    (entry_was_read c.args.entry.now c.args.self.now c.requires.log c.requires.by_the_log c.requires.may c.requires.own))

pub returns-clause-node : goal.returns-clause-node
returns-clause-node c =
    c.settle.ensures
    ∙ ap with_entries_settled (c.in_ok-enter_epoch_of.ensures ∙ ap (with_epoch_of_entry c.args.entry.now) c.in_ok-decision.ensures.node)
    ∙ read_by_parts c.args.entry.now c.args.self.now c.requires.may
