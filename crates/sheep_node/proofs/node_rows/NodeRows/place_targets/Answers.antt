use Rattle.std.proofs.Common.{ap, sym, ◌∙◌}
use Rattle.vnode_table.specs.Targets.{targets_in}
use Rattle.sheep_node.specs.RecoveryView.{PlacedPeer}
use Rattle.sheep_node.proofs.PlacedPeers.{no_targets}
use Rattle.sheep_node.proofs.node_rows.NodeRows.place_targets.Goals as goal

pub returns-else-has_entered-clause-filled : goal.returns-else-has_entered-clause-filled
returns-else-has_entered-clause-filled g c =
    sym (ap (λ (placed : PlacedPeer). targets_in placed.epochs c.args.level.0 c.args.oid c.args.policy) (sym c.self.view_is)
    ∙ no_targets c.self.inside.place c.args.level.0 c.args.oid c.args.policy (sym c.has_entered.ensures ∙ c.if-has_entered.false))
