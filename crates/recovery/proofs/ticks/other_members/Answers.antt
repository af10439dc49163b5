use Rattle.std.proofs.Common.{◌≤◌, ◌&&◌, not, List, length, filter, ap, sym, subst, ◌∙◌, rules}
use Rattle.std.proofs.lemmas.Fn.{filter_same}
use Rattle.object_id.specs.declared.node.NodeId.{NodeId}
use Rattle.object_list.specs.Gathered.{has_node, is_same_node}
use Rattle.recovery.proofs.TickLemmas.{kept_few}
use Rattle.recovery.proofs.ticks.other_members.Goals as goal

pub returns-clause-others : goal.returns-clause-others
returns-clause-others c =
    filter_same _ (λ (node : NodeId). has_node node c.args.members.now && not (is_same_node c.args.me node)) _ (λ x b f' k. search rules) _ _ c.retain.ensures.filtered
    ∙ ap (filter (λ (node : NodeId). has_node node c.args.members.now && not (is_same_node c.args.me node))) c.in_ok-others.ensures.items

pub returns-clause-few : goal.returns-clause-few
returns-clause-few c =
    subst (λ (xs : List NodeId). length xs ≤ length c.args.nodes.now)
    (sym (filter_same _ (λ (node : NodeId). has_node node c.args.members.now && not (is_same_node c.args.me node)) _ (λ x b f' k. search rules) _ _ c.retain.ensures.filtered
    ∙ ap (filter (λ (node : NodeId). has_node node c.args.members.now && not (is_same_node c.args.me node))) c.in_ok-others.ensures.items))
    (kept_few (λ (node : NodeId). has_node node c.args.members.now && not (is_same_node c.args.me node)) c.args.nodes.now)
