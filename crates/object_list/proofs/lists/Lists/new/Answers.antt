use Rattle.std.proofs.Common.{◌≡◌, not, ap, ◌∙◌, rules}
use Rattle.std.proofs.lemmas.Fn.{filter_same}
use Rattle.object_list.specs.Gathered.{is_same_node, nodes_without}
use Rattle.object_list.proofs.lists.Lists.new.Goals as goal

pub returns : goal.returns
returns c =
    let waiting : c.retain.new.self.items ≡ nodes_without c.args.me c.args.members.now
    = filter_same _ (λ node. not (is_same_node c.args.me node)) _ (λ x b f' k. search rules) _ _ c.retain.ensures.filtered
    ∙ ap (nodes_without c.args.me) c.in_ok-waiting.ensures.items in
    λ i. record { waiting = waiting i; objects = c.new.ensures i }
