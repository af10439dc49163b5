use Rattle.std.proofs.Common.{◌≡◌, not, ap, ◌∙◌, rules}
use Rattle.std.proofs.lemmas.Fn.{filter_same}
use Rattle.object_list.specs.Union.{union}
use Rattle.object_list.specs.Gathered.{GatheredLists, is_same_node, nodes_without}
use Rattle.object_list.proofs.lists.Lists.with_answer.Goals as goal

pub returns : goal.returns
returns c =
    let waiting : c.retain.new.self.items ≡ nodes_without c.args.from c.args.self.now.waiting
    = filter_same _ (λ node. not (is_same_node c.args.from node)) _ (λ x b f' k. search rules) _ _ c.retain.ensures.filtered
    ∙ ap (nodes_without c.args.from) (c.in_ok-waiting.ensures.items ∙ c.as_slice-3.ensures.value)
    ∙ ap (λ (old : GatheredLists). nodes_without c.args.from old.waiting) c.self.view_is in
    let objects : c.in_ok-objects.objects ≡ union c.args.self.now.objects c.args.list.now
    = c.in_ok-objects.ensures
    ∙ ap (λ oids. union oids c.as_slice-2.result.now) (c.as_slice.ensures.value ∙ ap (λ (old : GatheredLists). old.objects) c.self.view_is)
    ∙ ap (union c.args.self.now.objects) c.as_slice-2.ensures.value in
    λ i. record { waiting = waiting i; objects = objects i }
