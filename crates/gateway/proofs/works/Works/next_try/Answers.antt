use Rattle.std.proofs.Common.{rules, ◌≡◌, ℕ, List, ap, sym, ◌∙◌}
use Rattle.std.specs.List.{find}
use Rattle.std.specs.Ordering.{nat_cmp}
use Rattle.std.specs.FinMap as tree
use Rattle.proof_tools.proofs.FiniteMaps.{is_sorted-from_keys, entries-from_entries}
use Rattle.gateway.specs.State.{Work, may_try}
use Rattle.gateway.proofs.works.Works.next_try.Goals as goal

pub loop-req-init : goal.loop-req-init
loop-req-init c =
    let es : List (ℕ × Work) = c.self.inside.by_request.entries in
    let rest : c.into_iter-req-iterator.result ≡ es = search rules in
    ap (find (λ (entry : ℕ × Work). may_try c.args.epoch entry.1.stage))
    (rest ∙ sym (entries-from_entries es (is_sorted-from_keys es c.iter-req-items.ensures.ordered)))
    ∙ ap (λ (m : tree.FinMap nat_cmp Work). find (λ (entry : ℕ × Work). may_try c.args.epoch entry.1.stage) (tree.entries m)) c.self.view_is
