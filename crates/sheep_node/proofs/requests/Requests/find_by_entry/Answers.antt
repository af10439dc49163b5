use Rattle.std.proofs.Common.{rules, ◌≡◌, ℕ, List, ap, sym, ◌∙◌}
use Rattle.std.specs.declared.ops.Bound.TheVariants.{Included}
use Rattle.std.specs.List.{find}
use Rattle.std.specs.Option.{option_map}
use Rattle.std.specs.Ordering.{nat_cmp, is_gt}
use Rattle.std.specs.BTreeSet.{keys_between}
use Rattle.std.specs.FinMap as tree
use Rattle.sheep_node.specs.declared.course.Request.{Request}
use Rattle.sheep_node.specs.AwaitedNumbers.{waits_there, mark_cmp}
use Rattle.sheep_node.specs.KeptLog.{asker_among}
use Rattle.sheep_node.proofs.MarkedAskers.{is_forward, marks_of, found-marked}
use Rattle.sheep_node.proofs.requests.Requests.find_by_entry.Goals as goal

pub range-req-items-requires : goal.range-req-items-requires
range-req-items-requires c = (λ i. is_gt (mark_cmp (c.new.ensures.start i) (c.new.ensures.end i))) ∙ is_forward c.subject_number-number.result

pub loop-req-init : goal.loop-req-init
loop-req-init c =
    let requests : tree.FinMap nat_cmp Request = tree.from_entries c.self.inside.by_number.entries in
    let number : ℕ = c.subject_number-number.result in
    let between : c.range-req-items.result ≡ marks_of number c.self.inside.marks
    = c.range-req-items.ensures.between c.new.ensures.exhausted
    ∙ (λ i. keys_between mark_cmp (Included (c.new.ensures.start i)) (Included (c.new.ensures.end i)) c.self.inside.marks) in
    let rest : c.into_iter-req-iterator.result ≡ c.range-req-items.result = search rules in
    ap (λ (marks : List (ℕ × ℕ)).
    option_map (λ (mark : ℕ × ℕ). mark.1) (find (λ (mark : ℕ × ℕ). waits_there c.args.entry.now (tree.get c.args.self.now mark.1)) marks))
    (rest ∙ between)
    ∙ ap (λ (seen : tree.FinMap nat_cmp Request).
    option_map (λ (mark : ℕ × ℕ). mark.1)
    (find (λ (mark : ℕ × ℕ). waits_there c.args.entry.now (tree.get seen mark.1)) (marks_of number c.self.inside.marks))) (sym c.self.view_is)
    ∙ found-marked c.self.inside.marks requests c.args.entry.now number c.self.invariant c.subject_number-number.ensures
    c.range-req-items.ensures.ordered
    ∙ ap (λ (seen : tree.FinMap nat_cmp Request). asker_among c.args.entry.now seen) c.self.view_is
