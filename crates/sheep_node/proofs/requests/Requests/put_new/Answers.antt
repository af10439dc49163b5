use Rattle.std.proofs.Common.{◌≡◌, ℕ, true, cond, List, Option, None, ap, sym, subst, ◌∙◌}
use Rattle.std.specs.Ordering.{nat_cmp}
use Rattle.std.specs.BTreeSet.{contains}
use Rattle.std.specs.FinMap as tree
use Rattle.proof_tools.proofs.SeenMaps.{insert-seen}
use Rattle.sheep_node.specs.declared.course.Request.{Request}
use Rattle.sheep_node.specs.AwaitedNumbers.{AreRequestMarks, mark_cmp, is_mark}
use Rattle.sheep_node.proofs.RequestMarks.{AreRequestMarks-put}
use Rattle.sheep_node.proofs.requests.Requests.put_new.Goals as goal

pub invariant_of-self-in-Ok : goal.invariant_of-self-in-Ok
invariant_of-self-in-Ok c =
    let entries : List (ℕ × Request) = c.self.inside.by_number.entries in
    let none : tree.get (tree.from_entries {R = nat_cmp} entries) c.args.req ≡ None
    = ap (λ (requests : tree.FinMap nat_cmp Request). tree.get requests c.args.req) c.self.view_is ∙ c.requires in
    subst (λ (requests : tree.FinMap nat_cmp Request). AreRequestMarks c.mark.new.marks requests)
    (sym (insert-seen entries c.insert.new.self.entries c.args.req c.args.request c.in-Ok.ensures.updates.0))
    (AreRequestMarks-put c.self.inside.marks c.mark.new.marks (tree.from_entries entries) c.args.req c.args.request c.self.invariant none c.ranges.req.fits
    (λ n by. c.in_ok-mark.ensures.ok n by
    ∙ ap (λ (awaited : Option ℕ). cond (is_mark awaited c.args.req n by) true (contains mark_cmp c.self.inside.marks (n, by))) c.awaited_number-awaited.ensures))

pub returns-in-Ok : goal.returns-in-Ok
returns-in-Ok c =
    insert-seen c.self.inside.by_number.entries c.insert.new.self.entries c.args.req c.args.request c.in-Ok.ensures.updates.0
    ∙ ap (λ (seen : tree.FinMap nat_cmp Request). tree.insert seen c.args.req c.args.request) c.self.view_is
