use Rattle.std.proofs.Common.{◌≡◌, ℕ, false, cond, List, Option, Some, ap, sym, subst, ◌∙◌}
use Rattle.std.specs.Ordering.{nat_cmp}
use Rattle.std.specs.BTreeSet.{contains}
use Rattle.std.specs.FinMap as tree
use Rattle.proof_tools.proofs.FiniteMaps.{get-from_entries}
use Rattle.proof_tools.proofs.SeenMaps.{remove-seen}
use Rattle.sheep_node.specs.declared.course.Request.{Request}
use Rattle.sheep_node.specs.AwaitedNumbers.{AreRequestMarks, mark_cmp, is_mark}
use Rattle.sheep_node.proofs.RequestMarks.{AreRequestMarks-remove}
use Rattle.sheep_node.proofs.requests.Requests.remove.Goals as goal

pub returns-in_default-clause-value : goal.returns-in_default-clause-value
returns-in_default-clause-value c =
    sym c.in_default.is ∙ c.remove.ensures.value ∙ sym (get-from_entries c.self.inside.by_number.entries c.args.req)
    ∙ ap (λ seen. tree.get seen c.args.req) c.self.view_is

pub returns-in_default-clause-gone : goal.returns-in_default-clause-gone
returns-in_default-clause-gone c =
    remove-seen c.self.inside.by_number.entries c.remove.new.self.entries c.args.req c.remove.ensures.updates.0
    ∙ ap (λ seen. tree.remove seen c.args.req) c.self.view_is

pub invariant_of-self-2 : goal.invariant_of-self-2
invariant_of-self-2 c =
    let entries : List (ℕ × Request) = c.self.inside.by_number.entries in
    let at : tree.get (tree.from_entries {R = nat_cmp} entries) c.args.req ≡ Some c.in-Some.request
    = get-from_entries entries c.args.req ∙ sym c.remove.ensures.value ∙ c.in-Some.is in
    subst (λ (requests : tree.FinMap nat_cmp Request). AreRequestMarks c.unmark.new.marks requests)
    (sym (remove-seen entries c.remove.new.self.entries c.args.req c.remove.ensures.updates.0))
    (AreRequestMarks-remove c.self.inside.marks c.unmark.new.marks (tree.from_entries entries) c.args.req c.in-Some.request c.self.invariant at
    (λ n by. c.unmark.ensures n by
    ∙ ap (λ (awaited : Option ℕ). cond (is_mark awaited c.args.req n by) false (contains mark_cmp c.self.inside.marks (n, by))) c.awaited_number.ensures))

pub returns-clause-value : goal.returns-clause-value
returns-clause-value c =
    sym c.in-Some.is ∙ c.remove.ensures.value ∙ sym (get-from_entries c.self.inside.by_number.entries c.args.req)
    ∙ ap (λ seen. tree.get seen c.args.req) c.self.view_is

pub returns-clause-gone : goal.returns-clause-gone
returns-clause-gone c =
    remove-seen c.self.inside.by_number.entries c.remove.new.self.entries c.args.req c.remove.ensures.updates.0
    ∙ ap (λ seen. tree.remove seen c.args.req) c.self.view_is
