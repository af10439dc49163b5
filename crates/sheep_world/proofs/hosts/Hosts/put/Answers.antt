use Rattle.std.proofs.Common.{ℕ, List, ap, sym, subst, ◌∙◌}
use Rattle.std.specs.Ordering.{nat_cmp}
use Rattle.std.specs.FinMap as tree
use Rattle.proof_tools.proofs.SeenMaps.{insert-seen}
use Rattle.sheep_world.specs.World.{Host}
use Rattle.sheep_world.specs.HostSummaries.{AreSummariesOf}
use Rattle.sheep_world.proofs.HostSummaryLemmas.{summaries-insert}
use Rattle.sheep_world.proofs.hosts.Hosts.put.Goals as goal

pub invariant_of-self : goal.invariant_of-self
invariant_of-self c =
    subst (λ (entries : List (ℕ × Host)). AreSummariesOf (tree.from_entries entries) c.self.inside.table) (sym c.in_err-insert.ensures.err) c.self.invariant

pub invariant_of-self-2 : goal.invariant_of-self-2
invariant_of-self-2 c =
    subst (λ (hosts : tree.FinMap nat_cmp Host). AreSummariesOf hosts c.put.new.self)
    (sym (insert-seen c.self.inside.by_number.entries c.insert.new.self.entries c.args.node c.args.host c.in_ok-insert.ensures.updates.0))
    (summaries-insert (tree.from_entries c.self.inside.by_number.entries) c.self.inside.table c.put.new.self c.args.node c.summary-summary.result
    c.self.invariant c.put.ensures c.args.host c.summary-summary.ensures)

pub returns : goal.returns
returns c =
    insert-seen c.self.inside.by_number.entries c.insert.new.self.entries c.args.node c.args.host c.in_ok-insert.ensures.updates.0
    ∙ ap (λ seen. tree.insert seen c.args.node c.args.host) c.self.view_is
