use Rattle.std.proofs.Common.{ap, sym, subst, ◌∙◌}
use Rattle.std.specs.Ordering.{nat_cmp}
use Rattle.std.specs.FinMap as tree
use Rattle.proof_tools.proofs.FiniteMaps.{get-from_entries}
use Rattle.proof_tools.proofs.SeenMaps.{remove-seen}
use Rattle.sheep_world.specs.World.{Host}
use Rattle.sheep_world.specs.HostSummaries.{AreSummariesOf}
use Rattle.sheep_world.proofs.HostSummaryLemmas.{summaries-remove}
use Rattle.sheep_world.proofs.hosts.Hosts.take.Goals as goal

pub invariant_of-self : goal.invariant_of-self
invariant_of-self c =
    subst (λ (hosts : tree.FinMap nat_cmp Host). AreSummariesOf hosts c.put.new.self)
    (sym (remove-seen c.self.inside.by_number.entries c.remove.new.self.entries c.args.node c.remove.ensures.updates.0))
    (summaries-remove (tree.from_entries c.self.inside.by_number.entries) c.self.inside.table c.put.new.self c.args.node c.none.result
    c.self.invariant c.put.ensures c.none.ensures)

pub returns-clause-value : goal.returns-clause-value
returns-clause-value c =
    c.remove.ensures.value ∙ sym (get-from_entries c.self.inside.by_number.entries c.args.node)
    ∙ ap (λ seen. tree.get seen c.args.node) c.self.view_is

pub returns-clause-others : goal.returns-clause-others
returns-clause-others c =
    remove-seen c.self.inside.by_number.entries c.remove.new.self.entries c.args.node c.remove.ensures.updates.0
    ∙ ap (λ seen. tree.remove seen c.args.node) c.self.view_is
