use Rattle.std.proofs.Common.{ℕ, List, ap}
use Rattle.std.specs.Ordering.{nat_cmp}
use Rattle.std.specs.FinMap as tree
use Rattle.sheep_world.specs.World.{Host}
use Rattle.sheep_world.proofs.HostSummaryLemmas.{summaries-none}
use Rattle.sheep_world.proofs.hosts.Hosts.new.Goals as goal

pub invariant_of-result : goal.invariant_of-result
invariant_of-result c =
    summaries-none c.new-by_number.result.entries c.in_ok-table.table c.new-by_number.ensures.empty c.in_ok-table.ensures

pub returns : goal.returns
returns c = ap (λ (entries : List (ℕ × Host)). tree.from_entries {R = nat_cmp} entries) c.new-by_number.ensures.empty
