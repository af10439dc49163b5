use Rattle.std.proofs.Common.{replicate, ap, ◌∙◌}
use Rattle.sheep_world.proofs.HostSummaryLemmas.{none-up}
use Rattle.sheep_world.proofs.host_table.HostTable.new.Goals as goal

pub invariant_of-result : goal.invariant_of-result
invariant_of-result c =
    none-up c.none-empty.result c.in_ok-by_number.by_number.items c.new-up.result c.none-empty.ensures c.in_ok-by_number.ensures.items c.new-up.ensures

pub returns : goal.returns
returns c = c.in_ok-by_number.ensures.items ∙ ap (replicate 64) c.none-empty.ensures
