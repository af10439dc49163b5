use Rattle.message_wire.proofs.EndTable.{within-then, within-else}
use Rattle.message_wire.proofs.end_counts.EndCounts.are_within.Goals as goal

pub returns-then-is_subset_of : goal.returns-then-is_subset_of
returns-then-is_subset_of c =
    within-then c.self.inside.counts c.args.self.now c.self.inside.nodes c.args.nodes c.self.view_is c.self.invariant
    c.is_subset_of.result c.is_subset_of.ensures c.if-is_subset_of.true

pub returns-else-is_subset_of : goal.returns-else-is_subset_of
returns-else-is_subset_of c =
    within-else c.self.inside.counts c.args.self.now c.self.inside.nodes c.args.nodes c.self.view_is c.self.invariant
    c.is_subset_of.result c.is_subset_of.ensures c.if-is_subset_of.false
