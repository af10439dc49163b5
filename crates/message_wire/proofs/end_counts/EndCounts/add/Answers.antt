use Rattle.std.proofs.Common.{get_or, ◌+◌, ap, ◌∙◌, arith}
use Rattle.message_wire.specs.NodeSet.{one_end}
use Rattle.message_wire.proofs.EndTable.{one-more, set-more}
use Rattle.message_wire.proofs.end_counts.EndCounts.add.Goals as goal

pub invariant_of-self : goal.invariant_of-self
invariant_of-self c =
    set-more c.self.inside.counts c.args.node.0 c.end_place.result _ c.end_place.ensures c.self.invariant.0
    c.self.inside.nodes c.self.invariant.1 c.insert.new.self (omega arith) c.insert.ensures.nodes

pub returns : goal.returns
returns c = λ place.
    one-more c.self.inside.counts c.args.node.0 c.end_place.result _ c.end_place.ensures c.self.invariant.0 (omega arith) place
    ∙ ap (λ counts. get_or counts place 0 + one_end c.args.node.0 place) c.self.view_is
