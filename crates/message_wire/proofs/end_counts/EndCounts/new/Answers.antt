use Rattle.std.proofs.Common.{nat_lt, refl, ap, sym, ◌∙◌}
use Rattle.message_wire.proofs.EndTable.{none-counted}
use Rattle.message_wire.proofs.end_counts.EndCounts.new.Goals as goal

pub invariant_of-result : goal.invariant_of-result
invariant_of-result c = (refl, λ node low. c.new.ensures node ∙ sym (ap (nat_lt 0) (none-counted node)))

pub returns : goal.returns
returns c = none-counted
