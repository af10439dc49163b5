use Rattle.std.proofs.Common.{ap, ◌∙◌}
use Rattle.std.specs.Ordering.{nat_cmp}
use Rattle.std.specs.FinMap as tree
use Rattle.message_wire.specs.declared.packet.Packet.{Packet}
use Rattle.message_wire.proofs.SenderEdits.{none-seen}
use Rattle.message_wire.proofs.sender_messages.SenderMessages.new.Goals as goal

pub returns : goal.returns
returns c = ap (tree.from_sorted {X = Packet} {R = nat_cmp}) c.new.ensures.items ∙ none-seen nat_cmp
