use Rattle.std.proofs.Common.{ap, ◌∙◌}
use Rattle.message_wire.specs.Senders.{wire_of}
use Rattle.message_wire.proofs.WholeWire.{wire-none}
use Rattle.message_wire.proofs.wire.Wire.new.Goals as goal

pub returns : goal.returns
returns c = ap wire_of c.new.ensures.items ∙ wire-none
