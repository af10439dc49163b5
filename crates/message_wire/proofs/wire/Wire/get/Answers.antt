use Rattle.std.proofs.Common.{ap, sym, ◌∙◌}
use Rattle.std.specs.FinMap as tree
use Rattle.message_wire.specs.Senders.{messages_from}
use Rattle.message_wire.proofs.WireChanges.{get-named}
use Rattle.message_wire.proofs.wire.Wire.get.Goals as goal

pub returns : goal.returns
returns c =
    c.message_of.ensures ∙ ap (λ senders. tree.get (messages_from senders c.args.name.sender.0) c.args.name.number) c.as_slice.ensures.value
    ∙ sym (get-named c.args.name c.self.inside.by_sender.items c.self.invariant.0)
    ∙ ap (λ wire. tree.get wire c.args.name) c.self.view_is
