use Rattle.std.proofs.Common.{length, ap, sym, ◌∙◌}
use Rattle.std.specs.FinMap as tree
use Rattle.std.proofs.lemmas.List.{length-map}
use Rattle.message_wire.specs.Message.{messages_by_sender}
use Rattle.message_wire.specs.Senders.{named_entries}
use Rattle.message_wire.proofs.WireReading.{parts-wire}
use Rattle.message_wire.proofs.wire.Wire.sender_count.Goals as goal

pub returns : goal.returns
returns c =
    let senders = c.self.inside.by_sender.items in
    c.len.ensures ∙ c.self.inside.by_sender.ok.0 ∙ sym (ap length (parts-wire senders c.self.invariant) ∙ length-map senders named_entries)
    ∙ ap (λ wire. length (messages_by_sender (tree.entries wire))) c.self.view_is
