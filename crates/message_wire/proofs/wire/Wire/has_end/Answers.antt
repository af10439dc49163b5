use Rattle.std.proofs.Common.{ℕ, ap, sym, ◌∙◌}
use Rattle.std.specs.List.{list_any}
use Rattle.std.specs.FinMap as tree
use Rattle.message_wire.specs.declared.name.MessageName.{MessageName}
use Rattle.message_wire.specs.declared.packet.Packet.{Packet}
use Rattle.message_wire.specs.Message.{has_end, message_name}
use Rattle.message_wire.specs.Senders.{Messages}
use Rattle.message_wire.proofs.WireReading.{any-wire}
use Rattle.message_wire.proofs.wire.Wire.has_end.Goals as goal

pub returns : goal.returns
returns c =
    let node = c.args.node.0 in
    c.has_end.ensures
    ∙ ap (list_any (λ (own : ℕ × Messages). list_any (λ (message : ℕ × Packet). has_end node (message_name own.0 message.0) message.1) (tree.entries own.1)))
    c.as_slice.ensures.value
    ∙ sym (any-wire (λ (found : MessageName × Packet). has_end node found.0 found.1) c.self.inside.by_sender.items c.self.invariant.0)
    ∙ ap (λ wire. list_any (λ (found : MessageName × Packet). has_end node found.0 found.1) (tree.entries wire)) c.self.view_is
