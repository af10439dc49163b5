use Rattle.std.proofs.Common.{[], slice_get, unwrap_or, ap, sym, ◌∙◌}
use Rattle.std.specs.List.{list_all}
use Rattle.std.specs.Option.{option_copied}
use Rattle.std.specs.FinMap as tree
use Rattle.message_wire.specs.declared.name.MessageName.{MessageName}
use Rattle.message_wire.specs.declared.packet.Packet.{Packet}
use Rattle.message_wire.specs.Message.{asked_node, messages_by_sender}
use Rattle.message_wire.specs.NodeSet.{contains_node}
use Rattle.message_wire.proofs.WireReading.{all-some, all-none}
use Rattle.message_wire.proofs.wire.Wire.are_ends_within.Goals as goal

pub returns-in-Some : goal.returns-in-Some
returns-in-Some c =
    let test = λ (found : MessageName × Packet). contains_node (asked_node found.1).0 c.args.nodes in
    c.are_ends_within.ensures
    ∙ sym (all-some test c.args.sender c.self.inside.by_sender.items c.self.invariant c.in-Some.own.now
    (ap (λ senders. slice_get senders c.args.sender) (sym c.as_slice.ensures.value) ∙ sym c.entry_at.ensures ∙ ap option_copied c.in-Some.is))
    ∙ ap (λ wire. list_all test (unwrap_or (slice_get (messages_by_sender (tree.entries wire)) c.args.sender) [])) c.self.view_is

pub returns-in-None : goal.returns-in-None
returns-in-None c =
    let test = λ (found : MessageName × Packet). contains_node (asked_node found.1).0 c.args.nodes in
    sym (all-none test c.args.sender c.self.inside.by_sender.items c.self.invariant
    (ap (λ senders. slice_get senders c.args.sender) (sym c.as_slice.ensures.value) ∙ sym c.entry_at.ensures ∙ ap option_copied c.in-None.is))
    ∙ ap (λ wire. list_all test (unwrap_or (slice_get (messages_by_sender (tree.entries wire)) c.args.sender) [])) c.self.view_is
