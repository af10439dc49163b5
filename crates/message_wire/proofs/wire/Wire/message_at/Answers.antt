use Rattle.std.proofs.Common.{List, Some, slice_get, ap, sym, ◌∙◌}
use Rattle.std.specs.Option.{option_copied, option_map, option_and_then}
use Rattle.std.specs.FinMap as tree
use Rattle.message_wire.specs.declared.name.MessageName.{MessageName}
use Rattle.message_wire.specs.declared.packet.Packet.{Packet}
use Rattle.message_wire.specs.Message.{messages_by_sender}
use Rattle.message_wire.proofs.WholeWire.{named}
use Rattle.message_wire.proofs.WireReading.{message-some, message-none}
use Rattle.message_wire.proofs.wire.Wire.message_at.Goals as goal

pub returns-in_default : goal.returns-in_default
returns-in_default c =
    sym (message-none c.args.sender c.args.place c.self.inside.by_sender.items c.self.invariant
    (ap (λ senders. slice_get senders c.args.sender) (sym c.as_slice.ensures.value) ∙ sym c.entry_at.ensures ∙ ap option_copied c.in_default.is))
    ∙ ap (λ wire. option_and_then (λ (part : List (MessageName × Packet)). slice_get part c.args.place)
    (slice_get (messages_by_sender (tree.entries wire)) c.args.sender)) c.self.view_is

pub returns-in_default-at : goal.returns-in_default-at
returns-in_default-at c =
    let own = c.in-Some.own.now in
    sym (message-some c.args.sender c.args.place own c.self.inside.by_sender.items c.self.invariant
    (ap (λ senders. slice_get senders c.args.sender) (sym c.as_slice.ensures.value) ∙ sym c.entry_at.ensures ∙ ap option_copied c.in-Some.is)
    ∙ ap (option_map (named own.0)) (sym c.at.ensures ∙ ap option_copied c.in_default-at.is))
    ∙ ap (λ wire. option_and_then (λ (part : List (MessageName × Packet)). slice_get part c.args.place)
    (slice_get (messages_by_sender (tree.entries wire)) c.args.sender)) c.self.view_is

pub returns : goal.returns
returns c =
    let own = c.in-Some.own.now in
    ap (λ (name : MessageName). Some (name, c.in-Some-at.message.now.1)) c.message_name.ensures
    ∙ sym (message-some c.args.sender c.args.place own c.self.inside.by_sender.items c.self.invariant
    (ap (λ senders. slice_get senders c.args.sender) (sym c.as_slice.ensures.value) ∙ sym c.entry_at.ensures ∙ ap option_copied c.in-Some.is)
    ∙ ap (option_map (named own.0)) (sym c.at.ensures ∙ ap option_copied c.in-Some-at.is))
    ∙ ap (λ wire. option_and_then (λ (part : List (MessageName × Packet)). slice_get part c.args.place)
    (slice_get (messages_by_sender (tree.entries wire)) c.args.sender)) c.self.view_is
