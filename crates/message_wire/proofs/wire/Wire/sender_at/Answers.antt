use Rattle.std.proofs.Common.{[], slice_get, unwrap_or, ◌==◌, ap, sym, ◌∙◌}
use Rattle.std.specs.List.{list_all}
use Rattle.std.specs.Option.{option_copied, option_map}
use Rattle.std.specs.FinMap as tree
use Rattle.message_wire.specs.declared.name.MessageName.{MessageName}
use Rattle.message_wire.specs.declared.packet.Packet.{Packet}
use Rattle.message_wire.specs.Message.{messages_by_sender, first_sender}
use Rattle.message_wire.proofs.WireReading.{place-none, sender-some, sender-each}
use Rattle.message_wire.proofs.wire.Wire.sender_at.Goals as goal

pub returns-in-Some-clause-first : goal.returns-in-Some-clause-first
returns-in-Some-clause-first c =
    sym (sender-some c.args.sender c.in-Some.own.now c.self.inside.by_sender.items c.self.invariant
    (ap (λ senders. slice_get senders c.args.sender) (sym c.as_slice.ensures.value) ∙ sym c.entry_at.ensures ∙ ap option_copied c.in-Some.is))
    ∙ ap (λ wire. option_map first_sender (slice_get (messages_by_sender (tree.entries wire)) c.args.sender)) c.self.view_is

pub returns-in-Some-clause-each : goal.returns-in-Some-clause-each
returns-in-Some-clause-each c =
    let own = c.in-Some.own.now in
    sym (ap (λ wire. list_all (λ (found : MessageName × Packet). found.0.sender.0 == own.0)
    (unwrap_or (slice_get (messages_by_sender (tree.entries wire)) c.args.sender) [])) c.self.view_is)
    ∙ sender-each c.args.sender own c.self.inside.by_sender.items c.self.invariant
    (ap (λ senders. slice_get senders c.args.sender) (sym c.as_slice.ensures.value) ∙ sym c.entry_at.ensures ∙ ap option_copied c.in-Some.is)

pub returns-in-None-clause-first : goal.returns-in-None-clause-first
returns-in-None-clause-first c =
    sym (ap (option_map first_sender) (place-none c.args.sender c.self.inside.by_sender.items c.self.invariant
    (ap (λ senders. slice_get senders c.args.sender) (sym c.as_slice.ensures.value) ∙ sym c.entry_at.ensures ∙ ap option_copied c.in-None.is)))
    ∙ ap (λ wire. option_map first_sender (slice_get (messages_by_sender (tree.entries wire)) c.args.sender)) c.self.view_is
