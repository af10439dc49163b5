use Rattle.std.proofs.Common.{[], length, slice_get, unwrap_or, ap, sym, ◌∙◌}
use Rattle.std.specs.Option.{option_copied}
use Rattle.std.specs.FinMap as tree
use Rattle.message_wire.specs.Message.{messages_by_sender}
use Rattle.message_wire.proofs.WireReading.{count-some, count-none}
use Rattle.message_wire.proofs.wire.Wire.count_at.Goals as goal

pub returns-in-Some : goal.returns-in-Some
returns-in-Some c =
    c.len.ensures
    ∙ sym (count-some c.args.sender c.in-Some.own.now c.self.inside.by_sender.items c.self.invariant
    (ap (λ senders. slice_get senders c.args.sender) (sym c.as_slice.ensures.value) ∙ sym c.entry_at.ensures ∙ ap option_copied c.in-Some.is))
    ∙ ap (λ wire. length (unwrap_or (slice_get (messages_by_sender (tree.entries wire)) c.args.sender) [])) c.self.view_is

pub returns-in-None : goal.returns-in-None
returns-in-None c =
    sym (count-none c.args.sender c.self.inside.by_sender.items c.self.invariant
    (ap (λ senders. slice_get senders c.args.sender) (sym c.as_slice.ensures.value) ∙ sym c.entry_at.ensures ∙ ap option_copied c.in-None.is))
    ∙ ap (λ wire. length (unwrap_or (slice_get (messages_by_sender (tree.entries wire)) c.args.sender) [])) c.self.view_is
