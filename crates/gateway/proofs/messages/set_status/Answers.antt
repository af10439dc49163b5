use Rattle.std.proofs.Common.{◌∙◌, sym}
use Rattle.std.proofs.lemmas.List.Quantifiers.{position-Some}
use Rattle.gateway.proofs.MessageLemmas.{has_number, slice_set-status, messages_with_status-none, position-none}
use Rattle.gateway.proofs.messages.set_status.Goals as goal

pub returns-in-Some : goal.returns-in-Some
returns-in-Some c =
    let found = position-Some (has_number c.args.number) c.args.messages.now c.in-Some.place c.index-messages-place.result (sym c.place_of.ensures ∙ c.in-Some.is) in
    slice_set-status c.args.number c.in-Some.place c.args.status c.args.messages.now c.index-messages-place.result c.requires found.0 found.1

pub returns-in_default : goal.returns-in_default
returns-in_default c =
    sym (messages_with_status-none c.args.number c.args.status c.args.messages.now (position-none c.args.number c.args.messages.now (sym c.place_of.ensures ∙ c.in_default.is)))
