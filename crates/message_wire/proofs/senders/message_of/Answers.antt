use Rattle.std.proofs.Common.{ap, sym, ◌∙◌}
use Rattle.std.specs.Option.{option_copied}
use Rattle.std.specs.FinMap as tree
use Rattle.message_wire.proofs.SenderEdits.{messages-some, message-none-from}
use Rattle.message_wire.proofs.senders.message_of.Goals as goal

pub returns-in-Some : goal.returns-in-Some
returns-in-Some c =
    c.get.ensures
    ∙ ap (λ own. tree.get own c.args.name.number)
    (sym (messages-some c.args.name.sender.0 c.in-Some.messages.now c.args.senders.now (sym c.value_at.ensures ∙ ap option_copied c.in-Some.is)))

pub returns-in-None : goal.returns-in-None
returns-in-None c =
    sym (message-none-from c.args.name.sender.0 c.args.name.number c.args.senders.now (sym c.value_at.ensures ∙ ap option_copied c.in-None.is))
