use Rattle.std.proofs.Common.{◌==◌, not, ap, sym, ◌∙◌}
use Rattle.std.specs.Option.{option_copied}
use Rattle.std.specs.FinMap as tree
use Rattle.message_wire.proofs.SenderEdits.{messages-some, messages-none}
use Rattle.message_wire.proofs.senders.has_messages.Goals as goal

pub returns-in-Some : goal.returns-in-Some
returns-in-Some c =
    ap (λ n. not (n == 0)) c.len.ensures
    ∙ ap (λ own. not (tree.len own == 0)) (sym (messages-some c.args.sender c.in-Some.messages.now c.args.senders.now (sym c.value_at.ensures ∙ ap option_copied c.in-Some.is)))

pub returns-in-None : goal.returns-in-None
returns-in-None c =
    sym (messages-none c.args.sender c.args.senders.now (sym c.value_at.ensures ∙ ap option_copied c.in-None.is))
