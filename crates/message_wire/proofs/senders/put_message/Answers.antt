use Rattle.std.proofs.Common.{ap, sym, subst, ◌∙◌}
use Rattle.std.specs.Ordering.{nat_cmp}
use Rattle.std.specs.FinMap as tree
use Rattle.std.proofs.lemmas.Result.{on_ok_weaker}
use Rattle.message_wire.specs.Entries.{IsFoundAt, IsMissingAt}
use Rattle.message_wire.proofs.SenderEdits.{messages-missing}
use Rattle.message_wire.proofs.senders.put_message.Goals as goal

pub put_there-requires-clause-stands : goal.put_there-requires-clause-stands
put_there-requires-clause-stands c =
    subst (IsFoundAt c.args.name.sender.0 c.in-Ok.place) c.as_slice.ensures.value c.in-Ok.ensures.stands

pub returns-in-Err-clause-ok : goal.returns-in-Err-clause-ok
returns-in-Err-clause-ok c =
    let senders = c.args.senders.now.items in
    let sender = c.args.name.sender.0 in
    let none = messages-missing sender c.in-Err.field-0 senders c.requires.0
    (subst (IsMissingAt sender c.in-Err.field-0) c.as_slice.ensures.value c.in-Err.ensures.stands) in
    on_ok_weaker c.put_first.result
    (λ is. is ∙ ap (λ messages. tree.put nat_cmp sender (tree.insert messages c.args.name.number c.args.packet) senders) (sym none))
    c.put_first.ensures.ok
