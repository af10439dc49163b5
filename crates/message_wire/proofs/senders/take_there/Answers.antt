use Rattle.std.proofs.Common.{set, ap, sym, ◌∙◌}
use Rattle.std.specs.FinMap as tree
use Rattle.message_wire.proofs.SenderEdits.{set-found, messages-there}
use Rattle.message_wire.proofs.senders.take_there.Goals as goal

pub returns-clause-value : goal.returns-clause-value
returns-clause-value c =
    c.take.ensures.value
    ∙ ap (λ messages. tree.get messages c.args.name.number)
    (messages-there c.args.name.sender.0 c.args.place c.index_mut.result.now c.args.senders.now.items c.requires.stands (sym c.index_mut.ensures.value))

pub returns-clause-others : goal.returns-clause-others
returns-clause-others c =
    let senders = c.args.senders.now.items in
    let own = c.index_mut.result.now in
    ap (λ messages. set senders c.args.place (own.0, messages)) c.take.ensures.others
    ∙ set-found c.args.name.sender.0 c.args.place own senders (λ messages. tree.remove messages c.args.name.number)
    c.requires.stands (sym c.index_mut.ensures.value)
