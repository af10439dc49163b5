use Rattle.std.proofs.Common.{set, ap, sym, ◌∙◌}
use Rattle.message_wire.specs.Senders.{requests_among}
use Rattle.message_wire.proofs.SenderEdits.{set-found}
use Rattle.message_wire.proofs.senders.drop_replies_there.Goals as goal

pub returns : goal.returns
returns c =
    let senders = c.args.senders.now.items in
    let own = c.index_mut.result.now in
    ap (λ messages. set senders c.args.place (own.0, messages)) c.drop_replies.ensures
    ∙ set-found c.args.sender c.args.place own senders (requests_among c.args.sender) c.requires.stands (sym c.index_mut.ensures.value)
