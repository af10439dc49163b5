use Rattle.std.proofs.Common.{set, ap, sym, ◌∙◌}
use Rattle.std.specs.FinMap as tree
use Rattle.std.proofs.lemmas.Result.{on_ok_weaker, on_err_weaker}
use Rattle.message_wire.proofs.SenderEdits.{set-found, set-same}
use Rattle.message_wire.proofs.senders.put_there.Goals as goal

pub returns-clause-ok : goal.returns-clause-ok
returns-clause-ok c =
    let senders = c.args.senders.now.items in
    let own = c.index_mut.result.now in
    on_ok_weaker c.put.result
    (λ is. ap (λ messages. set senders c.args.place (own.0, messages)) is
    ∙ set-found c.args.name.sender.0 c.args.place own senders (λ messages. tree.insert messages c.args.name.number c.args.packet)
    c.requires.stands (sym c.index_mut.ensures.value)) c.put.ensures.ok

pub returns-clause-err : goal.returns-clause-err
returns-clause-err c =
    let senders = c.args.senders.now.items in
    let own = c.index_mut.result.now in
    on_err_weaker c.put.result
    (λ is. ap (λ messages. set senders c.args.place (own.0, messages)) is
    ∙ set-same c.args.place own senders c.requires.within (sym c.index_mut.ensures.value)) c.put.ensures.err
