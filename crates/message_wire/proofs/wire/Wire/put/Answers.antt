use Rattle.std.proofs.Common.{ap, ◌∙◌}
use Rattle.std.specs.FinMap as tree
use Rattle.std.proofs.lemmas.Result.{on_ok_weaker, on_err_weaker}
use Rattle.message_wire.specs.Senders.{wire_of}
use Rattle.message_wire.proofs.WireChanges.{wire-put, AreSenders-after}
use Rattle.message_wire.proofs.wire.Wire.put.Goals as goal

pub returns-clause-ok : goal.returns-clause-ok
returns-clause-ok c =
    on_ok_weaker c.put_message.result (λ is. ap wire_of is
    ∙ wire-put c.args.name c.args.packet c.self.inside.by_sender.items c.self.invariant.0
    ∙ ap (λ wire. tree.insert wire c.args.name c.args.packet) c.self.view_is) c.put_message.ensures.ok

pub returns-clause-err : goal.returns-clause-err
returns-clause-err c = on_err_weaker c.put_message.result (λ is. ap wire_of is ∙ c.self.view_is) c.put_message.ensures.err

pub invariant_of-self : goal.invariant_of-self
invariant_of-self c =
    AreSenders-after c.put_message.result c.args.name c.args.packet c.self.inside.by_sender.items c.put_message.new.senders.items c.self.invariant
    c.put_message.ensures.ok c.put_message.ensures.err
