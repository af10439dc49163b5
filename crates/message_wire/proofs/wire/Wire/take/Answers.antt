use Rattle.std.proofs.Common.{ap, sym, subst, ◌∙◌}
use Rattle.std.specs.FinMap as tree
use Rattle.message_wire.specs.Senders.{AreSenders, wire_of, messages_from}
use Rattle.message_wire.proofs.WireChanges.{AreSenders-with, get-named, wire-take}
use Rattle.message_wire.proofs.wire.Wire.take.Goals as goal

pub invariant_of-self : goal.invariant_of-self
invariant_of-self c =
    let senders = c.self.inside.by_sender.items in
    subst AreSenders (sym c.take_message.ensures.others)
    (AreSenders-with c.args.name.sender.0 (tree.remove (messages_from senders c.args.name.sender.0) c.args.name.number) senders c.self.invariant)

pub returns-clause-value : goal.returns-clause-value
returns-clause-value c =
    c.take_message.ensures.value ∙ sym (get-named c.args.name c.self.inside.by_sender.items c.self.invariant.0)
    ∙ ap (λ wire. tree.get wire c.args.name) c.self.view_is

pub returns-clause-others : goal.returns-clause-others
returns-clause-others c =
    ap wire_of c.take_message.ensures.others ∙ wire-take c.args.name c.self.inside.by_sender.items c.self.invariant
    ∙ ap (λ wire. tree.remove wire c.args.name) c.self.view_is
