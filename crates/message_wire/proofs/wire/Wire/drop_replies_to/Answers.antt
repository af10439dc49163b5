use Rattle.std.proofs.Common.{ap, sym, subst, ◌∙◌}
use Rattle.message_wire.specs.Message.{without_replies}
use Rattle.message_wire.specs.Senders.{AreSenders, wire_of, messages_from, requests_among}
use Rattle.message_wire.proofs.WireChanges.{AreSenders-with, wire-drop}
use Rattle.message_wire.proofs.wire.Wire.drop_replies_to.Goals as goal

pub invariant_of-self : goal.invariant_of-self
invariant_of-self c =
    let senders = c.self.inside.by_sender.items in
    subst AreSenders (sym c.drop_replies_to.ensures)
    (AreSenders-with c.args.node.0 (requests_among c.args.node.0 (messages_from senders c.args.node.0)) senders c.self.invariant)

pub returns : goal.returns
returns c =
    ap wire_of c.drop_replies_to.ensures ∙ wire-drop c.args.node.0 c.self.inside.by_sender.items c.self.invariant
    ∙ ap (without_replies c.args.node.0) c.self.view_is
