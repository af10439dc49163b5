use Rattle.std.proofs.Common.{ap, sym, ◌∙◌}
use Rattle.std.specs.Ordering.{nat_cmp}
use Rattle.std.specs.FinMap as tree
use Rattle.message_wire.proofs.sender_messages.SenderMessages.get.Goals as goal

pub returns : goal.returns
returns c =
    c.value_at.ensures ∙ ap (tree.find nat_cmp c.args.number) c.as_slice.ensures.value
    ∙ sym (tree.get-from_sorted nat_cmp c.self.inside.messages.items c.args.number c.self.invariant.0)
    ∙ ap (λ own. tree.get own c.args.number) c.self.view_is
