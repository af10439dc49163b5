use Rattle.std.proofs.Common.{length, ap, sym, ◌∙◌}
use Rattle.std.specs.Ordering.{nat_cmp}
use Rattle.std.specs.FinMap as tree
use Rattle.message_wire.proofs.sender_messages.SenderMessages.len.Goals as goal

pub returns : goal.returns
returns c =
    let es = c.self.inside.messages.items in
    c.len.ensures ∙ c.self.inside.messages.ok.0 ∙ sym (tree.len-entries (tree.from_sorted {R = nat_cmp} es) ∙ ap length (tree.entries-from_sorted nat_cmp es c.self.invariant.0))
    ∙ ap tree.len c.self.view_is
