use Rattle.std.proofs.Common.{slice_get, ap, sym, ◌∙◌}
use Rattle.std.specs.Ordering.{nat_cmp}
use Rattle.std.specs.FinMap as tree
use Rattle.message_wire.proofs.sender_messages.SenderMessages.at.Goals as goal

pub returns : goal.returns
returns c =
    c.entry_at.ensures ∙ ap (λ es. slice_get es c.args.place) c.as_slice.ensures.value
    ∙ ap (λ es. slice_get es c.args.place) (sym (tree.entries-from_sorted nat_cmp c.self.inside.messages.items c.self.invariant.0))
    ∙ ap (λ own. slice_get (tree.entries own) c.args.place) c.self.view_is
