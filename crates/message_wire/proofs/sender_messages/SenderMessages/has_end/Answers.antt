use Rattle.std.proofs.Common.{ap, sym, ◌∙◌}
use Rattle.std.specs.List.{list_any}
use Rattle.std.specs.Ordering.{nat_cmp}
use Rattle.std.specs.FinMap as tree
use Rattle.message_wire.specs.Message.{has_end, message_name}
use Rattle.message_wire.proofs.sender_messages.SenderMessages.has_end.Goals as goal

pub returns : goal.returns
returns c =
    let any = list_any (λ message. has_end c.args.node.0 (message_name c.args.sender message.0) message.1) in
    c.any_has_end.ensures ∙ ap any c.as_slice.ensures.value
    ∙ ap any (sym (tree.entries-from_sorted nat_cmp c.self.inside.messages.items c.self.invariant.0))
    ∙ ap (λ own. any (tree.entries own)) c.self.view_is
