use Rattle.std.proofs.Common.{ℕ, ap, sym, ◌∙◌}
use Rattle.std.specs.List.{list_all}
use Rattle.std.specs.Ordering.{nat_cmp}
use Rattle.std.specs.FinMap as tree
use Rattle.message_wire.specs.declared.packet.Packet.{Packet}
use Rattle.message_wire.specs.Message.{asked_node}
use Rattle.message_wire.specs.NodeSet.{contains_node}
use Rattle.message_wire.proofs.EndLemmas.{ends-within}
use Rattle.message_wire.proofs.sender_messages.SenderMessages.are_ends_within.Goals as goal

pub returns : goal.returns
returns c =
    let all = list_all (λ (message : ℕ × Packet). contains_node (asked_node message.1).0 c.args.nodes) in
    ends-within c.are_within.result c.args.nodes c.self.inside.messages.items c.self.inside.ends c.self.invariant.1 c.are_within.ensures
    ∙ ap all (sym (tree.entries-from_sorted nat_cmp c.self.inside.messages.items c.self.invariant.0))
    ∙ ap (λ own. all (tree.entries own)) c.self.view_is
