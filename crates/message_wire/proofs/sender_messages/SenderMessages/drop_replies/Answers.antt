use Rattle.std.proofs.Common.{T, not, ap, sym, subst, ◌∙◌, rules}
use Rattle.std.specs.Ordering.{nat_cmp}
use Rattle.std.specs.FinMap as tree
use Rattle.std.specs.FinMap.Entries.{is_sorted}
use Rattle.std.proofs.lemmas.Fn.{filter_same}
use Rattle.message_wire.specs.Message.{is_reply}
use Rattle.message_wire.specs.NodeSet.{AreEndCounts}
use Rattle.message_wire.specs.Senders.{requests_among}
use Rattle.message_wire.proofs.SenderEdits.{requests-sorted, requests-seen}
use Rattle.message_wire.proofs.sender_messages.SenderMessages.drop_replies.Goals as goal

pub invariant_of-self : goal.invariant_of-self
invariant_of-self c = (
  subst (λ es. T (is_sorted nat_cmp es))
      (sym (filter_same _ (λ message. not (is_reply message.1)) _ (λ x b f' t. search rules) _ _ c.retain.ensures.filtered))
      (requests-sorted c.args.sender c.self.inside.messages.items c.self.invariant.0),
  subst (λ es. AreEndCounts es c.count_ends-self-inside.result) c.as_slice.ensures.value c.count_ends-self-inside.ensures,
)

pub returns : goal.returns
returns c =
    ap (tree.from_sorted {R = nat_cmp}) (filter_same _ (λ message. not (is_reply message.1)) _ (λ x b f' t. search rules) _ _ c.retain.ensures.filtered)
    ∙ requests-seen c.args.sender c.self.inside.messages.items c.self.invariant.0
    ∙ ap (requests_among c.args.sender) c.self.view_is
