use Rattle.std.proofs.Common.{T, Some, not, ap, sym, subst, ◌∙◌}
use Rattle.std.specs.Ordering.{nat_cmp, eq_by_cmp}
use Rattle.std.specs.Option.{option_map}
use Rattle.std.specs.FinMap as tree
use Rattle.std.specs.FinMap.Entries.{is_sorted, is_sorted-where_key}
use Rattle.message_wire.specs.Message.{asked_node}
use Rattle.message_wire.specs.NodeSet.{end_place, AreEndCounts}
use Rattle.message_wire.proofs.EntryLemmas.{without-seen}
use Rattle.message_wire.proofs.EndLemmas.{some_same, found-counted, ends-take, ends-same}
use Rattle.message_wire.proofs.sender_messages.SenderMessages.take.Goals as goal

pub invariant_of-self : goal.invariant_of-self
invariant_of-self c = (
  subst (λ es. T (is_sorted nat_cmp es)) (sym c.take.ensures.others)
      (is_sorted-where_key nat_cmp (λ other. not (eq_by_cmp nat_cmp c.args.number other)) c.self.inside.messages.items c.self.invariant.0),
  subst (λ es. AreEndCounts es c.self.inside.ends) (sym c.take.ensures.others)
      (ends-same c.args.number c.self.inside.messages.items c.self.invariant.0 c.self.inside.ends c.self.invariant.1
      (sym c.take.ensures.value ∙ c.in_err-packet.was)),
)

pub returns-in_err-packet-clause-value : goal.returns-in_err-packet-clause-value
returns-in_err-packet-clause-value c =
    c.from_residual.ensures ∙ sym c.in_err-packet.was ∙ c.take.ensures.value
    ∙ sym (tree.get-from_sorted nat_cmp c.self.inside.messages.items c.args.number c.self.invariant.0)
    ∙ ap (λ own. tree.get own c.args.number) c.self.view_is

pub returns-in_err-packet-clause-others : goal.returns-in_err-packet-clause-others
returns-in_err-packet-clause-others c =
    ap (tree.from_sorted {R = nat_cmp}) c.take.ensures.others
    ∙ without-seen c.args.number c.self.inside.messages.items c.self.invariant.0
    ∙ ap (λ own. tree.remove own c.args.number) c.self.view_is

pub subtract-requires : goal.subtract-requires
subtract-requires c =
    let es = c.self.inside.messages.items in
    let node = c.asked_node.result in
    let found = ap (option_map asked_node) (sym c.take.ensures.value ∙ c.in_ok-packet.was) ∙ ap Some (sym c.asked_node.ensures) in
    some_same _ _ (c.self.invariant.1 (end_place node.0)) (found-counted c.args.number node es c.self.invariant.0 found)

pub invariant_of-self-2 : goal.invariant_of-self-2
invariant_of-self-2 c =
    let es = c.self.inside.messages.items in
    let node = c.asked_node.result in
    let found = ap (option_map asked_node) (sym c.take.ensures.value ∙ c.in_ok-packet.was) ∙ ap Some (sym c.asked_node.ensures) in (
      subst (λ left. T (is_sorted nat_cmp left)) (sym c.take.ensures.others)
          (is_sorted-where_key nat_cmp (λ other. not (eq_by_cmp nat_cmp c.args.number other)) es c.self.invariant.0),
      subst (λ left. AreEndCounts left c.subtract.new.self) (sym c.take.ensures.others)
          (ends-take c.args.number es c.self.invariant.0 c.self.inside.ends c.self.invariant.1 c.subtract.new.self node found c.subtract.ensures),
    )

pub returns-clause-value : goal.returns-clause-value
returns-clause-value c =
    sym c.in_ok-packet.was ∙ c.take.ensures.value
    ∙ sym (tree.get-from_sorted nat_cmp c.self.inside.messages.items c.args.number c.self.invariant.0)
    ∙ ap (λ own. tree.get own c.args.number) c.self.view_is

pub returns-clause-others : goal.returns-clause-others
returns-clause-others c =
    ap (tree.from_sorted {R = nat_cmp}) c.take.ensures.others
    ∙ without-seen c.args.number c.self.inside.messages.items c.self.invariant.0
    ∙ ap (λ own. tree.remove own c.args.number) c.self.view_is
