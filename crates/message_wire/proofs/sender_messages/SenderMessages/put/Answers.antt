use Rattle.std.proofs.Common.{T, ap, sym, subst, ◌∙◌, arith}
use Rattle.std.specs.Ordering.{nat_cmp}
use Rattle.std.specs.Cmp.{nat_cmp_total}
use Rattle.std.specs.Option.{option_map}
use Rattle.std.specs.FinMap as tree
use Rattle.std.specs.FinMap.Entries.{is_sorted, is_sorted-put}
use Rattle.message_wire.specs.Message.{asked_node}
use Rattle.message_wire.specs.NodeSet.{end_place, AreEndCounts}
use Rattle.message_wire.proofs.EntryLemmas.{put-seen}
use Rattle.message_wire.proofs.EndLemmas.{end_count-most, counted-before, ends-put, replaced_sum}
use Rattle.message_wire.proofs.sender_messages.SenderMessages.put.Goals as goal

pub subtract_if_any-requires : goal.subtract_if_any-requires
subtract_if_any-requires c =
    counted-before c.args.number c.self.inside.messages.items c.self.invariant.0 c.self.inside.ends c.self.invariant.1 c.asked_at-replaced.result
    (c.asked_at-replaced.ensures ∙ ap (λ es. option_map asked_node (tree.find nat_cmp c.args.number es)) c.as_slice.ensures.value)

pub add-requires : goal.add-requires
add-requires c =
    let place = end_place c.asked_node-asked.result.0 in
    let same = c.self.invariant.1 place in
    let left = c.subtract_if_any.ensures place in
    let most = end_count-most place c.self.inside.messages.items in
    omega (arith, same, left, most, c.self.inside.messages.ok.0, c.self.inside.messages.ok.1, c.self.inside.messages.small)

pub invariant_of-self-2 : goal.invariant_of-self-2
invariant_of-self-2 c =
    let es = c.self.inside.messages.items in (
      subst (λ new. T (is_sorted nat_cmp new)) (sym c.in_ok-put.ensures.ok)
          (is_sorted-put nat_cmp nat_cmp_total c.args.number c.args.packet es c.self.invariant.0),
      subst (λ new. AreEndCounts new c.add.new.self) (sym c.in_ok-put.ensures.ok)
          (ends-put c.args.number es c.self.invariant.0 c.self.inside.ends c.self.invariant.1 c.args.packet c.add.new.self
          c.asked_at-replaced.result c.asked_node-asked.result
          (c.asked_at-replaced.ensures ∙ ap (λ es. option_map asked_node (tree.find nat_cmp c.args.number es)) c.as_slice.ensures.value)
          c.asked_node-asked.ensures
          (λ place. replaced_sum _ _ _ _ _ (c.subtract_if_any.ensures place) (c.add.ensures place))),
    )

pub returns-clause-ok : goal.returns-clause-ok
returns-clause-ok c =
    ap (tree.from_sorted {R = nat_cmp}) c.in_ok-put.ensures.ok
    ∙ put-seen c.args.number c.args.packet c.self.inside.messages.items c.self.invariant.0
    ∙ ap (λ own. tree.insert own c.args.number c.args.packet) c.self.view_is
