use Rattle.std.proofs.Common.{get_or, ap, ◌∙◌, arith}
use Rattle.message_wire.proofs.EndLemmas.{some_same}
use Rattle.message_wire.proofs.EndTable.{one-less, set-kept, set-less}
use Rattle.message_wire.proofs.end_counts.EndCounts.subtract.Goals as goal

pub overflow_sub-left : goal.overflow_sub-left
overflow_sub-left c =
    let at = c.end_place-place.result in
    let some = some_same _ _ (ap (λ counts. get_or counts at 0) c.self.view_is ∙ ap (λ p. get_or c.args.self.now p 0) c.end_place-place.ensures) c.requires in
    omega (arith, some)

pub invariant_of-self : goal.invariant_of-self
invariant_of-self c =
    set-less c.self.inside.counts c.args.node.0 c.end_place-place.result _ c.end_place-place.ensures c.self.invariant.0
    c.self.inside.nodes c.self.invariant.1 c.remove.new.self c.if-left-eq0.true c.remove.ensures

pub invariant_of-self-else-left-eq0 : goal.invariant_of-self-else-left-eq0
invariant_of-self-else-left-eq0 c =
    let at = c.end_place-place.result in
    let some = some_same _ _ (ap (λ counts. get_or counts at 0) c.self.view_is ∙ ap (λ p. get_or c.args.self.now p 0) c.end_place-place.ensures) c.requires in
    set-kept c.self.inside.counts c.args.node.0 at _ c.end_place-place.ensures c.self.invariant.0
    c.self.inside.nodes c.self.invariant.1 (omega arith) some

pub returns-then-left-eq0 : goal.returns-then-left-eq0
returns-then-left-eq0 c = λ place.
    let at = c.end_place-place.result in
    let some = some_same _ _ (ap (λ counts. get_or counts at 0) c.self.view_is ∙ ap (λ p. get_or c.args.self.now p 0) c.end_place-place.ensures) c.requires in
    one-less c.self.inside.counts c.args.node.0 at _ c.end_place-place.ensures c.self.invariant.0 (omega (arith, some)) place
    ∙ ap (λ counts. get_or counts place 0) c.self.view_is

pub returns-else-left-eq0 : goal.returns-else-left-eq0
returns-else-left-eq0 c = λ place.
    let at = c.end_place-place.result in
    let some = some_same _ _ (ap (λ counts. get_or counts at 0) c.self.view_is ∙ ap (λ p. get_or c.args.self.now p 0) c.end_place-place.ensures) c.requires in
    one-less c.self.inside.counts c.args.node.0 at _ c.end_place-place.ensures c.self.invariant.0 (omega (arith, some)) place
    ∙ ap (λ counts. get_or counts place 0) c.self.view_is
