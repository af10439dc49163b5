use Rattle.std.proofs.Common.{sym, ◌∙◌, true≢false}
use Rattle.hash_ring.proofs.PointLaws.{weighted_more, none_before}
use Rattle.hash_ring.proofs.point.are_weighted.Goals as goal

pub returns-then-not-is_weight : goal.returns-then-not-is_weight
returns-then-not-is_weight c = (
  λ t. absurd (true≢false (sym t)),
  λ are. absurd (true≢false (sym (c.is_weight.ensures.1 (are.weights c.loop-k.k _ c.loop-k-test.true)) ∙ c.if-not-is_weight.true)),
)

pub returns-then-stands_before : goal.returns-then-stands_before
returns-then-stands_before c = (
  λ t. absurd (true≢false (sym t)),
  λ are. absurd (none_before c.args.members.now c.loop-k.k _ c.loop-k-test.true are (c.stands_before.ensures.0 c.if-stands_before.true)),
)

pub loop-k-preserved : goal.loop-k-preserved
loop-k-preserved c =
    weighted_more c.args.members.now c.loop-k.k _ c.loop-k-test.true c.loop-k.invariant (c.is_weight.ensures.0 c.if-not-is_weight.false)
    (λ among. true≢false (sym (c.stands_before.ensures.1 among) ∙ c.if-stands_before.false))
