-- Each turn writes 32 bytes more of the sum.
use Rattle.std.proofs.Common.{◌≡◌, ◌+◌, ◌*◌, length, refl, subst, arith}
use Rattle.strip_coding.specs.Sums.{sum_at}
use Rattle.strip_lanes.specs.Lanes.{IsSummed}
use Rattle.strip_lanes.proofs.SumLemmas.{lanes_put, all_summed}
use Rattle.strip_lanes.proofs.sums.ByLanesStripSums.combine.Goals as goal

pub loop-turn-init : goal.loop-turn-init
loop-turn-init c = record { long = refl; inside = λ k from l. absurd (omega arith); before = λ k l. refl }

pub loop-turn-preserved : goal.loop-turn-preserved
loop-turn-preserved c =
    let f = sum_at c.args.coefficients.now c.args.places.now c.args.strips.now (length c.args.sum.now) in
    let at = c.loop-turn.turn * 32 in
    let next : at + 32 ≡ (c.loop-turn.turn + 1) * 32 = omega arith in
    subst (IsSummed f c.args.sum.now _ 0) next
    (lanes_put f c.args.sum.now c.loop-turn.sum c.sum_of_lanes-total.result at (omega (arith, c.loop-turn-test.true, c.loop-turn.invariant.long))
    c.loop-turn.invariant c.sum_of_lanes-total.ensures)

pub returns : goal.returns
returns c =
    all_summed (sum_at c.args.coefficients.now c.args.places.now c.args.strips.now) c.args.sum.now c.loop-turn.sum c.put_rest.new.sum _ _
    (omega (arith, c.loop-turn-test.false)) c.loop-turn.invariant c.put_rest.ensures
