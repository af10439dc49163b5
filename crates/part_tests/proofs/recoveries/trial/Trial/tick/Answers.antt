use Rattle.std.proofs.Common.{◌≤◌, arith, sym, subst, ◌∙◌}
use Rattle.part_tests.proofs.TrialLemmas.{IsOfNode2, node-after_tick}
use Rattle.part_tests.proofs.recoveries.trial.Trial.tick.Goals as goal

pub invariant_of-self-then-can_tick : goal.invariant_of-self-then-can_tick
invariant_of-self-then-can_tick c =
    let low : c.args.first ≤ 99 = c.if-first-le99.true in
    subst IsOfNode2 (sym c.in_ok-tick.ensures.ok)
    (node-after_tick c.args.first _ (record { work = sym c.can_tick.ensures ∙ c.if-can_tick.true; room = omega (arith, low) }) c.self.invariant)
