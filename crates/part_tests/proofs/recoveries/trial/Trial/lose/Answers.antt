use Rattle.std.proofs.Common.{sym, subst}
use Rattle.part_tests.proofs.TrialLemmas.{IsOfNode2, node-after_loss}
use Rattle.part_tests.proofs.recoveries.trial.Trial.lose.Goals as goal

pub invariant_of-self-then-waits_for : goal.invariant_of-self-then-waits_for
invariant_of-self-then-waits_for c =
    subst IsOfNode2 (sym c.in_ok-on_lost.ensures.ok) (node-after_loss c.args.number _ c.self.invariant)
