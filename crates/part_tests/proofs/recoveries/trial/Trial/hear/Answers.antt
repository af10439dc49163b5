use Rattle.std.proofs.Common.{sym, subst, ◌∙◌}
use Rattle.part_tests.proofs.TrialLemmas.{IsOfNode2, node-after_reply}
use Rattle.part_tests.proofs.recoveries.trial.Trial.hear.Goals as goal

pub invariant_of-self-then-fits : goal.invariant_of-self-then-fits
invariant_of-self-then-fits c =
    subst IsOfNode2 (sym c.in_ok-on_reply.ensures.ok)
    (node-after_reply c.args.rsp.now _ (sym c.fits.ensures ∙ c.if-fits.true) c.self.invariant)
