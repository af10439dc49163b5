use Rattle.dog_report.proofs.RunLemmas.{runs_words-step}
use Rattle.dog_report.proofs.runs.push_runs.Goals as goal

pub loop-first-preserved : goal.loop-first-preserved
loop-first-preserved c =
    runs_words-step _ _ _ _ _ _ _ _ c.in-Some.ensures.cases.0 c.cut_run-count.ensures.whole
    c.cut_run-count.ensures.maximal c.in_ok-push_run.ensures c.loop-first.invariant
