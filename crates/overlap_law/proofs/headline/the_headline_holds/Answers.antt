use Rattle.overlap_law.proofs.HeadlineInRuns.{headline_holds}
use Rattle.overlap_law.proofs.RunsKeepHeadline.{run_keeps_headline}
use Rattle.overlap_law.proofs.InputRange.{in_range_input}
use Rattle.overlap_law.proofs.headline.the_headline_holds.Goals as goal

pub returns : goal.returns
returns c = record {
  in_range = headline_holds;
  of_an_input = λ text script short read. headline_holds script (in_range_input text script short read);
  of_a_run = run_keeps_headline;
}
