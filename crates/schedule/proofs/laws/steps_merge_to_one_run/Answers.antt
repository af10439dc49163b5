use Rattle.schedule.proofs.MergeLaws.{merge-is-run, one-merge, clash-no_merge}
use Rattle.schedule.proofs.laws.steps_merge_to_one_run.Goals as goal

pub returns : goal.returns
returns c = record { run = merge-is-run; one = one-merge; clash = clash-no_merge }
