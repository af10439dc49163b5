use Rattle.trace_text.proofs.ReplayLaws.{whole-run, takes-runs, bad-at}
use Rattle.trace_text.proofs.laws.a_replay_takes_whole_runs.Goals as goal

pub returns : goal.returns
returns c = record { taken = whole-run; takes = takes-runs; bad = bad-at }
