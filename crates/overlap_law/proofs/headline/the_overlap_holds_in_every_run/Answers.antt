use Rattle.overlap_law.proofs.OverlapInRuns.{overlap_holds, overlap_holds_behind}
use Rattle.overlap_law.proofs.headline.the_overlap_holds_in_every_run.Goals as goal

pub returns : goal.returns
returns c = record { in_run = overlap_holds; by_event = overlap_holds_behind }
