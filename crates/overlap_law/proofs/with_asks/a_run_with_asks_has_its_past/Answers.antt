use Rattle.std.proofs.Common.{map, ◌∙◌}
use Rattle.sheep_world.specs.RunsWithAsks.{Happens}
use Rattle.sheep_world.proofs.ClientLaws.{run-events}
use Rattle.overlap_law.proofs.AskedPast.{read-leaves_past, run_with_read}
use Rattle.overlap_law.proofs.RunLemmas.{past-follows}
use Rattle.overlap_law.proofs.RunsWithOneMore.{run_with_next}
use Rattle.overlap_law.proofs.with_asks.a_run_with_asks_has_its_past.Goals as goal

pub returns : goal.returns
returns c = record {
  events = λ script events. past-follows script (map Happens events) ∙ run-events script events;
  longer = λ script next moves before after run is. run_with_next script next moves before after is run;
  past = λ script moves node ask before after range run is. read-leaves_past script range moves node ask before after run is;
  asked = λ script moves node ask before range run takes asked reads. run_with_read script range moves node ask before run takes asked reads;
}
