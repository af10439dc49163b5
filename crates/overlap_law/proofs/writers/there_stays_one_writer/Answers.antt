use Rattle.overlap_law.proofs.TrafficWriters.{keeps_one_writer}
use Rattle.overlap_law.proofs.writers.there_stays_one_writer.Goals as goal

pub returns : goal.returns
returns c =
    λ script start before after range began change tied begun turns one.
    keeps_one_writer script range start before after began change tied begun turns one
