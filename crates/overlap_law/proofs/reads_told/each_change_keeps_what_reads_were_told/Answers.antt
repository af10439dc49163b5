use Rattle.overlap_law.proofs.HistoryApart.{done_apart}
use Rattle.overlap_law.proofs.ReadsToldKept.{reads_kept}
use Rattle.overlap_law.proofs.reads_told.each_change_keeps_what_reads_were_told.Goals as goal

pub returns : goal.returns
returns c = λ script moves start before after range run trail change.
    reads_kept script range moves start run change change trail (done_apart script range moves start run before after trail)
