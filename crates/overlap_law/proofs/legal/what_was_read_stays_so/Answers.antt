use Rattle.overlap_law.proofs.ReadsStay.{read_still}
use Rattle.overlap_law.proofs.legal.what_was_read_stays_so.Goals as goal

pub returns : goal.returns
returns c = λ script moves start before after range run trail change items bytes may.
    read_still script range moves start before after run trail change items bytes may
