use Rattle.overlap_law.proofs.CreatesFirst.{first-on_the_way}
use Rattle.overlap_law.proofs.births.creates_come_first.Goals as goal

pub returns : goal.returns
returns c = λ script moves start before after range is trail change good_id chains named first.
    first-on_the_way script range moves start before after is trail change good_id chains named first
