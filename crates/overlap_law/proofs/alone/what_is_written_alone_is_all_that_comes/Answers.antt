use Rattle.overlap_law.proofs.WrittenAlone.{alone_to_come}
use Rattle.overlap_law.proofs.alone.what_is_written_alone_is_all_that_comes.Goals as goal

pub returns : goal.returns
returns c = λ hosts attempts vid payload piece is unit inside j attempt comes.
    alone_to_come hosts attempts vid payload piece is unit inside j attempt comes
