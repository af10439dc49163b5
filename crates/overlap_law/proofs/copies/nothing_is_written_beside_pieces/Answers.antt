use Rattle.overlap_law.proofs.CopiedBeside.{beside_unwritten}
use Rattle.overlap_law.proofs.HistoryApart.{none_else}
use Rattle.overlap_law.proofs.copies.nothing_is_written_beside_pieces.Goals as goal

pub returns-clause-beside : goal.returns-clause-beside
returns-clause-beside c = λ script moves start before after range run trail change.
    beside_unwritten script range moves start before after run trail change

pub returns-clause-others : goal.returns-clause-others
returns-clause-others c = λ script moves start moment range run trail. none_else script range moves start run trail
