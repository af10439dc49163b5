use Rattle.trace_text.proofs.ReadingLaws.{read-exactly}
use Rattle.trace_text.proofs.laws.reading_undoes_spelling.Goals as goal

pub returns : goal.returns
returns c = read-exactly
