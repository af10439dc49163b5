use Rattle.overlap_law.proofs.TurnsInRuns.{turns_taken, one_writer-in_run}
use Rattle.overlap_law.proofs.writers.there_is_one_writer.Goals as goal

pub returns-clause-turns : goal.returns-clause-turns
returns-clause-turns c =
    λ script start before after range began change tied awaited. turns_taken script range start began change tied awaited

pub returns-clause-run : goal.returns-clause-run
returns-clause-run c = λ script moves start moment range is trail. one_writer-in_run script range moves start moment is trail
