use Rattle.overlap_law.proofs.TakenIds.{taken_by_entry}
use Rattle.overlap_law.proofs.WriterChanges.{entry_keeps_writer, entry_gives_writer, entry_gives_to}
use Rattle.overlap_law.proofs.writers.few_effects_change_the_writer.Goals as goal

pub returns-clause-stays : goal.returns-clause-stays
returns-clause-stays c = λ log entry vid writer is other. entry_keeps_writer log entry vid writer is other

pub returns-clause-given : goal.returns-clause-given
returns-clause-given c = λ log entry vid writer is. entry_gives_writer log entry vid writer is

pub returns-clause-to : goal.returns-clause-to
returns-clause-to c = λ log entry vid is. entry_gives_to log entry vid is

pub returns-clause-by_entry : goal.returns-clause-by_entry
returns-clause-by_entry c = λ log entry vid writer is takes. taken_by_entry log entry vid writer is takes
