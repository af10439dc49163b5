use Rattle.overlap_law.proofs.AwaitedInRuns.{entries_awaited-in_run, commands_sessions-in_run}
use Rattle.overlap_law.proofs.writers.entries_of_commands_are_awaited.Goals as goal

pub returns-clause-awaited : goal.returns-clause-awaited
returns-clause-awaited c = λ script moves start moment range is trail. entries_awaited-in_run script range moves start moment is trail

pub returns-clause-sessions : goal.returns-clause-sessions
returns-clause-sessions c = λ script moves start moment range is trail. commands_sessions-in_run script range moves start moment is trail
