use Rattle.overlap_law.proofs.GrantsOfCommands.{grants-in_run}
use Rattle.overlap_law.proofs.writers.commands_keep_their_grants.Goals as goal

pub returns : goal.returns
returns c = λ script moves start moment range is trail. grants-in_run script range moves start moment is trail
