use Rattle.recovery.proofs.StepLemmas.{begun_hears_nothing, end_of_older, end_of_ended}
use Rattle.recovery.proofs.laws.old_messages_only_become_answered.Goals as goal

pub returns : goal.returns
returns c = record { begin = begun_hears_nothing; older = end_of_older; over = end_of_ended }
