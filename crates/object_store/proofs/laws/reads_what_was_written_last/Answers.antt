use Rattle.object_store.proofs.CallLaws.{read-rows_after}
use Rattle.object_store.proofs.laws.reads_what_was_written_last.Goals as goal

pub returns : goal.returns
returns c = read-rows_after
