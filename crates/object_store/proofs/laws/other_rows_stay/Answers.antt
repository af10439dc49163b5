use Rattle.object_store.proofs.CallLaws.{row_stays}
use Rattle.object_store.proofs.laws.other_rows_stay.Goals as goal

pub returns : goal.returns
returns c = row_stays
