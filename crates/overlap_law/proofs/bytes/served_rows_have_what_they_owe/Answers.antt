use Rattle.overlap_law.proofs.ServedUnits.{created-has, written-has}
use Rattle.overlap_law.proofs.bytes.served_rows_have_what_they_owe.Goals as goal

pub returns-clause-created : goal.returns-clause-created
returns-clause-created c =
    λ oid policy attempts hosts k attempt node index end served_to size offset piece there loud work is covering owes.
    created-has oid policy attempts hosts k attempt there loud node index end served_to size offset piece work is covering owes

pub returns-clause-written : goal.returns-clause-written
returns-clause-written c =
    λ oid policy attempts hosts k attempt node index end served_to offset piece row there loud work is units fits owes had.
    written-has oid policy attempts hosts k attempt there loud node index end served_to offset piece work is units row fits owes had
