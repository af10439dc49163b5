use Rattle.std.proofs.Common.{Err}
use Rattle.std.proofs.lemmas.List.Sorted.{searched}
use Rattle.vdi_ops.proofs.IdLemmas.{found_nowhere}
use Rattle.vdi_ops.proofs.table.kept_entry.Goals as goal

pub returns-in-Err : goal.returns-in-Err
returns-in-Err c =
    let found = searched c.args.sorted.now c.args.entry (Err c.in-Err.field-0) c.in-Err.ensures.position (λ i j below within. c.requires i j 0 below within) in
    found_nowhere c.args.sorted.now c.args.entry c.in-Err.field-0 found.1 found.2
