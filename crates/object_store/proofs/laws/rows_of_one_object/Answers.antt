use Rattle.object_store.proofs.StoreLaws.{rows_of-insert_same, rows_of-insert_other, rows_of-each}
use Rattle.object_store.proofs.laws.rows_of_one_object.Goals as goal

pub returns : goal.returns
returns c = record { same = rows_of-insert_same; other = rows_of-insert_other; each = rows_of-each }
