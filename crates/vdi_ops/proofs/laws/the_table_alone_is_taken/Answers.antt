use Rattle.vdi_ops.proofs.TableLemmas.{table_counts, kept_stays, table_length, table_read}
use Rattle.vdi_ops.proofs.laws.the_table_alone_is_taken.Goals as goal

pub returns-clause-entries : goal.returns-clause-entries
returns-clause-entries c = table_counts

pub returns-clause-stays : goal.returns-clause-stays
returns-clause-stays c = kept_stays

pub returns-clause-count : goal.returns-clause-count
returns-clause-count c = table_length

pub returns-clause-table : goal.returns-clause-table
returns-clause-table c = table_read
