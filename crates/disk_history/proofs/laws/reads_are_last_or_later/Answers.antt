use Rattle.disk_history.proofs.LegalReads.{read_is_last_or_later, reads_exactly}
use Rattle.disk_history.proofs.laws.reads_are_last_or_later.Goals as goal

pub returns-clause-reads : goal.returns-clause-reads
returns-clause-reads c = read_is_last_or_later

pub returns-clause-exactly : goal.returns-clause-exactly
returns-clause-exactly c = reads_exactly
