use Rattle.overlap_law.proofs.LastReads.{last_reads-in_run}
use Rattle.overlap_law.proofs.OpeningReads.{reads_name}
use Rattle.overlap_law.proofs.OwnTables.{tables_stay_made}
use Rattle.overlap_law.proofs.works.own_entries_of_tables_stay_made.Goals as goal

pub returns : goal.returns
returns c = λ script moves start before after live good_id range ran trail change names calls own said.
    tables_stay_made script range moves start before after ran change good_id names
    (reads_name script range moves start before ran trail live calls own (last_reads-in_run script range moves start before ran trail))
    said
