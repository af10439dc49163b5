use Rattle.overlap_law.proofs.MakingInRuns.{tables_of_chain-on_the_way}
use Rattle.overlap_law.proofs.tables.own_entries_of_tables_are_made.Goals as goal

pub returns : goal.returns
returns c = λ script moves start moment range is trail. tables_of_chain-on_the_way script range moves start moment is trail
