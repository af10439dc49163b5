use Rattle.overlap_law.proofs.OpenTables.{entries_of_chain, whole_tables}
use Rattle.overlap_law.proofs.works.tables_are_of_the_chain.Goals as goal

pub returns : goal.returns
returns c = record {
  chain = λ script moves start moment range ran trail. entries_of_chain script range moves start moment ran trail;
  whole = λ script moves start moment range ran trail. whole_tables script range moves start moment ran trail;
}
