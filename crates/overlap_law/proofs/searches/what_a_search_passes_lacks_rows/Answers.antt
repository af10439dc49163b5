use Rattle.overlap_law.proofs.PassedInRuns.{passed-on_the_way}
use Rattle.overlap_law.proofs.searches.what_a_search_passes_lacks_rows.Goals as goal

pub returns : goal.returns
returns c = λ script moves start moment good range is trail. passed-on_the_way script range moves start moment is trail good
