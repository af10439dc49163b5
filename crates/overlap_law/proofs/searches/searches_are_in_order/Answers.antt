use Rattle.overlap_law.proofs.FirstSearchesInRuns.{listing-on_the_way, search_first-on_the_way}
use Rattle.overlap_law.proofs.searches.searches_are_in_order.Goals as goal

pub returns-clause-listing : goal.returns-clause-listing
returns-clause-listing c = λ script moves start moment range is trail. listing-on_the_way script range moves start moment is trail

pub returns-clause-first : goal.returns-clause-first
returns-clause-first c = λ script moves start moment range is trail. search_first-on_the_way script range moves start moment is trail
