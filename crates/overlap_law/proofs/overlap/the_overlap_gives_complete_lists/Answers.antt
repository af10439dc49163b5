use Rattle.overlap_law.proofs.OverlapLemmas.{gives-complete}
use Rattle.overlap_law.proofs.overlap.the_overlap_gives_complete_lists.Goals as goal

pub returns : goal.returns
returns c = gives-complete
