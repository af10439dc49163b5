use Rattle.overlap_law.proofs.HolderLemmas.{gives-holders}
use Rattle.overlap_law.proofs.overlap.the_overlap_gives_holders.Goals as goal

pub returns : goal.returns
returns c = gives-holders
