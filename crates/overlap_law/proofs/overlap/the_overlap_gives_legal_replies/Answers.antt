use Rattle.overlap_law.proofs.OverlapLemmas.{gives-legal}
use Rattle.overlap_law.proofs.overlap.the_overlap_gives_legal_replies.Goals as goal

pub returns : goal.returns
returns c = gives-legal
