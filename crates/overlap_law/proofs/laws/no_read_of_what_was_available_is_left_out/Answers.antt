use Rattle.overlap_law.proofs.RunLemmas.{nothing-left_out}
use Rattle.overlap_law.proofs.laws.no_read_of_what_was_available_is_left_out.Goals as goal

pub returns : goal.returns
returns c = nothing-left_out
