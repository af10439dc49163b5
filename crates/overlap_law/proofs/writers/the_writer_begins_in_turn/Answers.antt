use Rattle.overlap_law.proofs.TurnsOfWriters.{writer_in_turn}
use Rattle.overlap_law.proofs.writers.the_writer_begins_in_turn.Goals as goal

pub returns : goal.returns
returns c = λ log wire attempts attempt one own. writer_in_turn log wire attempts attempt own one
