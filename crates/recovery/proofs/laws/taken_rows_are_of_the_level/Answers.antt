use Rattle.std.proofs.Common.{refl}
use Rattle.recovery.proofs.TakenLemmas.{found_at_targets, taken_were_found, taken_are_as_many}
use Rattle.recovery.proofs.laws.taken_rows_are_of_the_level.Goals as goal

pub returns : goal.returns
returns c = record { found = found_at_targets; taken = taken_were_found; count = taken_are_as_many; strips = λ d p rows. refl }
