use Rattle.vdi_directory.proofs.HolderLemmas.{stays-held, taken-is-free, taken-by-entry, stays-held-later}
use Rattle.vdi_directory.proofs.laws.three_effects_take_a_disk.Goals as goal

pub returns-clause-stays : goal.returns-clause-stays
returns-clause-stays c = stays-held

pub returns-clause-goes : goal.returns-clause-goes
returns-clause-goes c = taken-is-free

pub returns-clause-by_entry : goal.returns-clause-by_entry
returns-clause-by_entry c = taken-by-entry

pub returns-clause-later : goal.returns-clause-later
returns-clause-later c = stays-held-later
