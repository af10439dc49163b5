use Rattle.object_id.proofs.FieldLemmas.{u16-below, u32-below, u64-below}
use Rattle.object_id.proofs.laws.read_numbers_fit.Goals as goal

pub returns-clause-two : goal.returns-clause-two
returns-clause-two c = u16-below

pub returns-clause-four : goal.returns-clause-four
returns-clause-four c = u32-below

pub returns-clause-eight : goal.returns-clause-eight
returns-clause-eight c = u64-below
