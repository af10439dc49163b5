use Rattle.std.proofs.Common.{arith}
use Rattle.vdi_directory.proofs.StateLemmas.{free_id-is}
use Rattle.vdi_directory.proofs.FreeLemmas.{none-free, free-is-first}
use Rattle.vdi_directory.proofs.laws.a_free_id_is_the_first.Goals as goal

pub returns-clause-unused : goal.returns-clause-unused
returns-clause-unused c = λ name used vid is. (let id = free_id-is name used vid is in ((id.0, omega (arith, id.1)), id.2))

pub returns-clause-none : goal.returns-clause-none
returns-clause-none c = λ name used none vid id. none-free name used none vid id.0 (omega (arith, id.1))

pub returns-clause-ahead : goal.returns-clause-ahead
returns-clause-ahead c = λ name used vid is above. (free-is-first name used vid is).0 above

pub returns-clause-round : goal.returns-clause-round
returns-clause-round c = λ name used vid is below. (free-is-first name used vid is).1 below
