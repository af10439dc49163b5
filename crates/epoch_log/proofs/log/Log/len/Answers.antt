use Rattle.std.proofs.Common.{arith}
use Rattle.epoch_log.proofs.MembersLemmas.{IsLog-some}
use Rattle.epoch_log.proofs.log.Log.len.Goals as goal

pub returns-clause-some : goal.returns-clause-some
returns-clause-some c = let e = IsLog-some c.self.inside.entries.items c.self.invariant.0 in omega arith
