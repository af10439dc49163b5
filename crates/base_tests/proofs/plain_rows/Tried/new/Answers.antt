use Rattle.std.proofs.Common.{sym, subst}
use Rattle.object_store.specs.Store.{OpenUpTo}
use Rattle.object_store.proofs.StoreLaws.{OpenUpTo-empty}
use Rattle.base_tests.proofs.plain_rows.Tried.new.Goals as goal

pub invariant_of-result : goal.invariant_of-result
invariant_of-result g c = subst (OpenUpTo 0) (sym c.requires) (OpenUpTo-empty 0)
