use Rattle.std.proofs.Common.{sym, subst}
use Rattle.object_store.specs.Store.{OpenUpTo}
use Rattle.object_store.proofs.StoreLaws.{OpenUpTo-empty}
use Rattle.run_tests.proofs.lines.fresh.Goals as goal

pub new-requires : goal.new-requires
new-requires c = subst (OpenUpTo 1) (sym c.new-store.ensures) (OpenUpTo-empty 1)
