use Rattle.std.proofs.Common.{sym, subst}
use Rattle.object_store.specs.Store.{OpenUpTo}
use Rattle.object_store.proofs.StoreLaws.{OpenUpTo-empty}
use Rattle.part_tests.proofs.peers.trial.fresh.Goals as goal

pub new-requires : goal.new-requires
new-requires c = subst (OpenUpTo 1) (sym c.new-store.ensures) (OpenUpTo-empty 1)
