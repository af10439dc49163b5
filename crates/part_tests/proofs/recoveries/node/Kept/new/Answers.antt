use Rattle.std.proofs.Common.{sym, subst}
use Rattle.object_store.specs.Store.{OpenUpTo}
use Rattle.object_store.proofs.StoreLaws.{OpenUpTo-empty}
use Rattle.part_tests.proofs.recoveries.node.Kept.new.Goals as goal

pub invariant_of-result : goal.invariant_of-result
invariant_of-result c = subst (OpenUpTo c.args.epoch.0) (sym c.new.ensures) (OpenUpTo-empty c.args.epoch.0)
