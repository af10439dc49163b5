use Rattle.std.proofs.Common.{sym, subst}
use Rattle.object_store.specs.Store.{OpenUpTo}
use Rattle.object_store.proofs.StoreLaws.{OpenUpTo-purge}
use Rattle.base_tests.proofs.plain_rows.Tried.purge_below.Goals as goal

pub invariant_of-self : goal.invariant_of-self
invariant_of-self g c =
    subst (OpenUpTo c.self.inside.newest) (sym c.purge_below.ensures.rows)
    (OpenUpTo-purge c.self.inside.newest (g.O.ObjStore.rows c.self.inside.store) c.args.settled c.self.invariant)
