use Rattle.std.proofs.Common.{sym, subst}
use Rattle.object_store.specs.Store.{OpenUpTo}
use Rattle.object_store.proofs.StoreLaws.{OpenUpTo-close_all}
use Rattle.base_tests.proofs.plain_rows.Tried.close_all.Goals as goal

pub invariant_of-self : goal.invariant_of-self
invariant_of-self g c =
    subst (OpenUpTo 0) (sym c.close_all.ensures.rows) (OpenUpTo-close_all 0 (g.O.ObjStore.rows c.self.inside.store) c.args.last)
