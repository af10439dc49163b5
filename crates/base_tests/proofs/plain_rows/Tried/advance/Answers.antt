use Rattle.std.proofs.Common.{sym, subst}
use Rattle.object_store.specs.Store.{OpenUpTo}
use Rattle.object_store.proofs.StoreLaws.{OpenUpTo-advance}
use Rattle.base_tests.proofs.plain_rows.Tried.advance.Goals as goal

pub invariant_of-self : goal.invariant_of-self
invariant_of-self g c =
    subst (OpenUpTo c.self.inside.newest) (sym c.advance.ensures.rows)
    (OpenUpTo-advance c.self.inside.newest (g.O.ObjStore.rows c.self.inside.store) c.args.keeps.now c.args.next c.self.invariant)
