use Rattle.std.proofs.Common.{sym, subst}
use Rattle.object_store.specs.Store.{OpenUpTo}
use Rattle.object_store.proofs.StoreLaws.{OpenUpTo-drop_vid}
use Rattle.base_tests.proofs.plain_rows.Tried.drop_vid.Goals as goal

pub invariant_of-self : goal.invariant_of-self
invariant_of-self g c =
    subst (OpenUpTo c.self.inside.newest) (sym c.drop_vid.ensures.rows)
    (OpenUpTo-drop_vid c.self.inside.newest (g.O.ObjStore.rows c.self.inside.store) c.args.vid c.self.invariant)
