use Rattle.std.proofs.Common.{arith}
use Rattle.object_store.specs.Store.{OpenUpTo, create_at}
use Rattle.object_store.proofs.StoreLaws.{OpenUpTo-create, OpenUpTo-later, Makes-keeps}
use Rattle.base_tests.proofs.plain_rows.Tried.create_long.Goals as goal

pub create-requires : goal.create-requires
create-requires g c = OpenUpTo-later c.self.inside.newest c.max-from.result (g.O.ObjStore.rows c.self.inside.store) (omega arith) c.self.invariant c.args.key.now.oid

pub invariant_of-self : goal.invariant_of-self
invariant_of-self g c =
    let from = c.max-from.result in
    let rows = g.O.ObjStore.rows c.self.inside.store in
    let had : OpenUpTo from rows = OpenUpTo-later c.self.inside.newest from rows (omega arith) c.self.invariant in
    Makes-keeps (OpenUpTo from) (create_at rows c.args.key.now from c.args.length c.args.offset c.args.bytes.now) rows (g.O.ObjStore.rows c.create.new.self) c.create.result had
    (λ all is. OpenUpTo-create from rows all c.args.key.now from c.args.length c.args.offset c.args.bytes.now (omega arith) had is) c.create.ensures.rows
