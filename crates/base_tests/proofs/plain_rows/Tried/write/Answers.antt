use Rattle.std.proofs.Common.{sym, subst}
use Rattle.object_store.specs.Store.{OpenUpTo, write_at}
use Rattle.object_store.proofs.StoreLaws.{OpenUpTo-write, MakesSurely-keeps}
use Rattle.base_tests.proofs.plain_rows.Tried.write.Goals as goal

pub invariant_of-self-2 : goal.invariant_of-self-2
invariant_of-self-2 g c =
    let newest = c.self.inside.newest in
    let reserved = g.O.ObjStore.rows c.reserve_write.new.self in
    let had : OpenUpTo newest reserved = subst (OpenUpTo newest) (sym c.reserve_write.ensures.rows) c.self.invariant in
    MakesSurely-keeps (OpenUpTo newest) (write_at reserved c.args.key.now c.args.offset c.args.bytes.now) reserved (g.O.ObjStore.rows c.write.new.self) c.write.result had
    (λ all is. OpenUpTo-write newest reserved all c.args.key.now c.args.offset c.args.bytes.now had is) c.write.ensures.rows
