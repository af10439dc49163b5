use Rattle.std.proofs.Common.{arith}
use Rattle.object_store.specs.Store.{create_at, OpenUpTo}
use Rattle.object_store.proofs.StoreLaws.{Makes-keeps, OpenUpTo-create}
use Rattle.peer_service.proofs.peer_state.PeerState.make_row.Goals as goal

pub invariant_of-self : goal.invariant_of-self
invariant_of-self g c =
    let epoch = c.self.inside.epoch.0 in
    let rows = g.O.ObjStore.rows c.self.inside.store in
    Makes-keeps (OpenUpTo epoch) (create_at rows c.args.key.now epoch c.args.size c.args.offset c.args.bytes.now) rows
    (g.O.ObjStore.rows c.create.new.self) c.create.result c.self.invariant
    (λ all is. OpenUpTo-create epoch rows all c.args.key.now epoch c.args.size c.args.offset c.args.bytes.now (omega arith) c.self.invariant is) c.create.ensures.rows
