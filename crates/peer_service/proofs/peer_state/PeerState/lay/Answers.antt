use Rattle.std.proofs.Common.{sym, subst}
use Rattle.object_store.specs.Store.{write_at, OpenUpTo}
use Rattle.object_store.proofs.StoreLaws.{MakesSurely-keeps, OpenUpTo-write}
use Rattle.peer_service.proofs.peer_state.PeerState.lay.Goals as goal

pub invariant_of-self-2 : goal.invariant_of-self-2
invariant_of-self-2 g c =
    let epoch = c.self.inside.epoch.0 in
    let reserved = g.O.ObjStore.rows c.reserve_write-room.new.self in
    let had : OpenUpTo epoch reserved = subst (OpenUpTo epoch) (sym c.reserve_write-room.ensures.rows) c.self.invariant in
    MakesSurely-keeps (OpenUpTo epoch) (write_at reserved c.args.key.now c.args.offset c.args.bytes.now) reserved (g.O.ObjStore.rows c.write.new.self)
    c.write.result had
    (λ all is. OpenUpTo-write epoch reserved all c.args.key.now c.args.offset c.args.bytes.now had is) c.write.ensures.rows
