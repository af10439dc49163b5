use Rattle.peer_service.proofs.PeerRowLemmas.{dropped_rows}
use Rattle.peer_service.proofs.peer_state.PeerState.drop_disks.Goals as goal

pub invariant_of-self : goal.invariant_of-self
invariant_of-self g c =
    dropped_rows c.self.inside.epoch.0 _ (g.O.ObjStore.rows c.self.inside.store) (g.O.ObjStore.rows c.drop_rows.new.store)
    c.drop_rows.ensures c.self.invariant
