use Rattle.peer_service.proofs.PeerRowLemmas.{purged_rows}
use Rattle.peer_service.proofs.peer_state.PeerState.settle.Goals as goal

pub invariant_of-self : goal.invariant_of-self
invariant_of-self g c =
    purged_rows c.self.inside.epoch.0 _ (g.O.ObjStore.rows c.self.inside.store) (g.O.ObjStore.rows c.purge_below.new.self)
    c.purge_below.ensures.rows c.self.invariant
