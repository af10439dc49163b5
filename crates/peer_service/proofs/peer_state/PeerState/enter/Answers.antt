use Rattle.std.proofs.Common.{sym, subst, ap, ◌∙◌, List}
use Rattle.object_store.specs.declared.key.Key.{Key}
use Rattle.vnode_table.specs.Targets.{targets_in}
use Rattle.peer_service.specs.State.{Peer}
use Rattle.peer_service.specs.Epochs.{AreKept, peer_in_next_epoch}
use Rattle.peer_service.proofs.DropLemmas.{peer_of}
use Rattle.peer_service.proofs.EnteringLemmas.{entered_made}
use Rattle.peer_service.proofs.PeerRowLemmas.{advanced_rows}
use Rattle.peer_service.proofs.peer_state.PeerState.enter.Goals as goal

pub invariant_of-self : goal.invariant_of-self
invariant_of-self g c =
    advanced_rows c.self.inside.epoch.0 _ (g.O.ObjStore.rows c.self.inside.store) (g.O.ObjStore.rows c.advance.new.self) c.advance.ensures.rows c.self.invariant

pub returns-clause-ok : goal.returns-clause-ok
returns-clause-ok g c =
    let peer = peer_of c.self.inside.epoch.0 c.self.inside.settled.0 (g.O.ObjStore.rows c.self.inside.store) c.self.inside.pending c.self.inside.directory in
    let targets = targets_in c.args.place.now in
    let kept : AreKept c.as_slice.result.now c.args.me targets peer = subst (λ (keys : List Key). AreKept keys c.args.me targets peer) (sym c.as_slice.ensures.value)
    (subst (λ (of : Peer). AreKept c.in_ok-keys.keys.items c.args.me targets of) (sym c.self.view_is) c.in_ok-keys.ensures) in
    entered_made c.as_slice.result.now c.args.me targets peer (g.O.ObjStore.rows c.advance.new.self) kept c.advance.ensures.rows
    ∙ ap (peer_in_next_epoch c.args.me targets) c.self.view_is
