use Rattle.std.proofs.Common.{sym, subst, ap, ◌∙◌, List}
use Rattle.vdi_directory.specs.declared.effect.Effect.{Effect}
use Rattle.vdi_directory.specs.DirectoryState.{AreLocks}
use Rattle.peer_service.specs.State.{effects_of}
use Rattle.peer_service.specs.LogReading.{without_objects, read_entry}
use Rattle.peer_service.proofs.DropLemmas.{peer_of, read_made}
use Rattle.peer_service.proofs.peer_state.PeerState.read_entry.Goals as goal

pub returns-clause-ok : goal.returns-clause-ok
returns-clause-ok g c =
    let epoch = c.self.inside.epoch.0 in
    let settled = c.self.inside.settled.0 in
    let rows = g.O.ObjStore.rows c.self.inside.store in
    let pending = c.self.inside.pending in
    read_made c.in_ok-dead.dead.items c.as_slice.result.now c.args.entry.now (peer_of epoch settled rows pending c.self.inside.directory)
    (peer_of epoch settled rows pending c.read_entry.new.self) c.drop_disks.new.self
    (ap (peer_of epoch settled rows pending) c.in_ok-decision.ensures.ok) c.as_slice.ensures.value c.in_ok-dead.ensures.dead c.drop_disks.ensures
    ∙ ap (read_entry c.args.entry.now) c.self.view_is

pub returns-clause-locks : goal.returns-clause-locks
unfolding without_objects
returns-clause-locks g c =
    subst (λ (effects : List Effect). AreLocks effects c.read_entry.new.locks) (sym (ap effects_of c.drop_disks.ensures)) c.in_ok-decision.ensures.locks
