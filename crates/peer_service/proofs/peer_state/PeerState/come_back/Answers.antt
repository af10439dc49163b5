use Rattle.std.proofs.Common.{sym, subst, ap, ◌∙◌, List, ℕ}
use Rattle.std.specs.FinMap as tree
use Rattle.object_id.specs.declared.oid.Vid.{Vid}
use Rattle.object_store.specs.Store.{OpenUpTo}
use Rattle.vdi_directory.specs.Decisions.{log_effects}
use Rattle.vdi_directory.specs.Dead.{is_dead}
use Rattle.peer_service.specs.Back.{come_back}
use Rattle.peer_service.proofs.BackLemmas.{log_reservable, DeadSoFar, back_made}
use Rattle.peer_service.proofs.DropLemmas.{is_of_disk, peer_of}
use Rattle.peer_service.proofs.PeerRowLemmas.{closed_rows}
use Rattle.peer_service.proofs.peer_state.PeerState.come_back.Goals as goal

pub directory_of-requires : goal.directory_of-requires
directory_of-requires g c = log_reservable c.args.entries.now c.requires.log

pub invariant_of-self : goal.invariant_of-self
invariant_of-self g c =
    let goes = is_of_disk c.as_slice-2.result.now in
    let level = c.settled-level.result.0 in
    subst (OpenUpTo c.epoch-newest.result.0) (sym c.close_rows.ensures)
    (closed_rows c.epoch-newest.result.0 c.self.inside.epoch.0 level goes (g.O.ObjStore.rows c.self.inside.store))

pub returns-clause-ok : goal.returns-clause-ok
returns-clause-ok g c =
    let goes = is_of_disk c.as_slice-2.result.now in
    let level = c.settled-level.result.0 in
    let dead_there = subst (λ (oids : List ℕ). DeadSoFar c.in_ok-dead.dead.items oids (is_dead (log_effects c.in_ok-directory.directory))) (c.as_slice.ensures.value ∙ c.in_ok-objects.ensures) c.in_ok-dead.ensures in
    let dead_gone = subst (λ (vids : List Vid). DeadSoFar vids (tree.keys (g.O.ObjStore.rows c.self.inside.store)) (is_dead (log_effects c.in_ok-directory.directory))) (sym c.as_slice-2.ensures.value) dead_there in
    back_made c.args.entries.now c.in_ok-directory.directory
    (peer_of c.self.inside.epoch.0 c.self.inside.settled.0 (g.O.ObjStore.rows c.self.inside.store) c.self.inside.pending c.self.inside.directory)
    c.as_slice-2.result.now c.epoch-newest.result.0 level (g.O.ObjStore.rows c.close_rows.new.store) c.new.result
    c.epoch-newest.ensures c.settled-level.ensures c.in_ok-directory.ensures.directory c.new.ensures c.close_rows.ensures dead_gone
    ∙ ap (come_back c.args.entries.now) c.self.view_is
