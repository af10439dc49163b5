use Rattle.std.proofs.Common.{ap, sym, subst, ◌∙◌, ◌∷◌, ◌++◌, [], ℕ, List, take}
use Rattle.std.proofs.lemmas.List.{take_more}
use Rattle.std.specs.FinMap as tree
use Rattle.object_store.specs.declared.key.Key.{Key}
use Rattle.object_store.specs.Rows.{is_kept}
use Rattle.vnode_table.specs.Targets.{targets_in}
use Rattle.peer_service.specs.State.{Peer}
use Rattle.peer_service.specs.Epochs.{stays_open}
use Rattle.peer_service.proofs.EnteringLemmas.{KeptSoFar, all_taken, kept_next, kept_of_all}
use Rattle.peer_service.proofs.peer_state.PeerState.kept_keys.Goals as goal

pub loop-oid-init : goal.loop-oid-init
loop-oid-init g c = λ oid index. ap (λ (keys : List Key). is_kept keys oid index) c.new-keys.ensures.items

pub loop-oid-preserved : goal.loop-oid-preserved
loop-oid-preserved g c =
    let oids = c.as_slice-oid-items.result.now in
    kept_next c.args.me (targets_in c.args.place.now) c.args.self.now oids c.loop-oid.oid-index c.oid-item.result _ _ _
    (take_more oids c.loop-oid.oid-index c.oid-item.result c.loop-oid-test.true
    ∙ ap (λ (oid : ℕ). take c.loop-oid.oid-index oids ++ oid ∷ []) (sym c.oid-item.is))
    c.kept_index-index.ensures c.in_ok-add_key.ensures c.loop-oid.invariant

pub returns : goal.returns
returns g c =
    let targets = targets_in c.args.place.now in
    kept_of_all c.loop-oid.keys.items c.args.me targets c.args.self.now
    (subst (λ (oids : List ℕ). KeptSoFar c.loop-oid.keys.items oids (stays_open c.args.me targets c.args.self.now))
    (all_taken c.as_slice-oid-items.result.now c.loop-oid.oid-index c.loop-oid.auto.oid-index-end c.loop-oid-test.false ∙ c.as_slice-oid-items.ensures.value
    ∙ c.in_ok-objects.ensures ∙ ap (λ (peer : Peer). tree.keys peer.rows) c.self.view_is)
    c.loop-oid.invariant)
