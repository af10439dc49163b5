use Rattle.std.proofs.Common.{ap, sym, ◌∙◌, ◌∷◌, ◌++◌, [], ℕ, List, take}
use Rattle.std.proofs.lemmas.List.{take_more}
use Rattle.object_id.specs.declared.oid.Vid.{Vid}
use Rattle.vdi_directory.specs.Decisions.{log_effects}
use Rattle.vdi_directory.specs.Dead.{is_dead}
use Rattle.vdi_directory.specs.References.{has_vid}
use Rattle.peer_service.proofs.BackLemmas.{dead_next}
use Rattle.peer_service.proofs.log_reading.dead_disks.Goals as goal

pub loop-oid-init : goal.loop-oid-init
loop-oid-init c = λ vid. ap (λ (ids : List Vid). has_vid vid ids) c.new-dead.ensures.items

pub loop-oid-preserved : goal.loop-oid-preserved
loop-oid-preserved c =
    dead_next c.args.oids.now c.loop-oid.oid-index c.oid-item.result _ _ (is_dead (log_effects c.args.directory.now))
    (take_more c.args.oids.now c.loop-oid.oid-index c.oid-item.result c.loop-oid-test.true
    ∙ ap (λ (oid : ℕ). take c.loop-oid.oid-index c.args.oids.now ++ oid ∷ []) (sym c.oid-item.is))
    c.in_ok-add_dead.ensures c.loop-oid.invariant
