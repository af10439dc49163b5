use Rattle.std.proofs.Common.{◌≡◌, ◌+◌, ap, sym, subst, ◌∙◌, ◌∷◌, List, arith}
use Rattle.object_id.specs.declared.entry.Member.{Member}
use Rattle.vnode_table.specs.Epochs.{EpochMembers, is_entered}
use Rattle.epoch_log.specs.Epochs.{epoch_of}
use Rattle.hash_ring.specs.Placement.{AreWeighted}
use Rattle.sheep_node.specs.LogReading.{entered_in, epochs_up_to}
use Rattle.sheep_node.proofs.KeptLogs.{not_entered}
use Rattle.sheep_node.proofs.LogsRead.{weighted, epochs_next}
use Rattle.sheep_node.proofs.log_reading.placement_of.Goals as goal

pub loop-begun-init : goal.loop-begun-init
unfolding epochs_up_to
loop-begun-init c = c.new-place.ensures

pub enter-requires-clause-new : goal.enter-requires-clause-new
enter-requires-clause-new c =
    ap (λ (epochs : List EpochMembers). is_entered epochs (c.loop-begun.begun + 1)) c.loop-begun.invariant
    ∙ not_entered c.args.entries.now c.loop-begun.begun (c.loop-begun.begun + 1) (omega arith)

pub enter-requires-clause-members : goal.enter-requires-clause-members
enter-requires-clause-members c =
    let newest : c.epoch-begun-end.result.0 ≡ epoch_of c.args.entries.now = c.epoch-begun-end.ensures in
    subst AreWeighted (sym c.members.ensures)
    (weighted c.args.entries.now (c.loop-begun.begun + 1) c.requires.log (omega (arith, c.loop-begun-test.true)))

pub loop-begun-preserved : goal.loop-begun-preserved
loop-begun-preserved c =
    c.in_ok-enter.ensures.ok
    ∙ ap (λ (members : List Member). record { epoch = c.loop-begun.begun + 1; members = members } ∷ c.loop-begun.place) c.members.ensures
    ∙ ap (λ (epochs : List EpochMembers). entered_in c.args.entries.now (c.loop-begun.begun + 1) ∷ epochs) c.loop-begun.invariant
    ∙ sym (epochs_next c.args.entries.now c.loop-begun.begun)
