use Rattle.std.proofs.Common.{◌-◌, sym, ap, subst, length, ◌∙◌, arith}
use Rattle.std.specs.Prelude.{unwrap_or}
use Rattle.cluster_script.specs.Settings.{zone_set}
use Rattle.cluster_script.specs.Marks.{MayBeMarked}
use Rattle.cluster_script.proofs.ScriptPlaces.{marked-at}
use Rattle.cluster_script.proofs.TableLemmas.{zone-step}
use Rattle.cluster_script.proofs.zone_table.zones_in.Goals as goal

pub note_zone-requires : goal.note_zone-requires
note_zone-requires c =
    subst MayBeMarked (sym c.index-statements-statements.is)
    (marked-at c.args.statements.now (length c.args.statements.now - 1 - c.loop-count.count) c.index-statements-statements.result c.requires
    (omega (arith, c.loop-count-test.true)))

pub loop-count-preserved : goal.loop-count-preserved
loop-count-preserved c = λ node within.
    c.note_zone.ensures node
    ∙ ap (λ zone. unwrap_or (zone_set node c.index-statements-statements.result) zone) (c.loop-count.invariant node within)
    ∙ zone-step c.args.statements.now c.loop-count.count node c.index-statements-statements.result c.loop-count-test.true
    c.index-statements-statements.is
