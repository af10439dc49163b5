use Rattle.std.proofs.Common.{get_or, ap, sym, ◌∙◌, arith, slice_set}
use Rattle.std.proofs.lemmas.List.Edits.{map_over_more}
use Rattle.std.proofs.lemmas.Grind.{get_or_default_zero}
use Rattle.vdi_ops.specs.Tables.{kept_entry}
use Rattle.vdi_ops.proofs.table.keep_entries.Goals as goal

pub loop-index-preserved : goal.loop-index-preserved
loop-index-preserved c =
    ap (slice_set c.loop-index.table c.loop-index.index) c.kept_entry.ensures
    ∙ map_over_more (kept_entry c.args.sorted.now) c.args.table.now c.loop-index.table c.loop-index.index
    (get_or c.loop-index.table c.loop-index.index 0) (omega (arith, c.loop-index-test.true)) c.loop-index.invariant
    (sym (get_or_default_zero c.loop-index.table c.loop-index.index (get_or c.loop-index.table c.loop-index.index 0) (omega (arith, c.loop-index-test.true, c.loop-index.auto.table))))
