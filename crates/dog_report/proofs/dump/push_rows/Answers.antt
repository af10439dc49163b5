use Rattle.dog_report.specs.ListParts.{summary_words}
use Rattle.dog_report.proofs.ListLemmas.{line-at}
use Rattle.dog_report.proofs.dump.push_rows.Goals as goal

pub loop-row-preserved : goal.loop-row-preserved
loop-row-preserved c =
    line-at (summary_words c.args.node.0 c.args.oid) c.args.rows.now c.loop-row.row-index _ _ _ _ c.loop-row-test.true
    c.in_ok-push_row.ensures c.loop-row.invariant
