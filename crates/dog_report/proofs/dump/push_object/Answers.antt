use Rattle.std.proofs.Common.{List, map, ◌++◌, ap, ◌∙◌}
use Rattle.object_store.specs.Store.{rows_of}
use Rattle.dog_report.specs.Words.{Words}
use Rattle.dog_report.specs.Lists.{ordered_rows}
use Rattle.dog_report.specs.ListParts.{lines_text, summary_words}
use Rattle.dog_report.proofs.RowOrderLemmas.{map-summary_words}
use Rattle.dog_report.proofs.dump.push_object.Goals as goal

pub returns : goal.returns
returns g c =
    let node = c.args.node.0 in
    let rows = ordered_rows (rows_of (g.O.ObjStore.rows c.args.store.now) c.args.oid) in
    let lines = ap (map (summary_words node c.args.oid)) (c.as_slice.ensures.value ∙ c.in_ok-rows.ensures)
    ∙ map-summary_words node c.args.oid rows in
    c.in_ok-push_rows.ensures ∙ ap (λ (lines : List Words). c.args.text.now.items ++ lines_text lines) lines
