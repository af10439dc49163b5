use Rattle.std.proofs.Common.{List, ℕ, flat_map, ◌++◌, ap, ◌∙◌}
use Rattle.object_store.specs.Store.{rows_of}
use Rattle.dog_report.specs.Words.{Words}
use Rattle.dog_report.specs.ListParts.{lines_text, object_rows}
use Rattle.dog_report.proofs.ListLemmas.{stored_rows-keys}
use Rattle.dog_report.proofs.dump.push_stored.Goals as goal

pub loop-oid-init : goal.loop-oid-init
loop-oid-init g c =
    let all = g.O.ObjStore.rows c.args.store.now in
    let node = c.args.node.0 in
    ap (λ (lines : List Words). c.args.text.now.items ++ lines_text lines)
    (ap (λ (oids : List ℕ). flat_map (λ oid. object_rows node oid (rows_of all oid)) oids)
    (c.as_slice-oids.ensures.value ∙ c.in_ok-objects.ensures)
    ∙ stored_rows-keys node all)
