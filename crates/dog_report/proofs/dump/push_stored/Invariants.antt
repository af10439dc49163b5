use Rattle.std.proofs.Common.{◌≡◌, ◌++◌, drop, flat_map}
use Rattle.object_store.specs.Store.{rows_of}
use Rattle.dog_report.specs.ListParts.{lines_text, object_rows, stored_rows}
use Rattle.dog_report.proofs.dump.push_stored.Given as goal

-- what was added, with the lines of the objects that are left, is all of them
abbrev pub invariant-loop-oid : goal.invariant-loop-oid
invariant-loop-oid g l =
    l.text.items
    ++ lines_text (flat_map (λ oid. object_rows l.node.0 oid (rows_of (g.O.ObjStore.rows l.store) oid)) (drop l.oid-index l.oids))
    ≡ l.fn.text.items ++ lines_text (stored_rows l.node.0 (g.O.ObjStore.rows l.store))
