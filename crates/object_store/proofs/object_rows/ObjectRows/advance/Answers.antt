use Rattle.std.proofs.Common.{◌∙◌, ◌-◌, ap, slice_set, arith}
use Rattle.object_store.specs.Rows.{advanced_row, advanced}
use Rattle.object_store.proofs.RowLemmas.{map_last_at, advanced-same, orderly_set}
use Rattle.object_store.proofs.object_rows.ObjectRows.advance.Goals as goal

pub invariant_of-self : goal.invariant_of-self
invariant_of-self g c = orderly_set c.self.inside.rows.items (c.len-count.result - 1) _ (omega arith) c.self.invariant

pub returns-then-count-gt0 : goal.returns-then-count-gt0
returns-then-count-gt0 g c =
    let keeps = c.args.keeps.now in
    let next = c.args.next.0 in
    let oid = c.args.oid in
    let rows = c.self.inside.rows.items in
    ap (slice_set rows (c.len-count.result - 1)) c.advance_row.ensures
    ∙ map_last_at (advanced_row keeps next oid) (advanced-same keeps next oid) rows (c.len-count.result - 1) c.index_mut.result.now (omega arith) c.self.invariant c.index_mut.ensures.value
    ∙ ap (advanced keeps next oid) c.self.view_is
