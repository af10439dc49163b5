use Rattle.std.proofs.Common.{◌∙◌, ◌-◌, ap, slice_set, arith}
use Rattle.object_store.specs.Rows.{closed, closed_all}
use Rattle.object_store.proofs.RowLemmas.{map_last_at, closed-same, orderly_set}
use Rattle.object_store.proofs.object_rows.ObjectRows.close_all.Goals as goal

pub invariant_of-self : goal.invariant_of-self
invariant_of-self g c = orderly_set c.self.inside.rows.items (c.len-count.result - 1) _ (omega arith) c.self.invariant

pub returns-then-count-gt0 : goal.returns-then-count-gt0
returns-then-count-gt0 g c =
    let last = c.args.last.0 in
    let rows = c.self.inside.rows.items in
    ap (slice_set rows (c.len-count.result - 1)) c.close.ensures
    ∙ map_last_at (closed last) (closed-same last) rows (c.len-count.result - 1) c.index_mut.result.now (omega arith) c.self.invariant c.index_mut.ensures.value
    ∙ ap (closed_all last) c.self.view_is
