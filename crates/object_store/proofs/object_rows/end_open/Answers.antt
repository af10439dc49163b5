use Rattle.std.proofs.Common.{◌≡◌, ◌∙◌, ◌-◌, ap, sym, slice_set, arith}
use Rattle.std.proofs.lemmas.List.{get_or_default}
use Rattle.object_store.specs.Rows.{closed, is_replaced}
use Rattle.object_store.proofs.RowLemmas.{ended_gone, ended_closed}
use Rattle.object_store.proofs.object_rows.end_open.Goals as goal

pub returns-then-is_replaced-clause-items : goal.returns-then-is_replaced-clause-items
returns-then-is_replaced-clause-items g c =
    c.truncate.ensures.items
    ∙ ended_gone c.args.epoch.0 c.args.rows.now.items (c.len-count.result - 1) c.index.result.now (omega arith) c.requires c.index.ensures (sym c.is_replaced.ensures ∙ c.if-is_replaced.true)

pub returns-else-is_replaced-clause-items : goal.returns-else-is_replaced-clause-items
returns-else-is_replaced-clause-items g c =
    let rows = c.args.rows.now.items in
    let read : c.index.result.now ≡ c.index_mut.result.now =
    c.index.ensures ∙ get_or_default rows (c.len-count.result - 1) _ _ (omega arith) ∙ sym c.index_mut.ensures.value in
    ap (slice_set rows (c.len-count.result - 1)) (c.close.ensures ∙ ap (λ last. closed last c.index_mut.result.now) c.saturating_sub.ensures)
    ∙ ended_closed c.args.epoch.0 rows (c.len-count.result - 1) c.index_mut.result.now (omega arith) c.requires c.index_mut.ensures.value
    (ap (is_replaced c.args.epoch.0) (sym read) ∙ sym c.is_replaced.ensures ∙ c.if-is_replaced.false)
