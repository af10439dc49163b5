use Rattle.std.proofs.Common.{◌∙◌, ◌-◌, ap, sym, cond, Some, None, arith}
use Rattle.object_store.specs.Rows.{open_at}
use Rattle.object_store.proofs.RowLemmas.{open_last_at}
use Rattle.object_store.proofs.object_rows.ObjectRows.open_row.Goals as goal

pub returns-then-is_open_row : goal.returns-then-is_open_row
returns-then-is_open_row g c =
    sym (ap (open_at c.args.index) (sym c.self.view_is)
    ∙ open_last_at c.args.index c.self.inside.rows.items (c.len-count.result - 1) c.index-last.result.now (omega arith) c.self.invariant c.index-last.ensures
    ∙ ap (λ b. cond b (Some c.index-last.result.now) None) (sym c.is_open_row.ensures ∙ c.if-is_open_row.true))

pub returns-else-is_open_row : goal.returns-else-is_open_row
returns-else-is_open_row g c =
    sym (ap (open_at c.args.index) (sym c.self.view_is)
    ∙ open_last_at c.args.index c.self.inside.rows.items (c.len-count.result - 1) c.index-last.result.now (omega arith) c.self.invariant c.index-last.ensures
    ∙ ap (λ b. cond b (Some c.index-last.result.now) None) (sym c.is_open_row.ensures ∙ c.if-is_open_row.false))
