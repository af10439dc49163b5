use Rattle.std.proofs.Common.{◌≡◌, ℕ, List, sym, ap, subst, ◌∙◌}
use Rattle.std.specs.Prelude.{IfOk, OnOk}
use Rattle.sheep_node.specs.May.{May}
use Rattle.live_cells.specs.declared.draft.Draft.{Draft}
use Rattle.live_cells.specs.Cell.{CellState, opening_of, cell_after}
use Rattle.live_cells.proofs.node_cell.NodeCell.act.Goals as goal

pub act_by-requires-clause-live : goal.act_by-requires-clause-live
act_by-requires-clause-live g c = λ lifetimes outlive. (ap (λ (cell : CellState). cell.spent) c.in-Ok.ensures.ok ∙ c.requires.live)

pub act_by-requires-clause-may : goal.act_by-requires-clause-may
act_by-requires-clause-may g c = λ lifetimes outlive.
    subst (λ (draft : Draft). May draft.input c.draft.new.self.node) (sym c.in-Ok.ensures.draft)
    (subst (λ (cell : CellState). May c.args.input cell.node) (sym c.in-Ok.ensures.ok) c.requires.may)

pub act_by-requires-clause-kept : goal.act_by-requires-clause-kept
act_by-requires-clause-kept g c = λ lifetimes outlive.
    (ap (λ (draft : Draft). draft.kept) c.in-Ok.ensures.draft ∙ sym (ap (λ (draft : Draft). draft.input) c.in-Ok.ensures.draft))

pub act_by-requires-clause-used : goal.act_by-requires-clause-used
act_by-requires-clause-used g c = λ lifetimes outlive.
    (ap (λ (draft : Draft). draft.used) c.in-Ok.ensures.draft ∙ c.as_slice.ensures.value)

pub returns-in-Ok-clause-step : goal.returns-in-Ok-clause-step
returns-in-Ok-clause-step g c =
    let own = c.in-Ok.ensures in
    subst (λ (cell : CellState). IfOk c.act_by.result (λ stamp. c.act_by.new.self
    ≡ cell_after stamp c.args.event c.args.input c.args.brought.now.items cell)) own.ok
    (subst (λ (used : List ℕ). IfOk c.act_by.result (λ stamp. c.act_by.new.self
    ≡ cell_after stamp c.args.event c.args.input used c.draft.new.self)) c.as_slice.ensures.value
    (subst (λ (draft : Draft). IfOk c.act_by.result (λ stamp. c.act_by.new.self
    ≡ cell_after stamp draft.event draft.input draft.used c.draft.new.self)) own.draft c.act_by.ensures.step))

pub returns-in-Ok-clause-opening : goal.returns-in-Ok-clause-opening
returns-in-Ok-clause-opening g c =
    subst (λ (cell : CellState). OnOk c.act_by.result (opening_of c.act_by.new.self ≡ opening_of cell)) c.in-Ok.ensures.ok
    c.act_by.ensures.opening

pub returns-in-Ok-clause-unchanged : goal.returns-in-Ok-clause-unchanged
returns-in-Ok-clause-unchanged g c = λ spent. (c.act_by.ensures.unchanged spent ∙ c.in-Ok.ensures.ok)
