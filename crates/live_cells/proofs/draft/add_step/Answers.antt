use Rattle.std.proofs.Common.{◌≡◌, List, [], ◌∷◌, ◌++◌, ap, sym, subst, ◌∙◌}
use Rattle.sheep_node.specs.SpentNode.{NodeOrSpent}
use Rattle.sheep_node.specs.State.{Node}
use Rattle.live_cells.specs.declared.step.Step.{Step}
use Rattle.live_cells.specs.Opening.{opening_node}
use Rattle.live_cells.specs.History.{made_step}
use Rattle.live_cells.specs.Cell.{IsCell}
use Rattle.live_cells.proofs.CellLemmas.{cell_stays, opening_stays}
use Rattle.live_cells.proofs.draft.add_step.Goals as goal

pub returns-clause-cell : goal.returns-clause-cell
returns-clause-cell c =
    let made : Step = made_step c.args.stamp c.args.draft.event c.args.draft.input c.args.draft.used c.args.node.now.node in
    let steps : c.push.new.self.items ≡ c.args.steps.now.items ++ made ∷ []
    = c.in_ok-push.ensures.items ∙ ap (λ (step : Step). c.args.steps.now.items ++ step ∷ []) c.in_ok-step.ensures.step in
    subst (λ (steps : List Step). IsCell c.args.has_read c.step_of.new.node.node steps) (sym steps)
    (subst (λ (seen : NodeOrSpent). IsCell c.args.has_read seen.node (c.args.steps.now.items ++ made ∷ [])) (sym c.in_ok-step.ensures.node)
    (cell_stays c.args.has_read c.args.node.now.node c.args.steps.now.items c.args.stamp c.args.draft.event c.args.draft.input
    c.args.draft.used c.requires.may c.requires.above c.requires.cell))

pub returns-clause-opening : goal.returns-clause-opening
returns-clause-opening c =
    ap (λ (seen : NodeOrSpent). opening_node c.args.has_read seen.node) c.in_ok-step.ensures.node
    ∙ opening_stays c.args.draft.input c.args.node.now.node c.requires.may c.requires.cell.one_work c.args.has_read c.requires.cell.read
