-- A cell stays that of its node, whatever is made of it, and its node may step as the test of the node tells.
use Rattle.std.proofs.Common.{◌≡◌, ℕ, List, Option, None, Some, true, false, sym, ap, subst, ◌∙◌}
use Rattle.object_id.specs.declared.node.NodeId.{NodeId}
use Rattle.sheep_node.specs.declared.event.Event.{Event}
use Rattle.sheep_node.specs.declared.input.Input.{Input}
use Rattle.sheep_node.specs.Step.{node_step}
use Rattle.sheep_node.specs.SpentNode.{NodeOrSpent}
use Rattle.sheep_node.specs.MayTests.{may}
use Rattle.live_cells.specs.Cell.{CellState, cell_after}
use Rattle.live_workers.specs.Cells.{IsCellOf, may_step}

-- of a spent one nothing is said
pub spent_cell : (cell : CellState) → cell.spent ≡ true → (number : ℕ) → IsCellOf number cell
spent_cell cell spent number live = absurd (cc)

pub same_cell : (old new : CellState) → new ≡ old → (number : ℕ) → IsCellOf number old → IsCellOf number new
same_cell old new same number of = subst (λ (cell : CellState). IsCellOf number cell) (sym same) of

-- behind a step of its node
pub stepped_cell : (stamp : ℕ) (event : Event) (input : Input) (used : List ℕ) (old new : CellState) → old.spent ≡ false
    → new ≡ cell_after stamp event input used old → (node_step input old.node).node.me ≡ old.node.me
    → (number : ℕ) → IsCellOf number old → IsCellOf number new
stepped_cell stamp event input used old new live made own number of after_live =
    ap (λ (cell : CellState). cell.node.me.0) made ∙ ap (λ (me : NodeId). me.0) own ∙ of live

-- what the step of a cell is shown by
pub ruleset step_rules = (spent_cell, same_cell, stepped_cell)

pub may_of_none : (input : Input) (cell : Option CellState) → cell ≡ None → may_step input cell ≡ false
may_of_none input cell none = ap (may_step input) none

pub may_of_one : (input : Input) (cell : Option CellState) (one : CellState) → cell ≡ Some one → may_step input cell ≡ may input one.node
may_of_one input cell one some = ap (may_step input) some

-- by the node that is seen in a cell that isn't spent
pub may_of_cell : (input : Input) (cell : Option CellState) (one : CellState) (seen : NodeOrSpent) → Some one ≡ cell
    → seen ≡ record { spent = false; node = one.node } → may_step input cell ≡ may input seen.node
may_of_cell input cell one seen some is =
    sym (ap (may_step input) some) ∙ sym (ap (λ (node : NodeOrSpent). may input node.node) is)
