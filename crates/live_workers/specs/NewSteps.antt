-- The steps that are merged, and those that aren't yet.
use Rattle.std.specs.Prelude.{◌+◌, ◌-◌, ◌⊎◌, ℕ, List, replicate}
use Rattle.object_id.specs.declared.limits.TheConstants.{NODES_MAX}
use Rattle.sheep_node.specs.State.{Node}
use Rattle.live_cells.specs.declared.step.Step.{Step}
use Rattle.live_cells.specs.History.{IsStepOf}
use Rattle.live_workers.specs.OtherSteps.{IsOther}

-- how many steps of each cell, by its node's number, and of the others are merged
pub record MergedSteps : Type 0 where
  pub cells : List ℕ
  pub others : ℕ

abbrev pub nothing_merged : MergedSteps
nothing_merged = record { cells = replicate NODES_MAX 0; others = 0 }

-- how many steps there are behind those that are merged
abbrev pub steps_since : ℕ → ℕ → ℕ
steps_since merged count = count - merged

-- the step of a node, or one at which no node stepped: so it is above each stamp that was brought to it
abbrev pub IsKept : Step → Type 0
IsKept step = ((before : Node) × IsStepOf before step) ⊎ IsOther step
