-- The course of a command: its acts, where its entries are so decided and its works give these bytes.
use Rattle.std.specs.Prelude.{ℕ, List, [], ◌∷◌, Option, Some, None}
use Rattle.inode.specs.Layout.{Content}
use Rattle.vdi_directory.specs.declared.effect.Effect.{Effect}
use Rattle.vdi_directory.specs.declared.decision.Decision.{Decision}
use Rattle.vdi_ops.specs.declared.act.OpAct.{OpAct}
use Rattle.vdi_ops.specs.Op.{Op, OpStep}
use Rattle.vdi_ops.specs.Steps.{on_decision, op_on_done}

-- what a command hears: how its entry was decided, or what its work gave
pub data OpInput : Type 0 where
  Decided : Decision → OpInput
  Given : List ℕ → OpInput

-- the step that a command makes on what it hears
abbrev pub goes_on : List Effect → Option Content → Op → OpInput → Option OpStep
goes_on known disk op (Decided decision) = on_decision known disk decision op
goes_on known disk op (Given bytes) = op_on_done bytes op

-- the acts from a step on, while the command hears this, one after the other, and the session has this inode open
unfoldable pub op_acts_from : List Effect → Option Content → Option OpStep → List OpInput → List OpAct
op_acts_from known disk None heard = []
op_acts_from known disk (Some step) [] = step.act ∷ []
op_acts_from known disk (Some step) (first ∷ later) = step.act ∷ op_acts_from known disk (goes_on known disk step.op first) later
