-- A history goes on by a step, and what it says of its first one.
use Rattle.std.proofs.Common.{◌≡◌, ℕ, ◌<◌, List, [], ◌∷◌, ◌++◌, All, Option, Some, sym, ap, subst}
use Rattle.sheep_node.specs.declared.input.Input.{Input}
use Rattle.sheep_node.specs.State.{Node}
use Rattle.sheep_node.specs.Step.{node_step}
use Rattle.live_cells.specs.declared.step.Step.{Step}
use Rattle.live_cells.specs.History.{Gives, IsStepOf, node_behind, Replays}

pub replays_more : (before : Node) (steps : List Step) (node : Node) (step : Step) → Replays before steps node → IsStepOf node step
    → Replays before (steps ++ step ∷ []) (node_behind step.input node)
replays_more before [] node step is next = (subst (λ (node : Node). IsStepOf node step) (sym is) next, ap (node_behind step.input) is)
replays_more before (first ∷ later) node step is next = (is.0, replays_more (node_behind first.input before) later node step is.1 next)

-- what replaying says of the first step
pub first_gives : (before after : Node) (step : Step) (later : List Step) (input : Input) → Replays before (step ∷ later) after
    → step.input ≡ Some input
    → (step.outputs ≡ (node_step input before).outputs) × All (λ (stamp : ℕ). stamp < step.stamp) step.used
    × Replays (node_step input before).node later after
first_gives before after step later input is has = (
  (subst (λ (given : Option Input). Gives given before step.outputs) has is.0.given).1,
  is.0.above,
  subst (λ (given : Option Input). Replays (node_behind given before) later after) has is.1,
)
