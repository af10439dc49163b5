-- The history of a node: the steps that it made, and that replaying their inputs gives them again.
use Rattle.std.specs.Prelude.{◌≡◌, ◌<◌, ℕ, List, [], ◌∷◌, Option, None, Some, All}
use Rattle.sheep_node.specs.declared.event.Event.{Event}
use Rattle.sheep_node.specs.declared.input.Input.{Input}
use Rattle.sheep_node.specs.declared.outputs.Outputs.{Outputs}
use Rattle.sheep_node.specs.State.{Node}
use Rattle.sheep_node.specs.Step.{node_step}
use Rattle.sheep_node.specs.May.{May}
use Rattle.live_cells.specs.declared.step.Step.{Step}

-- the step of a node at an event and on an input, with its stamp and those that were brought to it
abbrev pub made_step : ℕ → Event → Input → List ℕ → Node → Step
made_step stamp event input used node = record {
  stamp = stamp;
  event = event;
  input = Some input;
  outputs = (node_step input node).outputs;
  used = used;
}

-- a node might step on this input, and gives these outputs; every step of a node has its input
abbrev pub Gives : Option Input → Node → Outputs → Type 0
Gives None node outputs = ⊥
Gives (Some input) node outputs = May input node × (outputs ≡ (node_step input node).outputs)

-- a step is that of the node before it, and is above each stamp that was brought to it
pub record IsStepOf (before : Node) (step : Step) : Type 0 where
  pub given : Gives step.input before step.outputs
  pub above : All (λ stamp. stamp < step.stamp) step.used

-- the node behind a step
abbrev pub node_behind : Option Input → Node → Node
node_behind None node = node
node_behind (Some input) node = (node_step input node).node

-- replaying the steps' inputs from one node gives each step's outputs, and the other node
abbrev pub Replays : Node → List Step → Node → Type 0
Replays before [] after = before ≡ after
Replays before (step ∷ later) after = IsStepOf before step × Replays (node_behind step.input before) later after
