-- What a line makes of a node: it opens one, or the node steps.
use Rattle.std.specs.Prelude.{◌≡◌, ◌⊎◌, ℕ, false, true}
use Rattle.object_id.specs.declared.node.NodeId.{NodeId}
use Rattle.sheep_node.specs.declared.input.Input.{Input}
use Rattle.sheep_node.specs.State.{initial_node}
use Rattle.sheep_node.specs.Step.{node_step}
use Rattle.sheep_node.specs.May.{May}
use Rattle.sheep_node.specs.SpentNode.{NodeOrSpent}
use Rattle.step_text.specs.declared.fault.Fault.{Fault}
use Rattle.step_text.specs.declared.fault.Fault.TheVariants.{NoMemory}

-- a node opens
pub record HasOpened (now : NodeOrSpent) : Type 0 where
  pub me : NodeId
  pub tries : ℕ
  pub opens : now ≡ record { spent = false; node = initial_node me tries }

-- the node makes a step that it may take
pub record HasMadeStep (old now : NodeOrSpent) : Type 0 where
  pub input : Input
  pub live : old.spent ≡ false
  pub may : May input old.node
  pub steps : now ≡ record { spent = false; node = (node_step input old.node).node }

-- a line of a list was read
abbrev pub HasGoneOn : NodeOrSpent → NodeOrSpent → Type 0
HasGoneOn old now = HasOpened now ⊎ HasMadeStep old now

-- a line gave nothing, for this reason: the node is as it was; or memory was wanting, and it is spent, or what it did could not be told
abbrev pub HasToldNothing : Fault → NodeOrSpent → NodeOrSpent → Type 0
HasToldNothing fault old now = (now ≡ old) ⊎ ((fault ≡ NoMemory) × ((now.spent ≡ true) ⊎ HasMadeStep old now))
