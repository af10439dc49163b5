-- What holds of a node's recovery: it may make each step, and all that it asks can be read; and when it may begin.
use Rattle.std.specs.Prelude.{◌≡◌, map}
use Rattle.object_id.specs.declared.entry.Member.{Member}
use Rattle.recovery.specs.Range as recoveries
use Rattle.recovery.specs.State.{MayBegin}
use Rattle.recovery.specs.Step.{MayStep}
use Rattle.sheep_node.specs.State.{Node}
use Rattle.sheep_node.specs.RecoveryView.{recovery_state_of}
use Rattle.sheep_node.specs.LogReading.{epoch_members}

-- a node's recovery is in the node's name, and may make each step
pub record RecoveryMayStep (node : Node) : Type 0 where
  pub own : node.recovery.me ≡ node.me
  pub may : MayStep (recovery_state_of node)

-- the recovery of the epoch that a node is in may begin, with the members that the node knows
abbrev pub RecoveryMayBegin : Node → Type 0
RecoveryMayBegin node = MayBegin node.peer.epoch (map (λ (member : Member). member.node) (epoch_members node)) (recovery_state_of node)

-- a node's recovery asks in the node's name, and is in range
pub record RecoversInRange (node : Node) : Type 0 where
  pub own : node.recovery.me ≡ node.me
  pub range : recoveries.IsInRange (recovery_state_of node)
