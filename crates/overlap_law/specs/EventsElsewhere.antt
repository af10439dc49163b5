-- Events at which no node steps: a message is lost and no node is told, a node is lost, leaves, joins or comes back, a phase ends.
use Rattle.std.specs.Prelude.{List}
use Rattle.cluster_script.specs.declared.statement.Statement.{Statement}
use Rattle.sheep_node.specs.declared.event.Event.{Event}
use Rattle.sheep_world.specs.World.{World}
use Rattle.sheep_world.specs.Step.{EventOutcome}
use Rattle.sheep_world.specs.EventKinds as kinds
use Rattle.sheep_world.specs.EventKinds.{EventKind}

-- the event is of such a kind
abbrev pub IsElsewhere : (script : List Statement) (event : Event) (world : World) (made : EventOutcome)
    → EventKind script event world made → Type 0
IsElsewhere script event world made (kinds.NodeStep h) = ⊥
IsElsewhere script event world made (kinds.UntoldLoss h) = Unit {0}
IsElsewhere script event world made (kinds.UnreadDelivery h) = Unit {0}
IsElsewhere script event world made (kinds.NodeLoss h) = Unit {0}
IsElsewhere script event world made (kinds.NodeLeave h) = Unit {0}
IsElsewhere script event world made (kinds.NodeReweight h) = Unit {0}
IsElsewhere script event world made (kinds.NodeJoin h) = Unit {0}
IsElsewhere script event world made (kinds.NodeReturn h) = Unit {0}
IsElsewhere script event world made (kinds.PhaseEnd h) = Unit {0}
