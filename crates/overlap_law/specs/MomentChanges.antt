-- The small changes of a moment while an event happens, and trails of them: the moment after an event is reached from the one before by
-- such a trail.
use Rattle.std.specs.Prelude.{◌≡◌, List, Some}
use Rattle.cluster_script.specs.declared.statement.Statement.{Statement}
use Rattle.cluster_script.specs.Language.{IsScript}
use Rattle.sheep_node.specs.declared.event.Event.{Event}
use Rattle.sheep_node.specs.StepState.{StepState}
use Rattle.sheep_world.specs.World.{World}
use Rattle.sheep_world.specs.Step.{EventOutcome}
use Rattle.sheep_world.specs.Began.{Began, MakesMove}
use Rattle.sheep_world.specs.LogHolds.{MayGrow}
use Rattle.sheep_world.specs.HoldsTogether.{MessagesAreInRange}
use Rattle.sheep_world.specs.EventKinds.{IsUntoldLoss, IsUnreadDelivery, IsNodeLoss, IsNodeLeave, IsNodeReweight, IsNodeJoin, IsNodeReturn}
use Rattle.sheep_world.specs.EventKinds.{IsPhaseEnd}
use Rattle.sheep_world.specs.RunsWithAsks.{Move}
use Rattle.overlap_law.specs.Past.{MomentWithPast, moment_after, next_moment, first_moment, run_with_past}
use Rattle.overlap_law.specs.StepMoments.{SteppingNode, IsStepping, StepsByChanges, StepsAtOnce, first_in_step, last_in_step, IsWithinStep}
use Rattle.overlap_law.specs.StepMoments.{moment_in_step}

-- a change from one moment to the next, where the event began in the first moment of all
pub data MomentChange (script : List Statement) (start : MomentWithPast) : MomentWithPast → MomentWithPast → Type 0 where
  -- a node begins its step: what it steps on has left the wire or is begun, and the input is received
  StepBegins : (stepping : SteppingNode) → IsStepping script start.world stepping → StepsByChanges stepping.cause
      → MomentChange script start start (moment_in_step script stepping start (first_in_step stepping))
  -- its step goes on by one change of the node
  StepGoesOn : (stepping : SteppingNode) (so_far next : StepState) → IsStepping script start.world stepping
      → StepsByChanges stepping.cause → IsWithinStep stepping so_far next
      → MomentChange script start (moment_in_step script stepping start so_far) (moment_in_step script stepping start next)
  -- a node's step is one change
  StepIsMade : (stepping : SteppingNode) → IsStepping script start.world stepping → StepsAtOnce stepping.cause
      → MomentChange script start start (moment_in_step script stepping start (last_in_step stepping))
  -- a message is lost, and no node is told
  LossIsUntold : (event : Event) (made : EventOutcome) → MakesMove script event start.world made
      → IsUntoldLoss event start.world made → MomentChange script start start (moment_after script event start made)
  -- bytes come that are no message
  DeliveryIsUnread : (event : Event) (made : EventOutcome) → MakesMove script event start.world made
      → IsUnreadDelivery event start.world made → MomentChange script start start (moment_after script event start made)
  -- a node is lost
  NodeIsLost : (event : Event) (made : EventOutcome) → MakesMove script event start.world made
      → IsNodeLoss script event start.world made → MomentChange script start start (moment_after script event start made)
  -- a lost member leaves
  NodeLeaves : (event : Event) (made : EventOutcome) → MakesMove script event start.world made
      → IsNodeLeave event start.world made → MomentChange script start start (moment_after script event start made)
  -- a member gets another weight
  NodeIsReweighted : (event : Event) (made : EventOutcome) → MakesMove script event start.world made
      → IsNodeReweight event start.world made → MomentChange script start start (moment_after script event start made)
  -- a node joins
  NodeJoins : (event : Event) (made : EventOutcome) → MakesMove script event start.world made
      → IsNodeJoin script event start.world made → MomentChange script start start (moment_after script event start made)
  -- a lost node comes back
  NodeComesBack : (event : Event) (made : EventOutcome) → MakesMove script event start.world made
      → IsNodeReturn script event start.world made → MomentChange script start start (moment_after script event start made)
  -- a phase ends
  PhaseEnds : (event : Event) (made : EventOutcome) → MakesMove script event start.world made
      → IsPhaseEnd script event start.world made → MomentChange script start start (moment_after script event start made)

-- a trail of changes, one after the other
pub data MomentTrail (script : List Statement) (start : MomentWithPast) : MomentWithPast → Type 0 where
  Still : MomentTrail script start start
  Then : {moment next : MomentWithPast} → MomentTrail script start moment → MomentChange script start moment next
      → MomentTrail script start next

-- the changes that are left of a trail, up to its end
pub data TrailLeft (script : List Statement) (start : MomentWithPast) : MomentWithPast → MomentWithPast → Type 0 where
  AtEnd : {end : MomentWithPast} → TrailLeft script start end end
  Next : {moment next end : MomentWithPast} → MomentChange script start moment next → TrailLeft script start next end
      → TrailLeft script start moment end

-- a change on the way of an event, or of a client's read, in a run
pub record IsOnTheWay (script : List Statement) (moves : List Move) (move : Move) (start end before after : MomentWithPast)
    : Type 0 where
  pub run : run_with_past script moves ≡ Some start
  pub happens : next_moment script move start ≡ Some end
  pub behind : MomentTrail script start before
  pub change : MomentChange script start before after
  pub left : TrailLeft script start after end

-- what is asked of the worlds of a script's runs, in which a client may read between the events: there is room for one epoch more, and
-- what is sent and replied is in range
pub record RunsAreInRange (script : List Statement) : Type 0 where
  pub is_script : IsScript script
  pub room : (world : World) → Began script world → MayGrow world
  pub messages : (world : World) → Began script world → MessagesAreInRange world

-- what holds of the moment that a script opens with, and is kept by each change of a moment while an event happens, or a client reads, in a
-- world of a run
pub record KeptByChanges (script : List Statement) (P : MomentWithPast → Type 0) : Type 0 where
  pub opens : P (first_moment script)
  pub keeps : (start before after : MomentWithPast) → Began script start.world → MomentChange script start before after → P before → P after

-- each event that may happen, and each read that a client may make, is such a trail
abbrev pub EventsAreTrails : List Statement → Type 0
EventsAreTrails script = (move : Move) (before after : MomentWithPast) → next_moment script move before ≡ Some after
    → MomentTrail script before after
