-- The worlds that runs of a script reach, in which a client may read objects between the events.
use Rattle.std.specs.Prelude.{◌≡◌, List, Some}
use Rattle.cluster_script.specs.declared.statement.Statement.{Statement}
use Rattle.sheep_node.specs.declared.event.Event.{Event}
use Rattle.sheep_world.specs.World.{World}
use Rattle.sheep_world.specs.Opening as worlds
use Rattle.sheep_world.specs.Step.{EventOutcome}
use Rattle.sheep_world.specs.Run.{Moment}
use Rattle.sheep_world.specs.RunsWithAsks.{Move, event_of_move, made_by, run_with_asks}

-- how a world goes on: a move is made, as which this event is told of
pub record MakesMove (statements : List Statement) (event : Event) (world : World) (made : EventOutcome) : Type 0 where
  pub move : Move
  pub event_so : event_of_move move ≡ event
  pub made_so : made_by statements move world ≡ Some made

-- a run of the script ends in this world
pub record Began (statements : List Statement) (world : World) : Type 0 where
  pub moves : List Move
  pub moment : Moment
  pub runs : run_with_asks statements moves ≡ Some moment
  pub world_so : moment.world ≡ world

-- what holds when a script opens, and is kept by all that goes on in a world that a run reaches
pub record IsInvariant (statements : List Statement) (I : World → Type 0) : Type 0 where
  pub opens : I (worlds.initial_world statements)
  pub keeps : (event : Event) (world : World) (made : EventOutcome) → Began statements world → MakesMove statements event world made
      → I world → I made.world
