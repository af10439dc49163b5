-- The worlds that runs of events alone reach, between which no client asks.
use Rattle.std.specs.Prelude.{◌≡◌, List, Some}
use Rattle.cluster_script.specs.declared.statement.Statement.{Statement}
use Rattle.sheep_node.specs.declared.event.Event.{Event}
use Rattle.sheep_world.specs.World.{World}
use Rattle.sheep_world.specs.Run.{Moment, run}

-- a run of these events ends in this world
pub record BeganWithoutAsks (statements : List Statement) (world : World) : Type 0 where
  pub events : List Event
  pub moment : Moment
  pub runs : run statements events ≡ Some moment
  pub world_so : moment.world ≡ world
