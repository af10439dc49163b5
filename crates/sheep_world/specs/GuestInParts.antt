-- A request's input, where it has one, in the part in which the code takes it.
use Rattle.std.specs.Prelude.{ℕ, List, ◌++◌, None}
use Rattle.std.specs.Option.{option_map_or}
use Rattle.cluster_script.specs.declared.statement.Statement.{Statement}
use Rattle.disk_history.specs.declared.event.HistEvent.{HistEvent}
use Rattle.sheep_node.specs.declared.input.Input.{Input}
use Rattle.sheep_world.specs.World.{World}
use Rattle.sheep_world.specs.Asking.{input_of}
use Rattle.sheep_world.specs.NodeSteps.{node_stepped}
use Rattle.sheep_world.specs.HistoryAdditions.{replies_grown}

-- a node steps on the input of a request, where it has one
abbrev pub input_effect : List Statement → ℕ → ℕ → World → World
input_effect statements node req world =
    option_map_or (λ (input : Input). node_stepped statements node input world) (input_of statements req) world

-- the events before, and behind them what the replies of that step add
abbrev pub input_adds : List Statement → ℕ → World → World → List HistEvent → List HistEvent
input_adds statements req before after earlier =
    option_map_or (λ (input : Input). earlier ++ replies_grown statements before None after) (input_of statements req) earlier
