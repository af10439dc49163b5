-- Runs of a script: each event enabled in its turn, from the opening world; and the history that a run makes.
use Rattle.std.specs.Prelude.{◌≡◌, Bool, not, List, [], ◌∷◌, ◌++◌, Option, Some, IsSome, IsTrue}
use Rattle.std.specs.Option.{option_and_then, option_map}
use Rattle.cluster_script.specs.declared.statement.Statement.{Statement}
use Rattle.disk_history.specs.declared.event.HistEvent.{HistEvent}
use Rattle.sheep_node.specs.declared.event.Event.{Event}
use Rattle.sheep_world.specs.World.{World}
use Rattle.sheep_world.specs.Opening as worlds
use Rattle.sheep_world.specs.Conditions.{may_end_phase}
use Rattle.sheep_world.specs.Step.{EventOutcome, step}

-- where a run is: the world, and the history so far
pub record Moment : Type 0 where
  pub world : World
  pub history : List HistEvent

-- where every run of a script begins
abbrev pub initial_moment : List Statement → Moment
initial_moment statements = record { world = worlds.initial_world statements; history = [] }

-- a history goes on with what an event made
abbrev pub moment_with_made : List HistEvent → EventOutcome → Moment
moment_with_made history made = record { world = made.world; history = history ++ made.grown }

-- one event
abbrev pub next : List Statement → Event → Moment → Option Moment
next statements event moment = option_map (moment_with_made moment.history) (step statements event moment.world)

-- one event after another; none where one isn't enabled in its turn
unfoldable pub run_from : List Statement → List Event → Moment → Option Moment
run_from statements [] moment = Some moment
run_from statements (event ∷ events) moment = option_and_then (run_from statements events) (next statements event moment)

-- the run of these events
abbrev pub run : List Statement → List Event → Option Moment
run statements events = run_from statements events (initial_moment statements)

-- the events are a run of the script
abbrev pub IsRun : List Statement → List Event → Type 0
IsRun statements events = IsSome (run statements events)

-- the history of a run
abbrev pub history_of : List Statement → List Event → Option (List HistEvent)
history_of statements events = option_map (λ (moment : Moment). moment.history) (run statements events)

-- whether every phase is ended
abbrev pub is_whole : List Statement → World → Bool
is_whole statements world = not (may_end_phase statements world)

-- the events are a run of the script, in which every phase is ended
abbrev pub IsWholeRun : List Statement → List Event → Type 0
IsWholeRun statements events = (moment : Moment) × (run statements events ≡ Some moment) × IsTrue (is_whole statements moment.world)

-- a run as it is kept: its events, and the history that they made
pub record Run : Type 0 where
  pub events : List Event
  pub history : List HistEvent

-- what is kept is a run of the script, with its history
abbrev pub IsKept : List Statement → Run → Type 0
IsKept statements kept = history_of statements kept.events ≡ Some kept.history
