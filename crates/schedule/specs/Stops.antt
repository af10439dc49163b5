-- How far given events can be made.
use Rattle.std.specs.Prelude.{◌≡◌, ℕ, suc, List, [], ◌∷◌, ◌++◌, length, Option, Some, None}
use Rattle.std.specs.Option.{option_map}
use Rattle.cluster_script.specs.declared.statement.Statement.{Statement}
use Rattle.sheep_node.specs.declared.event.Event.{Event}
use Rattle.sheep_world.specs.Run.{Moment, initial_moment, next, run}

-- an event couldn't be made; or it was, and the later ones say where they stop, one place further
abbrev pub stop_after : Option Moment → (Moment → Option ℕ) → Option ℕ
stop_after None later = Some 0
stop_after (Some moment) later = option_map suc (later moment)

-- the place of the first event that isn't enabled after those before it, from 0; none where each is
unfoldable pub stop_from : List Statement → List Event → Moment → Option ℕ
stop_from statements [] moment = None
stop_from statements (event ∷ events) moment = stop_after (next statements event moment) (stop_from statements events)

-- the same of a script's events
abbrev pub stopped_at : List Statement → List Event → Option ℕ
stopped_at statements events = stop_from statements events (initial_moment statements)

-- the event at a place isn't enabled after those before it, which are a run
pub record IsStopAt (statements : List Statement) (events : List Event) (place : ℕ) : Type 0 where
  pub before : List Event
  pub moment : Moment
  pub event : Event
  pub later : List Event
  pub parted : events ≡ before ++ event ∷ later
  pub made : run statements before ≡ Some moment
  pub stops : next statements event moment ≡ None
  pub counted : place ≡ length before
