-- How a trace is replayed: the events that its lines spell, made one after another.
use Rattle.std.specs.Prelude.{◌≡◌, ℕ, suc, ◌+◌, true, false, List, [], ◌∷◌, ◌++◌, length, map, Option, Some, None, if◌then◌else◌}
use Rattle.std.specs.List.{filter_map}
use Rattle.std.specs.Option.{option_map, option_and_then}
use Rattle.cluster_script.specs.declared.statement.Statement.{Statement}
use Rattle.disk_history.specs.declared.event.HistEvent.{HistEvent}
use Rattle.sheep_node.specs.declared.event.Event.{Event}
use Rattle.sheep_world.specs.World.{World}
use Rattle.sheep_world.specs.Enabled.{is_enabled}
use Rattle.sheep_world.specs.Run.{Moment, initial_moment, next, run, is_whole}
use Rattle.trace_text.specs.Spelling.{event_text}
use Rattle.trace_text.specs.EventReading.{event_in}

-- the events of lines
abbrev pub events_in : List (List ℕ) → List Event
events_in lines = filter_map event_in lines

-- the event of a line is made, where it spells one that is enabled
abbrev pub line_made : List Statement → List ℕ → Moment → Option Moment
line_made statements line moment = option_and_then (λ event. next statements event moment) (event_in line)

-- a line is bad; or it was taken, and the later ones say which is bad, one place further
abbrev pub bad_after : Option Moment → (Moment → Option ℕ) → Option ℕ
bad_after None later = Some 1
bad_after (Some moment) later = option_map suc (later moment)

-- the place, from 1, of the first line that isn't an event enabled after those before it; one past the last where a phase
-- isn't ended then; none where the lines are a whole run
unfoldable pub bad_from : List Statement → List (List ℕ) → Moment → Option ℕ
bad_from statements [] moment = if is_whole statements moment.world then None else Some 1
bad_from statements (line ∷ lines) moment = bad_after (line_made statements line moment) (bad_from statements lines)

-- the same of a script's trace
abbrev pub bad_place : List Statement → List (List ℕ) → Option ℕ
bad_place statements lines = bad_from statements lines (initial_moment statements)

-- where lines can't go on: the next one spells no event that is enabled, or there is none and a phase isn't ended
abbrev pub Stops : List Statement → List (List ℕ) → Moment → Type 0
Stops statements [] moment = is_whole statements moment.world ≡ false
Stops statements (line ∷ lines) moment = line_made statements line moment ≡ None

-- the line at a place, from 1, is bad: those before it spell a run, which it doesn't go on with
pub record IsBadAt (statements : List Statement) (lines : List (List ℕ)) (place : ℕ) : Type 0 where
  pub before : List Event
  pub moment : Moment
  pub rest : List (List ℕ)
  pub spelled : lines ≡ map event_text before ++ rest
  pub made : run statements before ≡ Some moment
  pub stops : Stops statements rest moment
  pub counted : place ≡ length before + 1

-- a trace as it is replayed: the lines that are still to come, and how many were taken
pub record TraceReplay : Type 0 where
  pub rest : List (List ℕ)
  pub taken : ℕ

-- the next line is taken: it spells an event that is enabled in the world
pub record Takes (statements : List Statement) (world : World) (old : TraceReplay) (event : Event) (new : TraceReplay) : Type 0 where
  pub line : List ℕ
  pub first : old.rest ≡ line ∷ new.rest
  pub spelled : event_in line ≡ Some event
  pub enabled : is_enabled statements world event ≡ true
  pub counted : new.taken ≡ old.taken + 1

-- a line spells no event that is enabled in a world, whatever happened before
abbrev pub IsBadIn : List Statement → World → List ℕ → Type 0
IsBadIn statements world line = (history : List HistEvent) → line_made statements line (record { world = world; history = history }) ≡ None

-- no line is taken: the lines that are left can't go on in the world, whatever happened before
abbrev pub StopsIn : List Statement → World → List (List ℕ) → Type 0
StopsIn statements world lines = (history : List HistEvent) → Stops statements lines (record { world = world; history = history })
