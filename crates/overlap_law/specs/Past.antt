-- The past of a run as data beside the world, and runs with their past.
use Rattle.std.specs.Prelude.{ℕ, List, [], ◌∷◌, ◌++◌, filter, Option, Some}
use Rattle.std.specs.Option.{option_map, option_and_then}
use Rattle.cluster_script.specs.declared.statement.Statement.{Statement}
use Rattle.disk_history.specs.declared.event.HistEvent.{HistEvent}
use Rattle.sheep_node.specs.declared.event.Event.{Event}
use Rattle.message_wire.specs.declared.name.MessageName.{MessageName}
use Rattle.sheep_world.specs.World.{World}
use Rattle.sheep_world.specs.Opening.{initial_world}
use Rattle.sheep_world.specs.Step.{EventOutcome}
use Rattle.sheep_world.specs.Run as runs
use Rattle.sheep_world.specs.Incarnations.{EndedIncarnation, incarnations_after}
use Rattle.sheep_world.specs.RunsWithAsks.{Move, made_by, event_of_move}
use Rattle.overlap_law.specs.BegunAttempts.{attempts_after}
use Rattle.overlap_law.specs.PastWords.{messages_lost_by, refused_in, listed_by, is_counted, unavailable_at}
pub use Rattle.overlap_law.specs.Attempts.{MessageFate, Flying, Served, Doomed, AttemptRecord}
pub use Rattle.overlap_law.specs.PastWords.{FinishedList, counts}

-- what is kept of a run: the attempts, in the order in which they began; the script's requests that were refused; the messages that
-- were lost, or whose replies were; what nodes had when their lists were finished; the incarnations that ended; the objects that
-- were once not available while they were born and not dead; the history, whole and without the reads of disks that weren't available
pub record Past : Type 0 where
  pub attempts : List AttemptRecord
  pub refused : List ℕ
  pub lost : List MessageName
  pub listed : List FinishedList
  pub ended : List EndedIncarnation
  pub unavailable : List ℕ
  pub history : List HistEvent
  pub available_history : List HistEvent

-- before the first event
abbrev pub no_past : Past
no_past = record { attempts = []; refused = []; lost = []; listed = []; ended = []; unavailable = []; history = []; available_history = [] }

-- a state of a run, with its past
pub record MomentWithPast : Type 0 where
  pub world : World
  pub past : Past

-- the past after an event, by the attempts and the ended incarnations after it
abbrev pub past_after : List Statement → Event → World → EventOutcome → List AttemptRecord → List EndedIncarnation → Past → Past
past_after script event old made attempts ended past = record {
  attempts = attempts;
  refused = past.refused ++ refused_in script made.world.outputs.replies;
  lost = past.lost ++ messages_lost_by event;
  listed = past.listed ++ listed_by old made.world;
  ended = ended;
  unavailable = past.unavailable ++ unavailable_at ended made.world attempts past.unavailable;
  history = past.history ++ made.grown;
  available_history = past.available_history ++ filter (is_counted made.world.log past.unavailable) made.grown;
}

-- the past after an event, which makes this of a world
unfoldable pub past_after_event : List Statement → Event → World → EventOutcome → Past → Past
past_after_event script event old made past =
    past_after script event old made (attempts_after script event old made.world past.attempts) (incarnations_after old past.ended event)
    past

-- a moment after an event that is made
abbrev pub moment_after : List Statement → Event → MomentWithPast → EventOutcome → MomentWithPast
moment_after script event before made =
    record { world = made.world; past = past_after_event script event before.world made before.past }

-- the moment after one move more, where it may be made: an event, or a client's read, of which the past takes what it takes of a retry
abbrev pub next_moment : List Statement → Move → MomentWithPast → Option MomentWithPast
next_moment script move before = option_map (moment_after script (event_of_move move) before) (made_by script move before.world)

-- the moment after further moves, where each may be made in its turn
unfoldable pub run_on : List Statement → MomentWithPast → List Move → Option MomentWithPast
run_on script moment [] = Some moment
run_on script moment (move ∷ moves) =
    option_and_then (λ (next : MomentWithPast). run_on script next moves) (next_moment script move moment)

-- the moment that a script opens with
abbrev pub first_moment : List Statement → MomentWithPast
first_moment script = record { world = initial_world script; past = no_past }

-- the moment in which a run of a script ends, in which a client may read between the events; none where its moves are no run
unfoldable pub run_with_past : List Statement → List Move → Option MomentWithPast
run_with_past script moves = run_on script (first_moment script) moves

-- a moment as a run alone has it
abbrev pub without_past : MomentWithPast → runs.Moment
without_past moment = record { world = moment.world; history = moment.past.history }
