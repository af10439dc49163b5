-- What a script opens with, and each change of a moment keeps on the way of an event in a run, holds at each moment on the way of an event.
-- Here a change may use all that holds of runs.
use Rattle.std.proofs.Common.{◌≡◌, List, [], ◌∷◌, ◌++◌, Some, refl}
use Rattle.cluster_script.specs.declared.statement.Statement.{Statement}
use Rattle.sheep_node.specs.declared.event.Event.{Event}
use Rattle.sheep_world.specs.Began.{Began, MakesMove}
use Rattle.sheep_world.specs.Step.{EventOutcome}
use Rattle.sheep_world.specs.RunsWithAsks.{Move}
use Rattle.overlap_law.specs.MomentChanges.{MomentTrail, MomentChange, Still, Then}
use Rattle.overlap_law.specs.Past.{MomentWithPast, first_moment, moment_after, next_moment, run_on, run_with_past}
use Rattle.overlap_law.proofs.MomentTrails.{event_trail}
use Rattle.overlap_law.proofs.RunsByEvents.{run-kept_by_events}
use Rattle.overlap_law.proofs.RunsWithOneMore.{run_with_one_more}
use Rattle.overlap_law.proofs.GoingOn.{next_by}

-- each event in a run keeps it
abbrev pub KeptAtEvents : List Statement → (MomentWithPast → Type 0) → Type 0
KeptAtEvents script P = (events : List Move) (event : Move) (start end : MomentWithPast) → run_with_past script events ≡ Some start
    → run_with_past script (events ++ event ∷ []) ≡ Some end → next_moment script event start ≡ Some end → P start → P end

module _ (script : List Statement) (P : MomentWithPast → Type 0) (opens : P (first_moment script)) (keeps : KeptAtEvents script P) where
  abbrev HoldsInRun : MomentWithPast → Type 0
  HoldsInRun moment = (events : List Move) × (run_with_past script events ≡ Some moment) × P moment

  opens_in_run : HoldsInRun (first_moment script)
  unfolding run_with_past run_on
  opens_in_run = ([], refl, opens)

  keeps_in_run : (event : Event) (before : MomentWithPast) (made : EventOutcome) → Began script before.world
      → MakesMove script event before.world made → HoldsInRun before → HoldsInRun (moment_after script event before made)
  keeps_in_run event before made began is holds =
      let after : MomentWithPast = moment_after script event before made in
      let next : next_moment script is.move before ≡ Some after = next_by script event before made is in
      let run = run_with_one_more script event made holds.0 before is holds.1 in
      (holds.0 ++ is.move ∷ [], run, keeps holds.0 is.move before after holds.1 run next holds.2)

  pub kept_at_events : (events : List Move) (moment : MomentWithPast) → run_with_past script events ≡ Some moment → P moment
  kept_at_events events moment run = (run-kept_by_events script HoldsInRun opens_in_run keeps_in_run events moment run).2

-- each change on the way of an event in a run keeps it
abbrev pub KeptOnTheWay : List Statement → (MomentWithPast → Type 0) → Type 0
KeptOnTheWay script P = (events : List Move) (start before after : MomentWithPast) → run_with_past script events ≡ Some start
    → MomentTrail script start before → MomentChange script start before after → P before → P after

module _ (script : List Statement) (P : MomentWithPast → Type 0) (opens : P (first_moment script)) (keeps : KeptOnTheWay script P) where
  along : (events : List Move) (start : MomentWithPast) → run_with_past script events ≡ Some start → {moment : MomentWithPast}
      → MomentTrail script start moment → P start → P moment
  along events start run Still holds = holds
  along events start run (Then {moment} {next} trail change) holds =
      keeps events start moment next run trail change (along events start run trail holds)

  event_keeps : KeptAtEvents script P
  event_keeps events event start end run then happens holds =
      along events start run (event_trail script event start end happens) holds

  pub kept_on_the_way : (events : List Move) (start moment : MomentWithPast) → run_with_past script events ≡ Some start
      → MomentTrail script start moment → P moment
  kept_on_the_way events start moment run trail = along events start run trail (kept_at_events script P opens event_keeps events start run)
