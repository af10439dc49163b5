-- What a script opens with, and each event keeps, holds at every moment of a run.
use Rattle.std.proofs.Common.{◌≡◌, List, [], ◌∷◌, Option, Some, None, refl, subst}
use Rattle.std.specs.Option.{option_map, option_and_then}
use Rattle.std.proofs.lemmas.Option.{same_Some}
use Rattle.cluster_script.specs.declared.statement.Statement.{Statement}
use Rattle.sheep_node.specs.declared.event.Event.{Event}
use Rattle.sheep_world.specs.Began.{Began, MakesMove}
use Rattle.sheep_world.specs.Step.{EventOutcome}
use Rattle.sheep_world.proofs.BegunWorlds.{goes_on, goes_by_move}
use Rattle.sheep_world.specs.RunsWithAsks.{Move, made_by, event_of_move}
use Rattle.overlap_law.specs.Past.{MomentWithPast, moment_after, run_on, first_moment, run_with_past}
use Rattle.overlap_law.proofs.NoRecoveredDue.{began-with_past}

-- each event that is made keeps it
abbrev pub KeptByEvents : List Statement → (MomentWithPast → Type 0) → Type 0
KeptByEvents script P = (event : Event) (before : MomentWithPast) (made : EventOutcome) → Began script before.world
    → MakesMove script event before.world made → P before → P (moment_after script event before made)

module _ (script : List Statement) (P : MomentWithPast → Type 0) (keeps : KeptByEvents script P) where
  along_events : (event : Move) (events : List Move) (first last : MomentWithPast) → Began script first.world → P first
      → ((next : MomentWithPast) → Began script next.world → P next → run_on script next events ≡ Some last → P last)
      → (o : Option EventOutcome) → made_by script event first.world ≡ o
      → option_and_then (λ (next : MomentWithPast). run_on script next events)
      (option_map (moment_after script (event_of_move event) first) o) ≡ Some last → P last
  along_events event events first last began holds later None is so = absurd (cc (so))
  along_events event events first last began holds later (Some made) is so =
      let goes = goes_by_move script event first.world made is in
      later (moment_after script (event_of_move event) first made) (goes_on script (event_of_move event) first.world made began goes)
      (keeps (event_of_move event) first made began goes holds) so

  -- so it is after further moves, from wherever it holds
  pub on_events : (events : List Move) (first last : MomentWithPast) → Began script first.world → P first
      → run_on script first events ≡ Some last → P last
  unfolding run_on
  on_events [] first last began holds is = subst P (same_Some first last is) holds
  on_events (event ∷ events) first last began holds is =
      along_events event events first last began holds (λ next began_next holds_next so. on_events events next last began_next holds_next
      so) (made_by script event first.world) refl is

module _ (script : List Statement) (P : MomentWithPast → Type 0) (opens : P (first_moment script)) (keeps : KeptByEvents script P) where
  first_began : Began script (first_moment script).world
  unfolding run_with_past run_on
  first_began = began-with_past script [] (first_moment script) refl

  pub run-kept_by_events : (events : List Move) (moment : MomentWithPast) → run_with_past script events ≡ Some moment → P moment
  unfolding run_with_past
  run-kept_by_events events moment is = on_events script P keeps events (first_moment script) moment first_began opens is
