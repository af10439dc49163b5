-- What a script opens with, and each change of a moment keeps, holds at every moment of a run.
use Rattle.std.proofs.Common.{◌≡◌, List, [], ◌∷◌, Option, Some, None, option_map, refl, ap, subst}
use Rattle.std.specs.Option.{option_and_then}
use Rattle.std.proofs.lemmas.Option.{same_Some}
use Rattle.cluster_script.specs.declared.statement.Statement.{Statement}
use Rattle.sheep_world.specs.Began.{Began}
use Rattle.sheep_world.specs.Step.{EventOutcome}
use Rattle.sheep_world.proofs.BegunWorlds.{goes_on, goes_by_move}
use Rattle.sheep_world.specs.RunsWithAsks.{Move, made_by, event_of_move}
use Rattle.overlap_law.specs.Past.{MomentWithPast, moment_after, next_moment, run_on, first_moment, run_with_past}
use Rattle.overlap_law.specs.MomentChanges.{MomentTrail, Still, Then, KeptByChanges}
use Rattle.overlap_law.proofs.MomentTrails.{event_trail}
use Rattle.overlap_law.proofs.NoRecoveredDue.{began-with_past}

module _ (script : List Statement) (P : MomentWithPast → Type 0) (kept : KeptByChanges script P) where
  trail_kept : (start : MomentWithPast) → Began script start.world → {moment : MomentWithPast} → MomentTrail script start moment → P start
      → P moment
  trail_kept start began Still holds = holds
  trail_kept start began (Then {moment} {next} trail change) holds =
      kept.keeps start moment next began change (trail_kept start began trail holds)

  pub event_kept : (event : Move) (before after : MomentWithPast) → Began script before.world → next_moment script event before ≡ Some after
      → P before → P after
  event_kept event before after began is holds = trail_kept before began (event_trail script event before after is) holds

  along_kept : (event : Move) (events : List Move) (first last : MomentWithPast) → Began script first.world → P first
      → ((next : MomentWithPast) → Began script next.world → P next → run_on script next events ≡ Some last → P last)
      → (o : Option EventOutcome) → made_by script event first.world ≡ o
      → option_and_then (λ (next : MomentWithPast). run_on script next events)
      (option_map (moment_after script (event_of_move event) first) o) ≡ Some last → P last
  along_kept event events first last began holds later None is so = absurd (cc (so))
  along_kept event events first last began holds later (Some made) is so =
      let next = moment_after script (event_of_move event) first made in
      later next (goes_on script (event_of_move event) first.world made began (goes_by_move script event first.world made is))
      (event_kept event first next began (ap (option_map (moment_after script (event_of_move event) first)) is) holds) so

  run_on-kept : (events : List Move) (first last : MomentWithPast) → Began script first.world → P first
      → run_on script first events ≡ Some last
      → P last
  unfolding run_on
  run_on-kept [] first last began holds is = subst P (same_Some first last is) holds
  run_on-kept (event ∷ events) first last began holds is =
      along_kept event events first last began holds
      (λ next began_next holds_next so. run_on-kept events next last began_next holds_next so)
      (made_by script event first.world) refl is

  first_began : Began script (first_moment script).world
  unfolding run_with_past run_on
  first_began = began-with_past script [] (first_moment script) refl

  pub run-kept : (events : List Move) (moment : MomentWithPast) → run_with_past script events ≡ Some moment → P moment
  unfolding run_with_past
  run-kept events moment is = run_on-kept events (first_moment script) moment first_began kept.opens is

  -- and at each moment on the way of an event
  pub on_the_way : (events : List Move) (start moment : MomentWithPast) → run_with_past script events ≡ Some start
      → MomentTrail script start moment → P moment
  on_the_way events start moment is trail = trail_kept start (began-with_past script events start is) trail (run-kept events start is)
