-- What holds of an opening run, and stays with each event more, holds of every run.
use Rattle.std.proofs.Common.{◌≡◌, List, [], ◌∷◌, ◌++◌, Option, Some, None, option_and_then, option_map, refl, sym, subst, append_assoc, append-nil}
use Rattle.std.proofs.lemmas.Option.{same_Some}
use Rattle.cluster_script.specs.declared.statement.Statement.{Statement}
use Rattle.sheep_node.specs.declared.event.Event.{Event}
use Rattle.sheep_world.specs.Step.{EventOutcome, step}
use Rattle.sheep_world.specs.Run.{Moment, initial_moment, moment_with_made, run_from, run}
use Rattle.schedule.proofs.RunLaws.{run-one_more}

module _ (statements : List Statement) (P : List Event → Moment → Type 0)
    (keeps : (events : List Event) (event : Event) (moment : Moment) (made : EventOutcome) → run statements events ≡ Some moment
    → step statements event moment.world ≡ Some made → P events moment → P (events ++ event ∷ []) (moment_with_made moment.history made)) where
  abbrev Holds : List Event → Moment → Type 0
  Holds events moment = (run statements events ≡ Some moment) × P events moment

  -- and it stays as a run goes on
  pub run-goes_on : (events earlier : List Event) (moment last : Moment) → run statements earlier ≡ Some moment → P earlier moment
      → run_from statements events moment ≡ Some last → P (earlier ++ events) last
  unfolding run_from
  run-goes_on [] earlier moment last reached here is =
      subst (P (earlier ++ [])) (same_Some moment last is) (subst (λ (events : List Event). P events moment) (sym (append-nil earlier)) here)
  run-goes_on (event ∷ events) earlier moment last reached here is =
      by_step (λ (next : Moment) (there : Holds (earlier ++ event ∷ []) next) (so : run_from statements events next ≡ Some last).
      run-goes_on events (earlier ++ event ∷ []) next last there.0 there.1 so)
      (step statements event moment.world) refl is
    where
      by_step : ((next : Moment) → Holds (earlier ++ event ∷ []) next → run_from statements events next ≡ Some last
          → P ((earlier ++ event ∷ []) ++ events) last)
          → (o : Option EventOutcome) → step statements event moment.world ≡ o
          → option_and_then (run_from statements events) (option_map (moment_with_made moment.history) o) ≡ Some last
          → P (earlier ++ event ∷ events) last
      by_step later None at is = absurd (cc (is))
      by_step later (Some made) at is =
          subst (λ (events : List Event). P events last) (append_assoc earlier (event ∷ []) events)
          (later (moment_with_made moment.history made)
          (run-one_more statements earlier event moment made reached at, keeps earlier event moment made reached at here) is)

  pub run-induction : P [] (initial_moment statements) → (events : List Event) (moment : Moment) → run statements events ≡ Some moment → P events moment
  unfolding run_from
  run-induction opens events moment is = run-goes_on events [] (initial_moment statements) moment refl opens is
