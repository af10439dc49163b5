-- A run with one move more, where that may be made.
use Rattle.std.proofs.Common.{◌≡◌, List, [], ◌∷◌, ◌++◌, Option, Some, None, ap, ◌∙◌, refl}
use Rattle.std.specs.Option.{option_and_then}
use Rattle.cluster_script.specs.declared.statement.Statement.{Statement}
use Rattle.sheep_node.specs.declared.event.Event.{Event}
use Rattle.sheep_world.specs.Began.{MakesMove}
use Rattle.sheep_world.specs.RunsWithAsks.{Move}
use Rattle.sheep_world.specs.Step.{EventOutcome}
use Rattle.overlap_law.specs.Past.{MomentWithPast, moment_after, next_moment, run_on, first_moment, run_with_past}
use Rattle.overlap_law.proofs.GoingOn.{next_by}

module _ (script : List Statement) where
  append_from : (moves later : List Move) (o : Option MomentWithPast)
      → ((moment : MomentWithPast) → run_on script moment (moves ++ later)
      ≡ option_and_then (λ (next : MomentWithPast). run_on script next later) (run_on script moment moves))
      → option_and_then (λ (next : MomentWithPast). run_on script next (moves ++ later)) o
      ≡ option_and_then (λ (next : MomentWithPast). run_on script next later)
      (option_and_then (λ (next : MomentWithPast). run_on script next moves) o)
  append_from moves later None rest = refl
  append_from moves later (Some after) rest = rest after

  pub run_on-append : (moves later : List Move) (moment : MomentWithPast) → run_on script moment (moves ++ later)
      ≡ option_and_then (λ (next : MomentWithPast). run_on script next later) (run_on script moment moves)
  unfolding run_on
  run_on-append [] later moment = refl
  run_on-append (move ∷ moves) later moment =
      append_from moves later (next_moment script move moment) (λ (next : MomentWithPast). run_on-append moves later next)

  -- so with one that may be made at its end
  pub run_with_next : (move : Move) (moves : List Move) (moment after : MomentWithPast) → next_moment script move moment ≡ Some after
      → run_with_past script moves ≡ Some moment → run_with_past script (moves ++ move ∷ []) ≡ Some after
  unfolding run_with_past run_on
  run_with_next move moves moment after next run =
      run_on-append moves (move ∷ []) (first_moment script)
      ∙ ap (option_and_then (λ (then : MomentWithPast). run_on script then (move ∷ []))) run
      ∙ ap (option_and_then (λ (then : MomentWithPast). run_on script then [])) next

pub run_with_one_more : (script : List Statement) (event : Event) (made : EventOutcome) (moves : List Move) (moment : MomentWithPast)
    → (goes : MakesMove script event moment.world made) → run_with_past script moves ≡ Some moment
    → run_with_past script (moves ++ goes.move ∷ []) ≡ Some (moment_after script event moment made)
run_with_one_more script event made moves moment goes run =
    run_with_next script goes.move moves moment (moment_after script event moment made) (next_by script event moment made goes) run
