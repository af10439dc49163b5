-- Moves of a run: what goes on is a move, and the event as which it is told of.
use Rattle.std.proofs.Common.{◌≡◌, List, Option, Some, None, option_map, refl, sym, ap, subst, ◌∙◌}
use Rattle.std.proofs.lemmas.Option.{same_Some}
use Rattle.cluster_script.specs.declared.statement.Statement.{Statement}
use Rattle.sheep_node.specs.declared.event.Event.{Event}
use Rattle.sheep_world.specs.Began.{MakesMove}
use Rattle.sheep_world.specs.RunsWithAsks.{Move, Happens, made_by, event_of_move}
use Rattle.sheep_world.specs.Step.{EventOutcome, step}
use Rattle.sheep_world.specs.World.{World}
use Rattle.overlap_law.specs.Past.{MomentWithPast, moment_after, next_moment}

-- what goes on leads to a next moment
pub next_by : (script : List Statement) (event : Event) (before : MomentWithPast) (made : EventOutcome)
    → (goes : MakesMove script event before.world made) → next_moment script goes.move before ≡ Some (moment_after script event before made)
next_by script event before made goes =
    ap (option_map (moment_after script (event_of_move goes.move) before)) goes.made_so
    ∙ ap (λ (e : Event). Some (moment_after script e before made)) goes.event_so

-- and a next moment is led to so
pub record HasGone (script : List Statement) (move : Move) (before after : MomentWithPast) : Type 0 where
  pub made : EventOutcome
  pub goes : MakesMove script (event_of_move move) before.world made
  pub move_so : goes.move ≡ move
  pub after_so : moment_after script (event_of_move move) before made ≡ after

pub has_gone : (script : List Statement) (move : Move) (before after : MomentWithPast) → next_moment script move before ≡ Some after
    → HasGone script move before after
has_gone script move before after = by_made (made_by script move before.world) refl
  where
    by_made : (o : Option EventOutcome) → made_by script move before.world ≡ o
        → option_map (moment_after script (event_of_move move) before) o ≡ Some after → HasGone script move before after
    by_made None at none = absurd (cc (none))
    by_made (Some made) at so = record {
      made = made;
      goes = record { move = move; event_so = refl; made_so = at };
      move_so = refl;
      after_so = same_Some (moment_after script (event_of_move move) before made) after so;
    }

-- what goes on by an event and its outcome, as another kind has them
pub goes_as : (script : List Statement) (world : World) {event own : Event} {made its : EventOutcome} → own ≡ event → its ≡ made
    → MakesMove script event world made → MakesMove script own world its
goes_as script world is so goes =
    record { move = goes.move; event_so = goes.event_so ∙ sym is; made_so = goes.made_so ∙ ap (λ (m : EventOutcome). Some m) (sym so) }

-- what an event makes of a world, it makes of a moment that has it
abbrev pub event_makes : (script : List Statement) (event : Event) (made : EventOutcome) (world : World) (moment : MomentWithPast)
    → moment.world ≡ world → step script event world ≡ Some made → MakesMove script event moment.world made
event_makes script event made world moment at is = record {
  move = Happens event;
  event_so = refl;
  made_so = subst (λ (world : World). step script event world ≡ Some made) (sym at) is;
}
