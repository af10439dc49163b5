-- Runs, cut in two; and their histories.
use Rattle.std.proofs.Common.{◌≡◌, List, [], ◌∷◌, ◌++◌, Option, Some, None, option_and_then, option_map, refl, sym, ap, ◌∙◌, append_assoc, append-nil}
use Rattle.std.proofs.lemmas.Option.{same_Some}
use Rattle.cluster_script.specs.declared.statement.Statement.{Statement}
use Rattle.disk_history.specs.declared.event.HistEvent.{HistEvent}
use Rattle.sheep_node.specs.declared.event.Event.{Event}
use Rattle.sheep_world.specs.Step.{EventOutcome, step}
use Rattle.sheep_world.specs.Run.{Moment, moment_with_made, next, run_from}

append_from : (statements : List Statement) (events later : List Event) (o : Option Moment)
    → ((moment : Moment) → run_from statements (events ++ later) moment ≡ option_and_then (run_from statements later) (run_from statements events moment))
    → option_and_then (run_from statements (events ++ later)) o
    ≡ option_and_then (run_from statements later) (option_and_then (run_from statements events) o)
append_from statements events later None rest = refl
append_from statements events later (Some after) rest = rest after

-- a run goes on from where its first events lead
pub run-append : (statements : List Statement) (events later : List Event) (moment : Moment)
    → run_from statements (events ++ later) moment ≡ option_and_then (run_from statements later) (run_from statements events moment)
unfolding run_from
run-append statements [] later moment = refl
run-append statements (event ∷ events) later moment =
    append_from statements events later (next statements event moment) (run-append statements events later)

-- the first events of a run are a run
pub run-prefix : (statements : List Statement) (events later : List Event) (moment last : Moment)
    → run_from statements (events ++ later) moment ≡ Some last
    → (there : Moment) × (run_from statements events moment ≡ Some there) × (run_from statements later there ≡ Some last)
run-prefix statements events later moment last is =
    cut (run_from statements events moment) (sym (run-append statements events later moment) ∙ is)
  where
    cut : (o : Option Moment) → option_and_then (run_from statements later) o ≡ Some last
        → (there : Moment) × (o ≡ Some there) × (run_from statements later there ≡ Some last)
    cut None is = absurd (cc (is))
    cut (Some there) is = (there, refl, is)

made_grows : (history : List HistEvent) (o : Option EventOutcome) (after : Moment) → option_map (moment_with_made history) o ≡ Some after
    → (grown : List HistEvent) × (after.history ≡ history ++ grown)
made_grows history None after is = absurd (cc (is))
made_grows history (Some made) after is =
    (made.grown, sym (ap (λ (moment : Moment). moment.history) (same_Some (moment_with_made history made) after is)))

-- the history of a moment, and what grew of it
abbrev pub Grows : Moment → Moment → Type 0
Grows moment last = (grown : List HistEvent) × (last.history ≡ moment.history ++ grown)

grows_from : (statements : List Statement) (event : Event) (events : List Event) (moment last : Moment) (o : Option Moment)
    → next statements event moment ≡ o → ((after : Moment) → run_from statements events after ≡ Some last → Grows after last)
    → option_and_then (run_from statements events) o ≡ Some last → Grows moment last
grows_from statements event events moment last None at rest is = absurd (cc (is))
grows_from statements event events moment last (Some after) at rest is =
    let (first, one) = made_grows moment.history (step statements event moment.world) after at in
    let (more, later) = rest after is in
    (first ++ more, later ∙ ap (λ (h : List HistEvent). h ++ more) one ∙ append_assoc moment.history first more)

-- a history only grows
pub history-grows : (statements : List Statement) (events : List Event) (moment last : Moment)
    → run_from statements events moment ≡ Some last → Grows moment last
unfolding run_from
history-grows statements [] moment last is =
    ([], sym (ap (λ (at : Moment). at.history) (same_Some moment last is)) ∙ sym (append-nil moment.history))
history-grows statements (event ∷ events) moment last is =
    grows_from statements event events moment last (next statements event moment) refl
    (λ (after : Moment). history-grows statements events after last) is
