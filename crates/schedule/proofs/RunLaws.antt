-- Given events are a run as far as they can be made.
use Rattle.std.proofs.Common.{◌≡◌, ℕ, suc, List, [], ◌∷◌, ◌++◌, length, Option, Some, None, is_some, IsSome, refl, sym, ap, subst, ◌∙◌, arith}
use Rattle.std.specs.Option.{option_map, option_and_then}
use Rattle.std.proofs.lemmas.Option.{same_Some, none-some}
use Rattle.cluster_script.specs.declared.statement.Statement.{Statement}
use Rattle.sheep_node.specs.declared.event.Event.{Event}
use Rattle.sheep_world.specs.Step.{EventOutcome, step}
use Rattle.sheep_world.specs.Run.{Moment, initial_moment, moment_with_made, next, run_from, run, IsRun}
use Rattle.sheep_world.proofs.RunLaws.{run-append}
use Rattle.schedule.specs.Stops.{stop_after, stop_from, stopped_at, IsStopAt}

module _ (statements : List Statement) where
  -- an event that makes something goes on a run
  pub next-made : (event : Event) (moment : Moment) (made : EventOutcome) → step statements event moment.world ≡ Some made
      → next statements event moment ≡ Some (moment_with_made moment.history made)
  next-made event moment made is = ap (option_map (moment_with_made moment.history)) is

  -- a run with one event more, which makes something where the run ends
  pub run-one_more : (events : List Event) (event : Event) (moment : Moment) (made : EventOutcome) → run statements events ≡ Some moment
      → step statements event moment.world ≡ Some made
      → run statements (events ++ event ∷ []) ≡ Some (moment_with_made moment.history made)
  unfolding run_from
  run-one_more events event moment made so_far steps =
      run-append statements events (event ∷ []) (initial_moment statements)
      ∙ ap (option_and_then (run_from statements (event ∷ []))) so_far
      ∙ ap (option_and_then (run_from statements [])) (next-made event moment made steps)

  pub run-on : (event : Event) (events : List Event) (moment : Moment) (made : EventOutcome) → step statements event moment.world ≡ Some made
      → IsSome (run_from statements events (moment_with_made moment.history made)) → IsSome (run_from statements (event ∷ events) moment)
  unfolding run_from
  run-on event events moment made is later =
      ap (λ (after : Option Moment). is_some (option_and_then (run_from statements events) after)) (next-made event moment made is) ∙ later

  none-stop : (events : List Event) (moment : Moment) → stop_from statements events moment ≡ None → IsSome (run_from statements events moment)
  unfolding run_from stop_from
  none-stop [] moment h = refl
  none-stop (event ∷ events) moment h = by_next (none-stop events) (next statements event moment) h
    where
      by_later : (after : Moment) → (stop_from statements events after ≡ None → IsSome (run_from statements events after))
          → (found : Option ℕ) → stop_from statements events after ≡ found → option_map suc found ≡ None
          → IsSome (run_from statements events after)
      by_later after later None e is = later e
      by_later after later (Some place) e is = absurd (none-some (suc place) (sym is))

      by_next : ((after : Moment) → stop_from statements events after ≡ None → IsSome (run_from statements events after))
          → (made : Option Moment) → stop_after made (stop_from statements events) ≡ None
          → IsSome (option_and_then (run_from statements events) made)
      by_next later None is = absurd (none-some 0 (sym is))
      by_next later (Some after) is = by_later after (later after) (stop_from statements events after) refl is

  pub not-stopped : (events : List Event) → stopped_at statements events ≡ None → IsRun statements events
  not-stopped events h = none-stop events (initial_moment statements) h

  run-none : (events : List Event) (moment : Moment) → IsSome (run_from statements events moment) → stop_from statements events moment ≡ None
  unfolding run_from stop_from
  run-none [] moment h = refl
  run-none (event ∷ events) moment h = by_next (run-none events) (next statements event moment) h
    where
      by_next : ((after : Moment) → IsSome (run_from statements events after) → stop_from statements events after ≡ None)
          → (made : Option Moment) → IsSome (option_and_then (run_from statements events) made)
          → stop_after made (stop_from statements events) ≡ None
      by_next later None is = absurd (cc (is))
      by_next later (Some after) is = ap (option_map suc) (later after is)

  pub runs-through : (events : List Event) → IsRun statements events → stopped_at statements events ≡ None
  runs-through events h = run-none events (initial_moment statements) h

  record StopFrom (events : List Event) (moment : Moment) (place : ℕ) : Type 0 where
    before : List Event
    at : Moment
    event : Event
    later : List Event
    parted : events ≡ before ++ event ∷ later
    made : run_from statements before moment ≡ Some at
    stops : next statements event at ≡ None
    counted : place ≡ length before

  one_before : (event : Event) (events : List Event) (moment after : Moment) (place : ℕ)
      → next statements event moment ≡ Some after → StopFrom events after place → StopFrom (event ∷ events) moment (suc place)
  unfolding run_from
  one_before event events moment after place e more = record {
    before = event ∷ more.before;
    at = more.at;
    event = more.event;
    later = more.later;
    parted = ap (λ (others : List Event). event ∷ others) more.parted;
    made = ap (option_and_then (run_from statements more.before)) e ∙ more.made;
    stops = more.stops;
    counted = omega (arith, more.counted);
  }

  stop : (events : List Event) (moment : Moment) (place : ℕ) → stop_from statements events moment ≡ Some place → StopFrom events moment place
  unfolding run_from stop_from
  stop [] moment place h = absurd (none-some place h)
  stop (event ∷ events) moment place h = by_next (stop events) (next statements event moment) refl h
    where
      by_later : ((after : Moment) (later : ℕ) → stop_from statements events after ≡ Some later → StopFrom events after later)
          → (after : Moment) → next statements event moment ≡ Some after → (found : Option ℕ)
          → stop_from statements events after ≡ found → option_map suc found ≡ Some place → StopFrom (event ∷ events) moment place
      by_later before after made None e is = absurd (none-some place is)
      by_later before after made (Some later) e is =
          subst (StopFrom (event ∷ events) moment) (same_Some (suc later) place is)
          (one_before event events moment after later made (before after later e))

      by_next : ((after : Moment) (later : ℕ) → stop_from statements events after ≡ Some later → StopFrom events after later)
          → (made : Option Moment) → next statements event moment ≡ made
          → stop_after made (stop_from statements events) ≡ Some place → StopFrom (event ∷ events) moment place
      by_next before None e is = record {
        before = [];
        at = moment;
        event = event;
        later = events;
        parted = refl;
        made = refl;
        stops = e;
        counted = sym (same_Some 0 place is);
      }
      by_next before (Some after) e is = by_later before after e (stop_from statements events after) refl is

  pub first-stop : (events : List Event) (place : ℕ) → stopped_at statements events ≡ Some place → IsStopAt statements events place
  first-stop events place h =
      let one : StopFrom events (initial_moment statements) place = stop events (initial_moment statements) place h in
      record {
        before = one.before;
        moment = one.at;
        event = one.event;
        later = one.later;
        parted = one.parted;
        made = one.made;
        stops = one.stops;
        counted = one.counted;
      }
