-- Given events as they are made: they are a run up to the first that isn't enabled.
use Rattle.std.proofs.Common.{◌≡◌, ℕ, suc, ◌+◌, ◌<◌, List, [], ◌∷◌, ◌++◌, length, take, drop, get_or, Option, Some, None, is_some, true, false, refl, sym, ap, subst, ◌∙◌, arith}
use Rattle.std.proofs.lemmas.List.{take_more, drop_more, take-append-drop, length-take-le}
use Rattle.std.specs.Option.{option_map, option_and_then}
use Rattle.cluster_script.specs.declared.statement.Statement.{Statement}
use Rattle.disk_history.specs.declared.event.HistEvent.{HistEvent}
use Rattle.sheep_node.specs.declared.event.Event.{Event}
use Rattle.sheep_world.specs.World.{World}
use Rattle.sheep_world.specs.Enabled.{is_enabled}
use Rattle.sheep_world.specs.Step.{EventOutcome, step}
use Rattle.sheep_world.specs.Run.{Moment, Run, initial_moment, moment_with_made, next, run_from, run, IsKept}
use Rattle.sheep_world.proofs.EnabledLaws.{is_some-step}
use Rattle.sheep_world.proofs.RunLaws.{run-append}
use Rattle.schedule.specs.Stops.{stop_after, stop_from, stopped_at}

-- an event that isn't enabled makes nothing
next-none : (statements : List Statement) (event : Event) (moment : Moment) → is_enabled statements moment.world event ≡ false
    → next statements event moment ≡ None
next-none statements event moment off = by_step (step statements event moment.world) refl
  where
    by_step : (made : Option EventOutcome) → step statements event moment.world ≡ made
        → option_map (moment_with_made moment.history) made ≡ None
    by_step None e = refl
    by_step (Some made) e =
        let on : true ≡ false = sym (ap is_some e) ∙ is_some-step statements moment.world event ∙ off in
        absurd (cc)

module _ (statements : List Statement) where
  stops-from : (before : List Event) (event : Event) (later : List Event) (moment at : Moment)
      → run_from statements before moment ≡ Some at → next statements event at ≡ None
      → stop_from statements (before ++ event ∷ later) moment ≡ Some (length before)
  unfolding run_from stop_from
  stops-from [] event later moment at made stops =
      let same : Some moment ≡ Some at = made in
      ap (λ o. stop_after (option_and_then (next statements event) o) (stop_from statements later)) same
      ∙ ap (λ o. stop_after o (stop_from statements later)) stops
  stops-from (first ∷ before) event later moment at made stops =
      by_next (stops-from before event later) (next statements first moment) made
    where
      by_next : ((moment at : Moment) → run_from statements before moment ≡ Some at → next statements event at ≡ None
          → stop_from statements (before ++ event ∷ later) moment ≡ Some (length before))
          → (o : Option Moment) → option_and_then (run_from statements before) o ≡ Some at
          → stop_after o (stop_from statements (before ++ event ∷ later)) ≡ Some (suc (length before))
      by_next rest None is = absurd (cc (is))
      by_next rest (Some after) is = ap (option_map suc) (rest after at is stops)

  -- the event behind a run of the others isn't enabled
  pub stops-there : (before : List Event) (event : Event) (later : List Event) (at : Moment)
      → run statements before ≡ Some at → next statements event at ≡ None
      → stopped_at statements (before ++ event ∷ later) ≡ Some (length before)
  stops-there before event later at made stops = stops-from before event later (initial_moment statements) at made stops

  -- these events led to a world, with the history that is kept
  pub record IsMadeTo (events : List Event) (world : World) (kept : Run) : Type 0 where
    pub same : kept.events ≡ events
    pub made : run statements events ≡ Some (record { world = world; history = kept.history })

  pub made-first : IsMadeTo [] (initial_moment statements).world (record { events = []; history = [] })
  unfolding run_from
  made-first = record { same = refl; made = refl }

  pub made-on : (events : List Event) (event : Event) (world later : World) (kept : Run) (history : List HistEvent) → IsMadeTo events world kept
      → next statements event (record { world = world; history = kept.history }) ≡ Some (record { world = later; history = history })
      → IsMadeTo (events ++ event ∷ []) later (record { events = kept.events ++ event ∷ []; history = history })
  unfolding run_from
  made-on events event world later kept history so_far on = record {
    same = ap (λ (before : List Event). before ++ event ∷ []) so_far.same;
    made =
        run-append statements events (event ∷ []) (initial_moment statements)
        ∙ ap (option_and_then (run_from statements (event ∷ []))) so_far.made
        ∙ ap (option_and_then (run_from statements [])) on;
  }

  pub made-kept : (events : List Event) (world : World) (kept : Run) → IsMadeTo events world kept → IsKept statements kept
  made-kept events world kept so_far =
      ap (λ (before : List Event). option_map (λ (moment : Moment). moment.history) (run statements before)) so_far.same
      ∙ ap (option_map (λ (moment : Moment). moment.history)) so_far.made

  -- an event that isn't enabled stops there
  pub made-stop : (before : List Event) (event : Event) (later : List Event) (world : World) (kept : Run) → IsMadeTo before world kept
      → is_enabled statements world event ≡ false → stopped_at statements (before ++ event ∷ later) ≡ Some (length before)
  made-stop before event later world kept so_far off =
      stops-there before event later (record { world = world; history = kept.history }) so_far.made
      (next-none statements event (record { world = world; history = kept.history }) off)

  -- the same as they stand in the code: before the first event
  pub made-opening : (world : World) (kept : Run) → world ≡ (initial_moment statements).world → kept ≡ record { events = []; history = [] }
      → IsMadeTo [] world kept
  made-opening world kept at none =
      subst (λ (w : World). IsMadeTo [] w kept) (sym at) (subst (IsMadeTo [] (initial_moment statements).world) (sym none) made-first)

  -- one event more
  pub made-more : (events : List Event) (index : ℕ) (none : Event) (world later : World) (kept grown : Run) → index < length events
      → IsMadeTo (take index events) world kept → grown.events ≡ kept.events ++ get_or events index none ∷ []
      → next statements (get_or events index none) (record { world = world; history = kept.history })
      ≡ Some (record { world = later; history = grown.history })
      → IsMadeTo (take (index + 1) events) later grown
  made-more events index none world later kept grown within so_far more on =
      subst (λ (all : List Event). IsMadeTo all later grown) (sym (take_more events index none within))
      (subst (λ (all : List Event). IsMadeTo (take index events ++ get_or events index none ∷ []) later (record { events = all; history = grown.history }))
      (sym more) (made-on (take index events) (get_or events index none) world later kept grown.history so_far on))

  -- and the event that isn't enabled
  pub made-end : (events : List Event) (index : ℕ) (none : Event) (world : World) (kept : Run) → index < length events
      → IsMadeTo (take index events) world kept → is_enabled statements world (get_or events index none) ≡ false
      → stopped_at statements events ≡ Some index
  made-end events index none world kept within so_far off =
      ap (stopped_at statements)
      (sym (take-append-drop index events)
      ∙ ap (λ (later : List Event). take index events ++ later) (drop_more events index none within))
      ∙ made-stop (take index events) (get_or events index none) (drop (index + 1) events) world kept so_far off
      ∙ ap Some (length-take-le index events (omega (arith, within)))
