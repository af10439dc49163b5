-- A replay as it goes on: the lines taken so far are a run, and those that are left say which line is bad.
use Rattle.std.proofs.Common.{◌≡◌, ℕ, suc, ◌+◌, Bool, true, false, cond, List, [], ◌∷◌, ◌++◌, append_assoc, length, Option, Some, None, is_some, MatchOption, refl, sym, ap, subst, ◌∙◌, arith}
use Rattle.std.specs.List.{cons_option}
use Rattle.std.specs.Prelude.{Result, Err, IsErrAnd}
use Rattle.std.specs.Option.{option_map, option_and_then}
use Rattle.std.proofs.lemmas.List.{append-nil}
use Rattle.std.proofs.lemmas.Option.{same_Some}
use Rattle.cluster_script.specs.declared.statement.Statement.{Statement}
use Rattle.disk_history.specs.declared.event.HistEvent.{HistEvent}
use Rattle.sheep_node.specs.declared.event.Event.{Event}
use Rattle.sheep_world.specs.World.{World}
use Rattle.sheep_world.specs.Enabled.{is_enabled}
use Rattle.sheep_world.specs.Step.{EventOutcome, step}
use Rattle.sheep_world.specs.Run.{Moment, Run, initial_moment, moment_with_made, next, run_from, run, is_whole, IsKept, IsWholeRun}
use Rattle.sheep_world.proofs.EnabledLaws.{is_some-step}
use Rattle.sheep_world.proofs.RunLaws.{run-append}
use Rattle.trace_text.specs.declared.fault.BadEvent.{BadEvent}
use Rattle.trace_text.specs.declared.fault.TraceFault.{TraceFault}
use Rattle.trace_text.specs.declared.fault.TraceFault.TheVariants as faults
use Rattle.trace_text.specs.EventReading.{event_in}
use Rattle.trace_text.specs.Replay.{events_in, line_made, bad_after, bad_from, bad_place, TraceReplay, Takes, IsBadIn, StopsIn}

bad_same : (one other : BadEvent) → faults.Bad one ≡ faults.Bad other → one ≡ other
bad_same one other is = cc

-- what holds of an event that was found
pub taken-found : (A : Type 0) (B : Event → Type 0) (found : Option Event) (event : Event) → found ≡ Some event → MatchOption found A B → B event
taken-found A B found event is h = subst (λ (o : Option Event). MatchOption o A B) is h

-- a fault of a bad line names its place
pub told-place : (told : Result Run TraceFault) (bad : BadEvent) (place : ℕ) → IsErrAnd told (λ fault. fault ≡ faults.Bad bad)
    → told ≡ Err (faults.Bad (record { place = place })) → bad.place ≡ place
told-place told bad place gives is =
    let same : faults.Bad (record { place = place }) ≡ faults.Bad bad =
    subst (λ (r : Result Run TraceFault). IsErrAnd r (λ fault. fault ≡ faults.Bad bad)) is gives in
    sym (ap (λ (one : BadEvent). one.place) (bad_same (record { place = place }) bad same))

-- an event that isn't enabled makes nothing
next-none : (statements : List Statement) (event : Event) (moment : Moment) → is_enabled statements moment.world event ≡ false
    → next statements event moment ≡ None
next-none statements event moment off = by_step (step statements event moment.world) refl
  where
    by_step : (made : Option EventOutcome) → step statements event moment.world ≡ made
        → option_map (moment_with_made moment.history) made ≡ None
    by_step None e = refl
    by_step (Some made) e =
        let on : true ≡ false = sym (ap is_some e) ∙ is_some-step statements moment.world event ∙ off in
        absurd (cc)

pub line_made-unread : (statements : List Statement) (world : World) (line : List ℕ) → event_in line ≡ None → IsBadIn statements world line
line_made-unread statements world line none history =
    ap (option_and_then (λ event. next statements event (record { world = world; history = history }))) none

pub line_made-off : (statements : List Statement) (world : World) (line : List ℕ) (event : Event) → event_in line ≡ Some event
    → is_enabled statements world event ≡ false → IsBadIn statements world line
line_made-off statements world line event read off history =
    ap (option_and_then (λ event. next statements event (record { world = world; history = history }))) read
    ∙ next-none statements event (record { world = world; history = history }) off

module _ (statements : List Statement) (lines : List (List ℕ)) where
  -- the run so far is what the lines taken spell, and those that are left are judged from its end
  pub record IsReplayed (world : World) (kept : Run) (replay : TraceReplay) : Type 0 where
    pub read : events_in lines ≡ kept.events ++ events_in replay.rest
    pub made : run statements kept.events ≡ Some (record { world = world; history = kept.history })
    pub good : bad_from statements replay.rest (record { world = world; history = kept.history }) ≡ None → bad_place statements lines ≡ None
    pub bad : (place : ℕ) → bad_from statements replay.rest (record { world = world; history = kept.history }) ≡ Some place
        → bad_place statements lines ≡ Some (replay.taken + place)

  pub replayed-first : IsReplayed (initial_moment statements).world (record { events = []; history = [] }) (record { rest = lines; taken = 0 })
  unfolding run_from
  replayed-first = record {
    read = refl;
    made = refl;
    good = λ none. none;
    bad = λ place is. is ∙ ap Some (omega arith);
  }

  made-on : (events : List Event) (event : Event) (moment after : Moment) → run statements events ≡ Some moment
      → next statements event moment ≡ Some after → run statements (events ++ event ∷ []) ≡ Some after
  unfolding run_from
  made-on events event moment after so_far on =
      run-append statements events (event ∷ []) (initial_moment statements)
      ∙ ap (option_and_then (run_from statements (event ∷ []))) so_far
      ∙ ap (option_and_then (run_from statements [])) on

  -- a line that is taken, and whose event is made
  pub replayed-on : (world later : World) (kept : Run) (history : List HistEvent) (replay rest : TraceReplay) (event : Event)
      → IsReplayed world kept replay → Takes statements world replay event rest
      → next statements event (record { world = world; history = kept.history }) ≡ Some (record { world = later; history = history })
      → IsReplayed later (record { events = kept.events ++ event ∷ []; history = history }) rest
  unfolding bad_from
  replayed-on world later kept history replay rest event so_far takes on = record {
    read =
        so_far.read
        ∙ ap (λ (others : List (List ℕ)). kept.events ++ events_in others) takes.first
        ∙ ap (λ (found : Option Event). kept.events ++ cons_option found (events_in rest.rest)) takes.spelled
        ∙ sym (append_assoc kept.events (event ∷ []) (events_in rest.rest));
    made = made-on kept.events event moment after so_far.made on;
    good = λ none. so_far.good (judged ∙ ap (option_map suc) none);
    bad = λ place is.
        so_far.bad (suc place) (judged ∙ ap (option_map suc) is)
        ∙ ap Some (omega (arith, takes.counted));
  }
    where
      moment : Moment
      moment = record { world = world; history = kept.history }

      after : Moment
      after = record { world = later; history = history }

      judged : bad_from statements replay.rest moment ≡ option_map suc (bad_from statements rest.rest after)
      judged =
          ap (λ (others : List (List ℕ)). bad_from statements others moment) takes.first
          ∙ ap (λ (made : Option Moment). bad_after made (bad_from statements rest.rest))
          (ap (option_and_then (λ event. next statements event moment)) takes.spelled ∙ on)

  -- no line is left, and every phase is ended
  pub record IsWhole (kept : Run) : Type 0 where
    pub events : kept.events ≡ events_in lines
    pub history : IsKept statements kept
    pub whole : IsWholeRun statements kept.events
    pub good : bad_place statements lines ≡ None

  pub replayed-whole : (world : World) (kept : Run) (replay : TraceReplay) → IsReplayed world kept replay → replay.rest ≡ []
      → is_whole statements world ≡ true → IsWhole kept
  unfolding bad_from
  replayed-whole world kept replay so_far none whole = record {
    events =
        sym (so_far.read ∙ ap (λ (others : List (List ℕ)). kept.events ++ events_in others) none ∙ append-nil kept.events);
    history = ap (option_map (λ (moment : Moment). moment.history)) so_far.made;
    whole = (record { world = world; history = kept.history }, so_far.made, whole);
    good = so_far.good
        (ap (λ (others : List (List ℕ)). bad_from statements others (record { world = world; history = kept.history })) none
        ∙ ap (λ (b : Bool). cond {A = Option ℕ} b None (Some 1)) whole);
  }

  stopped : (rest : List (List ℕ)) (world : World) (history : List HistEvent) → StopsIn statements world rest
      → bad_from statements rest (record { world = world; history = history }) ≡ Some 1
  unfolding bad_from
  stopped [] world history stops = ap (λ (b : Bool). cond {A = Option ℕ} b None (Some 1)) (stops history)
  stopped (line ∷ rest) world history stops = ap (λ (made : Option Moment). bad_after made (bad_from statements rest)) (stops history)

  -- the next line is bad
  pub replayed-bad : (world : World) (kept : Run) (replay : TraceReplay) (place : ℕ) → IsReplayed world kept replay
      → StopsIn statements world replay.rest → place ≡ replay.taken + 1 → bad_place statements lines ≡ Some place
  replayed-bad world kept replay place so_far stops is =
      so_far.bad 1 (stopped replay.rest world kept.history stops) ∙ ap Some (sym is)

  -- the same as they stand in the code: before the first line
  pub replayed-opening : (world : World) (kept : Run) (replay : TraceReplay) → world ≡ (initial_moment statements).world
      → kept ≡ record { events = []; history = [] } → replay ≡ record { rest = lines; taken = 0 } → IsReplayed world kept replay
  replayed-opening world kept replay at none all =
      subst (λ (w : World). IsReplayed w kept replay) (sym at)
      (subst (λ (k : Run). IsReplayed (initial_moment statements).world k replay) (sym none)
      (subst (IsReplayed (initial_moment statements).world (record { events = []; history = [] })) (sym all) replayed-first))

  -- and one line more
  pub replayed-next : (world later : World) (kept grown : Run) (replay rest : TraceReplay) (event : Event)
      → IsReplayed world kept replay → Takes statements world replay event rest → grown.events ≡ kept.events ++ event ∷ []
      → next statements event (record { world = world; history = kept.history }) ≡ Some (record { world = later; history = grown.history })
      → IsReplayed later grown rest
  replayed-next world later kept grown replay rest event so_far takes events on =
      subst (λ (all : List Event). IsReplayed later (record { events = all; history = grown.history }) rest) (sym events)
      (replayed-on world later kept grown.history replay rest event so_far takes on)
