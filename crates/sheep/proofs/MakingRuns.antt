-- The two orders in which runs are made and told: that of a seed, and that of a trace. What is told stands beside a run as it is kept, of
-- which the laws of schedules and replays speak.
use Rattle.std.proofs.Common.{◌≡◌, ℕ, ◌+◌, ◌<◌, false, true, List, [], ◌∷◌, ◌++◌, Some, None, refl, sym, ap, subst, ◌∙◌}
use Rattle.std.specs.Option.{option_map}
use Rattle.cluster_script.specs.declared.statement.Statement.{Statement}
use Rattle.disk_history.specs.declared.event.HistEvent.{HistEvent}
use Rattle.sheep_node.specs.declared.event.Event.{Event}
use Rattle.sheep_world.specs.Conditions.{may_end_phase}
use Rattle.sheep_world.specs.Enabled.{is_enabled}
use Rattle.sheep_world.specs.Opening.{initial_world}
use Rattle.sheep_world.specs.Run.{Run, moment_with_made, is_whole}
use Rattle.sheep_world.specs.Step.{step}
use Rattle.schedule.specs.Schedule.{Schedule, draft_in, choice, schedule_of}
use Rattle.schedule.proofs.WholeLaws.{left}
use Rattle.schedule.proofs.SeededRuns.{IsFront, front-whole}
use Rattle.schedule.proofs.NextEvent.{chosen-enabled, front-opening, front-grown, less-next}
use Rattle.std.specs.Prelude.{Result, Err, IsErrAnd}
use Rattle.trace_text.specs.declared.fault.BadEvent.{BadEvent}
use Rattle.trace_text.specs.declared.fault.TraceFault.{TraceFault}
use Rattle.trace_text.specs.declared.fault.TraceFault.TheVariants as faults
use Rattle.trace_text.specs.Replay.{TraceReplay, Takes, StopsIn, events_in, bad_place}
use Rattle.trace_text.proofs.ReplayedRuns.{IsReplayed, replayed-opening, replayed-next, replayed-whole, replayed-bad}
use Rattle.sheep.specs.declared.told_run.ToldRun.{ToldRun}
use Rattle.sheep.specs.declared.told_run.FinishedRun.{FinishedRun}
use Rattle.sheep.specs.ToldRun.{IsToldRun, TellsRun}

module _ (statements : List Statement) where
  -- ---- by a seed

  -- what is told is the first part of a seed's schedule, which goes on from here
  pub record IsSeeded (seed : ℕ) (told : ToldRun) (schedule : Schedule) : Type 0 where
    pub tells : IsToldRun statements told
    pub kept : Run
    pub same : kept.events ≡ told.events
    pub front : IsFront statements seed kept (draft_in told.world.world schedule)

  pub seeded-first : (seed : ℕ) (told : ToldRun) (schedule : Schedule) → IsToldRun statements told
      → told.world.world ≡ initial_world statements → told.events ≡ [] → schedule ≡ record { rng = seed; taken = 0 }
      → IsSeeded seed told schedule
  seeded-first seed told schedule so_far at none first = record {
    tells = so_far;
    kept = record { events = []; history = [] };
    same = sym none;
    front =
        front-opening statements seed (record { events = []; history = [] }) (draft_in told.world.world schedule) refl
        (ap (λ world. draft_in world schedule) at ∙ ap (draft_in (initial_world statements)) first);
  }

  pub seeded-next : (seed : ℕ) (told grown : ToldRun) (schedule later : Schedule) (event : Event) (history : List HistEvent)
      → IsSeeded seed told schedule → may_end_phase statements told.world.world ≡ true
      → choice statements (draft_in told.world.world schedule) ≡ record { event = event; rng = later.rng; taken = later.taken }
      → IsToldRun statements grown → grown.events ≡ told.events ++ event ∷ []
      → step statements event told.world.world ≡ Some (record { world = grown.world.world; grown = history })
      → IsSeeded seed grown later
  seeded-next seed told grown schedule later event history so_far may chosen goes events steps = record {
    tells = goes;
    kept = after;
    same = ap (λ (all : List Event). all ++ event ∷ []) so_far.same ∙ sym events;
    front =
        front-grown statements seed (draft_in told.world.world schedule) event later.rng later.taken so_far.kept after grown.world.world
        so_far.front may chosen refl (ap (option_map (moment_with_made so_far.kept.history)) steps);
  }
    where
      after : Run
      after = record { events = so_far.kept.events ++ event ∷ []; history = so_far.kept.history ++ history }

  -- with each event less is left of the schedule
  pub seeded-less : (seed : ℕ) (told grown : ToldRun) (schedule later : Schedule) (event : Event) (history : List HistEvent)
      → IsSeeded seed told schedule → may_end_phase statements told.world.world ≡ true
      → choice statements (draft_in told.world.world schedule) ≡ record { event = event; rng = later.rng; taken = later.taken }
      → step statements event told.world.world ≡ Some (record { world = grown.world.world; grown = history })
      → left statements (draft_in grown.world.world later) < left statements (draft_in told.world.world schedule)
  seeded-less seed told grown schedule later event history so_far may chosen steps =
      less-next statements (draft_in told.world.world schedule) event later.rng later.taken so_far.kept
      (record { world = grown.world.world; history = so_far.kept.history ++ history }) may chosen
      (ap (option_map (moment_with_made so_far.kept.history)) steps)

  -- what is chosen may happen
  pub seeded-enabled : (told : ToldRun) (schedule : Schedule) (event : Event) (rng taken : ℕ) → may_end_phase statements told.world.world ≡ true
      → choice statements (draft_in told.world.world schedule) ≡ record { event = event; rng = rng; taken = taken }
      → is_enabled statements told.world.world event ≡ true
  seeded-enabled told schedule event rng taken may chosen =
      chosen-enabled statements (draft_in told.world.world schedule) event rng taken may chosen

  -- where every phase is ended, the events are the schedule
  pub seeded-last : (seed : ℕ) (told : ToldRun) (schedule : Schedule) → IsSeeded seed told schedule
      → may_end_phase statements told.world.world ≡ false → told.events ≡ schedule_of statements seed
  seeded-last seed told schedule so_far whole =
      sym so_far.same ∙ (front-whole statements seed so_far.kept (draft_in told.world.world schedule) so_far.front whole).0

  -- ---- by a trace

  -- what is told is what the lines taken spell, and those that are left are judged from its end
  pub record IsRetold (lines : List (List ℕ)) (told : ToldRun) (replay : TraceReplay) : Type 0 where
    pub tells : IsToldRun statements told
    pub kept : Run
    pub same : kept.events ≡ told.events
    pub replayed : IsReplayed statements lines told.world.world kept replay

  pub retold-first : (lines : List (List ℕ)) (told : ToldRun) (replay : TraceReplay) → IsToldRun statements told
      → told.world.world ≡ initial_world statements → told.events ≡ [] → replay ≡ record { rest = lines; taken = 0 }
      → IsRetold lines told replay
  retold-first lines told replay so_far at none all = record {
    tells = so_far;
    kept = record { events = []; history = [] };
    same = sym none;
    replayed = replayed-opening statements lines told.world.world (record { events = []; history = [] }) replay at refl all;
  }

  pub retold-next : (lines : List (List ℕ)) (told grown : ToldRun) (replay rest : TraceReplay) (event : Event) (history : List HistEvent)
      → IsRetold lines told replay → Takes statements told.world.world replay event rest
      → IsToldRun statements grown → grown.events ≡ told.events ++ event ∷ []
      → step statements event told.world.world ≡ Some (record { world = grown.world.world; grown = history })
      → IsRetold lines grown rest
  retold-next lines told grown replay rest event history so_far takes goes events steps = record {
    tells = goes;
    kept = after;
    same = ap (λ (all : List Event). all ++ event ∷ []) so_far.same ∙ sym events;
    replayed =
        replayed-next statements lines told.world.world grown.world.world so_far.kept after replay rest event so_far.replayed takes refl
        (ap (option_map (moment_with_made so_far.kept.history)) steps);
  }
    where
      after : Run
      after = record { events = so_far.kept.events ++ event ∷ []; history = so_far.kept.history ++ history }

  -- no line is left, and every phase is ended
  pub record IsRetoldWhole (lines : List (List ℕ)) (finished : FinishedRun) : Type 0 where
    pub tells : TellsRun statements (events_in lines) finished
    pub good : bad_place statements lines ≡ None

  pub retold-last : (lines : List (List ℕ)) (told : ToldRun) (replay : TraceReplay) (finished : FinishedRun) → IsRetold lines told replay
      → replay.rest ≡ [] → is_whole statements told.world.world ≡ true → TellsRun statements told.events finished
      → IsRetoldWhole lines finished
  retold-last lines told replay finished so_far none whole tells =
      let all = replayed-whole statements lines told.world.world so_far.kept replay so_far.replayed none whole in
      record {
        tells = subst (λ (events : List Event). TellsRun statements events finished) (sym so_far.same ∙ all.events) tells;
        good = all.good;
      }

  -- the next line is bad
  pub retold-bad : (lines : List (List ℕ)) (told : ToldRun) (replay : TraceReplay) (place : ℕ) → IsRetold lines told replay
      → StopsIn statements told.world.world replay.rest → place ≡ replay.taken + 1 → bad_place statements lines ≡ Some place
  retold-bad lines told replay place so_far stops is =
      replayed-bad statements lines told.world.world so_far.kept replay place so_far.replayed stops is

-- a fault of a bad line names its place
pub told-bad_place : (told : Result FinishedRun TraceFault) (bad : BadEvent) (place : ℕ) → IsErrAnd told (λ fault. fault ≡ faults.Bad bad)
    → told ≡ Err (faults.Bad (record { place = place })) → place ≡ bad.place
told-bad_place told bad place gives is =
    let same : faults.Bad (record { place = place }) ≡ faults.Bad bad =
    subst (λ (r : Result FinishedRun TraceFault). IsErrAnd r (λ fault. fault ≡ faults.Bad bad)) is gives in
    ap (λ (one : BadEvent). one.place) (bad_same (record { place = place }) bad same)
  where
    bad_same : (one other : BadEvent) → faults.Bad one ≡ faults.Bad other → one ≡ other
    bad_same one other is = cc
