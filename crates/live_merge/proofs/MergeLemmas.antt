-- Merging goes on: what steps merge to, one part behind the other, and where they clash.
use Rattle.std.proofs.Common.{◌≡◌, ℕ, ◌+◌, Bool, true, false, List, [], ◌∷◌, ◌++◌, length, Option, Some, None, is_some, ◌↔◌, if◌then◌else◌, refl, sym, ap, subst, ◌∙◌, append_assoc, append-nil}
use Rattle.std.specs.Option.{option_map, option_and_then}
use Rattle.std.proofs.lemmas.Option.{same_Some, none-some}
use Rattle.cluster_script.specs.declared.statement.Statement.{Statement}
use Rattle.sheep_node.specs.declared.event.Event.{Event}
use Rattle.sheep_node.specs.declared.event.Event.TheVariants.{Phase}
use Rattle.sheep_world.specs.World.{World}
use Rattle.sheep_world.specs.Enabled.{is_enabled}
use Rattle.sheep_world.specs.Step.{EventOutcome, step}
use Rattle.sheep_world.specs.Run.{Moment, Run, initial_moment, moment_with_made, next, run_from, run}
use Rattle.sheep_world.proofs.EnabledLaws.{is_some-step}
use Rattle.sheep_world.proofs.RunLaws.{run-append}
use Rattle.schedule.specs.Merged.{KeptStep, IsAsKept, is_phase_due, MergesOne, MergesFrom, IsClashAt}
use Rattle.live_merge.specs.Merging.{moment_of, EndsIn, taken_in, made_of, MergesTo, HasMerged, HasMergedTo, HasClashed, IsStepMade, IsStepMadeBy}

module _ (statements : List Statement) where
  -- what merges to a world in which Phase isn't due is merged
  pub merged-not_due : (events : List Event) (world : World) (taken : ℕ) (steps : List KeptStep) (after : World) (count : ℕ)
      → MergesTo statements events world taken steps after count → is_phase_due statements after count ≡ false
      → MergesFrom statements events world taken steps
  merged-not_due [] world taken steps after count (none, same, kept) due =
      (none, ap (λ (w : World). is_phase_due statements w taken) (sym same) ∙ ap (is_phase_due statements after) (sym kept) ∙ due)
  merged-not_due (event ∷ events) world taken steps after count h due =
      by_due (merged-not_due events) steps (is_phase_due statements world taken) h
    where
      by_due : ((world : World) (taken : ℕ) (steps : List KeptStep) (after : World) (count : ℕ)
          → MergesTo statements events world taken steps after count → is_phase_due statements after count ≡ false
          → MergesFrom statements events world taken steps)
          → (steps : List KeptStep) (is_due : Bool)
          → MergesOne statements world taken steps event (λ next made left. MergesTo statements events next made left after count) is_due
          → MergesOne statements world taken steps event (MergesFrom statements events) is_due
      by_due later steps true h = (h.0, h.1, h.2, later h.0.world taken steps after count h.3 due)
      by_due later [] false h = absurd h
      by_due later (kept ∷ steps) false h = (h.0, h.1, h.2, h.3, later h.0.world (taken + 1) steps after count h.4 due)

  -- one part behind the other
  pub merged-append : (events later : List Event) (world : World) (taken : ℕ) (steps : List KeptStep) (between : World) (count : ℕ)
      (more : List KeptStep) (after : World) (total : ℕ)
      → MergesTo statements events world taken steps between count → MergesTo statements later between count more after total
      → MergesTo statements (events ++ later) world taken (steps ++ more) after total
  merged-append [] later world taken steps between count more after total (none, same, kept) h =
      subst (λ (steps : List KeptStep). MergesTo statements later world taken (steps ++ more) after total) (sym none)
      (subst (λ (n : ℕ). MergesTo statements later world n more after total) kept
      (subst (λ (w : World). MergesTo statements later w count more after total) same h))
  merged-append (event ∷ events) later world taken steps between count more after total h k =
      by_due (merged-append events later) steps (is_phase_due statements world taken) h
    where
      by_due : ((world : World) (taken : ℕ) (steps : List KeptStep) (between : World) (count : ℕ) (more : List KeptStep) (after : World)
          (total : ℕ) → MergesTo statements events world taken steps between count → MergesTo statements later between count more after total
          → MergesTo statements (events ++ later) world taken (steps ++ more) after total)
          → (steps : List KeptStep) (is_due : Bool)
          → MergesOne statements world taken steps event (λ next made left. MergesTo statements events next made left between count) is_due
          → MergesOne statements world taken (steps ++ more) event
          (λ next made left. MergesTo statements (events ++ later) next made left after total) is_due
      by_due rest steps true h = (h.0, h.1, h.2, rest h.0.world taken steps between count more after total h.3 k)
      by_due rest [] false h = absurd h
      by_due rest (kept ∷ steps) false h =
          (h.0, h.1, h.2, h.3, rest h.0.world (taken + 1) steps between count more after total h.4 k)

  -- one event
  pub phase-merged : (world : World) (taken : ℕ) (made : EventOutcome) → is_phase_due statements world taken ≡ true
      → step statements Phase world ≡ Some made → MergesTo statements (Phase ∷ []) world taken [] made.world taken
  phase-merged world taken made due is =
      subst (λ (is_due : Bool). MergesOne statements world taken [] Phase
      (λ next count left. MergesTo statements [] next count left made.world taken) is_due) (sym due)
      (made, refl, is, (refl, refl, refl))

  pub kept-merged : (world : World) (taken : ℕ) (kept : KeptStep) (made : EventOutcome) → is_phase_due statements world taken ≡ false
      → step statements kept.event world ≡ Some made → IsAsKept kept made
      → MergesTo statements (kept.event ∷ []) world taken (kept ∷ []) made.world (taken + 1)
  kept-merged world taken kept made due is as_kept =
      subst (λ (is_due : Bool). MergesOne statements world taken (kept ∷ []) kept.event
      (λ next count left. MergesTo statements [] next count left made.world (taken + 1)) is_due) (sym due)
      (made, refl, is, as_kept, (refl, refl, refl))

  -- an event makes what it makes
  pub made-by : (event : Event) (world after : World) (old new : Run)
      → next statements event (moment_of world old) ≡ Some (moment_of after new)
      → (made : EventOutcome) × (step statements event world ≡ Some made) × (after ≡ made.world) × (new.history ≡ old.history ++ made.grown)
  made-by event world after old new on = by_step (step statements event world) refl on
    where
      by_step : (o : Option EventOutcome) → step statements event world ≡ o
          → option_map (moment_with_made old.history) o ≡ Some (moment_of after new)
          → (made : EventOutcome) × (step statements event world ≡ Some made) × (after ≡ made.world) × (new.history ≡ old.history ++ made.grown)
      by_step None e is = absurd (none-some (moment_of after new) is)
      by_step (Some made) e is =
          let same = same_Some (moment_with_made old.history made) (moment_of after new) is in
          (made, e, sym (ap (λ (moment : Moment). moment.world) same), sym (ap (λ (moment : Moment). moment.history) same))

  run-one : (event : Event) (moment last : Moment) → next statements event moment ≡ Some last
      → run_from statements (event ∷ []) moment ≡ Some last
  unfolding run_from
  run-one event moment last on = ap (option_and_then (run_from statements [])) on

  -- no event, and no step
  pub merged_nothing : (world : World) (taken : ℕ) (kept : Run) → HasMergedTo statements [] world taken kept kept world taken
  unfolding run_from
  merged_nothing world taken kept = record {
    events = [];
    more = sym (append-nil kept.events);
    merges = (refl, refl, refl);
    runs = refl;
  }

  -- one part behind the other
  pub merged-on : (steps more : List KeptStep) (world between after : World) (taken count total : ℕ) (old mid new : Run)
      → HasMergedTo statements steps world taken old mid between count → HasMergedTo statements more between count mid new after total
      → HasMergedTo statements (steps ++ more) world taken old new after total
  merged-on steps more world between after taken count total old mid new h k = record {
    events = h.events ++ k.events;
    more = k.more ∙ ap (λ (e : List Event). e ++ k.events) h.more ∙ append_assoc old.events h.events k.events;
    merges = merged-append h.events k.events world taken steps between count more after total h.merges k.merges;
    runs =
        run-append statements h.events k.events (moment_of world old) ∙ ap (option_and_then (run_from statements k.events)) h.runs ∙ k.runs;
  }

  -- Phase, where it is due
  pub merged-phase : (world after : World) (taken : ℕ) (old new : Run) → is_phase_due statements world taken ≡ true
      → new.events ≡ old.events ++ Phase ∷ [] → next statements Phase (moment_of world old) ≡ Some (moment_of after new)
      → HasMergedTo statements [] world taken old new after taken
  merged-phase world after taken old new due more on =
      let made = made-by Phase world after old new on in
      record {
        events = Phase ∷ [];
        more = more;
        merges =
            subst (λ (w : World). MergesTo statements (Phase ∷ []) world taken [] w taken) (sym made.2)
            (phase-merged world taken made.0 due made.1);
        runs = run-one Phase (moment_of world old) (moment_of after new) on;
      }

  -- a step's event was made, and made this or not
  pub step_made : (kept : KeptStep) (world after : World) (old new : Run) (same : Bool) → new.events ≡ old.events ++ kept.event ∷ []
      → next statements kept.event (moment_of world old) ≡ Some (moment_of after new)
      → ((same ≡ true) ↔ ((after.input ≡ kept.input) × (after.outputs ≡ kept.outputs)))
      → IsStepMade statements kept world old after new same
  step_made kept world after old new same more on as_kept =
      let made = made-by kept.event world after old new on in
      let whole : new ≡ record { events = old.events ++ kept.event ∷ []; history = old.history ++ made.0.grown } =
      λ i. record { events = more i; history = made.3 i } in
      subst (IsStepMadeBy statements kept world old after new same) (sym made.1) (
        made.2,
        whole,
        subst (λ (w : World). (same ≡ true) ↔ IsAsKept kept (record { world = w; grown = made.0.grown })) made.2 (
          (λ (h : same ≡ true). let is = as_kept.0 h in record { input = is.0; outputs = is.1 }),
          (λ h. as_kept.1 (h.input, h.outputs)),
        ),
      )

  -- or it wasn't enabled
  pub step_refused : (kept : KeptStep) (world after : World) (old new : Run) → is_enabled statements world kept.event ≡ false
      → (after ≡ world) → (new ≡ old) → IsStepMade statements kept world old after new false
  step_refused kept world after old new off stays run_stays = by_step (step statements kept.event world) refl
    where
      by_step : (o : Option EventOutcome) → step statements kept.event world ≡ o
          → IsStepMadeBy statements kept world old after new false o
      by_step None e = (stays, run_stays, refl)
      by_step (Some made) e =
          let on : true ≡ false = sym (ap is_some e) ∙ is_some-step statements world kept.event ∙ off in
          absurd (cc)

  -- a step that is made as it is kept
  pub merged-step : (kept : KeptStep) (world after : World) (taken : ℕ) (old new : Run) → is_phase_due statements world taken ≡ false
      → IsStepMade statements kept world old after new true
      → HasMergedTo statements (kept ∷ []) world taken old new after (taken + 1)
  merged-step kept world after taken old new due h = by_step (step statements kept.event world) refl h
    where
      by_step : (o : Option EventOutcome) → step statements kept.event world ≡ o
          → IsStepMadeBy statements kept world old after new true o
          → HasMergedTo statements (kept ∷ []) world taken old new after (taken + 1)
      by_step None e is = absurd (cc (is.2))
      by_step (Some made) e is = record {
        events = kept.event ∷ [];
        more = ap (λ (r : Run). r.events) is.1;
        merges =
            subst (λ (w : World). MergesTo statements (kept.event ∷ []) world taken (kept ∷ []) w (taken + 1)) (sym is.0)
            (kept-merged world taken kept made due e (is.2.0 refl));
        runs =
            run-one kept.event (moment_of world old) (moment_of after new)
            (ap (option_map (moment_with_made old.history)) e
            ∙ λ i. Some (record { world = sym is.0 i; history = sym (ap (λ (r : Run). r.history) is.1) i }));
      }

  -- all that was to be merged is
  pub merged-all : (steps : List KeptStep) (world after : World) (taken count : ℕ) (old new : Run)
      → HasMergedTo statements steps world taken old new after count → is_phase_due statements after count ≡ false
      → taken ≡ taken_in old.events → HasMerged statements steps world old new
  merged-all steps world after taken count old new h due so = record {
    events = h.events;
    more = h.more;
    merges =
        subst (λ (n : ℕ). MergesFrom statements h.events world n steps) so
        (merged-not_due h.events world taken steps after count h.merges due);
  }

  -- where a step clashes with those before it
  pub clash-behind : (before : List KeptStep) (kept : KeptStep) (later : List KeptStep) (world last after : World) (taken count : ℕ)
      (old mid new : Run) → HasMergedTo statements before world taken old mid last count → is_phase_due statements last count ≡ false
      → taken ≡ taken_in old.events → IsStepMade statements kept last mid after new false
      → HasClashed statements (before ++ kept ∷ later) (length before) world old new
  clash-behind before kept later world last after taken count old mid new h due so made =
      by_step (step statements kept.event last) refl made
    where
      merges : MergesFrom statements h.events world (taken_in old.events) before
      merges =
          subst (λ (n : ℕ). MergesFrom statements h.events world n before) so
          (merged-not_due h.events world taken before last count h.merges due)

      clashed : ((made : EventOutcome) → step statements kept.event last ≡ Some made → IsAsKept kept made → ⊥)
          → IsClashAt statements (moment_of world old) (taken_in old.events) (before ++ kept ∷ later) (length before)
      clashed clashes = record {
        before = before;
        kept = kept;
        later = later;
        parted = refl;
        counted = refl;
        events = h.events;
        merged = merges;
        last = moment_of last mid;
        made = h.runs;
        clashes = clashes;
      }

      behind : (enabled : Bool) → is_enabled statements last kept.event ≡ enabled
          → made_of statements kept last ≡ (if enabled then kept.event ∷ [] else [])
      behind enabled e = ap (λ (b : Bool). if b then kept.event ∷ [] else []) e

      by_step : (o : Option EventOutcome) → step statements kept.event last ≡ o
          → IsStepMadeBy statements kept last mid after new false o
          → HasClashed statements (before ++ kept ∷ later) (length before) world old new
      by_step None e is = record {
        clash = clashed (λ (other : EventOutcome) (too : step statements kept.event last ≡ Some other) (as_kept : IsAsKept kept other).
            none-some other (sym e ∙ too));
        more =
            ap (λ (r : Run). r.events) is.1 ∙ h.more
            ∙ ap (λ (more : List Event). old.events ++ more)
            (sym (append-nil h.events)
            ∙ ap (λ (more : List Event). h.events ++ more)
            (sym (behind false (sym (is_some-step statements last kept.event) ∙ ap is_some e))));
      }
      by_step (Some found) e is = record {
        clash = clashed (λ (other : EventOutcome) (too : step statements kept.event last ≡ Some other) (as_kept : IsAsKept kept other).
            let one : found ≡ other = same_Some found other (sym e ∙ too) in
            let so : false ≡ true = is.2.1 (subst (IsAsKept kept) (sym one) as_kept) in
            absurd (cc (so)));
        more =
            ap (λ (r : Run). r.events) is.1 ∙ ap (λ (more : List Event). more ++ kept.event ∷ []) h.more
            ∙ append_assoc old.events h.events (kept.event ∷ [])
            ∙ ap (λ (more : List Event). old.events ++ (h.events ++ more))
            (sym (behind true (sym (is_some-step statements last kept.event) ∙ ap is_some e)));
      }

  -- a run that ends in a world ends in the next one when it has gone on
  pub ends-merged : (steps : List KeptStep) (world after : World) (taken count : ℕ) (old new : Run)
      → HasMergedTo statements steps world taken old new after count → EndsIn statements old world → EndsIn statements new after
  ends-merged steps world after taken count old new h ends =
      ap (run statements) h.more ∙ run-append statements old.events h.events (initial_moment statements)
      ∙ ap (option_and_then (run_from statements h.events)) ends ∙ h.runs

  pub ends-made : (kept : KeptStep) (world after : World) (old new : Run) (same : Bool) → IsStepMade statements kept world old after new same
      → EndsIn statements old world → EndsIn statements new after
  ends-made kept world after old new same h ends = by_step (step statements kept.event world) refl h
    where
      by_step : (o : Option EventOutcome) → step statements kept.event world ≡ o
          → IsStepMadeBy statements kept world old after new same o → EndsIn statements new after
      by_step None e is =
          subst (λ (w : World). EndsIn statements new w) (sym is.0) (subst (λ (r : Run). EndsIn statements r world) (sym is.1) ends)
      by_step (Some made) e is =
          ap (λ (r : Run). run statements r.events) is.1
          ∙ run-append statements old.events (kept.event ∷ []) (initial_moment statements)
          ∙ ap (option_and_then (run_from statements (kept.event ∷ []))) ends
          ∙ run-one kept.event (moment_of world old) (moment_of after new)
          (ap (option_map (moment_with_made old.history)) e
          ∙ λ i. Some (record { world = sym is.0 i; history = sym (ap (λ (r : Run). r.history) is.1) i }))
