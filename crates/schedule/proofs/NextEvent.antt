-- The next event of a schedule, found by its place in the enabled list, and the schedule behind it.
use Rattle.std.proofs.Common.{◌≡◌, ℕ, ◌+◌, ◌<◌, ◌≤◌, Bool, true, false, not, List, [], ◌∷◌, ◌++◌, length, Option, Some, None, is_some, unwrap_or, refl, sym, ap, subst, ◌∙◌, arith}
use Rattle.std.specs.Option.{option_map}
use Rattle.std.proofs.lemmas.Option.{same_Some, none-some}
use Rattle.cluster_script.specs.declared.statement.Statement.{Statement}
use Rattle.cluster_script.specs.Settings.{limit_of}
use Rattle.sheep_node.specs.declared.event.Event.{Event}
use Rattle.sheep_node.specs.declared.event.Event.TheVariants.{Phase}
use Rattle.sheep_world.specs.declared.fault.ApplyFault.{ApplyFault}
use Rattle.sheep_world.specs.declared.fault.ApplyFault.TheVariants as faults
use Rattle.sheep_world.specs.World.{World}
use Rattle.sheep_world.specs.Conditions.{may_end_phase}
use Rattle.sheep_world.specs.Enabled.{enabled_events, enabled_count, enabled_at, is_enabled}
use Rattle.sheep_world.specs.Step.{EventOutcome, step}
use Rattle.sheep_world.specs.Run.{Moment, Run, moment_with_made, next, is_whole}
use Rattle.sheep_world.proofs.EnabledLaws.{is_some-step}
use Rattle.sheep_world.proofs.EnabledParts.{enabled_count-length, enabled_at-slice_get}
use Rattle.schedule.specs.Schedule.{Draft, Choice, next_choice, choice_at, choice, world_after, made_so, draft_after_event, empty_draft}
use Rattle.schedule.proofs.ChoiceLaws.{choice-may}
use Rattle.schedule.proofs.WholeLaws.{left, fewer_left}
use Rattle.schedule.proofs.SeededRuns.{IsFront, front-first, front-on}

pub not-true : (b : Bool) → not b ≡ true → b ≡ false
not-true true h = absurd (cc)
not-true false h = refl

pub not-false : (b : Bool) → not b ≡ false → b ≡ true
not-false true h = refl
not-false false h = absurd (cc)

-- where an event is refused that may happen, memory is wanting
pub wants-memory : {P : Type 0} (fault : ApplyFault) (enabled : Bool) → enabled ≡ true → (fault ≡ faults.NotEnabled → enabled ≡ false)
    → (fault ≡ faults.NoMemory → P) → P
wants-memory faults.NotEnabled enabled on refused spent = let off = refused refl in absurd (cc (on, off))
wants-memory faults.NoMemory enabled on refused spent = spent refl

-- a place that is drawn for every list of so many events is drawn for the enabled ones
pub choice-placed : (statements : List Statement) (draft : Draft) (limit count : ℕ) (place : Option ℕ) (rng : ℕ)
    → ((other : Draft) (events : List Event) → other.rng ≡ draft.rng → other.taken ≡ draft.taken → length events ≡ count
    → next_choice limit other events ≡ choice_at other events place rng)
    → limit ≡ limit_of statements → count ≡ enabled_count statements draft.world
    → choice statements draft ≡ choice_at draft (enabled_events statements draft.world) place rng
unfolding choice
choice-placed statements draft limit count place rng drawn limited counted =
    ap (λ (most : ℕ). next_choice most draft (enabled_events statements draft.world)) (sym limited)
    ∙ drawn draft (enabled_events statements draft.world) refl refl (sym (enabled_count-length statements draft.world) ∙ sym counted)

-- and what stands there is the event
pub choice-found : (statements : List Statement) (draft : Draft) (place rng : ℕ) (found : Option Event)
    → choice statements draft ≡ choice_at draft (enabled_events statements draft.world) (Some place) rng
    → found ≡ enabled_at statements draft.world place
    → choice statements draft ≡ record { event = unwrap_or found Phase; rng = rng; taken = draft.taken + 1 }
choice-found statements draft place rng found placed is =
    placed
    ∙ ap (λ (o : Option Event). record { event = unwrap_or o Phase; rng = rng; taken = draft.taken + 1 })
    (sym (is ∙ enabled_at-slice_get statements draft.world place))

module _ (statements : List Statement) where
  -- what is chosen may happen, unless every phase is ended
  pub chosen-enabled : (draft : Draft) (event : Event) (rng taken : ℕ) → may_end_phase statements draft.world ≡ true
      → choice statements draft ≡ record { event = event; rng = rng; taken = taken } → is_enabled statements draft.world event ≡ true
  chosen-enabled draft event rng taken may chosen =
      let made = choice-may statements draft may in
      sym (is_some-step statements draft.world event)
      ∙ ap is_some (subst (λ (one : Choice). step statements one.event draft.world ≡ Some made.0) chosen made.1)

  -- the draft behind the next event, which was made
  draft-next : (draft : Draft) (event : Event) (rng taken : ℕ) (kept : Run) (after : Moment)
      → choice statements draft ≡ record { event = event; rng = rng; taken = taken }
      → next statements event (record { world = draft.world; history = kept.history }) ≡ Some after
      → draft_after_event statements draft ≡ record { world = after.world; rng = rng; taken = taken }
  draft-next draft event rng taken kept after chosen on = by_step (step statements event draft.world) refl on
    where
      by_step : (made : Option EventOutcome) → step statements event draft.world ≡ made
          → option_map (moment_with_made kept.history) made ≡ Some after
          → draft_after_event statements draft ≡ record { world = after.world; rng = rng; taken = taken }
      by_step None e is = absurd (none-some after is)
      by_step (Some made) e is =
          ap (λ (one : Choice). made_so statements one draft) chosen
          ∙ ap (λ (o : Option EventOutcome). record { world = world_after draft.world o; rng = rng; taken = taken }) e
          ∙ ap (λ (moment : Moment). record { world = moment.world; rng = rng; taken = taken })
          (same_Some (moment_with_made kept.history made) after is)

  fewer-next : (draft : Draft) (event : Event) (rng taken : ℕ) (kept : Run) (after : Moment)
      → may_end_phase statements draft.world ≡ true
      → choice statements draft ≡ record { event = event; rng = rng; taken = taken }
      → next statements event (record { world = draft.world; history = kept.history }) ≡ Some after
      → left statements (record { world = after.world; rng = rng; taken = taken }) + 1 ≤ left statements draft
  fewer-next draft event rng taken kept after may chosen on =
      subst (λ (later : Draft). left statements later + 1 ≤ left statements draft)
      (draft-next draft event rng taken kept after chosen on) (fewer_left statements draft may)

  pub less-next : (draft : Draft) (event : Event) (rng taken : ℕ) (kept : Run) (after : Moment)
      → may_end_phase statements draft.world ≡ true
      → choice statements draft ≡ record { event = event; rng = rng; taken = taken }
      → next statements event (record { world = draft.world; history = kept.history }) ≡ Some after
      → left statements (record { world = after.world; rng = rng; taken = taken }) < left statements draft
  less-next draft event rng taken kept after may chosen on =
      let fewer = fewer-next draft event rng taken kept after may chosen on in
      omega (arith, fewer)

  -- the events so far go on with it
  pub front-next : (seed : ℕ) (draft : Draft) (event : Event) (rng taken : ℕ) (kept : Run) (after : Moment)
      → IsFront statements seed kept draft → may_end_phase statements draft.world ≡ true
      → choice statements draft ≡ record { event = event; rng = rng; taken = taken }
      → next statements event (record { world = draft.world; history = kept.history }) ≡ Some after
      → IsFront statements seed (record { events = kept.events ++ event ∷ []; history = after.history })
      (record { world = after.world; rng = rng; taken = taken })
  front-next seed draft event rng taken kept after front may chosen on =
      subst (IsFront statements seed (record { events = kept.events ++ event ∷ []; history = after.history }))
      (draft-next draft event rng taken kept after chosen on) (by_step (step statements event draft.world) refl on)
    where
      by_step : (made : Option EventOutcome) → step statements event draft.world ≡ made
          → option_map (moment_with_made kept.history) made ≡ Some after
          → IsFront statements seed (record { events = kept.events ++ event ∷ []; history = after.history }) (draft_after_event statements draft)
      by_step None e is = absurd (none-some after is)
      by_step (Some made) e is =
          let steps : step statements (choice statements draft).event draft.world ≡ Some made =
          ap (λ (one : Choice). step statements one.event draft.world) chosen ∙ e in
          subst (λ (moment : Moment). IsFront statements seed (record { events = kept.events ++ event ∷ []; history = moment.history })
          (draft_after_event statements draft))
          (same_Some (moment_with_made kept.history made) after is)
          (subst (λ (one : Choice). IsFront statements seed
          (record { events = kept.events ++ one.event ∷ []; history = kept.history ++ made.grown }) (draft_after_event statements draft))
          chosen (front-on statements seed kept draft made front may steps))

  -- the same as they stand in the code: before the first event
  pub front-opening : (seed : ℕ) (kept : Run) (draft : Draft) → kept ≡ record { events = []; history = [] } → draft ≡ empty_draft statements seed
      → IsFront statements seed kept draft
  front-opening seed kept draft none first =
      subst (λ (k : Run). IsFront statements seed k draft) (sym none)
      (subst (IsFront statements seed (record { events = []; history = [] })) (sym first) (front-first statements seed))

  -- and one event more
  pub front-grown : (seed : ℕ) (draft : Draft) (event : Event) (rng taken : ℕ) (kept grown : Run) (world : World)
      → IsFront statements seed kept draft → may_end_phase statements draft.world ≡ true
      → choice statements draft ≡ record { event = event; rng = rng; taken = taken }
      → grown.events ≡ kept.events ++ event ∷ []
      → next statements event (record { world = draft.world; history = kept.history }) ≡ Some (record { world = world; history = grown.history })
      → IsFront statements seed grown (record { world = world; rng = rng; taken = taken })
  front-grown seed draft event rng taken kept grown world front may chosen events on =
      subst (λ (all : List Event). IsFront statements seed (record { events = all; history = grown.history }) (record { world = world; rng = rng; taken = taken }))
      (sym events) (front-next seed draft event rng taken kept (record { world = world; history = grown.history }) front may chosen on)
