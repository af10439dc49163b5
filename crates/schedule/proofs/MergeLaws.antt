-- Kept steps merge to one run.
use Rattle.std.proofs.Common.{◌≡◌, ℕ, ◌+◌, Bool, true, false, List, [], ◌∷◌, ◌++◌, Some, IsSome, refl, sym, ap, subst, ◌∙◌}
use Rattle.std.specs.Option.{option_and_then}
use Rattle.std.proofs.lemmas.Option.{same_Some}
use Rattle.cluster_script.specs.declared.statement.Statement.{Statement}
use Rattle.sheep_node.specs.declared.event.Event.{Event}
use Rattle.sheep_world.specs.World.{World}
use Rattle.sheep_world.specs.Opening as worlds
use Rattle.sheep_world.specs.Step.{EventOutcome, step}
use Rattle.sheep_world.specs.Run.{Moment, initial_moment, moment_with_made, run_from, IsRun}
use Rattle.schedule.specs.Merged.{KeptStep, is_phase_due, IsAsKept, IsClashAt, MergesOne, MergesFrom, Merges}
use Rattle.schedule.proofs.RunLaws.{next-made, run-on}

module _ (statements : List Statement) where
  merge-runs : (events : List Event) (world : World) (taken : ℕ) (steps : List KeptStep) (moment : Moment) → moment.world ≡ world
      → MergesFrom statements events world taken steps → IsSome (run_from statements events moment)
  unfolding run_from
  merge-runs [] world taken steps moment same h = refl
  merge-runs (event ∷ events) world taken steps moment same h =
      by_due (merge-runs events) steps (is_phase_due statements world taken) h
    where
      by_due : ((world : World) (taken : ℕ) (steps : List KeptStep) (moment : Moment) → moment.world ≡ world
          → MergesFrom statements events world taken steps → IsSome (run_from statements events moment))
          → (steps : List KeptStep) (due : Bool) → MergesOne statements world taken steps event (MergesFrom statements events) due
          → IsSome (run_from statements (event ∷ events) moment)
      by_due later steps true h =
          run-on statements event events moment h.0 (ap (step statements event) same ∙ h.2)
          (later h.0.world taken steps (moment_with_made moment.history h.0) refl h.3)
      by_due later [] false h = absurd h
      by_due later (kept ∷ steps) false h =
          run-on statements event events moment h.0 (ap (step statements event) same ∙ h.2)
          (later h.0.world (taken + 1) steps (moment_with_made moment.history h.0) refl h.4)

  pub merge-is-run : (steps : List KeptStep) (events : List Event) → Merges statements steps events → IsRun statements events
  merge-is-run steps events h = merge-runs events (worlds.initial_world statements) 0 steps (initial_moment statements) refl h

  abbrev MergesOn : List Event → EventOutcome → ℕ → List KeptStep → Type 0
  MergesOn events made taken steps = MergesFrom statements events made.world taken steps

  -- the same event makes the same, so what follows is the same too
  cons_same : (event other : Event) (events others : List Event) (world : World) (made again : EventOutcome) (taken : ℕ) (steps : List KeptStep)
      → ((world : World) (taken : ℕ) (steps : List KeptStep) → MergesFrom statements events world taken steps
      → MergesFrom statements others world taken steps → events ≡ others)
      → event ≡ other → step statements event world ≡ Some made → step statements other world ≡ Some again
      → MergesOn events made taken steps → MergesOn others again taken steps → event ∷ events ≡ other ∷ others
  cons_same event other events others world made again taken steps later same is too h k =
      let one : made ≡ again = same_Some made again (sym is ∙ ap (λ (e : Event). step statements e world) same ∙ too) in
      ap (λ (e : Event). e ∷ events) same
      ∙ ap (λ (rest : List Event). other ∷ rest)
      (later made.world taken steps h (subst (λ (m : EventOutcome). MergesOn others m taken steps) (sym one) k))

  no_more : (world : World) (taken : ℕ) (steps : List KeptStep) (event : Event) (events : List Event)
      → steps ≡ [] → is_phase_due statements world taken ≡ false → MergesFrom statements (event ∷ events) world taken steps → ⊥
  no_more world taken steps event events none due h =
      subst (λ (steps : List KeptStep). MergesOne statements world taken steps event (MergesFrom statements events) false) none
      (subst (MergesOne statements world taken steps event (MergesFrom statements events)) due h)

  merge-one : (events others : List Event) (world : World) (taken : ℕ) (steps : List KeptStep)
      → MergesFrom statements events world taken steps → MergesFrom statements others world taken steps → events ≡ others
  merge-one [] [] world taken steps h k = refl
  merge-one [] (other ∷ others) world taken steps h k = absurd (no_more world taken steps other others h.0 h.1 k)
  merge-one (event ∷ events) [] world taken steps h k = absurd (no_more world taken steps event events k.0 k.1 h)
  merge-one (event ∷ events) (other ∷ others) world taken steps h k =
      by_due (merge-one events others) steps (is_phase_due statements world taken) h k
    where
      by_due : ((world : World) (taken : ℕ) (steps : List KeptStep) → MergesFrom statements events world taken steps
          → MergesFrom statements others world taken steps → events ≡ others)
          → (steps : List KeptStep) (due : Bool) → MergesOne statements world taken steps event (MergesFrom statements events) due
          → MergesOne statements world taken steps other (MergesFrom statements others) due → event ∷ events ≡ other ∷ others
      by_due later steps true h k =
          cons_same event other events others world h.0 k.0 taken steps later (h.1 ∙ sym k.1) h.2 k.2 h.3 k.3
      by_due later [] false h k = absurd h
      by_due later (kept ∷ steps) false h k =
          cons_same event other events others world h.0 k.0 (taken + 1) steps later (h.1 ∙ sym k.1) h.2 k.2 h.4 k.4

  pub one-merge : (steps : List KeptStep) (events others : List Event) → Merges statements steps events → Merges statements steps others
      → events ≡ others
  one-merge steps events others h k = merge-one events others (worlds.initial_world statements) 0 steps h k

  not_nil : (before later : List KeptStep) (kept : KeptStep) → before ++ kept ∷ later ≡ [] → ⊥
  not_nil [] later kept e = absurd (cc (e))
  not_nil (first ∷ before) later kept e = absurd (cc (e))

  run-rest : (event : Event) (events : List Event) (moment last : Moment) (made : EventOutcome) → step statements event moment.world ≡ Some made
      → run_from statements (event ∷ events) moment ≡ Some last → run_from statements events (moment_with_made moment.history made) ≡ Some last
  unfolding run_from
  run-rest event events moment last made is run =
      sym (ap (option_and_then (run_from statements events)) (next-made statements event moment made is)) ∙ run

  -- the step isn't made as it is kept
  abbrev Clashes : KeptStep → Moment → Type 0
  Clashes kept last = (made : EventOutcome) → step statements kept.event last.world ≡ Some made → IsAsKept kept made → ⊥

  -- steps merge to nothing where, after those before, the next one isn't made as it is kept
  abbrev NoMerge : List Event → List Event → Type 0
  NoMerge events others =
      (world : World) (taken : ℕ) (before later : List KeptStep) (kept : KeptStep) (moment last : Moment) → moment.world ≡ world
      → MergesFrom statements events world taken before → run_from statements events moment ≡ Some last → Clashes kept last
      → MergesFrom statements others world taken (before ++ kept ∷ later) → ⊥

  no_merge : (events others : List Event) → NoMerge events others
  unfolding run_from
  no_merge [] [] world taken before later kept moment last same h run clash k = not_nil before later kept k.0
  no_merge [] (other ∷ others) world taken before later kept moment last same h run clash k =
      let one : MergesOne statements world taken (kept ∷ later) other (MergesFrom statements others) false =
      subst (λ (steps : List KeptStep). MergesOne statements world taken (steps ++ kept ∷ later) other (MergesFrom statements others) false) h.0
      (subst (MergesOne statements world taken (before ++ kept ∷ later) other (MergesFrom statements others)) h.1 k) in
      clash one.0
      (ap (λ (m : Moment). step statements kept.event m.world) (sym (same_Some moment last run))
      ∙ ap (step statements kept.event) same ∙ ap (λ (e : Event). step statements e world) (sym one.1) ∙ one.2)
      one.3
  no_merge (event ∷ events) [] world taken before later kept moment last same h run clash k = not_nil before later kept k.0
  no_merge (event ∷ events) (other ∷ others) world taken before later kept moment last same h run clash k =
      by_due (no_merge events others) before (is_phase_due statements world taken) h k
    where
      go_on : NoMerge events others → (made again : EventOutcome) (taken : ℕ) (before : List KeptStep) → event ≡ other
          → step statements event world ≡ Some made → step statements other world ≡ Some again
          → MergesFrom statements events made.world taken before → MergesFrom statements others again.world taken (before ++ kept ∷ later) → ⊥
      go_on rest made again taken before alike is too h k =
          let one : made ≡ again = same_Some made again (sym is ∙ ap (λ (e : Event). step statements e world) alike ∙ too) in
          rest made.world taken before later kept (moment_with_made moment.history made) last refl h
          (run-rest event events moment last made (ap (step statements event) same ∙ is) run) clash
          (subst (λ (m : EventOutcome). MergesFrom statements others m.world taken (before ++ kept ∷ later)) (sym one) k)

      by_due : NoMerge events others → (before : List KeptStep) (due : Bool)
          → MergesOne statements world taken before event (MergesFrom statements events) due
          → MergesOne statements world taken (before ++ kept ∷ later) other (MergesFrom statements others) due → ⊥
      by_due rest before true h k = go_on rest h.0 k.0 taken before (h.1 ∙ sym k.1) h.2 k.2 h.3 k.3
      by_due rest [] false h k = h
      by_due rest (first ∷ before) false h k = go_on rest h.0 k.0 (taken + 1) before (h.1 ∙ sym k.1) h.2 k.2 h.4 k.4

  pub clash-no_merge : (moment : Moment) (taken : ℕ) (steps : List KeptStep) (place : ℕ) (events : List Event)
      → IsClashAt statements moment taken steps place → MergesFrom statements events moment.world taken steps → ⊥
  clash-no_merge moment taken steps place events clash h =
      no_merge clash.events events moment.world taken clash.before clash.later clash.kept moment clash.last refl clash.merged clash.made
      clash.clashes
      (subst (MergesFrom statements events moment.world taken) clash.parted h)
