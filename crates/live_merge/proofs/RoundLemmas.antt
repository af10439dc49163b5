-- A round's steps, one more merged at a time, or a clash there.
use Rattle.std.proofs.Common.{◌≡◌, ℕ, ◌+◌, ◌<◌, ◌≤◌, Bool, true, false, List, [], ◌∷◌, ◌++◌, length, map, take, drop, get_or, refl, sym, ap, subst, ◌∙◌, append-nil, arith}
use Rattle.std.proofs.lemmas.List.{take_all, take_more, drop_more, take-append-drop, length-take-le, length-map, map-append}
use Rattle.cluster_script.specs.declared.statement.Statement.{Statement}
use Rattle.sheep_world.specs.World.{World}
use Rattle.sheep_world.specs.Run.{Run}
use Rattle.live_cells.specs.declared.step.Step.{Step}
use Rattle.schedule.specs.Merged.{KeptStep, is_phase_due}
use Rattle.live_merge.specs.Steps.{kept_step}
use Rattle.live_merge.specs.Merging.{EndsIn, taken_in, HasMerged, HasMergedTo, HasClashed, IsStepMade}
use Rattle.live_merge.proofs.MergeLemmas.{merged-all, merged-on, merged-step, clash-behind, ends-merged, ends-made}

-- the steps before a place
abbrev pub before : ℕ → List Step → List KeptStep
before place steps = map kept_step (take place steps)

before-more : (steps : List Step) (place : ℕ) (step : Step) → place < length steps → step ≡ get_or steps place step
    → before (place + 1) steps ≡ before place steps ++ kept_step step ∷ []
before-more steps place step within is =
    ap (map kept_step) (take_more steps place step within ∙ ap (λ (s : Step). take place steps ++ s ∷ []) (sym is))
    ∙ map-append kept_step (take place steps) (step ∷ [])

parted : (steps : List Step) (place : ℕ) (step : Step) → place < length steps → step ≡ get_or steps place step
    → before place steps ++ kept_step step ∷ map kept_step (drop (place + 1) steps) ≡ map kept_step steps
parted steps place step within is =
    sym (map-append kept_step (take place steps) (step ∷ drop (place + 1) steps))
    ∙ ap (λ (s : Step). map kept_step (take place steps ++ s ∷ drop (place + 1) steps)) is
    ∙ ap (λ (later : List Step). map kept_step (take place steps ++ later)) (sym (drop_more steps place step within))
    ∙ ap (map kept_step) (take-append-drop place steps)

module _ (statements : List Statement) where
  -- the steps so far, with Phase behind them as long as it is due
  so_far : (steps : List Step) (place : ℕ) (world w1 w2 : World) (taken count : ℕ) (old r1 r2 : Run)
      → HasMergedTo statements (before place steps) world taken old r1 w1 count → HasMergedTo statements [] w1 count r1 r2 w2 count
      → HasMergedTo statements (before place steps) world taken old r2 w2 count
  so_far steps place world w1 w2 taken count old r1 r2 h phases =
      subst (λ (merged : List KeptStep). HasMergedTo statements merged world taken old r2 w2 count) (append-nil (before place steps))
      (merged-on statements (before place steps) [] world w1 w2 taken count count old r1 r2 h phases)

  pub round_more : (steps : List Step) (place : ℕ) (step : Step) (world w1 w2 after : World) (taken count : ℕ) (old r1 r2 new : Run)
      → place < length steps → step ≡ get_or steps place step
      → HasMergedTo statements (before place steps) world taken old r1 w1 count → HasMergedTo statements [] w1 count r1 r2 w2 count
      → is_phase_due statements w2 count ≡ false → IsStepMade statements (kept_step step) w2 r2 after new true
      → HasMergedTo statements (before (place + 1) steps) world taken old new after (count + 1)
  round_more steps place step world w1 w2 after taken count old r1 r2 new within is h phases due made =
      subst (λ (merged : List KeptStep). HasMergedTo statements merged world taken old new after (count + 1))
      (sym (before-more steps place step within is))
      (merged-on statements (before place steps) (kept_step step ∷ []) world w2 after taken count (count + 1) old r2 new
      (so_far steps place world w1 w2 taken count old r1 r2 h phases) (merged-step statements (kept_step step) w2 after count r2 new due made))

  pub round_clash : (steps : List Step) (place : ℕ) (step : Step) (world w1 w2 after : World) (taken count : ℕ) (old r1 r2 new : Run)
      → place < length steps → step ≡ get_or steps place step → taken ≡ taken_in old.events
      → HasMergedTo statements (before place steps) world taken old r1 w1 count → HasMergedTo statements [] w1 count r1 r2 w2 count
      → is_phase_due statements w2 count ≡ false → IsStepMade statements (kept_step step) w2 r2 after new false
      → HasClashed statements (map kept_step steps) place world old new
  round_clash steps place step world w1 w2 after taken count old r1 r2 new within is so h phases due made =
      let counted : length (before place steps) ≡ place =
      length-map (take place steps) kept_step ∙ length-take-le place steps (omega (arith, within)) in
      subst (λ (n : ℕ). HasClashed statements (map kept_step steps) n world old new) counted
      (subst (λ (all : List KeptStep). HasClashed statements all (length (before place steps)) world old new) (parted steps place step within is)
      (clash-behind statements (before place steps) (kept_step step) (map kept_step (drop (place + 1) steps)) world w2 after taken count old r2 new
      (so_far steps place world w1 w2 taken count old r1 r2 h phases) due so made))

  -- and the run's end is the world behind it
  pub round_ends : (steps : List Step) (place : ℕ) (step : Step) (world w1 w2 after : World) (taken count : ℕ) (old r1 r2 new : Run) (same : Bool)
      → HasMergedTo statements (before place steps) world taken old r1 w1 count → HasMergedTo statements [] w1 count r1 r2 w2 count
      → IsStepMade statements (kept_step step) w2 r2 after new same → EndsIn statements old world → EndsIn statements new after
  round_ends steps place step world w1 w2 after taken count old r1 r2 new same h phases made ends =
      ends-made statements (kept_step step) w2 after r2 new same made
      (ends-merged statements (before place steps) world w2 taken count old r2 (so_far steps place world w1 w2 taken count old r1 r2 h phases) ends)

  -- all steps, with Phase behind them
  all-so_far : (steps : List Step) (place : ℕ) (world w1 w2 : World) (taken count : ℕ) (old r1 r2 : Run) → length steps ≤ place
      → HasMergedTo statements (before place steps) world taken old r1 w1 count → HasMergedTo statements [] w1 count r1 r2 w2 count
      → HasMergedTo statements (map kept_step steps) world taken old r2 w2 count
  all-so_far steps place world w1 w2 taken count old r1 r2 all h phases =
      subst (λ (merged : List Step). HasMergedTo statements (map kept_step merged) world taken old r2 w2 count) (take_all place steps all)
      (so_far steps place world w1 w2 taken count old r1 r2 h phases)

  pub round_merged : (steps : List Step) (place : ℕ) (world w1 w2 : World) (taken count : ℕ) (old r1 r2 : Run) → length steps ≤ place
      → taken ≡ taken_in old.events → HasMergedTo statements (before place steps) world taken old r1 w1 count
      → HasMergedTo statements [] w1 count r1 r2 w2 count → is_phase_due statements w2 count ≡ false
      → HasMerged statements (map kept_step steps) world old r2
  round_merged steps place world w1 w2 taken count old r1 r2 all so h phases due =
      merged-all statements (map kept_step steps) world w2 taken count old r2
      (all-so_far steps place world w1 w2 taken count old r1 r2 all h phases) due so

  pub round_end : (steps : List Step) (place : ℕ) (world w1 w2 : World) (taken count : ℕ) (old r1 r2 : Run)
      → HasMergedTo statements (before place steps) world taken old r1 w1 count → HasMergedTo statements [] w1 count r1 r2 w2 count
      → EndsIn statements old world → EndsIn statements r2 w2
  round_end steps place world w1 w2 taken count old r1 r2 h phases ends =
      ends-merged statements (before place steps) world w2 taken count old r2 (so_far steps place world w1 w2 taken count old r1 r2 h phases) ends
