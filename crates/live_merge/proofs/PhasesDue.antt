-- When Phase is due, and that taking it comes to an end.
use Rattle.std.proofs.Common.{◌≡◌, ℕ, suc, ◌+◌, ◌-◌, ◌<◌, ◌≤◌, nat_le, Bool, true, false, not, ◌&&◌, ◌||◌, ◌==◌, List, [], ◌∷◌, ◌++◌, length, slice_get, Option, Some, None, is_none, refl, sym, ap, ◌∙◌, arith}
use Rattle.std.proofs.lemmas.Bool.{and_parts, ltb-true}
use Rattle.std.proofs.lemmas.Bool.Decides.{nat_tests}
use Rattle.cluster_script.specs.declared.statement.Statement.{Statement}
use Rattle.cluster_script.specs.Settings.{limit_of}
use Rattle.cluster_script.specs.Phases.{phases_of}
use Rattle.sheep_node.specs.declared.event.Event.{Event}
use Rattle.sheep_node.specs.declared.event.Event.TheVariants.{Phase}
use Rattle.sheep_world.specs.World.{World}
use Rattle.sheep_world.specs.Conditions.{may_end_phase}
use Rattle.sheep_world.specs.Enabled.{enabled_events, enabled_at}
use Rattle.sheep_world.specs.Run.{Run, next, is_whole}
use Rattle.sheep_world.proofs.EnabledParts.{enabled_at-slice_get}
use Rattle.schedule.specs.Merged.{is_phase_due}
use Rattle.schedule.proofs.PhaseLemmas.{phase-ends}
use Rattle.live_merge.specs.Merging.{moment_of, HasMergedTo}
use Rattle.live_merge.proofs.MergeLemmas.{made-by, merged-on, merged-phase}

not-not : (b : Bool) → not b ≡ false → b ≡ true
not-not true h = refl
not-not false h = absurd (cc)

not-is : (b : Bool) → not b ≡ true → b ≡ false
not-is true h = absurd (cc)
not-is false h = refl

at-most : (limit taken : ℕ) → limit ≤ taken → nat_le limit taken ≡ true
at-most limit taken h = grind (arith, nat_tests)

above : (limit taken : ℕ) → taken < limit → nat_le limit taken ≡ false
above limit taken h = grind (arith, nat_tests)

or-true : (b : Bool) → (b || true) ≡ true
or-true true = refl
or-true false = refl

or-false : (b : Bool) → (b || false) ≡ b
or-false true = refl
or-false false = refl

positive : (n : ℕ) → (suc n == 0) ≡ false
positive n = grind (arith, nat_tests)

none-first : {X : Type 0} (xs : List X) → is_none (slice_get xs 0) ≡ (length xs == 0)
none-first [] = refl
none-first (x ∷ xs) = sym (positive (length xs))

module _ (statements : List Statement) where
  module _ (world : World) (taken : ℕ) where
    pub due_ended : is_whole statements world ≡ true → is_phase_due statements world taken ≡ false
    due_ended whole = ap (λ (may : Bool). may && (length (enabled_events statements world) == 0 || nat_le (limit_of statements) taken)) (not-is _ whole)

    pub due_limit : (limit : ℕ) → is_whole statements world ≡ false → limit ≡ limit_of statements → limit ≤ taken
        → is_phase_due statements world taken ≡ true
    due_limit limit going is reached =
        ap (λ (may : Bool). may && (length (enabled_events statements world) == 0 || nat_le (limit_of statements) taken)) (not-not _ going)
        ∙ ap (λ (most : ℕ). length (enabled_events statements world) == 0 || nat_le most taken) (sym is)
        ∙ ap (λ (at : Bool). length (enabled_events statements world) == 0 || at) (at-most limit taken reached)
        ∙ or-true _

    pub due_none : (limit : ℕ) (first : Option Event) → is_whole statements world ≡ false → limit ≡ limit_of statements → taken < limit
        → first ≡ enabled_at statements world 0 → is_phase_due statements world taken ≡ is_none first
    due_none limit first going is more at =
        ap (λ (may : Bool). may && (length (enabled_events statements world) == 0 || nat_le (limit_of statements) taken)) (not-not _ going)
        ∙ ap (λ (most : ℕ). length (enabled_events statements world) == 0 || nat_le most taken) (sym is)
        ∙ ap (λ (reached : Bool). length (enabled_events statements world) == 0 || reached) (above limit taken more)
        ∙ or-false _ ∙ sym (none-first (enabled_events statements world))
        ∙ ap is_none (sym (at ∙ enabled_at-slice_get statements world 0))

  due-may : (world : World) (taken : ℕ) → is_phase_due statements world taken ≡ true → may_end_phase statements world ≡ true
  due-may world taken due =
      (and_parts (may_end_phase statements world) (length (enabled_events statements world) == 0 || nat_le (limit_of statements) taken) due).0

  -- one Phase more
  pub phases_more : (world between after : World) (taken : ℕ) (old mid new : Run) → HasMergedTo statements [] world taken old mid between taken
      → is_phase_due statements between taken ≡ true → new.events ≡ mid.events ++ Phase ∷ []
      → next statements Phase (moment_of between mid) ≡ Some (moment_of after new)
      → HasMergedTo statements [] world taken old new after taken
  phases_more world between after taken old mid new h due more on =
      merged-on statements [] [] world between after taken taken taken old mid new h (merged-phase statements between after taken mid new due more on)

  pub phases_fewer : (between after : World) (taken : ℕ) (mid new : Run) → is_phase_due statements between taken ≡ true
      → next statements Phase (moment_of between mid) ≡ Some (moment_of after new)
      → length (phases_of statements) - after.phase < length (phases_of statements) - between.phase
  phases_fewer between after taken mid new due on =
      let made = made-by statements Phase between after mid new on in
      let room : between.phase < length (phases_of statements) =
      ltb-true between.phase (length (phases_of statements)) (due-may between taken due) in
      let ended : made.0.world.phase ≡ between.phase + 1 = phase-ends statements between made.0 made.1 in
      let same : after.phase ≡ made.0.world.phase = ap (λ (w : World). w.phase) made.2 in
      omega (arith, room, ended, same)
