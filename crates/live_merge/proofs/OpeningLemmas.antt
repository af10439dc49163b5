-- Merging from the opening world of a script.
use Rattle.std.proofs.Common.{◌≡◌, ℕ, true, false, List, [], ◌∷◌, ◌++◌, refl, sym, ap, subst, ◌∙◌}
use Rattle.std.specs.Prelude.{Result, Err, IsErrAnd}
use Rattle.std.specs.Option.{option_map}
use Rattle.cluster_script.specs.declared.statement.Statement.{Statement}
use Rattle.sheep_node.specs.declared.event.Event.{Event}
use Rattle.sheep_world.specs.World.{World}
use Rattle.sheep_world.specs.SpentWorld.{WorldOrSpent}
use Rattle.sheep_world.specs.Opening.{initial_world}
use Rattle.sheep_world.specs.Run.{Moment, Run, initial_moment, run_from, is_whole, IsKept, IsWholeRun}
use Rattle.schedule.specs.Merged.{KeptStep, MergesFrom, Merges, IsClashAt}
use Rattle.live_merge.specs.declared.fault.MergeFault.{MergeFault}
use Rattle.live_merge.specs.declared.fault.MergeFault.TheVariants as faults
use Rattle.live_merge.specs.Merging.{moment_of, taken_in, EndsIn, HasMerged, HasClashed}

-- a fault that is told is the one that was answered
pub clash-told : {X : Type 0} (told : Result X MergeFault) (fault : MergeFault) (place : ℕ) → IsErrAnd told (λ other. other ≡ fault)
    → told ≡ Err (faults.Clash place) → fault ≡ faults.Clash place
clash-told {X} told fault place gives is = sym (subst (λ (r : Result X MergeFault). IsErrAnd r (λ other. other ≡ fault)) is gives)

module _ (statements : List Statement) where
  -- the opening world, as it is made
  abbrev pub Opens : WorldOrSpent → Type 0
  Opens seen = seen ≡ record { spent = false; world = initial_world statements }

  at-opening : (seen : WorldOrSpent) → Opens seen → seen.world ≡ initial_world statements
  at-opening seen opens = ap (λ (w : WorldOrSpent). w.world) opens

  pub opening_live : (seen : WorldOrSpent) → Opens seen → seen.spent ≡ false
  opening_live seen opens = ap (λ (w : WorldOrSpent). w.spent) opens

  pub opening_ends : (seen : WorldOrSpent) (kept : Run) → Opens seen → kept ≡ record { events = []; history = [] } → EndsIn statements kept seen.world
  unfolding run_from
  opening_ends seen kept opens none =
      subst (λ (r : Run). EndsIn statements r seen.world) (sym none)
      (subst (λ (w : World). EndsIn statements (record { events = []; history = [] }) w) (sym (at-opening seen opens)) refl)

  pub opening_merged : (steps : List KeptStep) (seen : WorldOrSpent) (old new : Run) → Opens seen → old ≡ record { events = []; history = [] }
      → HasMerged statements steps seen.world old new → Merges statements steps new.events
  opening_merged steps seen old new opens none h =
      let more : new.events ≡ h.events = h.more ∙ ap (λ (r : Run). r.events ++ h.events) none in
      subst (λ (events : List Event). Merges statements steps events) (sym more)
      (subst (λ (w : World). MergesFrom statements h.events w 0 steps) (at-opening seen opens)
      (subst (λ (r : Run). MergesFrom statements h.events seen.world (taken_in r.events) steps) none h.merges))

  pub opening_clash : (steps : List KeptStep) (place : ℕ) (seen : WorldOrSpent) (old new : Run) → Opens seen → old ≡ record { events = []; history = [] }
      → HasClashed statements steps place seen.world old new → IsClashAt statements (initial_moment statements) 0 steps place
  opening_clash steps place seen old new opens none h =
      subst (λ (w : World). IsClashAt statements (record { world = w; history = [] }) 0 steps place) (at-opening seen opens)
      (subst (λ (r : Run). IsClashAt statements (moment_of seen.world r) (taken_in r.events) steps place) none h.clash)

  pub ends_kept : (world : World) (kept : Run) → EndsIn statements kept world → IsKept statements kept
  ends_kept world kept ends = ap (option_map (λ (moment : Moment). moment.history)) ends

  pub ends_whole : (world : World) (kept : Run) → EndsIn statements kept world → is_whole statements world ≡ true → IsWholeRun statements kept.events
  ends_whole world kept ends whole = (moment_of world kept, ends, whole)
