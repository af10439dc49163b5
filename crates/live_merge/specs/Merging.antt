-- What merging a round makes of a world and a run.
use Rattle.std.specs.Prelude.{◌≡◌, ℕ, ◌+◌, Bool, true, false, not, List, [], ◌∷◌, ◌++◌, Option, None, Some, count_by, ◌↔◌, if◌then◌else◌}
use Rattle.cluster_script.specs.declared.statement.Statement.{Statement}
use Rattle.sheep_node.specs.declared.event.Event.{Event}
use Rattle.sheep_node.specs.declared.event.Event.TheVariants.{Phase}
use Rattle.sheep_world.specs.World.{World}
use Rattle.sheep_world.specs.Enabled.{is_enabled}
use Rattle.sheep_world.specs.Step.{EventOutcome, step}
use Rattle.sheep_world.specs.Run.{Moment, Run, run, run_from}
use Rattle.schedule.specs.Merged.{KeptStep, IsAsKept, is_phase_due, MergesOne, MergesFrom, IsClashAt}

-- whether an event is Phase
abbrev pub ends_phase : Event → Bool
ends_phase Phase = true
ends_phase _ = false

-- how many of these events are others than Phase
abbrev pub taken_in : List Event → ℕ
taken_in events = count_by (λ event. not (ends_phase event)) events

-- where a run is, whose world is this one
abbrev pub moment_of : World → Run → Moment
moment_of world kept = record { world = world; history = kept.history }

-- the events of a run lead to this world, with its history
abbrev pub EndsIn : List Statement → Run → World → Type 0
EndsIn statements kept world = run statements kept.events ≡ Some (moment_of world kept)

-- a run went on by the events into which the steps merge
pub record HasMerged (statements : List Statement) (steps : List KeptStep) (world : World) (old new : Run) : Type 0 where
  pub events : List Event
  pub more : new.events ≡ old.events ++ events
  pub merges : MergesFrom statements events world (taken_in old.events) steps

-- the step's event, where it is enabled
abbrev pub made_of : List Statement → KeptStep → World → List Event
made_of statements kept world = if is_enabled statements world kept.event then kept.event ∷ [] else []

-- the steps clash at a place: the run went on by the events before it, and by its own where that was enabled
pub record HasClashed (statements : List Statement) (steps : List KeptStep) (place : ℕ) (world : World) (old new : Run) : Type 0 where
  pub clash : IsClashAt statements (moment_of world old) (taken_in old.events) steps place
  pub more : new.events ≡ old.events ++ (clash.events ++ made_of statements clash.kept clash.last.world)

-- a step's event was made where it was enabled, and made what the step keeps or not
abbrev pub IsStepMadeBy : List Statement → KeptStep → World → Run → World → Run → Bool → Option EventOutcome → Type 0
IsStepMadeBy statements kept before old after new same None = (after ≡ before) × (new ≡ old) × (same ≡ false)
IsStepMadeBy statements kept before old after new same (Some made) =
    (after ≡ made.world) × (new ≡ record { events = old.events ++ kept.event ∷ []; history = old.history ++ made.grown })
    × ((same ≡ true) ↔ IsAsKept kept made)

abbrev pub IsStepMade : List Statement → KeptStep → World → Run → World → Run → Bool → Type 0
IsStepMade statements kept before old after new same =
    IsStepMadeBy statements kept before old after new same (step statements kept.event before)

-- steps merge to these events from a world on, so many events but Phase having been made, and lead to another world and count; whether
-- Phase is due then isn't said
abbrev pub MergesTo : List Statement → List Event → World → ℕ → List KeptStep → World → ℕ → Type 0
MergesTo statements [] world taken steps after count = (steps ≡ []) × (after ≡ world) × (count ≡ taken)
MergesTo statements (event ∷ events) world taken steps after count =
    MergesOne statements world taken steps event (λ next made left. MergesTo statements events next made left after count)
    (is_phase_due statements world taken)

-- a run went on by the events to which the steps merge, to another world and count; whether Phase is due then isn't said
pub record HasMergedTo (statements : List Statement) (steps : List KeptStep) (world : World) (taken : ℕ) (old new : Run) (after : World)
    (count : ℕ) : Type 0 where
  pub events : List Event
  pub more : new.events ≡ old.events ++ events
  pub merges : MergesTo statements events world taken steps after count
  pub runs : run_from statements events (moment_of world old) ≡ Some (moment_of after new)
