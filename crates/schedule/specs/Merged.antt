-- The run into which the steps that a live cluster kept are merged.
use Rattle.std.specs.Prelude.{◌≡◌, ℕ, ◌+◌, nat_le, Bool, true, false, ◌&&◌, ◌||◌, List, [], ◌∷◌, ◌++◌, length, flat_map, Option, Some, ◌==◌}
use Rattle.std.specs.Ordering.{nat_cmp}
use Rattle.std.specs.List.Sorted.{IsPermutation, IsSortedByKey, IsStableByKey}
use Rattle.std.specs.FinMap as tree
use Rattle.cluster_script.specs.declared.statement.Statement.{Statement}
use Rattle.cluster_script.specs.Settings.{limit_of}
use Rattle.sheep_node.specs.declared.event.Event.{Event}
use Rattle.sheep_node.specs.declared.event.Event.TheVariants.{Phase}
use Rattle.sheep_node.specs.declared.input.Input.{Input}
use Rattle.sheep_node.specs.declared.outputs.Outputs.{Outputs}
use Rattle.sheep_world.specs.World.{World}
use Rattle.sheep_world.specs.Opening.{initial_world}
use Rattle.sheep_world.specs.Conditions.{may_end_phase}
use Rattle.sheep_world.specs.Enabled.{enabled_events}
use Rattle.sheep_world.specs.Step.{EventOutcome, step}
use Rattle.sheep_world.specs.Run.{Moment, run_from}

-- a step that was kept: its stamp, its event, the input of the node that stepped, none where none did, and its outputs
pub record KeptStep : Type 0 where
  pub stamp : ℕ
  pub event : Event
  pub input : Option Input
  pub outputs : Outputs

-- what a live cluster kept: the steps of each node by its number, as it made them, and those at which no node stepped, as they were made
pub record Kept : Type 0 where
  pub cells : tree.FinMap nat_cmp (List KeptStep)
  pub others : List KeptStep

-- all that was kept: node by node, ascending, and then the other steps
abbrev pub all_steps : Kept → List KeptStep
all_steps kept = flat_map (λ (cell : ℕ × List KeptStep). cell.1) (tree.entries kept.cells) ++ kept.others

-- the stamp that a step has
abbrev pub stamp_of : KeptStep → ℕ
stamp_of step = step.stamp

-- all that was kept, by stamp; steps of equal stamps stay as they were
pub record IsByStamp (kept : Kept) (steps : List KeptStep) : Type 0 where
  pub same : IsPermutation (all_steps kept) steps
  pub ascending : IsSortedByKey stamp_of nat_cmp steps
  pub ties : IsStableByKey stamp_of nat_cmp (all_steps kept) steps

-- whether Phase is due: a phase isn't ended, and nothing is enabled or as many other events were made as the limit allows
abbrev pub is_phase_due : List Statement → World → ℕ → Bool
is_phase_due statements world taken =
    may_end_phase statements world
    && (length (enabled_events statements world) == 0 || nat_le (limit_of statements) taken)

-- what an event made is what the step keeps
pub record IsAsKept (kept : KeptStep) (made : EventOutcome) : Type 0 where
  pub input : made.world.input ≡ kept.input
  pub outputs : made.world.outputs ≡ kept.outputs

-- What stands at an event: Phase where it is due, and else the next step's event, which makes what the step keeps. How the
-- merge goes on is said of the world then, the count of other events and the steps that are left.
abbrev pub MergesOne : List Statement → World → ℕ → List KeptStep → Event → (World → ℕ → List KeptStep → Type 0) → Bool → Type 0
MergesOne statements world taken steps event Later true =
    (made : EventOutcome) × (event ≡ Phase) × (step statements event world ≡ Some made) × Later made.world taken steps
MergesOne statements world taken [] event Later false = ⊥
MergesOne statements world taken (kept ∷ steps) event Later false =
    (made : EventOutcome) × (event ≡ kept.event) × (step statements event world ≡ Some made) × IsAsKept kept made
    × Later made.world (taken + 1) steps

-- whether steps merge to these events, from a world on, so many events but Phase having been made
abbrev pub MergesFrom : List Statement → List Event → World → ℕ → List KeptStep → Type 0
MergesFrom statements [] world taken steps = (steps ≡ []) × (is_phase_due statements world taken ≡ false)
MergesFrom statements (event ∷ events) world taken steps =
    MergesOne statements world taken steps event (MergesFrom statements events) (is_phase_due statements world taken)

-- whether the steps of a script's cluster merge to these events
abbrev pub Merges : List Statement → List KeptStep → List Event → Type 0
Merges statements steps events = MergesFrom statements events (initial_world statements) 0 steps

-- whether what a script's cluster kept merges to these events
abbrev pub IsMergeOf : List Statement → Kept → List Event → Type 0
IsMergeOf statements kept events = (steps : List KeptStep) × IsByStamp kept steps × Merges statements steps events

-- where steps clash, from a moment of a run on: those before merge to events, after which Phase isn't due, and the step at the
-- place, from 0, isn't enabled then or makes something else
pub record IsClashAt (statements : List Statement) (moment : Moment) (taken : ℕ) (steps : List KeptStep) (place : ℕ) : Type 0 where
  pub before : List KeptStep
  pub kept : KeptStep
  pub later : List KeptStep
  pub parted : steps ≡ before ++ kept ∷ later
  pub counted : place ≡ length before
  pub events : List Event
  pub merged : MergesFrom statements events moment.world taken before
  pub last : Moment
  pub made : run_from statements events moment ≡ Some last
  pub clashes : (made : EventOutcome) → step statements kept.event last.world ≡ Some made → IsAsKept kept made → ⊥
