-- What is kept of a cell, or of worker 256, are steps of a node, or such at which no node stepped.
use Rattle.std.proofs.Common.{◌≡◌, ◌⊎◌, inl, inr, ℕ, ◌-◌, List, [], ◌∷◌, ◌++◌, drop, All}
use Rattle.std.specs.Prelude.{slice_range}
use Rattle.std.proofs.lemmas.List.Elements.{All-weaker, All-nil, All-cons, All-same, All-append, All-take, All-drop}
use Rattle.sheep_node.specs.State.{Node}
use Rattle.live_cells.specs.declared.step.Step.{Step}
use Rattle.live_cells.specs.History.{node_behind, Replays}
use Rattle.live_workers.specs.OtherSteps.{IsOther}
use Rattle.live_workers.specs.NewSteps.{IsKept}

pub steps_of_a_cell : (before : Node) (steps : List Step) (after : Node) → Replays before steps after → All IsKept steps
steps_of_a_cell before [] after replays = All-nil IsKept
steps_of_a_cell before (step ∷ later) after replays =
    All-cons IsKept step later (inl (before, replays.0)) (steps_of_a_cell (node_behind step.input before) later after replays.1)

pub others_are_kept : (steps : List Step) → All IsOther steps → All IsKept steps
others_are_kept steps others = All-weaker IsOther IsKept (λ step other. inr other) steps others

-- a part of what is kept is
pub part_is_kept : (all part : List Step) (from to : ℕ) → part ≡ slice_range all from to → All IsKept all → All IsKept part
part_is_kept all part from to is kept =
    All-same IsKept part (slice_range all from to) is (All-take IsKept (to - from) (drop from all) (All-drop IsKept from all kept))

pub more_are_kept : (old part new : List Step) → new ≡ old ++ part → All IsKept old → All IsKept part → All IsKept new
more_are_kept old part new is before more = All-same IsKept new (old ++ part) is (All-append IsKept old part before more)
