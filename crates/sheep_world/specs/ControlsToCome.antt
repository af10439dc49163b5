-- The controls of a script that are still to come, and that each fits the nodes that are there when it comes.
use Rattle.std.specs.Prelude.{◌≡◌, ℕ, ◌+◌, Bool, true, false, ◌||◌, List, [], ◌∷◌, ◌++◌, drop, flat_map, is_some}
use Rattle.object_id.specs.Node.{IsNode, IsWeight}
use Rattle.cluster_script.specs.declared.statement.Statement.{Statement}
use Rattle.cluster_script.specs.declared.statement.Statement.TheVariants.{Fail, Join, Reweight, Back}
use Rattle.cluster_script.specs.Nodes.{failed_by}
use Rattle.cluster_script.specs.Phases.{Phase, phases_of}
use Rattle.sheep_world.specs.World.{World, host_at, is_lost}
use Rattle.sheep_world.specs.Conditions.{joins}

-- the controls of the phases behind a place
abbrev pub controls_behind : List Phase → ℕ → List Statement
controls_behind phases place = flat_map (λ (phase : Phase). phase.controls) (drop place phases)

-- the controls that are still to come: those that are left, then those of the phases behind
abbrev pub controls_to_come : List Statement → World → List Statement
controls_to_come script world = world.controls ++ controls_behind (phases_of script) (world.phase + 1)

-- a control fits, where these numbers were used, and these are failed: who joins is new and has a number that a node may have, who
-- fails or gets a weight is there, who comes back is failed
abbrev pub FitsNodes : (ℕ → Bool) → (ℕ → Bool) → Statement → Type 0
FitsNodes used failed (Fail node) = (used node ≡ true) × (failed node ≡ false)
FitsNodes used failed (Join node) = IsNode node × (used node ≡ false)
FitsNodes used failed (Reweight node vnodes) = (used node ≡ true) × (failed node ≡ false) × IsWeight vnodes
FitsNodes used failed (Back node) = failed node ≡ true
FitsNodes used failed s = Unit {0}

-- the numbers that are used after a control
abbrev pub used_after : Statement → (ℕ → Bool) → ℕ → Bool
used_after s used node = used node || joins node s

-- those that are failed
abbrev pub failed_after : Statement → (ℕ → Bool) → ℕ → Bool
failed_after s failed node = failed_by node (failed node) s

-- each control fits in its turn
abbrev pub EachFits : (ℕ → Bool) → (ℕ → Bool) → List Statement → Type 0
EachFits used failed [] = Unit {0}
EachFits used failed (s ∷ rest) = FitsNodes used failed s × EachFits (used_after s used) (failed_after s failed) rest

-- a number was used: it has a host
abbrev pub has_host : World → ℕ → Bool
has_host world node = is_some (host_at node world)

-- the controls that are still to come fit the nodes of a world
abbrev pub ControlsFit : List Statement → World → Type 0
ControlsFit script world = EachFits (has_host world) (λ (node : ℕ). is_lost node world) (controls_to_come script world)
