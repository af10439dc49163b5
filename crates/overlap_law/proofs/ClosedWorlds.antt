-- What holds in every world of a script's runs holds behind each change of a moment, and along trails of them, where it holds in the middle
-- of a step; and what holds of each host there, where it holds of the one that steps.
use Rattle.std.proofs.Common.{◌≡◌, ◌≢◌, ⊎_elim, ℕ, List, Some, sym, subst}
use Rattle.std.specs.FinMap as tree
use Rattle.proof_tools.proofs.FiniteMaps.{get-insert_cases}
use Rattle.cluster_script.specs.declared.statement.Statement.{Statement}
use Rattle.sheep_node.specs.StepState.{StepState}
use Rattle.sheep_node.specs.Changes as changes
use Rattle.sheep_world.specs.World.{Host, World}
use Rattle.sheep_world.specs.NodeCauses.{host_with_node}
use Rattle.sheep_world.specs.Began.{Began}
use Rattle.sheep_world.proofs.BegunWorlds.{goes_on}
use Rattle.overlap_law.specs.Past.{MomentWithPast}
use Rattle.overlap_law.specs.StepMoments.{SteppingNode, IsStepping, StepsByChanges, first_in_step, LeadsInStep, moment_in_step}
use Rattle.overlap_law.specs.MomentChanges as moments
use Rattle.overlap_law.specs.MomentChanges.{MomentChange, MomentTrail}
use Rattle.overlap_law.proofs.EventsOfChanges.{by_change}

module _ (script : List Statement) (P : World → Type 0) (holds : (world : World) → Began script world → P world) (start : MomentWithPast)
    (began : Began script start.world) where
  module _ (in_step : (stepping : SteppingNode) → IsStepping script start.world stepping → StepsByChanges stepping.cause
      → (so_far : StepState) → LeadsInStep stepping (first_in_step stepping) so_far → P (moment_in_step script stepping start so_far).world)
    where
      pub world_after : {before after : MomentWithPast} → MomentChange script start before after → P after.world
      world_after change =
          by_change script start (λ before after. P after.world)
          (λ stepping is by. in_step stepping is by (first_in_step stepping) changes.Still)
          (λ stepping is by so_far next within. in_step stepping is by next (changes.Then within.leads within.change))
          (λ event made happened. holds made.world (goes_on script event start.world made began happened)) change

      pub world_along : {moment : MomentWithPast} → MomentTrail script start moment → P moment.world
      world_along moments.Still = holds start.world began
      world_along (moments.Then trail change) = world_after change

module _ (script : List Statement) (Q : ℕ → Host → Type 0) where
  abbrev EachIsSo : World → Type 0
  EachIsSo world = (n : ℕ) (host : Host) → tree.get world.hosts n ≡ Some host → Q n host

  module _ (holds : (world : World) → Began script world → EachIsSo world) (start : MomentWithPast) (began : Began script start.world)
      (own : (stepping : SteppingNode) → IsStepping script start.world stepping → StepsByChanges stepping.cause → (so_far : StepState)
      → LeadsInStep stepping (first_in_step stepping) so_far → Q stepping.n (host_with_node stepping.host so_far.node)) where
    in_step : (stepping : SteppingNode) → IsStepping script start.world stepping → StepsByChanges stepping.cause → (so_far : StepState)
        → LeadsInStep stepping (first_in_step stepping) so_far → EachIsSo (moment_in_step script stepping start so_far).world
    in_step stepping is by so_far leads n host there = ⊎_elim
        (λ (here : (n ≡ stepping.n) × (host_with_node stepping.host so_far.node ≡ host)).
        subst (λ (k : ℕ). Q k host) (sym here.0) (subst (Q stepping.n) here.1 (own stepping is by so_far leads)))
        (λ (other : (n ≢ stepping.n) × (tree.get start.world.hosts n ≡ Some host)). holds start.world began n host other.1)
        (get-insert_cases start.world.hosts stepping.n (host_with_node stepping.host so_far.node) n host there)

    pub hosts_after : {before after : MomentWithPast} → MomentChange script start before after → EachIsSo after.world
    hosts_after change = world_after script EachIsSo holds start began in_step change

    pub hosts_before : {before after : MomentWithPast} → MomentChange script start before after → EachIsSo before.world
    hosts_before (moments.StepBegins stepping is by) = holds start.world began
    hosts_before (moments.StepGoesOn stepping so_far next is by within) = in_step stepping is by so_far within.leads
    hosts_before (moments.StepIsMade stepping is by) = holds start.world began
    hosts_before (moments.LossIsUntold event made happened h) = holds start.world began
    hosts_before (moments.DeliveryIsUnread event made happened h) = holds start.world began
    hosts_before (moments.NodeIsLost event made happened h) = holds start.world began
    hosts_before (moments.NodeLeaves event made happened h) = holds start.world began
    hosts_before (moments.NodeIsReweighted event made happened h) = holds start.world began
    hosts_before (moments.NodeJoins event made happened h) = holds start.world began
    hosts_before (moments.NodeComesBack event made happened h) = holds start.world began
    hosts_before (moments.PhaseEnds event made happened h) = holds start.world began

    pub hosts_along : {moment : MomentWithPast} → MomentTrail script start moment → EachIsSo moment.world
    hosts_along trail = world_along script EachIsSo holds start began in_step trail
