-- What holds of each node in every world of a run, and speaks of nothing that a change of its step touches, holds of it at each moment on
-- the way of an event.
use Rattle.std.proofs.Common.{◌≡◌, ℕ, List, [], Some, refl, sym, ◌∙◌}
use Rattle.std.specs.FinMap as tree
use Rattle.proof_tools.proofs.FiniteMaps.{get-insert_same}
use Rattle.cluster_script.specs.declared.statement.Statement.{Statement}
use Rattle.sheep_node.specs.State.{Node}
use Rattle.sheep_node.specs.StepState.{StepState}
use Rattle.sheep_node.proofs.StepChain.{step_chain}
use Rattle.sheep_node.proofs.StepEffects.{untouched_in}
use Rattle.sheep_world.specs.World.{Host, World}
use Rattle.sheep_world.specs.NodeCauses.{input_of_cause, event_of_cause, host_with_node, world_after_cause}
use Rattle.sheep_world.specs.EventKinds.{outcome_of_step}
use Rattle.sheep_world.specs.Began.{Began}
use Rattle.sheep_world.proofs.BegunWorlds.{goes_on}
use Rattle.sheep_world.specs.RunsWithAsks.{Move}
use Rattle.overlap_law.specs.Past.{MomentWithPast, run_on, first_moment, run_with_past}
use Rattle.overlap_law.specs.StepMoments.{SteppingNode, IsStepping, first_in_step, last_in_step, LeadsInStep, StepsByChanges}
use Rattle.overlap_law.specs.MomentChanges.{MomentChange, MomentTrail, KeptByChanges}
use Rattle.overlap_law.proofs.NodePartsInMoments.{HasPartsOf, parts_of}
use Rattle.overlap_law.proofs.NoRecoveredDue.{began-with_past}
use Rattle.overlap_law.proofs.SendsOfChanges.{in_order_so_far}
use Rattle.overlap_law.proofs.ClosedWorlds.{hosts_after, hosts_along}

module _ (script : List Statement) (Q : ℕ → Node → Type 0)
    (same : (n : ℕ) (old new : Node) → HasPartsOf old new → Q n old → Q n new)
    (holds : (world : World) → Began script world → (n : ℕ) (host : Host) → tree.get world.hosts n ≡ Some host → Q n host.node) where
  abbrev HoldsOf : MomentWithPast → Type 0
  HoldsOf moment = (n : ℕ) (host : Host) → tree.get moment.world.hosts n ≡ Some host → Q n host.node

  module _ (start : MomentWithPast) (began : Began script start.world) where
    so_in_step : (stepping : SteppingNode) → IsStepping script start.world stepping → StepsByChanges stepping.cause
        → (so_far : StepState) → LeadsInStep stepping (first_in_step stepping) so_far → Q stepping.n so_far.node
    so_in_step stepping is by so_far leads =
        let last = host_with_node stepping.host (last_in_step stepping).node in
        let end = world_after_cause script stepping.n stepping.host stepping.cause start.world in
        let ended : Began script end = goes_on script (event_of_cause stepping.n stepping.cause) start.world
        (outcome_of_step script stepping.n stepping.host stepping.cause start.world) began is.made in
        let untouched : untouched_in so_far ≡ untouched_in (last_in_step stepping)
        = (in_order_so_far so_far leads).same
        ∙ sym (in_order_so_far (last_in_step stepping) (step_chain (input_of_cause stepping.cause) stepping.host.node)).same in
        same stepping.n (last_in_step stepping).node so_far.node (parts_of (last_in_step stepping) so_far untouched)
        (holds end ended stepping.n last (get-insert_same start.world.hosts stepping.n last))

    nodes_then : {before after : MomentWithPast} → MomentChange script start before after → HoldsOf after
    nodes_then change = hosts_after script (λ (n : ℕ) (host : Host). Q n host.node) holds start began so_in_step change

    trail_so : {moment : MomentWithPast} → MomentTrail script start moment → HoldsOf moment
    trail_so trail = hosts_along script (λ (n : ℕ) (host : Host). Q n host.node) holds start began so_in_step trail

  pub nodes-on_the_way : (events : List Move) (start moment : MomentWithPast) → run_with_past script events ≡ Some start
      → MomentTrail script start moment → HoldsOf moment
  nodes-on_the_way events start moment is trail = trail_so start (began-with_past script events start is) trail

  -- so each change of a moment keeps it
  pub nodes-kept : KeptByChanges script HoldsOf
  unfolding run_with_past run_on
  nodes-kept = record {
    opens = holds (first_moment script).world (began-with_past script [] (first_moment script) refl);
    keeps = λ start before after began change were. nodes_then start began change;
  }
