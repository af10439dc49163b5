-- At each moment on the way of an event each request of a node is asked in a session of the node's incarnation.
use Rattle.std.proofs.Common.{◌≡◌, ◌≢◌, ⊎_elim, ℕ, List, Some, sym, subst}
use Rattle.std.specs.FinMap as tree
use Rattle.proof_tools.proofs.FiniteMaps.{get-insert_cases}
use Rattle.cluster_script.specs.declared.statement.Statement.{Statement}
use Rattle.sheep_node.specs.StepState.{StepState}
use Rattle.sheep_world.specs.World.{Host, World}
use Rattle.sheep_world.specs.NodeCauses.{input_of_cause, host_with_node}
use Rattle.sheep_world.specs.Began.{Began}
use Rattle.overlap_law.specs.Past.{MomentWithPast}
use Rattle.overlap_law.specs.StepMoments.{SteppingNode, IsStepping, first_in_step, LeadsInStep, moment_in_step}
use Rattle.overlap_law.specs.MomentChanges.{MomentChange}
use Rattle.overlap_law.proofs.SessionsOfRequests.{AreAskedIn, brought, asked_so_far, are_asked}
use Rattle.overlap_law.proofs.ClosedWorlds.{world_after}

module _ (script : List Statement) where
  abbrev pub RequestsAreAsked : MomentWithPast → Type 0
  RequestsAreAsked moment =
      (n : ℕ) (host : Host) → tree.get moment.world.hosts n ≡ Some host → AreAskedIn script n host.incarnation host.node

  module _ (start : MomentWithPast) (began : Began script start.world) where
    pub asked_at : (stepping : SteppingNode) → IsStepping script start.world stepping → (so_far : StepState)
        → LeadsInStep stepping (first_in_step stepping) so_far
        → RequestsAreAsked (moment_in_step script stepping start so_far)
    asked_at stepping is so_far leads n host there = ⊎_elim
        (λ (here : (n ≡ stepping.n) × (host_with_node stepping.host so_far.node ≡ host)).
        subst (λ (h : Host). AreAskedIn script n h.incarnation h.node) here.1
        (subst (λ (k : ℕ). AreAskedIn script k stepping.host.incarnation so_far.node) (sym here.0)
        (asked_so_far script stepping.n stepping.host.incarnation (input_of_cause stepping.cause) stepping.host.node
        (brought script start.world stepping.n stepping.host stepping.cause is.caused)
        (are_asked script start.world began stepping.n stepping.host is.there) leads).asked))
        (λ (other : (n ≢ stepping.n) × (tree.get start.world.hosts n ≡ Some host)). are_asked script start.world began n host other.1)
        (get-insert_cases start.world.hosts stepping.n (host_with_node stepping.host so_far.node) n host there)

    pub asked_after : {before after : MomentWithPast} → MomentChange script start before after → RequestsAreAsked after
    asked_after change =
        world_after script
        (λ (world : World). (n : ℕ) (host : Host) → tree.get world.hosts n ≡ Some host → AreAskedIn script n host.incarnation host.node)
        (are_asked script) start began (λ stepping is by so_far leads. asked_at stepping is so_far leads) change
