-- At each moment on the way of an event each work that is open is what its request waits for, on the disk that the session has open, where
-- the request's statement allows that.
use Rattle.std.proofs.Common.{◌≡◌, inl, ℕ, true, List, Option, Some, None, IfSome, refl, ap, subst}
use Rattle.std.specs.FinMap as tree
use Rattle.proof_tools.proofs.FiniteMaps.{get-insert_same}
use Rattle.cluster_script.specs.declared.statement.Statement.{Statement}
use Rattle.gateway.specs.State.{Work}
use Rattle.peer_proto.specs.declared.work.ObjWork.{ObjWork}
use Rattle.sheep_node.specs.declared.course.Request.{Request}
use Rattle.sheep_node.specs.OneWork.{may_work_at}
use Rattle.sheep_node.specs.SessionQueues.{session_among}
use Rattle.sheep_node.specs.State.{Node}
use Rattle.sheep_node.specs.StepState.{StepState}
use Rattle.sheep_world.specs.World.{Host, World}
use Rattle.sheep_world.specs.Began.{Began}
use Rattle.sheep_world.specs.NodeCauses.{host_with_node}
use Rattle.overlap_law.specs.MomentChanges.{MomentChange, RunsAreInRange}
use Rattle.overlap_law.specs.Past.{MomentWithPast}
use Rattle.overlap_law.specs.StepMoments.{SteppingNode, IsStepping, StepsByChanges, LeadsInStep, first_in_step}
use Rattle.overlap_law.specs.Words.{Hosts}
use Rattle.overlap_law.proofs.CausedWorks.{by_changes}
use Rattle.overlap_law.proofs.KnownSteps.{together}
use Rattle.overlap_law.proofs.DrivenInMoments.{driven_at}
use Rattle.overlap_law.proofs.WaitedInRuns.{works_wait, works_waited}
use Rattle.overlap_law.proofs.WaitedSteps.{Waits}
use Rattle.overlap_law.proofs.WorksAtCourses.{HaveAt}
use Rattle.overlap_law.proofs.ClosedWorlds.{hosts_after}

module _ (script : List Statement) where
  -- a request of a node waits for this work
  pub record IsOpenFor (node : Node) (req : ℕ) (work : ObjWork) : Type 0 where
    pub request : Request
    pub there : tree.get node.requests req ≡ Some request
    pub waits : Waits (session_among request.session node.sessions).disk request.course work

  -- so it is of each work that a node has open
  abbrev pub OpenWorksAreSo : Node → Type 0
  OpenWorksAreSo node = (req : ℕ) (work : Work) → tree.get node.gateway.works req ≡ Some work → IsOpenFor node req work.work

  abbrev pub AllWorksAreSo : Hosts → Type 0
  AllWorksAreSo hosts = (n : ℕ) (host : Host) → tree.get hosts n ≡ Some host → OpenWorksAreSo host.node

  -- by what is known of works and of requests
  works_so : (node : Node)
      → ((req : ℕ) (work : Work) → tree.get node.gateway.works req ≡ Some work → may_work_at (tree.get node.requests req) ≡ true)
      → HaveAt Waits node.gateway.works node.requests node.sessions → OpenWorksAreSo node
  works_so node driven wait req work got = by_request (tree.get node.requests req) refl
    where
      by_request : (o : Option Request) → tree.get node.requests req ≡ o → IsOpenFor node req work.work
      by_request None none =
          let may = driven req work got in
          let never = ap may_work_at none in
          absurd (cc (may, never))
      by_request (Some request) there =
          record {
            request = request;
            there = there;
            waits = subst (λ (o : Option Request). IfSome o
                (λ (request : Request). Waits (session_among request.session node.sessions).disk request.course work.work)) there
                (wait req work.work (inl (work, got, refl)));
          }

  module _ (range : RunsAreInRange script) where
    -- in each world of a run
    pub works_in_world : (world : World) → Began script world → AllWorksAreSo world.hosts
    works_in_world world began n host there =
        works_so host.node
        (λ req work got. ((together script range world began).driven n host there).driven.open_works req work got)
        (works_waited script range world began n host there).1

    module _ (start : MomentWithPast) (began : Began script start.world) where
      -- in the middle of a step
      works_in_step : (stepping : SteppingNode) → IsStepping script start.world stepping → StepsByChanges stepping.cause
          → (so_far : StepState) → LeadsInStep stepping (first_in_step stepping) so_far → OpenWorksAreSo so_far.node
      works_in_step stepping is by so_far leads =
          works_so so_far.node
          (λ req work got.
          (driven_at script range start began stepping is so_far leads stepping.n (host_with_node stepping.host so_far.node)
          (get-insert_same start.world.hosts stepping.n (host_with_node stepping.host so_far.node))).open_works req work got)
          (works_wait script range start.world began stepping.n stepping.host is.there is.up stepping.cause (by_changes stepping.cause by)
          is.caused so_far leads)

      -- behind each change
      pub works_after : {before after : MomentWithPast} → MomentChange script start before after → AllWorksAreSo after.world.hosts
      works_after change =
          hosts_after script (λ (n : ℕ) (host : Host). OpenWorksAreSo host.node) works_in_world start began works_in_step change
