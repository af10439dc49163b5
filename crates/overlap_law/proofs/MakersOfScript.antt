-- Whose work makes something isn't a client's: a client's ask only reads. So at each moment on the way of an event the works that make
-- something are of requests of the script.
use Rattle.std.proofs.Common.{◌≡◌, inl, ℕ, Bool, true, false, List, Option, Some, refl, ap, subst}
use Rattle.std.specs.FinMap as tree
use Rattle.cluster_script.specs.declared.statement.Statement.{Statement}
use Rattle.guest_driver.specs.declared.disk.Disk.{Disk}
use Rattle.peer_proto.specs.declared.work.ObjWork.{ObjWork}
use Rattle.inode.specs.Layout.{Content}
use Rattle.gateway.specs.Work.{is_making}
use Rattle.gateway.specs.State.{Work}
use Rattle.sheep_node.specs.declared.course.Course.{Course}
use Rattle.sheep_node.specs.declared.course.Course.TheVariants.{Waiting, Driving, Commanding, Checking, DoingWork, AwaitingDecision}
use Rattle.sheep_node.specs.declared.course.Request.{Request}
use Rattle.sheep_node.specs.SessionQueues.{session_among}
use Rattle.sheep_node.specs.State.{Node}
use Rattle.sheep_node.specs.StepState.{StepState}
use Rattle.sheep_node.specs.WantedWorks.{IsWantedAt, IsWorkWanted}
use Rattle.sheep_node.proofs.SessionViews.{IsSeen}
use Rattle.sheep_world.specs.Began.{Began}
use Rattle.sheep_world.specs.BegunRequests.{IsOfScript}
use Rattle.sheep_world.specs.NodeCauses.{input_of_cause, progress_at_cause}
use Rattle.sheep_world.specs.World.{Host, World}
use Rattle.overlap_law.specs.MomentChanges.{MomentChange, RunsAreInRange}
use Rattle.overlap_law.specs.Past.{MomentWithPast}
use Rattle.overlap_law.specs.RequestsOfScript.{is_of_client}
use Rattle.overlap_law.specs.StepMoments.{SteppingNode, IsStepping, StepsByChanges, LeadsInStep, first_in_step}
use Rattle.overlap_law.proofs.AllowedCourses.{IsAllowed, opened_by}
use Rattle.overlap_law.proofs.CausedWorks.{HasWellWorks, by_changes}
use Rattle.overlap_law.proofs.ClosedWorlds.{hosts_after}
use Rattle.overlap_law.proofs.CoursesAtChanges.{placed_in_chain}
use Rattle.overlap_law.proofs.CoursesOfAsks.{ArePlaced, IsPlacedIn, placed_as}
use Rattle.overlap_law.proofs.CoursesOfScript.{asked_by, BeganOn, brings, placed_found, requests_placed}
use Rattle.overlap_law.proofs.PlacedAnew.{course_asks}
use Rattle.overlap_law.proofs.SessionsOfRequests.{of_ask}
use Rattle.overlap_law.proofs.WholeInRuns.{may_change, sound_here}
use Rattle.overlap_law.proofs.WorksInMoments.{in_step, well_in_world}

-- a request with a work that makes something isn't a client's
making_course : (inode : Option Content) (opened : Option (Bool × ℕ)) (course : Course) (work : ObjWork) → IsWorkWanted inode course work
    → IsAllowed opened course → is_making work ≡ true → is_of_client course ≡ false
making_course inode opened (Waiting ask) work wanted allowed making = refl
making_course inode opened (Driving driver) work wanted allowed making = refl
making_course inode opened (Commanding op) work wanted allowed making = refl
making_course inode opened (Checking check) work wanted allowed making = refl
making_course inode opened (DoingWork asked) work wanted allowed making =
    let same = ap is_making wanted in absurd (cc (making, same, allowed))
making_course inode opened (AwaitingDecision entry) work wanted allowed making = absurd wanted

module _ (script : List Statement) where
  -- whose work makes something is the script's
  abbrev pub MakersAreScripts : Node → Type 0
  MakersAreScripts node = (req : ℕ) (work : Work) (request : Request) → tree.get node.gateway.works req ≡ Some work
      → is_making work.work ≡ true → tree.get node.requests req ≡ Some request → IsOfScript script req

  -- where requests are as what was asked allows
  makers_at : (node : Node) (Began : ℕ → Option ℕ → Type 0) → ArePlaced (asked_by script) Began node.requests node.sessions
      → HasWellWorks node → MakersAreScripts node
  makers_at node Began placed well req work request got making there =
      let opened : Option Disk = (session_among request.session node.sessions).disk in
      let wanted = subst (λ (o : Option Request). IsWantedAt node.sessions o work.work) there
      (well.wanted req work.work (inl (work, got, refl))) in
      let allowed : IsAllowed (opened_by (session_among request.session node.sessions)) request.course
      = subst (IsSeen opened_by IsAllowed node.sessions) there (well.allowed req) in
      let is = placed_as (asked_by script) Began req opened request.course
      (making_course _ (opened_by (session_among request.session node.sessions)) request.course work.work wanted allowed making)
      (subst (IsPlacedIn (asked_by script) Began req node.sessions) there (placed req)) in
      let asks = course_asks (asked_by script req) opened is.0 request.course is.2 in
      of_ask script req asks.0 asks.1

  module _ (range : RunsAreInRange script) where
    pub makers_in_world : (world : World) → Began script world → (n : ℕ) (host : Host) → tree.get world.hosts n ≡ Some host
        → MakersAreScripts host.node
    makers_in_world world began n host there =
        makers_at host.node (BeganOn script world.guests) (requests_placed script range world began n host there)
        (well_in_world script range world began n host there)

    module _ (start : MomentWithPast) (began : Began script start.world) where
      makers_in_step : (stepping : SteppingNode) → IsStepping script start.world stepping → StepsByChanges stepping.cause
          → (so_far : StepState) → LeadsInStep stepping (first_in_step stepping) so_far → MakersAreScripts so_far.node
      makers_in_step stepping is by so_far leads =
          makers_at so_far.node (BeganOn script (progress_at_cause stepping.cause start.world))
          (placed_in_chain (asked_by script) (BeganOn script (progress_at_cause stepping.cause start.world)) (input_of_cause stepping.cause)
          stepping.host.node
          (may_change script range start.world began stepping.n stepping.host is.there is.up stepping.cause (by_changes stepping.cause by)
          is.caused)
          (sound_here script range start.world began stepping.n stepping.host is.there is.up).queues
          (sound_here script range start.world began stepping.n stepping.host is.there is.up).sole_commands
          (brings script start.world stepping.n stepping.host stepping.cause is.there is.caused)
          (placed_found script range start.world began stepping.n stepping.host stepping.cause stepping.host.node
          (requests_placed script range start.world began stepping.n stepping.host is.there))
          so_far leads)
          (in_step script range start began stepping is by so_far leads)

      -- behind each change
      pub makers_after : {before after : MomentWithPast} → MomentChange script start before after → (n : ℕ) (host : Host)
          → tree.get after.world.hosts n ≡ Some host → MakersAreScripts host.node
      makers_after change =
          hosts_after script (λ (n : ℕ) (host : Host). MakersAreScripts host.node) makers_in_world start began makers_in_step change
