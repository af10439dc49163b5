-- At each moment on the way of an event a request of a node is the script's where its course is no client's, and only there. So it is a
-- client's, or the script's, at each of them.
use Rattle.std.proofs.Common.{◌≡◌, ◌∙◌, ℕ, Bool, true, false, List, Option, Some, None, refl, sym, ap, subst}
use Rattle.std.specs.Option.{option_and_then, option_map_or}
use Rattle.std.specs.FinMap as tree
use Rattle.proof_tools.proofs.FiniteMaps.{get-insert_same}
use Rattle.cluster_script.specs.NumberedRequests.{session_of, request_at}
use Rattle.cluster_script.specs.declared.statement.Statement.{Statement}
use Rattle.cluster_script.specs.declared.statement.Statement.TheVariants as lines
use Rattle.guest_driver.specs.declared.disk.Disk.{Disk}
use Rattle.sheep_node.specs.declared.course.Course.{Course}
use Rattle.sheep_node.specs.declared.course.Course.TheVariants.{Waiting, Driving, Commanding, Checking, DoingWork, AwaitingDecision}
use Rattle.sheep_node.specs.declared.course.Request.{Request}
use Rattle.sheep_node.specs.SessionQueues.{session_among}
use Rattle.sheep_node.specs.State.{Node}
use Rattle.sheep_node.specs.StepState.{StepState}
use Rattle.sheep_world.specs.Asking.{ask_of_statement}
use Rattle.sheep_world.specs.Began.{Began}
use Rattle.sheep_world.specs.BegunRequests.{IsOfScript}
use Rattle.sheep_world.specs.NodeCauses.{input_of_cause, host_with_node, progress_at_cause}
use Rattle.sheep_world.specs.World.{Host, World}
use Rattle.gateway.specs.State.{Work}
use Rattle.overlap_law.specs.MomentChanges.{MomentChange, MomentTrail, RunsAreInRange}
use Rattle.overlap_law.specs.Past.{MomentWithPast}
use Rattle.overlap_law.specs.RequestsOfScript.{is_of_client}
use Rattle.overlap_law.specs.Sessions.{is_of_client_at}
use Rattle.overlap_law.specs.StepMoments.{SteppingNode, IsStepping, StepsByChanges, LeadsInStep, first_in_step}
use Rattle.overlap_law.proofs.AskedInMoments.{asked_at}
use Rattle.overlap_law.proofs.CausedWorks.{by_changes}
use Rattle.overlap_law.proofs.ClosedWorlds.{hosts_after, hosts_along, hosts_before}
use Rattle.overlap_law.proofs.CoursesAtChanges.{placed_in_chain}
use Rattle.overlap_law.proofs.CoursesOfAsks.{ArePlaced, IsPlacedAt, IsPlacedIn, placed_as}
use Rattle.overlap_law.proofs.CoursesOfScript.{asked_by, BeganOn, brings, placed_found, requests_placed}
use Rattle.overlap_law.proofs.PlacedAnew.{course_asks}
use Rattle.overlap_law.proofs.SessionsOfRequests.{AreAskedIn, are_asked, by_line, of_ask}
use Rattle.overlap_law.proofs.WholeInRuns.{may_change, sound_here}
use Rattle.overlap_law.proofs.WorksInMoments.{well_after}
use Rattle.sheep_node.specs.OneWork.{may_work_at}

-- a statement of a session asks for something
asks_of_session : (o : Option Statement) (session : ℕ) → option_and_then session_of o ≡ Some session
    → option_and_then ask_of_statement o ≡ None → ⊥
asks_of_session None session is none = cc (is)
asks_of_session (Some (lines.Create number policy shift name size)) session is none = cc (none)
asks_of_session (Some (lines.OpenDisk number name tag)) session is none = cc (none)
asks_of_session (Some (lines.Close number)) session is none = cc (none)
asks_of_session (Some (lines.Read number offset length)) session is none = cc (none)
asks_of_session (Some (lines.Write number offset length pattern)) session is none = cc (none)
asks_of_session (Some (lines.Snapshot number tag)) session is none = cc (none)
asks_of_session (Some (lines.Clone number base tag name)) session is none = cc (none)
asks_of_session (Some (lines.Delete number name tag)) session is none = cc (none)
asks_of_session (Some (lines.Check number)) session is none = cc (none)
asks_of_session (Some line) session is none = cc (is)

module _ (script : List Statement) where
  abbrev pub IsByCourse : ℕ → Course → Type 0
  IsByCourse req course = (is_of_client course ≡ false → IsOfScript script req) × (IsOfScript script req → is_of_client course ≡ false)

  -- each request of a node is the script's where its course is no client's, and only there
  abbrev pub AreByCourse : Node → Type 0
  AreByCourse node = (req : ℕ) (request : Request) → tree.get node.requests req ≡ Some request → IsByCourse req request.course

  courses_so : (n incarnation : ℕ) (node : Node) (Began : ℕ → Option ℕ → Type 0)
      → ArePlaced (asked_by script) Began node.requests node.sessions → AreAskedIn script n incarnation node → AreByCourse node
  courses_so n incarnation node Began placed asked req request there = (
    λ none.
        let is = placed_as (asked_by script) Began req opened request.course none at in
        let asks = course_asks (asked_by script req) opened is.0 request.course is.2 in
        of_ask script req asks.0 asks.1,
    λ of_script.
        let line = by_line script n incarnation req request.session (asked req request there) of_script in
        by_course request.course (asks_of_session (request_at script req) request.session line.asking) at,
  )
    where
      opened : Option Disk
      opened = (session_among request.session node.sessions).disk

      at : IsPlacedAt (asked_by script) Began req opened request.course
      at = subst (IsPlacedIn (asked_by script) Began req node.sessions) there (placed req)

      by_course : (course : Course) → (asked_by script req ≡ None → ⊥) → IsPlacedAt (asked_by script) Began req opened course
          → is_of_client course ≡ false
      by_course (Waiting ask) asks is = refl
      by_course (Driving driver) asks is = refl
      by_course (Commanding op) asks is = refl
      by_course (Checking check) asks is = refl
      by_course (DoingWork work) asks none = absurd (asks none)
      by_course (AwaitingDecision entry) asks is = absurd is.2

  -- ---- by what the node has

  abbrev ClientAt : Option Request → Bool
  ClientAt o = option_map_or (λ (request : Request). is_of_client request.course) o false

  pub of_script_at : (node : Node) → AreByCourse node → (req : ℕ) (request : Request) → tree.get node.requests req ≡ Some request
      → is_of_client_at req node ≡ false → IsOfScript script req
  of_script_at node are req request there own = (are req request there).0 (ap ClientAt (sym there) ∙ own)

  pub no_client_at : (node : Node) → AreByCourse node → (req : ℕ) → IsOfScript script req → is_of_client_at req node ≡ false
  no_client_at node are req of_script = by_request (tree.get node.requests req) refl
    where
      by_request : (o : Option Request) → tree.get node.requests req ≡ o → is_of_client_at req node ≡ false
      by_request None none = ap ClientAt none
      by_request (Some request) there = ap ClientAt there ∙ (are req request there).1 of_script

  -- ---- at each moment

  module _ (range : RunsAreInRange script) where
    pub courses_in_world : (world : World) → Began script world → (n : ℕ) (host : Host) → tree.get world.hosts n ≡ Some host
        → AreByCourse host.node
    courses_in_world world began n host there =
        courses_so n host.incarnation host.node (BeganOn script world.guests) (requests_placed script range world began n host there)
        (are_asked script world began n host there)

    module _ (start : MomentWithPast) (began : Began script start.world) where
      courses_in_step : (stepping : SteppingNode) → IsStepping script start.world stepping → StepsByChanges stepping.cause
          → (so_far : StepState) → LeadsInStep stepping (first_in_step stepping) so_far → AreByCourse so_far.node
      courses_in_step stepping is by so_far leads =
          courses_so stepping.n stepping.host.incarnation so_far.node (BeganOn script (progress_at_cause stepping.cause start.world))
          (placed_in_chain (asked_by script) (BeganOn script (progress_at_cause stepping.cause start.world)) (input_of_cause stepping.cause)
          stepping.host.node
          (may_change script range start.world began stepping.n stepping.host is.there is.up stepping.cause (by_changes stepping.cause by)
          is.caused)
          (sound_here script range start.world began stepping.n stepping.host is.there is.up).queues
          (sound_here script range start.world began stepping.n stepping.host is.there is.up).sole_commands
          (brings script start.world stepping.n stepping.host stepping.cause is.there is.caused)
          (placed_found script range start.world began stepping.n stepping.host stepping.cause stepping.host.node
          (requests_placed script range start.world began stepping.n stepping.host is.there))
          so_far leads)
          (asked_at script start began stepping is so_far leads stepping.n (host_with_node stepping.host so_far.node)
          (get-insert_same start.world.hosts stepping.n (host_with_node stepping.host so_far.node)))

      pub courses_after : {before after : MomentWithPast} → MomentChange script start before after → (n : ℕ) (host : Host)
          → tree.get after.world.hosts n ≡ Some host → AreByCourse host.node
      courses_after change =
          hosts_after script (λ (n : ℕ) (host : Host). AreByCourse host.node) courses_in_world start began courses_in_step change

      pub courses_before : {before after : MomentWithPast} → MomentChange script start before after → (n : ℕ) (host : Host)
          → tree.get before.world.hosts n ≡ Some host → AreByCourse host.node
      courses_before change =
          hosts_before script (λ (n : ℕ) (host : Host). AreByCourse host.node) courses_in_world start began courses_in_step change

      pub courses_along : {moment : MomentWithPast} → MomentTrail script start moment → (n : ℕ) (host : Host)
          → tree.get moment.world.hosts n ≡ Some host → AreByCourse host.node
      courses_along trail =
          hosts_along script (λ (n : ℕ) (host : Host). AreByCourse host.node) courses_in_world start began courses_in_step trail

      -- whose open work is no client's behind a change was none before it
      pub own_before : {before after : MomentWithPast} → MomentChange script start before after → (n : ℕ) (host old : Host)
          → tree.get after.world.hosts n ≡ Some host → tree.get before.world.hosts n ≡ Some old → (req : ℕ) (work : Work)
          → tree.get host.node.gateway.works req ≡ Some work → is_of_client_at req host.node ≡ false
          → is_of_client_at req old.node ≡ false
      own_before change n host old there was_there req work got own =
          by_request (tree.get host.node.requests req) refl
          ((well_after script range start began change n host there).one_work.open_works req work got)
        where
          by_request : (o : Option Request) → tree.get host.node.requests req ≡ o → may_work_at o ≡ true
              → is_of_client_at req old.node ≡ false
          by_request None at may = absurd (cc (may))
          by_request (Some request) at may =
              no_client_at old.node (courses_before change n old was_there) req
              (of_script_at host.node (courses_after change n host there) req request at own)
