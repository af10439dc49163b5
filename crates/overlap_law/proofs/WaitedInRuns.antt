-- In each run in range each work that is open, or waits for the inode, is the one that its request's driver, command or check waits for,
-- on the disk that the session has open.
use Rattle.std.proofs.Common.{◌≡◌, arith, ℕ, ◌&&◌, Bool, true, false, List, [], Contains, Option, Some, None, IfSome, inl, inr, refl, sym}
use Rattle.std.proofs.Common.{ap, subst, ◌∙◌}
use Rattle.std.specs.Prelude.{unwrap_or}
use Rattle.std.specs.FinMap as tree
use Rattle.std.proofs.lemmas.Bool.{le-leb, eq-eqb}
use Rattle.proof_tools.proofs.Booleans.{cond_either}
use Rattle.proof_tools.proofs.Lists.{Contains-nil}
use Rattle.object_id.specs.declared.entry.Entry.{Entry}
use Rattle.object_id.specs.declared.oid.Vid.{Vid}
use Rattle.cluster_script.specs.declared.statement.Statement.{Statement}
use Rattle.cluster_script.specs.Settings.{tries_of}
use Rattle.peer_proto.specs.declared.ask.PeerReq.{PeerReq}
use Rattle.peer_proto.specs.declared.work.ObjWork.{ObjWork}
use Rattle.vdi_directory.specs.declared.effect.Effect.{Effect}
use Rattle.vdi_directory.specs.Decisions.{log_effects}
use Rattle.guest_driver.specs.declared.disk.Disk.{Disk}
use Rattle.vdi_ops.specs.Op as ops
use Rattle.vdi_ops.specs.Op.{Task, Opening, WritingBack, Tagging, Copying, Making, OpStage, Asked, Working, Publishing}
use Rattle.sheep_node.specs.declared.ask.Ask.{Ask}
use Rattle.sheep_node.specs.declared.input.Input.{Input}
use Rattle.sheep_node.specs.declared.input.Input.TheVariants as inputs
use Rattle.sheep_node.specs.declared.limits.TheConstants.{SENDS_MAX}
use Rattle.sheep_node.specs.declared.course.Course.{Course}
use Rattle.sheep_node.specs.declared.course.Request.{Request}
use Rattle.sheep_node.specs.declared.session.Session.{Session}
use Rattle.sheep_node.specs.declared.course.Course.TheVariants.{Waiting, Driving, Commanding, Checking, DoingWork, AwaitingDecision}
use Rattle.sheep_node.specs.LogReading.{on_back}
use Rattle.sheep_node.specs.May.{May, is_disk_course}
use Rattle.sheep_node.specs.NodeInvariant.{IsSoundNode}
use Rattle.sheep_node.specs.OneWork.{may_work_at, may_work_of}
use Rattle.sheep_node.specs.OutsideAsks.{InputNamesObjects}
use Rattle.sheep_node.specs.SessionQueues.{session_among, command_in, is_disk_request_of}
use Rattle.sheep_node.specs.State as nodes
use Rattle.sheep_node.specs.State.{Node, new_session}
use Rattle.sheep_node.specs.Step.{on_request, is_due, with_recovered, recovered_put, on_input, node_step}
use Rattle.sheep_node.specs.SoundWorks.{HasSoundWorks}
use Rattle.sheep_node.specs.StepState.{StepState, at_first, with_node}
use Rattle.sheep_node.specs.WantedWorks.{HasWork}
use Rattle.sheep_node.specs.Changes.{IsSoundStep, Outcome, RequestSteps, input_received, Leads}
use Rattle.sheep_node.proofs.NodeLaws.{IsSoundNode-initial}
use Rattle.sheep_node.proofs.NumberChanges.{meets_numbers}
use Rattle.sheep_node.proofs.SoundLaws.{known as known_in_step, works_sound_in_chain}
use Rattle.sheep_node.proofs.StepChain.{step_chain}
use Rattle.sheep_world.specs.Began.{Began}
use Rattle.sheep_world.specs.EventKinds.{log_after_return}
use Rattle.sheep_world.specs.HostChanges.{HostsKeep}
use Rattle.sheep_world.specs.NodeCauses.{NodeCause, GuestAsks, RequestComes, ReplyComes, LossIsTold, EntryIsRead, EntryIsPut, RecoveryTicks}
use Rattle.sheep_world.specs.NodeCauses.{WorkIsRetried, ClientAsks, input_of_cause, IsCause, progress_at_cause}
use Rattle.sheep_world.specs.Opening.{format_entry, initial_world}
use Rattle.sheep_world.specs.World.{Host, World, is_host_up}
use Rattle.sheep_world.proofs.BegunWorlds.{each_where}
use Rattle.sheep_world.proofs.LogAtOpening.{opens_log}
use Rattle.sheep_world.proofs.ValidNodes.{first_may}
use Rattle.sheep_world.specs.RunsWithAsks.{Move}
use Rattle.overlap_law.specs.Attempts.{AttemptRecord}
use Rattle.overlap_law.specs.Courses.{IsOfTask, IsOfStage, WaitsFor, IsWaitedFor, WorksAreWaitedFor}
use Rattle.overlap_law.specs.MomentChanges.{RunsAreInRange}
use Rattle.overlap_law.specs.Past.{MomentWithPast, run_with_past}
use Rattle.overlap_law.proofs.AttemptMessages.{contains_at}
use Rattle.overlap_law.proofs.CausedWorks.{IsNotServed}
use Rattle.overlap_law.proofs.CoursesOfAsks.{ArePlaced, IsBrought}
use Rattle.overlap_law.proofs.CoursesAtChanges.{none_placed, placed_in_chain}
use Rattle.overlap_law.proofs.CoursesOfScript.{asked_by, BeganOn, brings, placed_found, requests_placed}
use Rattle.overlap_law.proofs.NoRecoveredDue.{began-with_past}
use Rattle.overlap_law.proofs.QueueOnce.{AreOnceIn, none_once, once_so_far}
use Rattle.overlap_law.proofs.CoveredCourses.{AreCovered, CoveredSoFar, none_covered, covered_in_chain}
use Rattle.overlap_law.proofs.WaitedSteps.{no_id, Waits}
use Rattle.overlap_law.proofs.WaitedChanges.{IsWaitingWell, steps_waited, waits_in_chain}
use Rattle.overlap_law.proofs.WholeInRuns.{sound_world, sound_here, named, may_change}
use Rattle.overlap_law.proofs.WorksAtCourses.{HaveAt, AtSoFar, IsOutcomeAt, none_at, received_at}

-- queues cover what reads and writes haven't come to, and works are waited for
abbrev pub IsWaitedIn : Node → Type 0
IsWaitedIn node = AreCovered node.requests node.sessions × HaveAt Waits node.gateway.works node.requests node.sessions

none_waited : AreCovered tree.empty tree.empty × HaveAt Waits tree.empty tree.empty tree.empty
none_waited = (none_covered, none_at Waits)

-- ---- a step of a node

module _ (asked : ℕ → Option Ask) (Began : ℕ → Option ℕ → Type 0) (input : Input) (node : Node) (may : May input node)
    (named : InputNamesObjects input)
    (is : IsSoundNode node) (once : AreOnceIn node.sessions) (brought : IsBrought asked Began input node)
    (placed : ArePlaced asked Began node.requests node.sessions) (waited : IsWaitedIn node) where
  sound : IsSoundStep input node
  sound = (meets_numbers input node may.condition, is.one_work)

  covered : (so_far : StepState) → Leads input node (input_received input (at_first node)) so_far → CoveredSoFar so_far
  covered so_far leads = covered_in_chain input node may sound is.queues is.sole_commands waited.0 so_far leads

  well : (so_far : StepState) → Leads input node (input_received input (at_first node)) so_far → IsWaitingWell asked Began so_far
  well so_far leads =
      let both = once_so_far sound leads is.queues once in
      record {
        known = known_in_step input node may named is so_far leads;
        sound = works_sound_in_chain input node may named is so_far leads;
        queues = both.0;
        once = both.1;
        covered = covered so_far leads;
        placed = placed_in_chain asked Began input node may is.queues is.sole_commands brought placed so_far leads;
      }

  -- as far as the step has come
  pub waited_so_far : (so_far : StepState) → Leads input node (input_received input (at_first node)) so_far
      → IsWaitedIn so_far.node × HasSoundWorks so_far.node
  waited_so_far so_far leads = (
    (
      covered so_far leads,
      waits_in_chain asked Began may is.queues is.sole_commands sound well leads (received_at Waits input node waited.1),
    ),
    (well so_far leads).sound,
  )

  -- what a request comes to is waited for too
  steps_so_far : (so_far : StepState) → Leads input node (input_received input (at_first node)) so_far → (session req : ℕ)
      (next : Outcome) (moved : StepState) → RequestSteps input node so_far session req next moved → IsOutcomeAt Waits req next moved
  steps_so_far so_far leads session req next moved steps =
      (steps_waited asked Began may is.queues is.sole_commands sound so_far session req next moved steps
      (well so_far leads, (waited_so_far so_far leads).0.1)).1

  stepped_waited : IsWaitedIn (node_step input node).node
  stepped_waited = (
    covered (node_step input node) (step_chain input node),
    waits_in_chain asked Began may is.queues is.sole_commands sound well (step_chain input node) (received_at Waits input node waited.1),
  )

due_waited : (so_far : StepState) → IsWaitedIn so_far.node → IsWaitedIn (recovered_put so_far).node
unfolding recovered_put
due_waited so_far is = cond_either (λ (now : StepState). IsWaitedIn now.node) (is_due so_far.node) (with_recovered so_far) so_far is is

served_waited : (request : PeerReq) (node : Node) → IsWaitedIn node → IsWaitedIn (node_step (inputs.Request request) node).node
unfolding node_step on_input on_request
served_waited request node is = due_waited (on_request request (at_first node)) is

back_waited : (entries : List Entry) (node : Node) → IsWaitedIn (node_step (inputs.Back entries) node).node
unfolding node_step on_input on_back
back_waited entries node = due_waited (with_node (on_back entries node) (at_first node)) none_waited

-- ---- each world

module _ (script : List Statement) (range : RunsAreInRange script) where
  module _ (world : World) (began : Began script world) (n : ℕ) (host : Host) (there : tree.get world.hosts n ≡ Some host)
      (up : is_host_up host ≡ true) where
    by_step : (cause : NodeCause) → IsNotServed cause → IsCause script world n host cause → IsWaitedIn host.node
        → IsWaitedIn (node_step (input_of_cause cause) host.node).node
    by_step cause not caused waited =
        stepped_waited (asked_by script) (BeganOn script (progress_at_cause cause world)) (input_of_cause cause) host.node
        (may_change script range world began n host there up cause not caused) (named script range world began n host there up cause caused)
        (sound_here script range world began n host there up) ((sound_world script range world began).hosts n host there).once
        (brings script world n host cause there caused)
        (placed_found script range world began n host cause host.node (requests_placed script range world began n host there)) waited

    -- in the middle of a step
    pub waits_then : (cause : NodeCause) → IsNotServed cause → IsCause script world n host cause → IsWaitedIn host.node
        → (so_far : StepState)
        → Leads (input_of_cause cause) host.node (input_received (input_of_cause cause) (at_first host.node)) so_far
        → IsWaitedIn so_far.node × HasSoundWorks so_far.node
    waits_then cause not caused waited so_far leads =
        waited_so_far (asked_by script) (BeganOn script (progress_at_cause cause world)) (input_of_cause cause) host.node
        (may_change script range world began n host there up cause not caused) (named script range world began n host there up cause caused)
        (sound_here script range world began n host there up) ((sound_world script range world began).hosts n host there).once
        (brings script world n host cause there caused)
        (placed_found script range world began n host cause host.node
        (requests_placed script range world began n host there)) waited so_far leads

    step_waited : (cause : NodeCause) → IsCause script world n host cause → IsWaitedIn host.node
        → IsWaitedIn (node_step (input_of_cause cause) host.node).node
    step_waited (GuestAsks session req ask) caused waited = by_step (GuestAsks session req ask) tt caused waited
    step_waited (RequestComes name to request) caused waited = served_waited request host.node waited
    step_waited (ReplyComes name from rsp) caused waited = by_step (ReplyComes name from rsp) tt caused waited
    step_waited (LossIsTold name packet) caused waited = by_step (LossIsTold name packet) tt caused waited
    step_waited (EntryIsRead entry) caused waited = by_step (EntryIsRead entry) tt caused waited
    step_waited (EntryIsPut entry) caused waited = by_step (EntryIsPut entry) tt caused waited
    step_waited RecoveryTicks caused waited = by_step RecoveryTicks tt caused waited
    step_waited WorkIsRetried caused waited = by_step WorkIsRetried tt caused waited
    step_waited (ClientAsks req ask) caused waited = by_step (ClientAsks req ask) tt caused waited

  waited_kept : HostsKeep script (Began script) (λ (world : World) (n : ℕ) (host : Host). IsWaitedIn host.node)
  unfolding initial_world
  waited_kept = record {
    opens = λ member.
        let new = nodes.initial_node member.node (tries_of script) in
        let input : Input = inputs.LogEntry (format_entry script) in
        let may : May input new
        = record {
          numbers = le-leb 0 SENDS_MAX (omega arith);
          condition = first_may (format_entry script) [] (opens_log script range.is_script).log;
        } in
        stepped_waited (asked_by script) (λ (req : ℕ) (disk : Option ℕ). ⊥) input new may tt
        (IsSoundNode-initial member.node (tries_of script)) none_once
        (λ req session ask from. absurd (cc (from))) (none_placed (asked_by script) (λ (req : ℕ) (disk : Option ℕ). ⊥)) none_waited;
    stays = λ event world made h began n host so. so;
    steps = λ world n host cause began there up caused so. step_waited world began n host there up cause caused so;
    fails = λ world n host began so. so;
    returns = λ world n host began there so. back_waited (log_after_return script n world) host.node;
    joins = λ world n began control. none_waited;
  }

  pub works_waited : (world : World) → Began script world → (n : ℕ) (host : Host) → tree.get world.hosts n ≡ Some host
      → IsWaitedIn host.node
  works_waited =
      each_where script (Began script) (λ (world : World) (n : ℕ) (host : Host). IsWaitedIn host.node) (λ world began. began) waited_kept

  -- in the middle of a step
  module _ (world : World) (began : Began script world) (n : ℕ) (host : Host) (there : tree.get world.hosts n ≡ Some host)
      (up : is_host_up host ≡ true) (cause : NodeCause) (not : IsNotServed cause) (caused : IsCause script world n host cause)
      (so_far : StepState)
      (leads : Leads (input_of_cause cause) host.node (input_received (input_of_cause cause) (at_first host.node)) so_far) where
    pub works_wait : AtSoFar Waits so_far
    works_wait =
        (waited_so_far (asked_by script) (BeganOn script (progress_at_cause cause world)) (input_of_cause cause) host.node
        (may_change script range world began n host there up cause not caused) (named script range world began n host there up cause caused)
        (sound_here script range world began n host there up) ((sound_world script range world began).hosts n host there).once
        (brings script world n host cause there caused)
        (placed_found script range world began n host cause host.node (requests_placed script range world began n host there))
        (works_waited world began n host there) so_far leads).0.1

    pub outcome_waits : (session req : ℕ) (next : Outcome) (moved : StepState)
        → RequestSteps (input_of_cause cause) host.node so_far session req next moved → IsOutcomeAt Waits req next moved
    outcome_waits session req next moved steps =
        steps_so_far (asked_by script) (BeganOn script (progress_at_cause cause world)) (input_of_cause cause) host.node
        (may_change script range world began n host there up cause not caused) (named script range world began n host there up cause caused)
        (sound_here script range world began n host there up) ((sound_world script range world began).hosts n host there).once
        (brings script world n host cause there caused)
        (placed_found script range world began n host cause host.node (requests_placed script range world began n host there))
        (works_waited world began n host there) so_far leads session req next moved steps

-- ---- as the invariant says it

-- what is asked of no id is so with whatever the entries did, and whatever was attempted
module _ (effects : List Effect) (attempts : List AttemptRecord) (disk : Option Disk) (work : ObjWork) where
  of_task : (vid : Vid) (task : Task) → IsOfTask [] no_id [] disk vid task work → IsOfTask effects no_id attempts disk vid task work
  of_task vid (Opening snapshot ids header) is = is
  of_task vid (WritingBack inode) is = is
  of_task vid (Tagging old inode) is = is
  of_task vid (Copying ids header) is = is
  of_task vid (Making entry opened) is = record {
    inode = is.inode;
    own = is.own;
    work_of = is.work_of;
    same = is.same;
    drawn = λ index draft. let good : no_id vid.0 ≡ true = draft.good in absurd (cc (good));
  }

  of_stage : (stage : OpStage) → IsOfStage [] no_id [] disk stage work → IsOfStage effects no_id attempts disk stage work
  of_stage (Asked entry) is = is
  of_stage (Working vid task) is = of_task vid task is
  of_stage (Publishing entry opened) is = is
  of_stage (ops.Answered change) is = is

  of_course : (course : Course) → WaitsFor [] no_id [] disk course work → WaitsFor effects no_id attempts disk course work
  of_course (Waiting ask) is = is
  of_course (Driving driver) is = is
  of_course (Commanding op) is = of_stage op.stage is
  of_course (Checking check) is = is
  of_course (DoingWork asked) is = is
  of_course (AwaitingDecision entry) is = is

module _ (node : Node) (is : IsSoundNode node) where
  -- the session of a request is there
  session_there : (request : Request) (req : ℕ) → tree.get node.requests req ≡ Some request → (o : Option Session)
      → tree.get node.sessions request.session ≡ o → (session : Session) × (tree.get node.sessions request.session ≡ Some session)
  session_there request req got (Some session) at = (session, at)
  session_there request req got None at = by_kind (is_disk_course request.course) refl
    where
      by_kind : (b : Bool) → is_disk_course request.course ≡ b → (session : Session)
          × (tree.get node.sessions request.session ≡ Some session)
      by_kind true disk =
          let on : is_disk_request_of request.session (tree.get node.requests req) ≡ true
          = ap (is_disk_request_of request.session) got ∙ (λ i. (eq-eqb request.session request.session refl i) && (disk i)) in
          let (one, among, number) = is.queues.has request.session req on in
          absurd (Contains-nil one (subst (λ (o : Option Session). Contains (unwrap_or o new_session).queue one) at among))
      by_kind false sole =
          let command : command_in request.session node.sessions ≡ Some req = is.sole_commands.named req request got sole in
          let none : command_in request.session node.sessions ≡ None = ap (λ (o : Option Session). (unwrap_or o new_session).command) at in
          absurd (cc (command, none))

  waited_for : (effects : List Effect) (attempts : List AttemptRecord) → HaveAt Waits node.gateway.works node.requests node.sessions
      → (req : ℕ)
      (work : ObjWork) → HasWork req work node.gateway.works node.sessions → (o : Option Request) → tree.get node.requests req ≡ o
      → (o ≡ None → ⊥) → IsWaitedFor effects no_id attempts node req work
  waited_for effects attempts all req work has None got some = absurd (some refl)
  waited_for effects attempts all req work has (Some request) got some =
      let (session, of) = session_there request req got (tree.get node.sessions request.session) refl in
      let waits : Waits (session_among request.session node.sessions).disk request.course work
      = subst (λ (o : Option Request). IfSome o
      (λ (request : Request). Waits (session_among request.session node.sessions).disk request.course work)) got
      (all req work has) in
      record {
        request = request;
        session = session;
        there = got;
        of = of;
        waits = of_course effects attempts session.disk work request.course
            (subst (λ (o : Option Session). WaitsFor [] no_id [] (unwrap_or o new_session).disk request.course work) of waits.0);
      }

module _ (script : List Statement) (range : RunsAreInRange script) (events : List Move) (moment : MomentWithPast)
    (is : run_with_past script events ≡ Some moment) where
  began : Began script moment.world
  began = began-with_past script events moment is

  module _ (n : ℕ) (host : Host) (there : tree.get moment.world.hosts n ≡ Some host) where
    sound_node : IsSoundNode host.node
    sound_node = ((sound_world script range moment.world began).hosts n host there).node

    of_work : (req : ℕ) (work : ObjWork) → HasWork req work host.node.gateway.works host.node.sessions
        → (tree.get host.node.requests req ≡ None → ⊥)
        → IsWaitedFor (log_effects moment.world.log) no_id moment.past.attempts host.node req work
    of_work req work has some =
        waited_for host.node sound_node (log_effects moment.world.log) moment.past.attempts
        (works_waited script range moment.world began n host there).1
        req work has (tree.get host.node.requests req) refl some

  pub waited-in_run : WorksAreWaitedFor (log_effects moment.world.log) no_id moment.world.hosts moment.past.attempts
  waited-in_run = record {
    opened = λ n host there up req work got.
        of_work n host there req work.work (inl (work, got, refl))
        (λ none.
        let may = (sound_node n host there).one_work.driven.open_works req work got in
        let cannot : may_work_at (tree.get host.node.requests req) ≡ false = ap may_work_at none in
        cc (may, cannot));
    lined = λ n host there up number place session waiting at got.
        let among : Contains session.inode_queue.waiting waiting = contains_at session.inode_queue.waiting place waiting got in
        let here = subst (λ (o : Option Session). Contains (unwrap_or o new_session).inode_queue.waiting waiting) (sym at) among in
        of_work n host there waiting.req waiting.work (inr (number, here))
        (λ none.
        let may = (sound_node n host there).one_work.driven.waiting_works number waiting here in
        let cannot : may_work_of number (tree.get host.node.requests waiting.req) ≡ false = ap (may_work_of number) none in
        cc (may, cannot));
  }
