-- In the middle of a node's step the write of a check that it had is one that the check had, or the one to which it comes by the step.
use Rattle.std.proofs.Common.{◌≡◌, ◌⊎◌, inl, inr, ⊎_elim, ℕ, true, false, List, [], ◌∷◌, Contains, Option, Some, None, refl, sym, ap, subst}
use Rattle.std.proofs.Common.{◌∙◌, arith}
use Rattle.std.specs.Prelude.{unwrap_or}
use Rattle.std.specs.Option.{option_map_or, option_and_then}
use Rattle.std.specs.Ordering.{nat_cmp}
use Rattle.std.specs.FinMap as tree
use Rattle.std.proofs.lemmas.Option.{same_Some}
use Rattle.proof_tools.proofs.Lists.{Contains-nil}
use Rattle.object_id.specs.Oid.{object_number}
use Rattle.cluster_script.specs.declared.statement.Statement.{Statement}
use Rattle.cluster_script.specs.declared.statement.Statement.TheVariants as lines
use Rattle.cluster_script.specs.NumberedRequests.{request_at}
use Rattle.cluster_script.specs.Statements.{is_check}
use Rattle.guest_driver.specs.InodeQueue as lines_of_works
use Rattle.guest_driver.specs.declared.disk.Disk.{Disk}
use Rattle.gateway.specs.Attempt.{Attempt}
use Rattle.gateway.specs.State.{Work}
use Rattle.gateway.specs.Work.{is_making}
use Rattle.gateway.specs.declared.message.Status.{Status}
use Rattle.peer_proto.specs.Work.{oid_of}
use Rattle.peer_proto.specs.declared.guest.VdiAsk.{VdiAsk}
use Rattle.peer_proto.specs.declared.guest.VdiAsk.TheVariants as disk_commands
use Rattle.peer_proto.specs.declared.work.ObjWork.{ObjWork}
use Rattle.disk_check.specs.Check.{Check, CheckStage, CheckStep, Comparing, WritingBack, Answered, check_done_at, check_on_done}
use Rattle.disk_check.specs.Check.{read_copies}
use Rattle.disk_check.specs.Value.{pieces_in, value_of}
use Rattle.vdi_ops.specs.Op.{Op}
use Rattle.sheep_node.specs.declared.ask.Ask.{Ask}
use Rattle.sheep_node.specs.declared.ask.Ask.TheVariants as asks
use Rattle.sheep_node.specs.declared.check_write.CheckWrite.{CheckWrite}
use Rattle.sheep_node.specs.declared.course.Course.{Course}
use Rattle.sheep_node.specs.declared.course.Course.TheVariants.{Waiting, Driving, Commanding, Checking, DoingWork, AwaitingDecision}
use Rattle.sheep_node.specs.declared.course.Request.{Request}
use Rattle.sheep_node.specs.declared.input.Input.{Input}
use Rattle.sheep_node.specs.declared.input.Input.TheVariants as inputs
use Rattle.sheep_node.specs.declared.session.Session.{Session}
use Rattle.sheep_node.specs.Changes as changes
use Rattle.sheep_node.specs.Changes.{EndsWork, HasRequest, Leads, MeetsNumbers, Outcome, ToWork, ToEntry, ToReply, RequestSteps, DiskBegins}
use Rattle.sheep_node.specs.Changes.{DiskGoesOn, CommandBegins, CommandGoesOn, CommandDecided, CheckBegins, CheckGoesOn, ObjectBegins}
use Rattle.sheep_node.specs.Changes.{ObjectIsDone, EntryBegins, EntryDecided, input_received, outcome_of_check}
use Rattle.sheep_node.specs.CheckWrites.{check_write_on, work_of_write, write_of_value}
use Rattle.sheep_node.specs.OneWork.{waiting_in}
use Rattle.sheep_node.specs.State.{Node, new_session}
use Rattle.sheep_node.specs.StepState.{StepState, at_first, session_in}
use Rattle.sheep_node.specs.WantedWorks.{HasWork, HaveWantedWorks, IsWantedAt, IsWorkOfCheck}
use Rattle.sheep_node.proofs.ReceivedInputs.{received_keeps}
use Rattle.sheep_node.proofs.StepChain.{kept_by_chain, untaken}
use Rattle.sheep_node.proofs.WantedChanges.{waits_well_in_chain}
use Rattle.sheep_world.specs.Asking.{ask_of_statement}
use Rattle.sheep_world.specs.Began.{Began}
use Rattle.sheep_world.specs.NodeCauses.{NodeCause, input_of_cause, IsCause, progress_at_cause}
use Rattle.sheep_world.specs.World.{Host, World, is_host_up}
use Rattle.sheep_world.proofs.WireAtEvents.{is_ready}
use Rattle.overlap_law.specs.MomentChanges.{RunsAreInRange}
use Rattle.overlap_law.specs.RequestsOfScript.{IsCourseOfAsk, IsStageOfAsk}
use Rattle.overlap_law.proofs.CausedWorks.{IsNotServed}
use Rattle.overlap_law.proofs.CheckedReplies.{comes_by}
use Rattle.overlap_law.proofs.CheckedWorks.{as_it_was}
use Rattle.overlap_law.proofs.CoursesOfAsks.{course_placed, placed_by_ask}
use Rattle.overlap_law.proofs.CoursesOfScript.{asked_by, BeganOn}
use Rattle.overlap_law.proofs.CoursesStepOn.{IsKeptByCourses, IsSoAmong, IsSoIn, change_so}
use Rattle.overlap_law.proofs.DisksOfWriters.{on_open_disk, stage_none, of_writer}
use Rattle.overlap_law.proofs.ItemsOfReplies.{is_check_at}
use Rattle.overlap_law.proofs.KnownSteps.{together, told_below}
use Rattle.overlap_law.proofs.StandingSteps.{placed, sound}
use Rattle.overlap_law.proofs.WholeInRuns.{may_change, sound_here}
use Rattle.overlap_law.proofs.WorksCome.{ComesNow, works_come}
use Rattle.overlap_law.proofs.PlacedOfScript.{placed_of_script}

-- what a check asks
check_is : (o : Option Statement) → option_map_or is_check o false ≡ true
    → option_and_then ask_of_statement o ≡ Some (asks.Vdi disk_commands.Check)
check_is None is = absurd (cc (is))
check_is (Some (lines.Check session)) is = refl
check_is (Some s) is = absurd (cc (is))

-- a check stays one of its disk
pub record IsSameDisk (one other : Check) : Type 0 where
  pub vid : one.vid ≡ other.vid
  pub spec : one.spec ≡ other.spec

pub goes_on-same : (bytes : List ℕ) (check : Check) (step : CheckStep) → check_on_done bytes check ≡ Some step → IsSameDisk step.check check
unfolding check_on_done
goes_on-same bytes check step is = by_stage check.stage is
  where
    by_stage : (stage : CheckStage) → check_done_at bytes check stage ≡ Some step → IsSameDisk step.check check
    by_stage (Comparing index later) is =
        subst (λ (s : CheckStep). IsSameDisk s.check check) (same_Some _ step is) (record { vid = refl; spec = refl })
    by_stage (WritingBack []) is =
        subst (λ (s : CheckStep). IsSameDisk s.check check) (same_Some _ step is) (record { vid = refl; spec = refl })
    by_stage (WritingBack (index ∷ later)) is =
        subst (λ (s : CheckStep). IsSameDisk s.check check) (same_Some _ step is) (record { vid = refl; spec = refl })
    by_stage Answered is = absurd (cc (is))

-- a work is the one to which a check of this request comes by the input
abbrev pub IsNewWrite : Input → Node → ℕ → ObjWork → Type 0
IsNewWrite input node req work =
    (write : CheckWrite) × (check_write_on input node ≡ Some write) × (write.req ≡ req) × (work ≡ work_of_write write)

-- or was there before, or makes nothing
abbrev pub IsFrom : Input → Node → ℕ → ObjWork → Type 0
IsFrom input node req work = HasWork req work node.gateway.works node.sessions ⊎ (IsNewWrite input node req work ⊎ (is_making work ≡ false))

abbrev IsOutcomeFrom : Input → Node → ℕ → Outcome → Type 0
IsOutcomeFrom input node req (ToWork work) = IsFrom input node req work
IsOutcomeFrom input node req (ToEntry entry) = Unit {0}
IsOutcomeFrom input node req (ToReply reply) = Unit {0}

module _ (script : List Statement) (range : RunsAreInRange script) (world : World) (began : Began script world) (n : ℕ) (host : Host)
    (there : tree.get world.hosts n ≡ Some host) (up : is_host_up host ≡ true) (cause : NodeCause) (not_served : IsNotServed cause)
    (caused : IsCause script world n host cause) where
  -- so far each work is wanted
  pub wanted_then : (so_far : StepState)
      → Leads (input_of_cause cause) host.node (input_received (input_of_cause cause) (at_first host.node)) so_far
      → HaveWantedWorks so_far.node.gateway.works so_far.node.requests so_far.node.sessions
  wanted_then so_far leads =
      let here = sound_here script range world began n host there up in
      (waits_well_in_chain (input_of_cause cause) host.node (may_change script range world began n host there up cause not_served caused)
      here.one_work here.queues here.sole_commands here.wanted_works so_far leads).2

module _ (script : List Statement) (range : RunsAreInRange script) (world : World) (began : Began script world) (n : ℕ) (host : Host)
    (there : tree.get world.hosts n ≡ Some host) (up : is_host_up host ≡ true) (cause : NodeCause) (not_served : IsNotServed cause)
    (caused : IsCause script world n host cause) (req : ℕ) (checks : is_check_at script req ≡ true) (was : Request)
    (had : tree.get host.node.requests req ≡ Some was) where
  abbrev LeadsTo : StepState → Type 0
  LeadsTo so_far = Leads (input_of_cause cause) host.node (input_received (input_of_cause cause) (at_first host.node)) so_far

  asked_so : asked_by script req ≡ Some (asks.Vdi disk_commands.Check)
  asked_so = check_is (request_at script req) checks

  pub not_brought : (number : ℕ) (ask : Ask) → input_of_cause cause ≡ inputs.Guest req number ask → ⊥
  not_brought number ask from =
      let steps = sound script range world began n host there up cause not_served caused in
      let none = untaken host.node req (subst (λ (i : Input). MeetsNumbers i host.node) from steps.0) in
      cc (none, had)

  -- the check that it was
  pub record WasCheck : Type 0 where
    pub check : Check
    pub got : tree.get host.node.requests req ≡ Some (record { session = was.session; course = Checking check })

  pub was_check : WasCheck
  was_check =
      let (start, at, course) = placed_of_script script range world began n host there req was had (of_writer script req (inr checks)) in
      by_course session_disk start was.course refl course
    where
      session_disk : Option Disk
      session_disk = (unwrap_or (tree.get host.node.sessions was.session) new_session).disk

      by_course : (opened : Option Disk) (start : Option ℕ) (course : Course) → was.course ≡ course
          → IsCourseOfAsk (asked_by script req) opened start course → WasCheck
      by_course opened start (Waiting ask) at so = let of = so.0 in let own = asked_so in absurd (cc (of, own))
      by_course opened start (Driving driver) at so = let of = so.of in let own = asked_so in absurd (cc (of, own))
      by_course opened start (Commanding op) at so =
          absurd ((on_open_disk script range world began n host there req was had (inr checks)).plain op at)
      by_course opened start (Checking check) at so =
          record { check = check; got = had ∙ ap (λ (c : Course). Some (record { session = was.session; course = c })) at }
      by_course opened start (DoingWork work) at so = absurd so
      by_course opened start (AwaitingDecision entry) at so = absurd so

  -- it is still of its disk
  abbrev IsSame : Course → Type 0
  IsSame course = (check : Check) → course ≡ Checking check → IsSameDisk check was_check.check

  parts : IsKeptByCourses req IsSame (input_of_cause cause) host.node
  parts = record {
    begins = λ ask driver before check is. absurd (cc (is));
    drives = λ driver next before check is. absurd (cc (is));
    commands = λ op next before check is. absurd (cc (is));
    checks = λ so_far session number work attempt status bytes check step ends goes before later is.
        let same : step.check ≡ later = cc (is) in
        let first = goes_on-same bytes check step goes in
        let then = before check refl in
        subst (λ (c : Check). IsSameDisk c was_check.check) same
        (record { vid = first.vid ∙ then.vid; spec = first.spec ∙ then.spec });
  }

  pub same_check : (so_far : StepState) → LeadsTo so_far → (session : ℕ) (check : Check)
      → HasRequest session req (Checking check) so_far → IsSameDisk check was_check.check
  same_check so_far leads session check got =
      kept_by_chain (IsSoIn req IsSame)
      (change_so req IsSame (input_of_cause cause) host.node parts (λ number ask from. absurd (not_brought number ask from))) leads
      (received_keeps (λ works requests sessions. IsSoAmong req IsSame requests)
      (λ r at. let none = tree.get-empty {X = Request} nat_cmp req in absurd (cc (none, at))) (input_of_cause cause) host.node first)
      (record { session = session; course = Checking check }) got check refl
    where
      first : IsSoAmong req IsSame host.node.requests
      first r at other is =
          let own : r ≡ record { session = was.session; course = Checking was_check.check }
          = same_Some r (record { session = was.session; course = Checking was_check.check }) (sym at ∙ was_check.got) in
          let course : Checking other ≡ Checking was_check.check = sym is ∙ ap (λ (x : Request). x.course) own in
          let same : other ≡ was_check.check = cc (course) in
          record { vid = ap (λ (c : Check). c.vid) same; spec = ap (λ (c : Check). c.spec) same }

  -- ---- the check comes to a write

  pub comes_now : (so_far : StepState) → LeadsTo so_far → (session number : ℕ) (work : Work) (attempt : Attempt) (status : Status)
      (bytes : List ℕ) (check : Check)
      → EndsWork (input_of_cause cause) host.node so_far session req number work attempt status (Checking check) bytes → (index : ℕ)
      (later : List ℕ) → check.stage ≡ Comparing index later
      → check_write_on (input_of_cause cause) host.node
      ≡ Some (write_of_value req check (index, value_of check.spec.policy (pieces_in check.spec bytes)))
  comes_now so_far leads session number work attempt status bytes check ends index later at = by_stage old.check.stage refl wants
    where
      learns : changes.LearnsStatus (input_of_cause cause) host.node so_far req number work attempt status
      learns = ends.ends.learns

      old : WasCheck
      old = was_check

      as_before : tree.get host.node.gateway.works req ≡ Some work
      as_before =
          as_it_was (input_of_cause cause) host.node (sound script range world began n host there up cause not_served caused)
          (told_below script world n host cause caused (is_ready script world (together script range world began) n host there up)) number
          status learns.told req leads work learns.there learns.awaited

      wants : IsWorkOfCheck old.check old.check.stage work.work
      wants =
          subst (λ (o : Option Request). IsWantedAt host.node.sessions o work.work) old.got
          ((sound_here script range world began n host there up).wanted_works req work.work (inl (work, as_before, refl)))

      reads : work.work ≡ read_copies check index
      reads =
          subst (λ (s : CheckStage). IsWorkOfCheck check s work.work) at
          (subst (λ (o : Option Request). IsWantedAt so_far.node.sessions o work.work) ends.ends.request
          (wanted_then script range world began n host there up cause not_served caused so_far leads req work.work
          (inl (work, learns.there, refl))))

      by_stage : (stage : CheckStage) → old.check.stage ≡ stage → IsWorkOfCheck old.check stage work.work
          → check_write_on (input_of_cause cause) host.node
          ≡ Some (write_of_value req check (index, value_of check.spec.policy (pieces_in check.spec bytes)))
      by_stage (Comparing first behind) stands is =
          let same = same_check so_far leads session check ends.ends.request in
          let vid = same.vid in
          let object : object_number old.check.vid first ≡ object_number old.check.vid index
          = ap oid_of (sym is ∙ reads) ∙ ap (λ (v : ℕ). object_number v index) vid in
          let own : first ≡ index = omega (arith, object) in
          comes_by host.node req work as_before attempt learns.open_so number learns.awaited bytes was.session old.check old.got first
          behind stands is (input_of_cause cause) (sound script range world began n host there up cause not_served caused) status
          learns.told ends.ends.over ends.done ends.given
          ∙ (λ i. Some (record {
            req = req;
            vid = record { 0 = sym vid i };
            spec = sym same.spec i;
            index = own i;
            value = value_of (sym same.spec i).policy (pieces_in (sym same.spec i) bytes);
          }))
      by_stage (WritingBack behind) stands (other, value, is) = let both = reads in absurd (cc (is, both))
      by_stage Answered stands never = absurd never

  -- ---- where its work comes from

  no_command : (opened : Option Disk) (start : Option ℕ) (op : Op) → IsCourseOfAsk (asked_by script req) opened start (Commanding op) → ⊥
  no_command opened start op so =
      let of = so.of in
      let own = asked_so in
      let same : so.ask ≡ disk_commands.Check = cc (of, own) in
      stage_none op.by op.session op.stage (subst (λ (a : VdiAsk). IsStageOfAsk op.by op.session a op.stage) same so.is)

  module _ (so_far : StepState) (leads : LeadsTo so_far) where
    placed_so : (session : ℕ) (course : Course) → HasRequest session req course so_far
        → (start : Option ℕ) × BeganOn script (progress_at_cause cause world) req start
        × IsCourseOfAsk (asked_by script req) (session_in session so_far).disk start course
    placed_so session course got =
        placed_by_ask (asked_by script) (BeganOn script (progress_at_cause cause world)) req (asks.Vdi disk_commands.Check) asked_so
        (session_in session so_far).disk course
        (course_placed (asked_by script) (BeganOn script (progress_at_cause cause world)) session req course so_far got
        (placed script range world began n host there up cause not_served caused so_far leads))

    goes_on-from : (session number : ℕ) (work : Work) (attempt : Attempt) (status : Status) (bytes : List ℕ) (check : Check)
        (step : CheckStep) → EndsWork (input_of_cause cause) host.node so_far session req number work attempt status (Checking check) bytes
        → check_on_done bytes check ≡ Some step → IsOutcomeFrom (input_of_cause cause) host.node req (outcome_of_check step.act)
    unfolding check_on_done
    goes_on-from session number work attempt status bytes check step ends is = by_stage check.stage refl is
      where
        by_stage : (stage : CheckStage) → check.stage ≡ stage → check_done_at bytes check stage ≡ Some step
            → IsOutcomeFrom (input_of_cause cause) host.node req (outcome_of_check step.act)
        by_stage (Comparing index later) at is =
            subst (λ (s : CheckStep). IsOutcomeFrom (input_of_cause cause) host.node req (outcome_of_check s.act)) (same_Some _ step is)
            (inr (inl (
              write_of_value req check (index, value_of check.spec.policy (pieces_in check.spec bytes)),
              comes_now so_far leads session number work attempt status bytes check ends index later at,
              refl,
              refl,
            )))
        by_stage (WritingBack []) at is =
            subst (λ (s : CheckStep). IsOutcomeFrom (input_of_cause cause) host.node req (outcome_of_check s.act)) (same_Some _ step is) tt
        by_stage (WritingBack (index ∷ later)) at is =
            subst (λ (s : CheckStep). IsOutcomeFrom (input_of_cause cause) host.node req (outcome_of_check s.act)) (same_Some _ step is)
            (inr (inr refl))
        by_stage Answered at is = absurd (cc (is))

    steps_from : (session : ℕ) (next : Outcome) (moved : StepState)
        → RequestSteps (input_of_cause cause) host.node so_far session req next moved
        → IsOutcomeFrom (input_of_cause cause) host.node req next
    steps_from session next moved (DiskBegins ask disk got on may) =
        let (start, at, so) = placed_so session (Waiting ask) got in
        let of = so.0 in
        let own = asked_so in
        absurd (cc (of, own))
    steps_from session next moved (DiskGoesOn number work attempt status bytes driver disk step ends on is) =
        let (start, at, so) = placed_so session (Driving driver) ends.ends.request in
        let of = so.of in
        let own = asked_so in
        absurd (cc (of, own))
    steps_from session next moved (CommandBegins ask step arrival is) = absurd (not_brought session (asks.Vdi ask) arrival.from)
    steps_from session next moved (CommandGoesOn number work attempt status bytes op step ends is) =
        let (start, at, so) = placed_so session (Commanding op) ends.ends.request in
        absurd (no_command (session_in session so_far).disk start op so)
    steps_from session next moved (CommandDecided entry op step from read got waits is) =
        let (start, at, so) = placed_so session (Commanding op) got in
        absurd (no_command (session_in session so_far).disk start op so)
    steps_from session next moved (CheckBegins inode arrival on) =
        absurd (not_brought session (asks.Vdi disk_commands.Check) arrival.from)
    steps_from session next moved (CheckGoesOn number work attempt status bytes check step ends is) =
        goes_on-from session number work attempt status bytes check step ends is
    steps_from session next moved (ObjectBegins asked arrival) = absurd (not_brought session (asks.Object asked) arrival.from)
    steps_from session next moved (ObjectIsDone number work attempt status bytes asked ends) = tt
    steps_from session next moved (EntryBegins entry arrival) = absurd (not_brought session (asks.Entry entry) arrival.from)
    steps_from session next moved (EntryDecided entry wanted from read got waits) = tt

  pub work_from : {so_far : StepState} → LeadsTo so_far → (work : ObjWork)
      → HasWork req work so_far.node.gateway.works so_far.node.sessions → IsFrom (input_of_cause cause) host.node req work
  work_from changes.Still work has =
      received_keeps
      (λ works requests sessions. (one : ObjWork) → HasWork req one works sessions → IsFrom (input_of_cause cause) host.node req one)
      none (input_of_cause cause) host.node (λ one was. inl was) work has
    where
      none : (work : ObjWork) → HasWork req work tree.empty tree.empty → IsFrom (input_of_cause cause) host.node req work
      none work (inl (one, got, same)) = let empty = tree.get-empty {X = Work} nat_cmp req in absurd (cc (empty, got))
      none work (inr (k, among)) =
          let empty : waiting_in k tree.empty ≡ []
          = ap (λ (o : Option Session). (unwrap_or o new_session).inode_queue.waiting) (tree.get-empty {X = Session} nat_cmp k) in
          absurd (Contains-nil (record { req = req; work = work })
          (subst (λ (list : List lines_of_works.Waiting). Contains list (record { req = req; work = work })) empty among))
  work_from (changes.Then {so_far} {next} leads change) work has = ⊎_elim
      (λ (old : HasWork req work so_far.node.gateway.works so_far.node.sessions). work_from leads work old)
      (λ (now : ComesNow (input_of_cause cause) host.node so_far req work).
      steps_from so_far leads now.session (ToWork work) now.moved now.steps)
      (works_come (input_of_cause cause) host.node so_far next change req work has)
