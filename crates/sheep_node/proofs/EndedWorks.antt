-- A step goes on as a message is known, or a work is tried again: a work is done or refused, and its request goes on. The walk shows the
-- chain of changes, and what is known where a request goes on.
use Rattle.std.proofs.Common.{◌≡◌, ℕ, suc, ◌+◌, arith, Bool, true, false, cond, List, length, Option, Some, None, refl, sym, ap, subst, ◌∙◌}
use Rattle.std.specs.Ordering.{nat_cmp}
use Rattle.std.specs.List.{list_any}
use Rattle.std.specs.FinMap as tree
use Rattle.std.specs.FinSet.{FinSet}
use Rattle.std.proofs.lemmas.List.{length-map}
use Rattle.std.proofs.lemmas.Option.{same_Some}
use Rattle.proof_tools.proofs.Lists.{find-contains}
use Rattle.proof_tools.proofs.FiniteMaps.{get-entry, get-insert_other, get-insert_same, get-remove_other, get-remove_same}
use Rattle.object_id.specs.declared.cause.Cause.{Cause}
use Rattle.object_id.specs.declared.cause.Cause.TheVariants.{Halt}
use Rattle.object_id.specs.declared.node.Epoch.{Epoch}
use Rattle.object_id.specs.declared.node.NodeId.{NodeId}
use Rattle.vnode_table.specs.Targets.{targets_in}
use Rattle.peer_proto.specs.Work.{oid_of, policy_of}
use Rattle.peer_proto.specs.declared.ask.PeerReq.{PeerReq}
use Rattle.peer_proto.specs.declared.work.ObjWork.{ObjWork}
use Rattle.gateway.specs.declared.act.Act.{Act}
use Rattle.gateway.specs.declared.act.Act.TheVariants as acts
use Rattle.gateway.specs.declared.message.Status.{Status}
use Rattle.gateway.specs.Messages.{IsPieceFor}
use Rattle.gateway.specs.Work.{zones_for}
use Rattle.gateway.specs.Attempt.{Attempt, is_unanswered, is_awaited_message, messages_with_status, is_over, is_done, bytes_given, send_of}
use Rattle.gateway.specs.State.{WorkStage, Open, Ended, WaitsForMembers, Work, Gateway, is_touched, asker, open_messages, is_awaited_in, may_try, next_try}
use Rattle.gateway.specs.Step as gateway_steps
use Rattle.gateway.specs.Step.{with_work, without_work, waiting_step, done_step, refusal_step, halt_step, open_step, next_attempt, attempt_step, retry_step_of, retry_step, failure_step, attempt_continued, attempt_with_status, status_step_in, status_step_by, message_ended}
use Rattle.guest_driver.specs.declared.disk.Disk.{Disk}
use Rattle.guest_driver.specs.Driver as drivers
use Rattle.guest_driver.specs.Driver.{Driver}
use Rattle.vdi_ops.specs.Op as ops
use Rattle.vdi_ops.specs.Op.{Op}
use Rattle.vdi_ops.specs.Steps.{op_on_done}
use Rattle.sheep_node.specs.declared.input.Input.{Input}
use Rattle.sheep_node.specs.declared.input.Input.TheVariants as inputs
use Rattle.sheep_node.specs.declared.course.Course.{Course}
use Rattle.sheep_node.specs.declared.course.Request.{Request}
use Rattle.sheep_node.specs.declared.course.Course.TheVariants.{Waiting, Driving, Commanding, Checking, DoingWork, AwaitingDecision}
use Rattle.sheep_node.specs.State.{Node}
use Rattle.sheep_node.specs.StepState.{StepState, with_gateway, session_in}
use Rattle.sheep_node.specs.RequestWorks.{course_refused, queue_left}
use Rattle.sheep_node.specs.Courses.{driver_stepped, disk_went_on, command_stepped, course_went_on, check_stepped, work_reply}
use Rattle.sheep_node.specs.Waiting.{work_done, work_refused, after_act}
use Rattle.sheep_node.specs.Changes as changes
use Rattle.sheep_node.specs.Changes.{IsTold, IsOverWith, IsSoundStep, LearnsStatus, EndsAttempt, EndsWork, gateway_with_touch, without_ended_work, refusal_after_status, DiskGoesOn, CommandGoesOn, WorkIsNext, Again, AgainAlone, has_too_few_zones, zones_of_members, without_denied_work, attempt_in, Change, CheckGoesOn, ObjectIsDone}
use Rattle.sheep_node.proofs.ReachedSteps.{IsReached, at_most, reached_by, driver_stepped_walk, command_stepped_walk, check_stepped_walk, let_begin_walk}
use Rattle.sheep_node.proofs.AwaitedWorks.{found_got}
use Rattle.disk_check.specs.Check.{Check, check_on_done}
use Rattle.disk_check.specs.Check as checks
use Rattle.std.specs.Option.{option_map_or}

module _ (input : Input) (node : Node) (first : StepState) (most : ℕ) (so_far : StepState) where
  -- a request's work, which was open, is no more, and the step has come to where the request has gone on or has ended
  pub record EndsWith (req : ℕ) (work : ObjWork) (gateway : Gateway) (here : StepState) : Type 0 where
    pub one : Work
    pub there : tree.get so_far.node.gateway.works req ≡ Some one
    pub same : one.work ≡ work
    pub gone : gateway.works ≡ tree.remove so_far.node.gateway.works req
    pub walk : IsReached input node first most here

  -- a work that is there is tried again, and an attempt's messages are sent
  pub record IsTriedWith (sends : List (NodeId × PeerReq)) : Type 0 where
    pub req : ℕ
    pub asked : Work
    pub there : tree.get so_far.node.gateway.works req ≡ Some asked
    pub as_many : length sends ≡ length (attempt_in asked so_far.node).messages

  -- what is known where a step of the gateway came to this
  abbrev pub ActGoesOn : Act → Gateway → Type 0
  ActGoesOn (acts.Send sends) gateway = IsTriedWith sends.list
  ActGoesOn acts.Wait gateway = Unit {0}
  ActGoesOn (acts.Done work done) gateway = (request : Request) → tree.get so_far.node.requests done.req ≡ Some request
      → EndsWith done.req work gateway (course_went_on request.session done.req done.bytes request.course
      (queue_left request.session work (with_gateway gateway so_far)))
  ActGoesOn (acts.Refused work req cause) gateway = (request : Request) → tree.get so_far.node.requests req ≡ Some request
      → EndsWith req work gateway (course_refused request.session req cause request.course
      (queue_left request.session work (with_gateway gateway so_far)))

module _ {input : Input} {node : Node} {first : StepState} {n : ℕ} where
  -- ---- a work is done or refused

  module _ (so_far : StepState) (session req number : ℕ) (work : Work) (attempt : Attempt) (status : Status) (course : Course)
      (ends : EndsAttempt input node so_far session req number work attempt status course) (walk : IsReached input node first n so_far) where
    abbrev pub after_gateway_act : gateway_steps.GatewayStep → StepState
    after_gateway_act step = after_act step.act (with_gateway step.gateway so_far)

    abbrev pub bytes_now : List ℕ
    bytes_now = bytes_given work.work (messages_with_status number status attempt.messages)

    module _ (is : is_done work.work (messages_with_status number status attempt.messages) ≡ true) where
      abbrev pub freed : StepState
      freed = without_ended_work session req work status so_far

      ends_work : EndsWork input node so_far session req number work attempt status course bytes_now
      ends_work = record { ends = ends; done = is; given = refl }

      ends_as : (at : Course) → course ≡ at → EndsWork input node so_far session req number work attempt status at bytes_now
      ends_as at same =
          subst (λ (course : Course). EndsWork input node so_far session req number work attempt status course bytes_now) same ends_work

      stops : (at : Course) → course ≡ at → IsOverWith bytes_now (session_in session freed).disk at → IsReached input node first (suc n) freed
      stops at same over =
          reached_by walk (changes.Stops session req number work attempt status at bytes_now (ends_as at same) over)

      disk_walk : (driver : Driver) → course ≡ Driving driver → (disk : Option Disk) → (session_in session freed).disk ≡ disk
          → IsReached input node first (suc n) (disk_went_on session req bytes_now driver disk freed)
      disk_walk driver same None on =
          stops (Driving driver) same (subst (λ (disk : Option Disk). IsOverWith bytes_now disk (Driving driver)) (sym on) tt)
      disk_walk driver same (Some disk) on = by_step (drivers.driver_on_done disk.inode bytes_now driver) refl
        where
          by_step : (step : Option drivers.DriverStep) → drivers.driver_on_done disk.inode bytes_now driver ≡ step
              → IsReached input node first (suc n) (option_map_or (λ (step : drivers.DriverStep). driver_stepped session req disk step freed) step freed)
          by_step None none =
              stops (Driving driver) same (subst (λ (disk : Option Disk). IsOverWith bytes_now disk (Driving driver)) (sym on) none)
          by_step (Some step) next =
              driver_stepped_walk so_far session req disk step freed
              (DiskGoesOn number work attempt status bytes_now driver disk step (ends_as (Driving driver) same) on next) walk

      command_done_walk : (op : Op) → course ≡ Commanding op → (step : Option ops.OpStep) → op_on_done bytes_now op ≡ step
          → IsReached input node first (suc n) (option_map_or (λ (step : ops.OpStep). command_stepped session req step freed) step freed)
      command_done_walk op same None none = stops (Commanding op) same none
      command_done_walk op same (Some step) next =
          command_stepped_walk so_far session req step freed
          (CommandGoesOn number work attempt status bytes_now op step (ends_as (Commanding op) same) next) walk

      check_done_walk : (check : Check) → course ≡ Checking check → (step : Option checks.CheckStep) → check_on_done bytes_now check ≡ step
          → IsReached input node first (suc n) (option_map_or (λ (step : checks.CheckStep). check_stepped session req step freed) step freed)
      check_done_walk check same None none = stops (Checking check) same none
      check_done_walk check same (Some step) next =
          check_stepped_walk so_far session req step freed
          (CheckGoesOn number work attempt status bytes_now check step (ends_as (Checking check) same) next) walk

      went_on_walk : (at : Course) → course ≡ at → IsReached input node first (suc n) (course_went_on session req bytes_now at freed)
      unfolding course_went_on
      went_on_walk (Waiting ask) same = stops (Waiting ask) same tt
      went_on_walk (Driving driver) same = disk_walk driver same (session_in session freed).disk refl
      went_on_walk (Commanding op) same = command_done_walk op same (op_on_done bytes_now op) refl
      went_on_walk (Checking check) same = check_done_walk check same (check_on_done bytes_now check) refl
      went_on_walk (DoingWork asked) same = reached_by walk
          (changes.Replies session req (work_reply asked bytes_now) freed
          (ObjectIsDone number work attempt status bytes_now asked (ends_as (DoingWork asked) same)))
      went_on_walk (AwaitingDecision entry) same = stops (AwaitingDecision entry) same tt

      done_walk : IsReached input node first (17 + suc n) (after_gateway_act (done_step (gateway_with_touch req work status so_far) req work.work bytes_now))
      done_walk =
          subst (λ (o : Option Request). IsReached input node first (17 + suc n) (work_done work.work req bytes_now o (with_gateway (without_work req (gateway_with_touch req work status so_far)) so_far)))
          (sym ends.request)
          (let_begin_walk session (course_went_on session req bytes_now course freed) (went_on_walk course refl))

    module _ (cause : Cause) (never : is_done work.work (messages_with_status number status attempt.messages) ≡ false)
        (why : refusal_after_status req number work attempt status so_far ≡ Some cause) where
      ended_walk : IsReached input node first (suc n) (course_refused session req cause course (without_ended_work session req work status so_far))
      ended_walk = reached_by walk (changes.Refuses session req number work attempt status course cause ends never why)

      refused_walk : IsReached input node first (17 + suc n) (after_gateway_act (refusal_step (gateway_with_touch req work status so_far) req work.work cause))
      refused_walk =
          subst (λ (o : Option Request). IsReached input node first (17 + suc n) (work_refused work.work req cause o (with_gateway (without_work req (gateway_with_touch req work status so_far)) so_far)))
          (sym ends.request)
          (let_begin_walk session (course_refused session req cause course (without_ended_work session req work status so_far)) ended_walk)

  -- ---- a message is known

  module _ (so_far : StepState) (walk : IsReached input node first n so_far) where
    -- one change settles it
    settled_by : {next : StepState} → IsReached input node first n so_far → Change input node so_far next
        → IsReached input node first (17 + suc n) next
    settled_by walk change = at_most (omega arith) (reached_by walk change)

    abbrev pub Settled : gateway_steps.GatewayStep → Type 0
    Settled step =
        IsReached input node first (17 + suc n) (after_act step.act (with_gateway step.gateway so_far))
        × ActGoesOn input node first (suc n) so_far step.act step.gateway

    -- a work whose request isn't there goes on in the gateway alone
    module _ (req : ℕ) (work : Work) (there : tree.get so_far.node.gateway.works req ≡ Some work) (none : tree.get so_far.node.requests req ≡ None) where
      module _ (touched : FinSet nat_cmp) where
        abbrev gateway : Gateway
        gateway = record so_far.node.gateway { touched = touched }

        gone_walk : IsReached input node first (17 + suc n) (with_gateway (without_work req gateway) so_far)
        gone_walk =
            settled_by walk (changes.Strays req work (without_work req gateway) there none
            (record {
              own = refl;
              same = λ now got. let gone = get-remove_same so_far.node.gateway.works req in absurd (cc (got, gone));
              others = λ other apart. get-remove_other so_far.node.gateway.works req other apart;
            }))

        stray_done_walk : (bytes : List ℕ) → Settled (done_step gateway req work.work bytes)
        stray_done_walk bytes = (
          subst (λ (o : Option Request). IsReached input node first (17 + suc n) (work_done work.work req bytes o (with_gateway (without_work req gateway) so_far)))
              (sym none) gone_walk,
          λ request got. absurd (cc (none, got)),
        )

        stray_refused_walk : (cause : Cause) → Settled (refusal_step gateway req work.work cause)
        stray_refused_walk cause = (
          subst (λ (o : Option Request). IsReached input node first (17 + suc n) (work_refused work.work req cause o (with_gateway (without_work req gateway) so_far)))
              (sym none) gone_walk,
          λ request got. absurd (cc (none, got)),
        )

        stray_failure_walk : (cause : Option Cause) → Settled (failure_step gateway req work cause)
        stray_failure_walk None =
            let later : Work = record work { ended = work.ended + 1; stage = Ended } in (
              settled_by walk (changes.Strays req work (with_work req later gateway) there none
                  (record {
                    own = refl;
                    same = λ now got. (
                      work,
                      there,
                      ap (λ (w : Work). w.work)
                          (sym (same_Some later now (sym (get-insert_same so_far.node.gateway.works req later) ∙ got))),
                    );
                    others = λ other apart. get-insert_other so_far.node.gateway.works req later other apart;
                  })),
              tt,
            )
        stray_failure_walk (Some cause) = stray_refused_walk cause

    module _ (number : ℕ) (status : Status) (settled : IsSoundStep input node → is_unanswered status ≡ false) (told : IsTold input number status) (req : ℕ) (work : Work)
        (there : tree.get so_far.node.gateway.works req ≡ Some work) (awaited : is_awaited_in number work ≡ true)
        (piece : IsSoundStep input node → IsPieceFor work.work status) where
      module _ (attempt : Attempt) (open_so : work.stage ≡ Open attempt) where
        learns : LearnsStatus input node so_far req number work attempt status
        learns = record { there = there; open_so = open_so; awaited = awaited; settled = settled; piece = piece; told = told }

        module _ (over : is_over (messages_with_status number status attempt.messages) ≡ true) (request : Request)
            (got : tree.get so_far.node.requests req ≡ Some request) where
          ends : EndsAttempt input node so_far request.session req number work attempt status request.course
          ends = record { learns = learns; over = over; request = got }

          not_done_walk : is_done work.work (messages_with_status number status attempt.messages) ≡ false → (cause : Option Cause)
              → refusal_after_status req number work attempt status so_far ≡ cause → Settled (failure_step (gateway_with_touch req work status so_far) req work cause)
          not_done_walk never None why =
              (settled_by walk (changes.Fails request.session req number work attempt status request.course ends never why), tt)
          not_done_walk never (Some cause) why = (
            refused_walk so_far request.session req number work attempt status request.course ends walk cause never why,
            λ other also.
                subst (λ (request : Request). EndsWith input node first (suc n) so_far req work.work (without_work req (gateway_with_touch req work status so_far))
                (course_refused request.session req cause request.course (without_ended_work request.session req work status so_far)))
                (same_Some request other (sym got ∙ also))
                (record {
                  one = work;
                  there = there;
                  same = refl;
                  gone = refl;
                  walk = ended_walk so_far request.session req number work attempt status request.course ends walk cause never why;
                }),
          )

          is_done_walk : is_done work.work (messages_with_status number status attempt.messages) ≡ true
              → Settled (done_step (gateway_with_touch req work status so_far) req work.work (bytes_given work.work (messages_with_status number status attempt.messages)))
          is_done_walk is = (
            done_walk so_far request.session req number work attempt status request.course ends walk is,
            λ other also.
                subst (λ (request : Request). EndsWith input node first (suc n) so_far req work.work (without_work req (gateway_with_touch req work status so_far))
                (course_went_on request.session req (bytes_given work.work (messages_with_status number status attempt.messages)) request.course
                (without_ended_work request.session req work status so_far)))
                (same_Some request other (sym got ∙ also))
                (record {
                  one = work;
                  there = there;
                  same = refl;
                  gone = refl;
                  walk = went_on_walk so_far request.session req number work attempt status request.course ends walk is request.course refl;
                }),
          )

        over_walk : is_over (messages_with_status number status attempt.messages) ≡ true → (request : Option Request)
            → tree.get so_far.node.requests req ≡ request → (b : Bool) → is_done work.work (messages_with_status number status attempt.messages) ≡ b
            → Settled (cond b (done_step (gateway_with_touch req work status so_far) req work.work (bytes_given work.work (messages_with_status number status attempt.messages)))
            (failure_step (gateway_with_touch req work status so_far) req work (refusal_after_status req number work attempt status so_far)))
        over_walk over None none true is =
            stray_done_walk req work there none (gateway_with_touch req work status so_far).touched (bytes_given work.work (messages_with_status number status attempt.messages))
        over_walk over None none false never =
            stray_failure_walk req work there none (gateway_with_touch req work status so_far).touched (refusal_after_status req number work attempt status so_far)
        over_walk over (Some request) got true is = is_done_walk over request got is
        over_walk over (Some request) got false never =
            not_done_walk over request got never (refusal_after_status req number work attempt status so_far) refl

        goes_walk : (b : Bool) → is_over (messages_with_status number status attempt.messages) ≡ b
            → Settled (cond b (gateway_steps.attempt_ended (gateway_with_touch req work status so_far) req work (attempt_with_status number status attempt))
            (waiting_step (with_work req (record work { stage = Open (attempt_with_status number status attempt) }) (gateway_with_touch req work status so_far))))
        unfolding gateway_steps.attempt_ended
        goes_walk true over = over_walk over (tree.get so_far.node.requests req) refl (is_done work.work (messages_with_status number status attempt.messages)) refl
        goes_walk false over = (settled_by walk (changes.Marks req number work attempt status learns over), tt)

      known_walk : (stage : WorkStage) → work.stage ≡ stage → Settled (status_step_in (gateway_with_touch req work status so_far) req work number status stage)
      unfolding attempt_continued
      known_walk (Open attempt) is = goes_walk attempt is (is_over (messages_with_status number status attempt.messages)) refl
      known_walk Ended is =
          let none : is_awaited_in number work ≡ false = ap (λ (stage : WorkStage). list_any (is_awaited_message number) (open_messages stage)) is in
          absurd (cc (awaited, none))
      known_walk (WaitsForMembers epoch) is =
          let none : is_awaited_in number work ≡ false = ap (λ (stage : WorkStage). list_any (is_awaited_message number) (open_messages stage)) is in
          absurd (cc (awaited, none))

    pub answered_walk : (number : ℕ) (status : Status) → (IsSoundStep input node → is_unanswered status ≡ false)
        → (IsSoundStep input node → (found : ℕ × Work) → asker number so_far.node.gateway ≡ Some found → IsPieceFor found.1.work status)
        → IsTold input number status
        → Settled (message_ended so_far.node.gateway number status)
    unfolding message_ended
    answered_walk number status settled piece told = by_asker (asker number so_far.node.gateway) refl
      where
        by_asker : (found : Option (ℕ × Work)) → asker number so_far.node.gateway ≡ found → Settled (status_step_by so_far.node.gateway number status found)
        by_asker None is = (at_most (omega arith) walk, tt)
        by_asker (Some found) is =
            let (there, awaited) = found_got number so_far.node.gateway.works found is in
            known_walk number status settled told found.0 found.1 there awaited (λ sound. piece sound found is) found.1.stage refl

    -- ---- a work is tried again

    -- it is refused for want of members
    abbrev IsDenied : ℕ → Work → Type 0
    IsDenied req asked = has_too_few_zones asked so_far.node ≡ true → is_touched req so_far.node.gateway ≡ false
        → Settled (refusal_step so_far.node.gateway req asked.work (Halt (zones_of_members so_far.node) (zones_for asked.work)))

    denied_walk : (req : ℕ) (asked : Work) (request : Request) → WorkIsNext input node so_far request.session req asked so_far
        → tree.get so_far.node.gateway.works req ≡ Some asked → tree.get so_far.node.requests req ≡ Some request → IsDenied req asked
    denied_walk req asked request again there got short untouched =
        let cause = Halt (zones_of_members so_far.node) (zones_for asked.work) in
        let ended = reached_by walk (changes.Denies request.session req asked so_far (Some request) again short untouched got (λ sound. refl)) in (
          subst (λ (o : Option Request). IsReached input node first (17 + suc n) (work_refused asked.work req cause o (with_gateway (without_work req so_far.node.gateway) so_far))) (sym got)
              (let_begin_walk request.session (course_refused request.session req cause request.course (without_denied_work request.session req asked so_far)) ended),
          λ other also.
              subst (λ (request : Request). EndsWith input node first (suc n) so_far req asked.work (without_work req so_far.node.gateway)
              (course_refused request.session req cause request.course (without_denied_work request.session req asked so_far)))
              (same_Some request other (sym got ∙ also))
              (record { one = asked; there = there; same = refl; gone = refl; walk = ended }),
        )

    module _ (session req : ℕ) (asked : Work) (there : tree.get so_far.node.gateway.works req ≡ Some asked)
        (again : WorkIsNext input node so_far session req asked so_far) (denied : IsDenied req asked) where
      abbrev here : Epoch
      here = record { 0 = so_far.node.peer.epoch }

      by_touched : has_too_few_zones asked so_far.node ≡ true → (b : Bool) → is_touched req so_far.node.gateway ≡ b
          → Settled (cond b (waiting_step (with_work req (record asked { stage = WaitsForMembers here }) so_far.node.gateway))
          (refusal_step so_far.node.gateway req asked.work (Halt (zones_of_members so_far.node) (zones_for asked.work))))
      by_touched short true touched = (settled_by walk (changes.Holds session req asked so_far again short touched), tt)
      by_touched short false untouched = denied short untouched

      tried_walk : Settled (attempt_step so_far.node.epochs so_far.node.gateway req asked so_far.node.sends here)
      unfolding attempt_step
      tried_walk = by_zones (has_too_few_zones asked so_far.node) refl
        where
          by_zones : (b : Bool) → has_too_few_zones asked so_far.node ≡ b
              → Settled (cond b (halt_step so_far.node.gateway req asked here (zones_of_members so_far.node))
              (open_step so_far.node.gateway req asked (next_attempt asked so_far.node.sends here (targets_in so_far.node.epochs here.0 (oid_of asked.work) (policy_of asked.work)))))
          by_zones true short = by_touched short (is_touched req so_far.node.gateway) refl
          by_zones false enough = (
            settled_by walk (changes.Opens session req asked so_far again enough),
            record {
              req = req;
              asked = asked;
              there = there;
              as_many = length-map (attempt_in asked so_far.node).messages (send_of so_far.node.gateway.me here asked.work);
            },
          )

    pub retry_walk : input ≡ inputs.RetryTick
        → Settled (retry_step so_far.node.epochs so_far.node.gateway so_far.node.sends (record { 0 = so_far.node.peer.epoch }))
    unfolding retry_step
    retry_walk from = by_found (next_try (record { 0 = so_far.node.peer.epoch }) so_far.node.gateway) refl
      where
        by_request : (req : ℕ) (asked : Work) → next_try (record { 0 = so_far.node.peer.epoch }) so_far.node.gateway ≡ Some (req, asked)
            → tree.get so_far.node.gateway.works req ≡ Some asked → (request : Option Request) → tree.get so_far.node.requests req ≡ request
            → Settled (attempt_step so_far.node.epochs so_far.node.gateway req asked so_far.node.sends (record { 0 = so_far.node.peer.epoch }))
        by_request req asked next there None none =
            tried_walk 0 req asked there (AgainAlone asked from next there none)
            (λ short untouched. stray_refused_walk req asked there none so_far.node.gateway.touched (Halt (zones_of_members so_far.node) (zones_for asked.work)))
        by_request req asked next there (Some request) got =
            let again = Again asked request.course from next there got in
            tried_walk request.session req asked there again (denied_walk req asked request again there got)

        by_found : (found : Option (ℕ × Work)) → next_try (record { 0 = so_far.node.peer.epoch }) so_far.node.gateway ≡ found
            → Settled (retry_step_of so_far.node.epochs so_far.node.gateway so_far.node.sends (record { 0 = so_far.node.peer.epoch }) found)
        by_found None is = (at_most (omega arith) walk, tt)
        by_found (Some found) is =
            let test = λ (entry : ℕ × Work). may_try (record { 0 = so_far.node.peer.epoch }) entry.1.stage in
            by_request found.0 found.1 is
            (get-entry so_far.node.gateway.works found (find-contains test (tree.entries so_far.node.gateway.works) found is).0)
            (tree.get so_far.node.requests found.0) refl
