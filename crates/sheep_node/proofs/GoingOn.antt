-- What the gateway's step came to can be gone on with: a request whose work is done has as many bytes as its course waits for, and behind
-- that the step goes on.
use Rattle.std.proofs.Common.{◌≡◌, inl, ⊎_elim, ℕ, ◌+◌, ◌<◌, ◌≤◌, ◌-◌, ◌^◌, Bool, true, false, cond, List, length, All, Option, Some, None, is_some, refl, sym, ap, subst, ◌∙◌}
use native.Mathlib.Omega.{arith}
use Rattle.std.specs.Prelude.{IfSome, IsTrue}
use Rattle.std.specs.Ordering.{nat_cmp}
use Rattle.std.specs.FinMap as tree
use Rattle.std.proofs.lemmas.Bool.{leb-true, or_cases}
use Rattle.std.proofs.lemmas.List.Elements.{All-head}
use Rattle.proof_tools.proofs.FiniteMaps.{get-entry, get-remove_same}
use Rattle.proof_tools.proofs.Lists.{find-contains}
use Rattle.object_id.specs.declared.limits.TheConstants.{NODES_MAX, OBJECTS_MAX}
use Rattle.object_id.specs.declared.cause.Cause.{Cause}
use Rattle.object_id.specs.declared.cause.Cause.TheVariants.{Halt}
use Rattle.object_id.specs.declared.node.Epoch.{Epoch}
use Rattle.object_id.specs.declared.node.NodeId.{NodeId}
use Rattle.object_id.specs.Oid.{object_number}
use Rattle.vnode_table.specs.Epochs.{is_entered}
use Rattle.inode.specs.Layout.{Content}
use Rattle.peer_proto.specs.declared.ask.PeerReq.{PeerReq}
use Rattle.peer_proto.specs.declared.say.PeerRsp.{PeerRsp}
use Rattle.peer_proto.specs.declared.work.ObjWork.{ObjWork}
use Rattle.peer_proto.specs.declared.work.ObjWork.TheVariants.{Create}
use Rattle.recovery.specs.Fits.{fits_message, fits_recovery}
use Rattle.recovery.specs.State.{Message, all_unanswered, message_of, recovery_awaits}
use Rattle.recovery.specs.Tick.{tick_sends}
use Rattle.recovery.specs.Steps.{recovery_on_reply, recovery_on_loss}
use Rattle.vdi_ops.specs.declared.act.OpAct.TheVariants as op_acts
use Rattle.vdi_ops.specs.Op.{Task, Opening, WritingBack, Tagging, Copying, Making, OpStage, Asked, Working, Publishing, Answered, op_stage_bytes, bytes_of_task, IsWorkOfTask, IsAwaitedAtOpStage}
use Rattle.object_id.specs.declared.oid.Vid.{Vid}
use Rattle.guest_driver.specs.Driver as drivers
use Rattle.guest_driver.specs.Driver.{Driver, DriverStage, InPlace, Fetching, Creating, Entering, Reads, Writes, driver_bytes_wanted, driver_stage_bytes}
use Rattle.guest_driver.specs.Pieces.{Piece}
use Rattle.guest_driver.specs.declared.disk.Disk.{Disk}
use Rattle.disk_check.specs.Check as checks
use Rattle.disk_check.specs.Check.{Check, CheckStage, IsCheck, Comparing, WritingBack, bytes_at, left_of}
use Rattle.gateway.specs.declared.act.Act.{Act}
use Rattle.gateway.specs.declared.act.Act.TheVariants as acts
use Rattle.gateway.specs.declared.message.Status.TheVariants.{Lost}
use Rattle.gateway.specs.Attempt.{status_by}
use Rattle.gateway.specs.State.{Work, Gateway, WaitsForMembers, asker, gateway_awaits, fits_asker, fits_gateway, is_touched, may_try, next_try, MaySend}
use Rattle.gateway.specs.Step.{GatewayStep, with_work, waiting_step, refusal_step, halt_step, open_step, attempt_step, retry_step_of, retry_step, gateway_on_reply, gateway_on_loss}
use Rattle.gateway.specs.Work.{zones_for, bytes_of_work}
use Rattle.gateway.specs.Outcomes.{GivesItsBytes}
use Rattle.gateway.proofs.LengthLaws.{bytes_of_work-object}
use Rattle.sheep_node.specs.declared.input.Input.{Input}
use Rattle.sheep_node.specs.declared.input.Input.TheVariants as inputs
use Rattle.sheep_node.specs.declared.course.Course.{Course}
use Rattle.sheep_node.specs.declared.course.Request.{Request}
use Rattle.sheep_node.specs.declared.course.Course.TheVariants.{Waiting, Driving, Commanding, Checking, DoingWork, AwaitingDecision}
use Rattle.sheep_node.specs.State.{Node}
use Rattle.sheep_node.specs.StepState.{StepState, at_first, with_gateway}
use Rattle.sheep_node.specs.Courses.{inode_open, course_went_on}
use Rattle.sheep_node.specs.RequestWorks.{course_refused, queue_left}
use Rattle.sheep_node.specs.SessionQueues.{session_among}
use Rattle.sheep_node.specs.DrivenDisks.{IsCourseOn}
use Rattle.sheep_node.specs.WantedWorks.{IsWorkOfWrite, IsWorkOfDriver, IsWorkOfCheck, IsWorkWanted, IsWantedAt}
use Rattle.sheep_node.specs.GivenNumbers.{HasNumbersBelow, NumbersWereGiven}
use Rattle.sheep_node.specs.SoundWorks.{IsSoundCheck}
use Rattle.sheep_node.specs.Validity.{EachIs}
use Rattle.sheep_node.specs.RecoveryView.{recovery_state_of}
use Rattle.sheep_node.specs.Step.{recovery_stepped}
use Rattle.sheep_node.specs.Changes.{input_received, attempt_in, has_too_few_zones, zones_of_members}
use Rattle.sheep_node.specs.May.{May, fits_node}
use Rattle.sheep_node.specs.NodeInvariant.{IsSoundNode}
use Rattle.sheep_node.specs.MayBegin.{MayComeToWork, MayGoOn}
use Rattle.sheep_node.specs.InStep.{IsInStep, MayFinishIfThere, MayRefuseIfThere, MayGoOnBy}
use Rattle.sheep_node.specs.declared.limits.TheConstants.{SENDS_MAX}
use Rattle.sheep_node.proofs.MessageCounts.{attempt_few, tick_few}
use Rattle.sheep_node.proofs.BeginningWorks.{may_send}
use Rattle.sheep_node.proofs.OneWorkChanges.{never_alone}
use Rattle.sheep_node.proofs.ReachedSteps.{IsReached}
use Rattle.sheep_node.proofs.StepChain.{begins, fits_settled, fits_piece, lost_piece}
use Rattle.sheep_node.proofs.ValidityChanges.{gone_is}
use Rattle.sheep_node.proofs.EndedWorks.{EndsWith, IsTriedWith, ActGoesOn, answered_walk, retry_walk}
use Rattle.sheep_node.proofs.InSteps.{entered_here}

-- ---- the bytes of a work are as many as a course waits for that the work is of

bytes_for_write : (inode : Content) (payload : List ℕ) (piece : Piece) (work : ObjWork) (stage : DriverStage)
    → IsWorkOfWrite inode payload piece work stage → bytes_of_work work ≡ driver_stage_bytes inode stage
bytes_for_write inode payload piece work InPlace is = ap bytes_of_work is
bytes_for_write inode payload piece work Fetching is = ap bytes_of_work is.1
bytes_for_write inode payload piece work Creating is =
    let same : work ≡ Create (object_number inode.vid piece.index) inode.spec.policy (2 ^ inode.spec.shift) is.0 is.1 = cc (is.2) in
    ap bytes_of_work same
bytes_for_write inode payload piece work Entering is = ap bytes_of_work is

bytes_for_driver : (inode : Content) (driver : Driver) (work : ObjWork) → IsWorkOfDriver inode driver work
    → driver_bytes_wanted inode driver ≡ Some (bytes_of_work work)
bytes_for_driver inode (Reads told piece rest) work is = ap Some (sym (ap bytes_of_work is.1))
bytes_for_driver inode (Writes payload stage piece rest) work is = ap Some (sym (bytes_for_write inode payload piece work stage is))
bytes_for_driver inode drivers.Answered work is = absurd is

pub bytes_for_check : (check : Check) (stage : CheckStage) (work : ObjWork) → IsWorkOfCheck check stage work → check.stage ≡ stage → IsSoundCheck check
    → bytes_at check.spec stage ≡ Some (bytes_of_work work)
bytes_for_check check (Comparing index later) work is at sound =
    let few : index < OBJECTS_MAX
    = All-head (λ index. index < OBJECTS_MAX) index later
    (subst (λ (stage : CheckStage). All (λ index. index < OBJECTS_MAX) (left_of stage)) at sound.within) in
    ap Some (sym (ap bytes_of_work is ∙ bytes_of_work-object check.vid index (2 ^ check.spec.shift) check.spec.policy sound.vid few))
bytes_for_check check (WritingBack later) work is at sound = ap Some (sym (ap bytes_of_work is.2))
bytes_for_check check checks.Answered work is at sound = absurd is

bytes_for_task : (vid : Vid) (task : Task) (work : ObjWork) → IsWorkOfTask vid task work → bytes_of_task task ≡ bytes_of_work work
bytes_for_task vid (Opening snapshot ids header) work is = sym (ap bytes_of_work is)
bytes_for_task vid (WritingBack inode) work is = sym (ap bytes_of_work is.work_of)
bytes_for_task vid (Tagging old inode) work is = sym (ap bytes_of_work is.work_of)
bytes_for_task vid (Copying ids header) work is = sym (ap bytes_of_work is.work_of)
bytes_for_task vid (Making entry opened) work is = sym (ap bytes_of_work is.work_of)

bytes_for_command : (stage : OpStage) (work : ObjWork) → IsAwaitedAtOpStage (op_acts.Work work) stage
    → op_stage_bytes stage ≡ Some (bytes_of_work work)
bytes_for_command (Asked entry) work is = absurd (cc (is))
bytes_for_command (Working vid task) work is =
    let same : work ≡ is.0 = cc (is.1) in
    ap Some (bytes_for_task vid task is.0 is.2 ∙ sym (ap bytes_of_work same))
bytes_for_command (Publishing entry opened) work is = absurd (cc (is))
bytes_for_command (Answered change) work is = absurd (cc (is.1))

-- a course goes on with the bytes of the work that it waits for
pub may_go_on : (disk : Option Disk) (course : Course) (work : ObjWork) (bytes : List ℕ) → IsWorkWanted (inode_open disk) course work
    → IsCourseOn (inode_open disk) course → length bytes ≡ bytes_of_work work → MayGoOn (inode_open disk) course bytes
may_go_on disk (Waiting ask) work bytes wanted on given = tt
may_go_on None (Driving driver) work bytes wanted on given = absurd wanted
may_go_on (Some disk) (Driving driver) work bytes wanted on given =
    (bytes_for_driver disk.inode driver work wanted ∙ ap Some (sym given), on)
may_go_on disk (Commanding op) work bytes wanted on given = bytes_for_command op.stage work wanted ∙ ap Some (sym given)
may_go_on disk (Checking check) work bytes wanted on given =
    λ is.
    bytes_for_check check check.stage work wanted refl (record { vid = is.vid; spec = is.spec; within = is.within }) ∙ ap Some (sym given)
may_go_on disk (DoingWork asked) work bytes wanted on given = tt
may_go_on disk (AwaitingDecision entry) work bytes wanted on given = tt

-- ---- a sound node steps on an input that changes nothing by itself

module _ (input : Input) (node : Node) (may : May input node) (sound : IsSoundNode node)
    (starts : input_received input (at_first node) ≡ at_first node) where
  abbrev first : StepState
  first = input_received input (at_first node)

  pub start : IsReached input node first 0 (at_first node)
  start = subst (IsReached input node first 0) starts (begins input node)

  in_step : {n : ℕ} {next : StepState} → IsReached input node first n next → IsInStep next
  in_step walk = record { input = input; node = node; may = may; sound = sound; leads = walk.leads }

  -- the work of a request has ended
  module _ (most req : ℕ) (work : ObjWork) (gateway : Gateway) (request : Request) (later : StepState)
      (got : tree.get node.requests req ≡ Some request) (ends : EndsWith input node first most (at_first node) req work gateway later) where
    idle : tree.get gateway.works req ≡ None
    idle = ap (λ (works : tree.FinMap nat_cmp Work). tree.get works req) ends.gone ∙ get-remove_same node.gateway.works req

    given : NumbersWereGiven (record node { gateway = gateway })
    given =
        subst (EachIs (HasNumbersBelow node.sends)) (sym ends.gone)
        (gone_is (HasNumbersBelow node.sends) node.gateway.works req sound.given)

    may_come : MayComeToWork req (record node { gateway = gateway })
    may_come = record { idle = idle; given = given; entered = entered_here (at_first node) (in_step start) req request got }

    wanted : IsWorkWanted (inode_open (session_among request.session node.sessions).disk) request.course work
    wanted =
        subst (λ (request : Option Request). IsWantedAt node.sessions request work) got
        (sound.wanted_works req work (inl (ends.one, ends.there, ends.same)))

    on_disk : IsCourseOn (inode_open (session_among request.session node.sessions).disk) request.course
    on_disk =
        subst (λ (request : Option Request). IfSome request (λ (request : Request). IsCourseOn
        (inode_open (session_among request.session node.sessions).disk) request.course)) got (sound.on_disks req)

    goes_on : (bytes : List ℕ) → length bytes ≡ bytes_of_work work
        → MayGoOn (inode_open (session_among request.session node.sessions).disk) request.course bytes
    goes_on bytes as_many =
        may_go_on (session_among request.session node.sessions).disk request.course work bytes wanted on_disk as_many

  -- what the gateway's step came to
  module _ (most : ℕ) (gateway : Gateway) where
    finishes : (work : ObjWork) (req : ℕ) (bytes : List ℕ) → length bytes ≡ bytes_of_work work
        → ActGoesOn input node first most (at_first node) (acts.Done work (record { req = req; bytes = bytes })) gateway
        → (request : Option Request) → tree.get node.requests req ≡ request
        → MayFinishIfThere work req bytes request (with_gateway gateway (at_first node))
    finishes work req bytes as_many goes None none = tt
    finishes work req bytes as_many goes (Some request) got =
        let ends = goes request got in
        let later = course_went_on request.session req bytes request.course (queue_left request.session work (with_gateway gateway (at_first node))) in
        record {
          may = may_come most req work gateway request later got ends;
          goes_on = goes_on most req work gateway request later got ends bytes as_many;
          after = in_step ends.walk;
        }

    refuses : (work : ObjWork) (req : ℕ) (cause : Cause)
        → ActGoesOn input node first most (at_first node) (acts.Refused work req cause) gateway
        → (request : Option Request) → tree.get node.requests req ≡ request
        → MayRefuseIfThere work req cause request (with_gateway gateway (at_first node))
    refuses work req cause goes None none = tt
    refuses work req cause goes (Some request) got =
        let ends = goes request got in
        let later = course_refused request.session req cause request.course (queue_left request.session work (with_gateway gateway (at_first node))) in
        record { idle = idle most req work gateway request later got ends; after = in_step ends.walk }

    -- an attempt has few messages, and a node that may step has numbers left for these
    sends_fit : (sends : List (NodeId × PeerReq)) → IsTriedWith input node first most (at_first node) sends → node.sends + length sends < 2 ^ 32
    sends_fit sends tried =
        let few = attempt_few tried.asked node (sound.valid_disks.kept.open_works tried.req tried.asked tried.there) in
        let same = tried.as_many in
        let room : node.sends ≤ SENDS_MAX = leb-true node.sends SENDS_MAX may.numbers in
        omega (arith, few, same, room)

    pub act_goes_on : (act : Act) → ActGoesOn input node first most (at_first node) act gateway → GivesItsBytes act
        → MayGoOnBy act (with_gateway gateway (at_first node))
    act_goes_on (acts.Send sends) goes bytes = sends_fit sends.list goes
    act_goes_on acts.Wait goes bytes = tt
    act_goes_on (acts.Done work done) goes bytes = finishes work done.req done.bytes bytes goes (tree.get node.requests done.req) refl
    act_goes_on (acts.Refused work req cause) goes bytes = refuses work req cause goes (tree.get node.requests req) refl

-- ---- a reply fits what waits for it

pub fits_where_awaited : (node : Node) (rsp : PeerRsp) → recovery_awaits rsp.number node.recovery ≡ false → fits_node rsp node ≡ true
    → fits_gateway rsp node.gateway ≡ true
fits_where_awaited node rsp apart fit = ⊎_elim
    (λ (works : fits_gateway rsp node.gateway ≡ true). works)
    (λ (recovers : fits_recovery rsp (recovery_state_of node) ≡ true).
    absurd (by_message (message_of rsp.number (all_unanswered node.recovery)) apart recovers))
    (or_cases (fits_gateway rsp node.gateway) (fits_recovery rsp (recovery_state_of node)) fit)
  where
    by_message : (o : Option Message) → is_some o ≡ false → fits_message (recovery_state_of node).shown o rsp.say ≡ true → ⊥
    by_message None none fit = absurd (cc (fit))
    by_message (Some message) none fit = absurd (cc (none))

pub fits_where_not_awaited : (node : Node) (rsp : PeerRsp) → gateway_awaits rsp.number node.gateway ≡ false → fits_node rsp node ≡ true
    → fits_recovery rsp (recovery_state_of node) ≡ true
fits_where_not_awaited node rsp apart fit = ⊎_elim
    (λ (works : fits_gateway rsp node.gateway ≡ true). absurd (by_asker (asker rsp.number node.gateway) apart works))
    (λ (recovers : fits_recovery rsp (recovery_state_of node) ≡ true). recovers)
    (or_cases (fits_gateway rsp node.gateway) (fits_recovery rsp (recovery_state_of node)) fit)
  where
    by_asker : (o : Option (ℕ × Work)) → is_some o ≡ false → fits_asker o rsp.say ≡ true → ⊥
    by_asker None apart fit = absurd (cc (fit))
    by_asker (Some found) apart fit = absurd (cc (apart))

-- ---- a reply, a loss and a tick

-- what a step gives is what it was found to give
step_goes_on : (input : Input) (node : Node) (may : May input node) (sound : IsSoundNode node)
    (starts : input_received input (at_first node) ≡ at_first node) (step : GatewayStep) (act : Act) (gateway : Gateway)
    → step ≡ record { gateway = gateway; act = act }
    → ActGoesOn input node (input_received input (at_first node)) 1 (at_first node) step.act step.gateway → GivesItsBytes act
    → MayGoOnBy act (with_gateway gateway (at_first node))
step_goes_on input node may sound starts step act gateway is goes bytes =
    act_goes_on input node may sound starts 1 gateway act
    (subst (λ (step : GatewayStep). ActGoesOn input node (input_received input (at_first node)) 1 (at_first node) step.act step.gateway) is goes) bytes

pub reply_goes_on : (rsp : PeerRsp) (node : Node) → May (inputs.Reply rsp) node → IsSoundNode node
    → gateway_awaits rsp.number node.gateway ≡ true → (act : Act) (gateway : Gateway)
    → gateway_on_reply node.gateway rsp ≡ record { gateway = gateway; act = act } → GivesItsBytes act
    → MayGoOnBy act (with_gateway gateway (at_first node))
reply_goes_on rsp node may sound waits act gateway is bytes =
    let starts : input_received (inputs.Reply rsp) (at_first node) ≡ at_first node
    = ap (λ (b : Bool). cond b (at_first node) (recovery_stepped (recovery_on_reply rsp (recovery_state_of node)) (at_first node))) waits in
    step_goes_on (inputs.Reply rsp) node may sound starts (gateway_on_reply node.gateway rsp) act gateway is
    (answered_walk (at_first node) (start (inputs.Reply rsp) node may sound starts) rsp.number (status_by rsp.say)
    (λ step. fits_settled node rsp (step.1.recovers rsp.number waits) step.0)
    (λ step. fits_piece node rsp (step.1.recovers rsp.number waits) step.0) (refl, refl)).1 bytes

pub loss_goes_on : (number : ℕ) (node : Node) → May (inputs.Lost number) node → IsSoundNode node
    → gateway_awaits number node.gateway ≡ true → (act : Act) (gateway : Gateway)
    → gateway_on_loss node.gateway number ≡ record { gateway = gateway; act = act } → GivesItsBytes act
    → MayGoOnBy act (with_gateway gateway (at_first node))
loss_goes_on number node may sound waits act gateway is bytes =
    let starts : input_received (inputs.Lost number) (at_first node) ≡ at_first node
    = ap (λ (b : Bool). cond b (at_first node) (recovery_stepped (recovery_on_loss number (recovery_state_of node)) (at_first node))) waits in
    step_goes_on (inputs.Lost number) node may sound starts (gateway_on_loss node.gateway number) act gateway is
    (answered_walk (at_first node) (start (inputs.Lost number) node may sound starts) number Lost (λ step. refl)
    (λ step found is. lost_piece found.1.work) (refl, refl)).1 bytes

-- a work that is tried again isn't done at once
module _ (node : Node) where
  abbrev epoch : Epoch
  epoch = record { 0 = node.peer.epoch }

  held : (req : ℕ) (asked : Work) (zones : ℕ) (b : Bool) → GivesItsBytes (cond b
      (waiting_step (with_work req (record asked { stage = WaitsForMembers epoch }) node.gateway))
      (refusal_step node.gateway req asked.work (Halt zones (zones_for asked.work)))).act
  held req asked zones true = tt
  held req asked zones false = tt

  tried : (req : ℕ) (asked : Work) → GivesItsBytes (attempt_step node.epochs node.gateway req asked node.sends epoch).act
  unfolding attempt_step
  tried req asked = by_zones (has_too_few_zones asked node)
    where
      by_zones : (b : Bool) → GivesItsBytes (cond b
          (halt_step node.gateway req asked epoch (zones_of_members node))
          (open_step node.gateway req asked (attempt_in asked node))).act
      by_zones true = held req asked (zones_of_members node) (is_touched req node.gateway)
      by_zones false = tt

  retry_gives : GivesItsBytes (retry_step node.epochs node.gateway node.sends epoch).act
  unfolding retry_step
  retry_gives = by_found (next_try epoch node.gateway)
    where
      by_found : (found : Option (ℕ × Work)) → GivesItsBytes (retry_step_of node.epochs node.gateway node.sends epoch found).act
      by_found None = tt
      by_found (Some found) = tried found.0 found.1

-- where there is a work to retry its request is there, so the node's epoch was entered
pub retry_may_send : (node : Node) → May inputs.RetryTick node → IsSoundNode node
    → MaySend node.gateway node.epochs node.sends (record { 0 = node.peer.epoch })
retry_may_send node may sound =
    let few : node.sends ≤ SENDS_MAX = leb-true node.sends SENDS_MAX may.numbers in
    let room : node.sends ≤ 2 ^ 32 - NODES_MAX = omega (arith, few) in
    may_send node (by_found (next_try (epoch node) node.gateway) refl may.condition) sound.given room
  where
    here : IsInStep (at_first node)
    here = record { input = inputs.RetryTick; node = node; may = may; sound = sound; leads = (begins inputs.RetryTick node).leads }

    by_request : (found : ℕ × Work) → tree.get node.gateway.works found.0 ≡ Some found.1 → (request : Option Request)
        → tree.get node.requests found.0 ≡ request → IsTrue (is_entered node.epochs node.peer.epoch)
    by_request found there None none = absurd (never_alone found.0 found.1 (at_first node) there none sound.one_work.driven)
    by_request found there (Some request) got = entered_here (at_first node) here found.0 request got

    by_found : (found : Option (ℕ × Work)) → next_try (epoch node) node.gateway ≡ found → is_some found ≡ true
        → IsTrue (is_entered node.epochs node.peer.epoch)
    by_found None is some = absurd (cc (some))
    by_found (Some found) is some =
        let test = λ (entry : ℕ × Work). may_try (epoch node) entry.1.stage in
        by_request found
        (get-entry node.gateway.works found (find-contains test (tree.entries node.gateway.works) found is).0)
        (tree.get node.requests found.0) refl

pub retry_goes_on : (node : Node) → May inputs.RetryTick node → IsSoundNode node → (act : Act) (gateway : Gateway)
    → retry_step node.epochs node.gateway node.sends (record { 0 = node.peer.epoch }) ≡ record { gateway = gateway; act = act }
    → MayGoOnBy act (with_gateway gateway (at_first node))
retry_goes_on node may sound act gateway is =
    step_goes_on inputs.RetryTick node may sound refl
    (retry_step node.epochs node.gateway node.sends (record { 0 = node.peer.epoch })) act gateway is
    (retry_walk (at_first node) (begins inputs.RetryTick node) refl).1
    (subst (λ (step : GatewayStep). GivesItsBytes step.act) is (retry_gives node))

-- a tick sends little, and a node that may step has numbers left for that
pub tick_fits : (node : Node) → May inputs.RecoverTick node → IsSoundNode node
    → node.sends + length (tick_sends node.sends (recovery_state_of node)) < 2 ^ 32
tick_fits node may sound =
    let few = tick_few node.sends node sound.recovery.may in
    let room : node.sends ≤ SENDS_MAX = leb-true node.sends SENDS_MAX may.numbers in
    omega (arith, few, room)
