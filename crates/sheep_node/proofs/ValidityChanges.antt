-- Every change leaves valid what a node has at work, in any sense of valid: works, requests, sessions, and the entries that are to be put. What a
-- sense must bring for that is a record.
use Rattle.std.proofs.Common.{◌≡◌, ◌≢◌, ℕ, ◌+◌, ◌*◌, ◌≤◌, true, false, List, [], ◌∷◌, ◌++◌, length, map, All, Option, Some, None, IfSome, unwrap_or, refl, sym, ap, subst, ◌∙◌, ⊎_elim, arith}
use Rattle.std.specs.Ordering.{nat_cmp}
use Rattle.std.specs.FinMap as tree
use Rattle.std.specs.Option.{option_map_or}
use Rattle.std.proofs.lemmas.Bool.{cases_eq}
use Rattle.std.proofs.lemmas.List.{length-append, length-map}
use Rattle.std.proofs.lemmas.List.Elements.{All-append, All-head, All-nil, All-push, All-tail}
use Rattle.proof_tools.proofs.FiniteMaps.{get-insert_cases, get-remove_other, get-remove_same}
use Rattle.object_id.specs.declared.cause.Cause.TheVariants.{Halt}
use Rattle.object_id.specs.declared.cause.Cause.{Cause}
use Rattle.object_id.specs.declared.entry.Entry.{Entry}
use Rattle.object_id.specs.declared.entry.Entry.TheVariants.{Recovered}
use Rattle.object_id.specs.declared.node.Epoch.{Epoch}
use Rattle.object_id.specs.declared.node.NodeId.{NodeId}
use Rattle.peer_proto.specs.declared.ask.PeerReq.{PeerReq}
use Rattle.peer_proto.specs.declared.work.ObjWork.{ObjWork}
use Rattle.peer_proto.specs.declared.guest.DiskAsk.{DiskAsk}
use Rattle.peer_proto.specs.declared.guest.GuestRsp.{GuestRsp}
use Rattle.peer_proto.specs.declared.guest.GuestRsp.TheVariants.{Refused}
use Rattle.gateway.specs.declared.message.Status.{Status}
use Rattle.gateway.specs.Work.{zones_for}
use Rattle.gateway.specs.Attempt.{Attempt, send_of}
use Rattle.gateway.specs.State.{Work, Gateway, Open, Ended, WaitsForMembers}
use Rattle.gateway.specs.Step.{attempt_with_status}
use Rattle.gateway_queue.specs.Queue.{queue_without}
use Rattle.guest_driver.specs.declared.disk.Disk.{Disk}
use Rattle.guest_driver.specs.InodeQueue as lines
use Rattle.guest_driver.specs.Driver.{DriverStep}
use Rattle.vdi_ops.specs.Op.{OpStage, Asked, Working, Publishing, Answered, disk_change_at, OpStep}
use Rattle.vdi_ops.specs.Entries.{unlock_of}
use Rattle.vdi_ops.specs.Steps.{refused_at, on_refusal}
use Rattle.sheep_node.specs.declared.ask.Ask.TheVariants as asks
use Rattle.sheep_node.specs.declared.input.Input.{Input}
use Rattle.sheep_node.specs.declared.course.Course.{Course}
use Rattle.sheep_node.specs.declared.course.Request.{Request}
use Rattle.sheep_node.specs.declared.session.Session.{Session}
use Rattle.sheep_node.specs.declared.course.Course.TheVariants.{Waiting, Driving, Commanding, Checking, DoingWork, AwaitingDecision}
use Rattle.sheep_node.specs.State.{Node, new_session}
use Rattle.sheep_node.specs.StepState.{StepState, with_session, session_in, with_course, with_sole_request, with_optional_entry, request_ended}
use Rattle.sheep_node.specs.Courses.{after_driver_step, disk_after, inode_open, after_command_step}
use Rattle.sheep_node.specs.RequestWorks.{command_refused, course_refused}
use Rattle.sheep_node.specs.Guests.{queued_as}
use Rattle.sheep_node.specs.Validity.{Validity, EachIs, IsValidSessionBy, AreValidBy}
use Rattle.sheep_node.specs.Changes as changes
use Rattle.sheep_node.specs.Changes.{without_ended_work, without_denied_work, with_open_attempt, zones_of_members, has_too_few_zones, attempt_in, Outcome, ToWork, ToEntry, ToReply, LearnsStatus, Arrival, IsApart, RequestSteps, WorkIsNext, AtOnce, InTurn, Again, AgainAlone, Change, Leads, Still, Then}
use Rattle.sheep_node.proofs.ReachedSteps.{changes_in}

-- ---- maps of which each value is so

module _ {V : Type 0} (P : V → Type 0) (map : tree.FinMap nat_cmp V) (key : ℕ) where
  pub put_is : (value : V) → P value → EachIs P map → EachIs P (tree.insert map key value)
  put_is value so all q at got = ⊎_elim
      (λ (own : (q ≡ key) × (value ≡ at)). subst P own.1 so)
      (λ (other : (q ≢ key) × (tree.get map q ≡ Some at)). all q at other.1)
      (get-insert_cases map key value q at got)

  pub gone_is : EachIs P map → EachIs P (tree.remove map key)
  gone_is all q at got = ⊎_elim
      (λ (own : q ≡ key).
      let none : tree.get (tree.remove map key) q ≡ None = ap (tree.get (tree.remove map key)) own ∙ get-remove_same map key in
      absurd (cc (none, got)))
      (λ (other : q ≢ key). all q at (sym (get-remove_other map key q other) ∙ got))
      (cases_eq q key)

pub none_is : {V : Type 0} (P : V → Type 0) → EachIs P tree.empty
none_is {V} P key value got = let none = tree.get-empty {X = V} nat_cmp key in absurd (cc (none, got))

-- ---- a step in the making, in a sense of valid

module _ (v : Validity) where
  -- what a step comes to is valid
  abbrev pub IsValidOutcomeBy : Outcome → Type 0
  IsValidOutcomeBy (ToWork work) = v.asked work
  IsValidOutcomeBy (ToEntry entry) = v.put entry
  IsValidOutcomeBy (ToReply reply) = Unit {0}

-- whatever was sent
abbrev pub AnySent : NodeId × PeerReq → Type 0
AnySent send = Unit {0}

-- ---- and what was sent is as it is to be

module _ (v : Validity) (Sent : NodeId × PeerReq → Type 0) where
  -- no more than so many messages were sent, and what is to be put is valid
  pub record IsWithinBy (most : ℕ) (sends : List (NodeId × PeerReq)) (outbox : List Entry) : Type 0 where
    pub few : length sends ≤ most
    pub sent : All Sent sends
    pub to_put : All v.put outbox

  abbrev pub IsValidStepBy : ℕ → StepState → Type 0
  IsValidStepBy most so_far =
      AreValidBy v so_far.node.gateway.works so_far.node.requests so_far.node.sessions
      × IsWithinBy most so_far.outputs.sends so_far.node.outbox

  abbrev IsOpenBy : Option Disk → Type 0
  IsOpenBy disk = IfSome disk (λ (disk : Disk). v.inode disk.inode)

  module _ {most : ℕ} where
    pub session_valid : (session : ℕ) (so_far : StepState) → IsValidStepBy most so_far → IsValidSessionBy v (session_in session so_far)
    session_valid session so_far all = by_got (tree.get so_far.node.sessions session) refl
      where
        by_got : (o : Option Session) → tree.get so_far.node.sessions session ≡ o → IsValidSessionBy v (unwrap_or o new_session)
        by_got None none = record { disk = tt; waiting = All-nil (λ (waiting : lines.Waiting). v.asked waiting.work) }
        by_got (Some one) got = all.0.each_session session one got

    -- what it has open
    pub disk_valid : (session : ℕ) (so_far : StepState) (disk : Disk) → (session_in session so_far).disk ≡ Some disk → IsValidStepBy most so_far
        → v.inode disk.inode
    disk_valid session so_far disk on all = subst IsOpenBy on (session_valid session so_far all).disk

    pub inode_valid : (session : ℕ) (so_far : StepState) → IsValidStepBy most so_far → IfSome (inode_open (session_in session so_far).disk) v.inode
    inode_valid session so_far all = by_disk (session_in session so_far).disk (session_valid session so_far all).disk
      where
        by_disk : (disk : Option Disk) → IsOpenBy disk → IfSome (inode_open disk) v.inode
        by_disk None is = tt
        by_disk (Some disk) is = is

    session_put : (session : ℕ) (one : Session) (so_far : StepState) → IsValidSessionBy v one → IsValidStepBy most so_far
        → IsValidStepBy most (with_session session one so_far)
    session_put session one so_far so all = (
      record {
        open_works = all.0.open_works;
        courses = all.0.courses;
        each_session = put_is (IsValidSessionBy v) so_far.node.sessions session one so all.0.each_session;
      },
      all.1,
    )

    -- a session whose disk and line stay as they are
    session_stays : (session : ℕ) (one : Session) (so_far : StepState) → one.disk ≡ (session_in session so_far).disk
        → one.inode_queue.waiting ≡ (session_in session so_far).inode_queue.waiting → IsValidStepBy most so_far → IsValidStepBy most (with_session session one so_far)
    session_stays session one so_far same_disk same_line all =
        let before = session_valid session so_far all in
        session_put session one so_far
        (record {
          disk = subst IsOpenBy (sym same_disk) before.disk;
          waiting = subst (All (λ (waiting : lines.Waiting). v.asked waiting.work)) (sym same_line) before.waiting;
        }) all

    course_put : (session req : ℕ) (course : Course) (so_far : StepState) → v.course course → IsValidStepBy most so_far
        → IsValidStepBy most (with_course session req course so_far)
    course_put session req course so_far so all = (
      record {
        open_works = all.0.open_works;
        courses = put_is (λ (request : Request). v.course request.course) so_far.node.requests req (record { session = session; course = course }) so all.0.courses;
        each_session = all.0.each_session;
      },
      all.1,
    )

    pub sole_put : (session req : ℕ) (course : Course) (so_far : StepState) → v.course course → IsValidStepBy most so_far
        → IsValidStepBy most (with_sole_request session req course so_far)
    sole_put session req course so_far so all =
        session_stays session (record (session_in session so_far) { command = Some req }) (with_course session req course so_far) refl refl
        (course_put session req course so_far so all)

    pub course_valid : (session req : ℕ) (course : Course) (so_far : StepState)
        → tree.get so_far.node.requests req ≡ Some (record { session = session; course = course }) → IsValidStepBy most so_far → v.course course
    course_valid session req course so_far there all = all.0.courses req (record { session = session; course = course }) there

    -- a work ends, and leaves its session's line
    off : (session req : ℕ) (work : ObjWork) (so_far : StepState) → IsValidStepBy most so_far
        → AreValidBy v (tree.remove so_far.node.gateway.works req) so_far.node.requests
        (tree.insert so_far.node.sessions session (record (session_in session so_far) {
          inode_queue = lines.queue_after_end (session_in session so_far).inode_queue work;
        }))
    off session req work so_far all =
        let before = session_valid session so_far all in
        record {
          open_works = gone_is v.at_gateway so_far.node.gateway.works req all.0.open_works;
          courses = all.0.courses;
          each_session = put_is (IsValidSessionBy v) so_far.node.sessions session
              (record (session_in session so_far) { inode_queue = lines.queue_after_end (session_in session so_far).inode_queue work })
              (record { disk = before.disk; waiting = before.waiting }) all.0.each_session;
        }

    pub freed_valid : (session req : ℕ) (work : Work) (status : Status) (so_far : StepState) → IsValidStepBy most so_far
        → IsValidStepBy most (without_ended_work session req work status so_far)
    freed_valid session req work status so_far all = (off session req work.work so_far all, all.1)

    pub ended_valid : (session req : ℕ) (reply : GuestRsp) (so_far : StepState) → IsValidStepBy most so_far
        → IsValidStepBy most (request_ended session req reply so_far)
    unfolding request_ended
    ended_valid session req reply so_far all =
        let before = session_valid session so_far all in (
          record {
            open_works = all.0.open_works;
            courses = gone_is (λ (request : Request). v.course request.course) so_far.node.requests req all.0.courses;
            each_session = put_is (IsValidSessionBy v) so_far.node.sessions session
                (record (session_in session so_far) { queue = queue_without req (session_in session so_far).queue; command = None })
                (record { disk = before.disk; waiting = before.waiting }) all.0.each_session;
          },
          all.1,
        )

    -- ---- a request takes a step

    pub driven_valid : (session req : ℕ) (disk : Disk) (step : DriverStep) (so_far : StepState) → v.inode step.inode → v.course (Driving step.driver)
        → IsValidStepBy most so_far → IsValidStepBy most (after_driver_step session req disk step so_far)
    driven_valid session req disk step so_far inode course all =
        let now : Session = record (session_in session so_far) { disk = Some (record disk { inode = step.inode }) } in
        course_put session req (Driving step.driver) (with_session session now so_far) course
        (session_put session now so_far (record { disk = inode; waiting = (session_valid session so_far all).waiting }) all)

    pub commanded_valid : (session req : ℕ) (step : OpStep) (so_far : StepState) → v.course (Commanding step.op)
        → IsOpenBy (disk_after (disk_change_at step.op.stage) (session_in session so_far).disk) → IsValidStepBy most so_far
        → IsValidStepBy most (after_command_step session req step so_far)
    commanded_valid session req step so_far course opens all =
        let was = session_valid session so_far all in
        let disk = (session_in session so_far).disk in
        let now : Session = record (session_in session so_far) { disk = disk_after (disk_change_at step.op.stage) disk; command = Some req } in
        session_put session now (with_course session req (Commanding step.op) so_far) (record { disk = opens; waiting = was.waiting })
        (course_put session req (Commanding step.op) so_far course all)

  -- ---- what a sense of valid brings, on an input to a node, where something else is known so far

  pub record IsKeptBy (input : Input) (node : Node) (Known : StepState → Type 0) : Type 0 where
    -- a request that takes a step comes to what is valid
    pub steps : (most : ℕ) (so_far : StepState) (session req : ℕ) (next : Outcome) (moved : StepState) → RequestSteps input node so_far session req next moved
        → Known so_far → IsValidStepBy most so_far → IsValidStepBy most moved × IsValidOutcomeBy v next
    -- and so does one that waits for its turn as it comes
    pub arrives : (so_far : StepState) (session req : ℕ) (ask : DiskAsk) → Arrival input node so_far session req (asks.Disk ask) None → v.course (Waiting ask)
    -- a work at the gateway may be asked for; it stays valid as it is tried
    pub asks : (work : Work) → v.at_gateway work → v.asked work.work
    pub marks : (so_far : StepState) (req number : ℕ) (work : Work) (attempt : Attempt) (status : Status)
        → LearnsStatus input node so_far req number work attempt status → Known so_far → v.at_gateway work
        → v.at_gateway (record work { stage = Open (attempt_with_status number status attempt) })
    pub fails : (work : Work) → v.at_gateway work → v.at_gateway (record work { ended = work.ended + 1; stage = Ended })
    pub opens : (asked : Work) (node : Node) → v.asked asked.work → has_too_few_zones asked node ≡ false
        → v.at_gateway (record asked { stage = Open (attempt_in asked node) })
    pub holds : (asked : Work) (epoch : Epoch) → v.asked asked.work → v.at_gateway (record asked { stage = WaitsForMembers epoch })
    pub strays : (so_far : StepState) (req : ℕ) (work : Work) (gateway : Gateway) → tree.get so_far.node.gateway.works req ≡ Some work
        → tree.get so_far.node.requests req ≡ None → IsApart req so_far.node.gateway gateway → Known so_far → EachIs v.at_gateway so_far.node.gateway.works
        → EachIs v.at_gateway gateway.works
    -- an attempt has few messages, and sends what it is to
    pub few : (asked : Work) (node : Node) → v.asked asked.work → length (attempt_in asked node).messages ≤ 31
    pub sends : (req : ℕ) (asked : Work) (lined : StepState) → Known (with_open_attempt req asked lined) → v.asked asked.work
        → All Sent (map (send_of lined.node.gateway.me (record { 0 = lined.node.peer.epoch }) asked.work) (attempt_in asked lined.node).messages)
    -- an id is given back, and the end of a recovery is put
    pub unlocks : (by : NodeId) (session vid : ℕ) → v.put (unlock_of by session vid)
    pub recovers : (me : NodeId) (epoch : Epoch) → v.put (Recovered me epoch)

  module _ {input : Input} {node : Node} {Known : StepState → Type 0} (kept : IsKeptBy input node Known) {most : ℕ} where
    -- a request ends with the refusal of its work; a command gives its id back
    refused : (session req : ℕ) (cause : Cause) (course : Course) (so_far : StepState) → IsValidStepBy most so_far
        → IsValidStepBy most (course_refused session req cause course so_far)
    unfolding on_refusal
    refused session req cause (Waiting ask) so_far all = all
    refused session req cause (Driving driver) so_far all = ended_valid session req (Refused cause) so_far all
    refused session req cause (Commanding op) so_far all = by_stage op.stage
      where
        by_stage : (stage : OpStage) → IsValidStepBy most (command_refused session req (refused_at cause op stage) so_far)
        by_stage (Asked entry) = all
        by_stage (Working vid task) =
            let unlock = unlock_of op.by op.session vid.0 in
            ended_valid session req (Refused cause) (with_optional_entry (Some unlock) so_far)
            (all.0, record { few = all.1.few; sent = all.1.sent; to_put = All-push v.put so_far.node.outbox unlock all.1.to_put (kept.unlocks op.by op.session vid.0) })
        by_stage (Publishing entry opened) = all
        by_stage (Answered change) = all
    refused session req cause (Checking check) so_far all = ended_valid session req (Refused cause) so_far all
    refused session req cause (DoingWork work) so_far all = ended_valid session req (Refused cause) so_far all
    refused session req cause (AwaitingDecision entry) so_far all = all

    refused_if_there : (req : ℕ) (cause : Cause) (request : Option Request) (so_far : StepState) → IsValidStepBy most so_far
        → IsValidStepBy most (option_map_or (λ (request : Request). course_refused request.session req cause request.course so_far) request so_far)
    refused_if_there req cause None so_far all = all
    refused_if_there req cause (Some request) so_far all = refused request.session req cause request.course so_far all

    -- a work is at the gateway
    work_put : (req : ℕ) (now : Work) (so_far : StepState) → v.at_gateway now → IsValidStepBy most so_far
        → AreValidBy v (tree.insert so_far.node.gateway.works req now) so_far.node.requests so_far.node.sessions
    work_put req now so_far so all = record {
      open_works = put_is v.at_gateway so_far.node.gateway.works req now so all.0.open_works;
      courses = all.0.courses;
      each_session = all.0.each_session;
    }

    -- a work's turn has come
    pub next_valid : (so_far : StepState) (session req : ℕ) (asked : Work) (lined : StepState) → WorkIsNext input node so_far session req asked lined
        → Known so_far → IsValidStepBy most so_far → IsValidStepBy most lined × v.asked asked.work
    next_valid so_far session req asked lined (AtOnce work moved steps begins) known all =
        let (there, so) = kept.steps most so_far session req (ToWork work) moved steps known all in (
          session_stays session (record (session_in session moved) { inode_queue = lines.queue_with_open (session_in session moved).inode_queue req work }) moved
              refl refl there,
          so,
        )
    next_valid so_far session req asked lined (InTurn work later none is) known all =
        let Waits = λ (waiting : lines.Waiting). v.asked waiting.work in
        let first : lines.Waiting = record { req = req; work = work } in
        let before = session_valid session so_far all in
        let both : All Waits (first ∷ later) = subst (All Waits) is before.waiting in (
          session_put session (record (session_in session so_far) { inode_queue = record { current = Some req; waiting = later } }) so_far
              (record { disk = before.disk; waiting = All-tail Waits first later both }) all,
          All-head Waits first later both,
        )
    next_valid so_far session req asked lined (Again work course from next there request) known all =
        (all, kept.asks asked (all.0.open_works req asked there))
    next_valid so_far session req asked lined (AgainAlone work from next there none) known all =
        (all, kept.asks asked (all.0.open_works req asked there))

    -- 31 more messages aren't too many either
    within_more : {sends : List (NodeId × PeerReq)} {outbox : List Entry} → IsWithinBy most sends outbox → IsWithinBy (31 + most) sends outbox
    within_more within = let few = within.few in record { few = omega (arith, few); sent = within.sent; to_put = within.to_put }

    more : {works : tree.FinMap nat_cmp Work} {requests : tree.FinMap nat_cmp Request} {sessions : tree.FinMap nat_cmp Session}
        {sends : List (NodeId × PeerReq)} {outbox : List Entry} → AreValidBy v works requests sessions × IsWithinBy most sends outbox
        → AreValidBy v works requests sessions × IsWithinBy (31 + most) sends outbox
    more all = (all.0, within_more all.1)

    -- an attempt begins
    opened : (req : ℕ) (asked : Work) (lined : StepState) → IsValidStepBy most lined → v.asked asked.work → has_too_few_zones asked lined.node ≡ false
        → Known (with_open_attempt req asked lined) → IsValidStepBy (31 + most) (with_open_attempt req asked lined)
    opened req asked lined all so short later =
        let messages = (attempt_in asked lined.node).messages in
        let send = send_of lined.node.gateway.me (record { 0 = lined.node.peer.epoch }) asked.work in
        let few : length messages ≤ 31 = kept.few asked lined.node so in
        let same : length (map send messages) ≡ length messages = length-map messages send in
        let sum : length (lined.outputs.sends ++ map send messages) ≡ length lined.outputs.sends + length (map send messages)
        = length-append lined.outputs.sends (map send messages) in
        let before = all.1.few in (
          work_put req (record asked { stage = Open (attempt_in asked lined.node) }) lined (kept.opens asked lined.node so short) all,
          record {
            few = omega (arith, few, same, sum, before);
            sent = All-append Sent lined.outputs.sends (map send messages) all.1.sent (kept.sends req asked lined later so);
            to_put = all.1.to_put;
          },
        )

    pub change_valid : (so_far next : StepState) → Change input node so_far next → Known so_far → Known next → IsValidStepBy most so_far
        → IsValidStepBy (31 + most) next
    change_valid so_far next (changes.Marks req number work attempt status learns over) known later all = (
      work_put req (record work { stage = Open (attempt_with_status number status attempt) }) so_far
          (kept.marks so_far req number work attempt status learns known (all.0.open_works req work learns.there)) all,
      within_more all.1,
    )
    change_valid so_far next (changes.Fails session req number work attempt status course ends done why) known later all =
        let was = all.0.open_works req work ends.learns.there in
        (work_put req (record work { ended = work.ended + 1; stage = Ended }) so_far (kept.fails work was) all, within_more all.1)
    change_valid so_far next (changes.Stops session req number work attempt status course bytes ends over) known later all =
        more (freed_valid session req work status so_far all)
    change_valid so_far next (changes.Refuses session req number work attempt status course cause ends done why) known later all =
        more (refused session req cause course (without_ended_work session req work status so_far) (freed_valid session req work status so_far all))
    change_valid so_far next (changes.Opens session req asked lined comes short) known later all =
        let (there, so) = next_valid so_far session req asked lined comes known all in
        opened req asked lined there so short later
    change_valid so_far next (changes.Holds session req asked lined comes short touched) known later all =
        let (there, so) = next_valid so_far session req asked lined comes known all in
        let epoch : Epoch = record { 0 = lined.node.peer.epoch } in
        (work_put req (record asked { stage = WaitsForMembers epoch }) lined (kept.holds asked epoch so) there, within_more there.1)
    change_valid so_far next (changes.Denies session req asked lined request comes short untouched there own) known later all =
        let now = (next_valid so_far session req asked lined comes known all).0 in
        more (refused_if_there req (Halt (zones_of_members lined.node) (zones_for asked.work)) request (without_denied_work session req asked lined)
        (off session req asked.work lined now, now.1))
    change_valid so_far next (changes.Strays req work gateway there none apart) known later all = (
      record {
        open_works = kept.strays so_far req work gateway there none apart known all.0.open_works;
        courses = all.0.courses;
        each_session = all.0.each_session;
      },
      within_more all.1,
    )
    change_valid so_far next (changes.Lines session req work moved steps waits) known later all =
        let (there, so) = kept.steps most so_far session req (ToWork work) moved steps known all in
        let before = session_valid session moved there in
        more (session_put session (record (session_in session moved) { inode_queue = lines.queue_with_waiting (session_in session moved).inode_queue req work }) moved
        (record {
          disk = before.disk;
          waiting = All-push (λ (waiting : lines.Waiting). v.asked waiting.work) (session_in session moved).inode_queue.waiting
              (record { req = req; work = work }) before.waiting so;
        }) there)
    change_valid so_far next (changes.Appends session req entry moved steps) known later all =
        let (there, so) = kept.steps most so_far session req (ToEntry entry) moved steps known all in
        let few = there.1.few in
        (there.0, record { few = omega (arith, few); sent = there.1.sent; to_put = All-push v.put moved.node.outbox entry there.1.to_put so })
    change_valid so_far next (changes.Replies session req reply moved steps) known later all =
        more (ended_valid session req reply moved (kept.steps most so_far session req (ToReply reply) moved steps known all).0)
    change_valid so_far next (changes.Arrives session req ask disk arrival on) known later all =
        more (session_stays session (record (session_in session so_far) {
          queue = (session_in session so_far).queue ++ queued_as disk.inode.spec.shift req ask ∷ [];
        }) (with_course session req (Waiting ask) so_far) refl refl
        (course_put session req (Waiting ask) so_far (kept.arrives so_far session req ask arrival) all))
    change_valid so_far next (changes.Rejects session req ask cause arrival) known later all = more all
    change_valid so_far next (changes.Recovers due) known later all =
        let epoch : Epoch = record { 0 = so_far.node.recovery.epoch } in
        let few = all.1.few in (
          all.0,
          record {
            few = omega (arith, few);
            sent = all.1.sent;
            to_put = All-push v.put so_far.node.outbox (Recovered so_far.node.me epoch) all.1.to_put (kept.recovers so_far.node.me epoch);
          },
        )

  -- along a chain of no more than so many changes; each may send 31 messages
  pub chain_valid : {input : Input} {node : Node} {Known : StepState → Type 0} {first so_far : StepState} (most count : ℕ)
      → IsKeptBy input node Known
      → ((here : StepState) (leads : Leads input node first here) → changes_in leads ≤ count → Known here)
      → (leads : Leads input node first so_far) → changes_in leads ≤ count → IsValidStepBy most first
      → IsValidStepBy (31 * changes_in leads + most) so_far
  chain_valid most count kept known Still short all =
      let few = all.1.few in
      (all.0, record { few = omega (arith, few); sent = all.1.sent; to_put = all.1.to_put })
  chain_valid most count kept known (Then {so_far} {next} leads change) short all =
      let before : changes_in leads ≤ count = omega (arith, short) in
      let now = change_valid kept so_far next change (known so_far leads before) (known next (Then leads change) short)
      (chain_valid most count kept known leads before all) in
      let few = now.1.few in
      (now.0, record { few = omega (arith, few); sent = now.1.sent; to_put = now.1.to_put })
