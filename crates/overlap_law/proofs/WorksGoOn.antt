-- What becomes of an open work of a read or write by a change of its node: it stays open, or it is done and its session has the disk that
-- this leaves, or its request is refused.
use Rattle.std.proofs.Common.{◌≡◌, ◌≢◌, ◌⊎◌, inl, inr, ⊎_elim, ℕ, ◌+◌, nat_lt, Bool, true, false, cond, List, [], ◌∷◌, Contains, Option}
use Rattle.std.proofs.Common.{Some, None, unwrap_or, refl, sym, ap, subst, ◌∙◌}
use Rattle.std.specs.Option.{option_map_or}
use Rattle.std.specs.FinMap as tree
use Rattle.std.proofs.lemmas.Bool.{cases_eq}
use Rattle.std.proofs.lemmas.Option.{same_Some}
use Rattle.proof_tools.proofs.Lists.{Contains-cons, Contains-first}
use Rattle.proof_tools.proofs.FiniteMaps.{get-insert_same, get-insert_other, get-remove_other}
use Rattle.object_id.specs.declared.cause.Cause.{Cause}
use Rattle.object_id.specs.declared.cause.Cause.TheVariants.{Halt}
use Rattle.peer_proto.specs.declared.guest.GuestRsp.{GuestRsp}
use Rattle.peer_proto.specs.declared.guest.GuestRsp.TheVariants as replies
use Rattle.peer_proto.specs.declared.work.ObjWork.{ObjWork}
use Rattle.gateway.specs.Attempt.{Attempt}
use Rattle.gateway.specs.State.{Open, Ended, WaitsForMembers, Work}
use Rattle.gateway.specs.Step.{attempt_with_status}
use Rattle.gateway.specs.Work.{zones_for}
use Rattle.gateway.specs.declared.message.Status.{Status}
use Rattle.guest_driver.specs.declared.disk.Disk.{Disk}
use Rattle.guest_driver.specs.Driver as drivers
use Rattle.guest_driver.specs.Driver.{Driver, DriverStep, Reads, Writes, driver_on_done}
use Rattle.guest_driver.specs.InodeQueue as lines
use Rattle.guest_driver.specs.InodeQueue.{InodeQueue}
use Rattle.sheep_node.specs.declared.course.Course.{Course}
use Rattle.sheep_node.specs.declared.course.Course.TheVariants.{Waiting, Driving, Commanding, Checking, DoingWork, AwaitingDecision}
use Rattle.sheep_node.specs.declared.course.Request.{Request}
use Rattle.sheep_node.specs.declared.input.Input.{Input}
use Rattle.sheep_node.specs.declared.session.Session.{Session}
use Rattle.sheep_node.specs.Changes as changes
use Rattle.sheep_node.specs.Changes.{IsSoundStep, Outcome, ToWork, ToEntry, ToReply, EndsWork, IsOverWith, without_ended_work}
use Rattle.sheep_node.specs.Changes.{without_denied_work, zones_of_members, attempt_in, RequestSteps, DiskBegins, DiskGoesOn, CommandBegins}
use Rattle.sheep_node.specs.Changes.{CommandGoesOn, CommandDecided, CheckBegins, CheckGoesOn, ObjectBegins, ObjectIsDone, EntryBegins}
use Rattle.sheep_node.specs.Changes.{EntryDecided, WorkIsNext, AtOnce, InTurn, Again, AgainAlone, Change}
use Rattle.sheep_node.specs.RequestWorks.{course_refused}
use Rattle.sheep_node.specs.SessionQueues.{session_among}
use Rattle.sheep_node.specs.State.{Node, new_session}
use Rattle.sheep_node.specs.StepState.{StepState, session_in, replies_in_order, with_inode_queue, request_ended}
use Rattle.sheep_node.specs.WantedWorks.{IsWorkOfDriver}
use Rattle.sheep_node.proofs.OneWorkChanges.{StepHasOneWork}
use Rattle.sheep_node.proofs.OneWorkParts.{Sessions}
use Rattle.sheep_node.proofs.QueueChanges.{same_view}
use Rattle.sheep_node.proofs.RefusedCourses.{course_refused-keeps, request_refused-keeps}

-- a reply that is put among others is there
pub in_order_has : (reply : ℕ × GuestRsp) (all : List (ℕ × GuestRsp)) → Contains (replies_in_order reply all) reply
in_order_has reply [] = Contains-first reply reply [] refl
in_order_has reply (first ∷ later) = by_test (nat_lt reply.0 first.0) (in_order_has reply later)
  where
    by_test : (b : Bool) → Contains (replies_in_order reply later) reply
        → Contains (cond b (reply ∷ first ∷ later) (first ∷ replies_in_order reply later)) reply
    by_test true rest = Contains-first reply reply (first ∷ later) refl
    by_test false rest = Contains-cons first (replies_in_order reply later) reply rest

-- a session's work is done, and the session has the disk that this leaves
pub record IsDoneNow (input : Input) (node : Node) (so_far : StepState) (q : ℕ) (was : Work) (sessions : Sessions) : Type 0 where
  pub session : ℕ
  pub number : ℕ
  pub attempt : Attempt
  pub status : Status
  pub bytes : List ℕ
  pub driver : Driver
  pub disk : Disk
  pub step : DriverStep
  pub ends : EndsWork input node so_far session q number was attempt status (Driving driver) bytes
  pub opened : (session_among session so_far.node.sessions).disk ≡ Some disk
  pub goes : driver_on_done disk.inode bytes driver ≡ Some step
  pub after : (session_among session sessions).disk ≡ Some (record disk { inode = step.inode })

-- what becomes of an open work
pub data WorkAfter (input : Input) (node : Node) (so_far next : StepState) (q : ℕ) (was : Work) : Type 0 where
  GoesOn : (now : Work) → tree.get next.node.gateway.works q ≡ Some now → now.work ≡ was.work → WorkAfter input node so_far next q was
  IsDone : IsDoneNow input node so_far q was next.node.sessions → WorkAfter input node so_far next q was
  IsRefused : (cause : Cause) → Contains next.outputs.replies (q, replies.Refused cause) → WorkAfter input node so_far next q was

-- a driver whose work is done goes on
driver_goes : (disk : Disk) (bytes : List ℕ) (driver : Driver) (work : ObjWork) → IsWorkOfDriver disk.inode driver work
    → driver_on_done disk.inode bytes driver ≡ None → ⊥
unfolding driver_on_done
driver_goes disk bytes (Reads told piece rest) work wants none = cc (none)
driver_goes disk bytes (Writes payload stage piece rest) work wants none = cc (none)
driver_goes disk bytes drivers.Answered work wants none = wants

module _ (input : Input) (node : Node) (sound : IsSoundStep input node) (so_far : StepState) (good : StepHasOneWork so_far) (q : ℕ)
    (was : Work) (there : tree.get so_far.node.gateway.works q ≡ Some was) (of : ℕ) (driven : Driver)
    (asked : tree.get so_far.node.requests q ≡ Some (record { session = of; course = Driving driven })) (open_disk : Disk)
    (opened : (session_among of so_far.node.sessions).disk ≡ Some open_disk) (wants : IsWorkOfDriver open_disk.inode driven was.work) where
  -- the request is that one
  abbrev mine : Request
  mine = record { session = of; course = Driving driven }

  one_request : (session : ℕ) (course : Course) → tree.get so_far.node.requests q ≡ Some (record { session = session; course = course })
      → mine ≡ record { session = session; course = course }
  one_request session course got = same_Some mine (record { session = session; course = course }) (sym asked ∙ got)

  other : {P : Type 0} (session : ℕ) (course : Course)
      → tree.get so_far.node.requests q ≡ Some (record { session = session; course = course })
      → (Driving driven ≡ course → ⊥) → P
  other session course got apart = absurd (apart (ap (λ (r : Request). r.course) (one_request session course got)))

  never_none : {P : Type 0} → tree.get so_far.node.requests q ≡ None → P
  never_none none = absurd (cc (none, asked))

  -- it is open yet, or done
  abbrev DoneAt : Sessions → Type 0
  DoneAt sessions = IsDoneNow input node so_far q was sessions

  abbrev Mid : StepState → Type 0
  Mid now = (tree.get now.node.gateway.works q ≡ Some was) ⊎ DoneAt now.node.sessions

  -- a session keeps its disk
  done_still : (sessions : Sessions) (number : ℕ) (session : Session) → session.disk ≡ (session_among number sessions).disk
      → DoneAt sessions → DoneAt (tree.insert sessions number session)
  done_still sessions number session same done = record {
    session = done.session;
    number = done.number;
    attempt = done.attempt;
    status = done.status;
    bytes = done.bytes;
    driver = done.driver;
    disk = done.disk;
    step = done.step;
    ends = done.ends;
    opened = done.opened;
    goes = done.goes;
    after = same_view (λ (s : Session). s.disk) sessions number session same done.session ∙ done.after;
  }

  lined_mid : (number : ℕ) (queue : InodeQueue) (now : StepState) → Mid now → Mid (with_inode_queue number queue now)
  lined_mid number queue now (inl same) = inl same
  lined_mid number queue now (inr done) =
      inr (done_still now.node.sessions number (record (session_in number now) { inode_queue = queue }) refl done)

  ended_mid : (number req : ℕ) (reply : GuestRsp) (now : StepState) → Mid now → Mid (request_ended number req reply now)
  unfolding request_ended
  ended_mid number req reply now (inl same) = inl same
  ended_mid number req reply now (inr done) = inr (done_still now.node.sessions number _ refl done)

  -- the work of another request is gone
  freed_mid : (number req : ℕ) (work : Work) (status : Status) → q ≢ req → Mid (without_ended_work number req work status so_far)
  freed_mid number req work status apart = inl (get-remove_other so_far.node.gateway.works req q apart ∙ there)

  -- ---- a step of a request

  drives : (session number : ℕ) (work : Work) (attempt : Attempt) (status : Status) (bytes : List ℕ) (driver : Driver) (disk : Disk)
      (step : DriverStep) → EndsWork input node so_far session q number work attempt status (Driving driver) bytes
      → (session_in session (without_ended_work session q work status so_far)).disk ≡ Some disk
      → driver_on_done disk.inode bytes driver ≡ Some step
      → DoneAt (tree.insert (without_ended_work session q work status so_far).node.sessions session
      (record (session_in session (without_ended_work session q work status so_far)) { disk = Some (record disk { inode = step.inode }) }))
  drives session number work attempt status bytes driver disk step ends on is = record {
    session = session;
    number = number;
    attempt = attempt;
    status = status;
    bytes = bytes;
    driver = driver;
    disk = disk;
    step = step;
    ends = subst (λ (w : Work). EndsWork input node so_far session q number w attempt status (Driving driver) bytes)
        (same_Some work was (sym ends.ends.learns.there ∙ there)) ends;
    opened = sym (same_view (λ (s : Session). s.disk) so_far.node.sessions session
        (record (session_in session so_far) { inode_queue = lines.queue_after_end (session_in session so_far).inode_queue work.work }) refl
        session) ∙ on;
    goes = is;
    after = ap (λ (o : Option Session). (unwrap_or o new_session).disk)
        (get-insert_same (without_ended_work session q work status so_far).node.sessions session
        (record (session_in session (without_ended_work session q work status so_far)) {
          disk = Some (record disk { inode = step.inode });
        }));
  }

  own_steps : (session : ℕ) (next : Outcome) (moved : StepState) → RequestSteps input node so_far session q next moved
      → DoneAt moved.node.sessions
  own_steps session next moved (DiskBegins ask disk got on may) = other session (Waiting ask) got (λ is. cc (is))
  own_steps session next moved (DiskGoesOn number work attempt status bytes driver disk step ends on is) =
      drives session number work attempt status bytes driver disk step ends on is
  own_steps session next moved (CommandBegins ask step arrival is) = never_none (arrival.none sound)
  own_steps session next moved (CommandGoesOn number work attempt status bytes op step ends is) =
      other session (Commanding op) ends.ends.request (λ same. cc (same))
  own_steps session next moved (CommandDecided entry op step from read got waits is) = other session (Commanding op) got (λ same. cc (same))
  own_steps session next moved (CheckBegins inode arrival on) = never_none (arrival.none sound)
  own_steps session next moved (CheckGoesOn number work attempt status bytes check step ends is) =
      other session (Checking check) ends.ends.request (λ same. cc (same))
  own_steps session next moved (ObjectBegins one arrival) = never_none (arrival.none sound)
  own_steps session next moved (ObjectIsDone number work attempt status bytes one ends) =
      other session (DoingWork one) ends.ends.request (λ same. cc (same))
  own_steps session next moved (EntryBegins entry arrival) = never_none (arrival.none sound)
  own_steps session next moved (EntryDecided entry wanted from read got waits) =
      other session (AwaitingDecision wanted) got (λ same. cc (same))

  -- of another request
  other_steps : (session req : ℕ) (next : Outcome) (moved : StepState) → q ≢ req → RequestSteps input node so_far session req next moved
      → tree.get moved.node.gateway.works q ≡ Some was
  other_steps session req next moved apart (DiskBegins ask disk got on may) = there
  other_steps session req next moved apart (DiskGoesOn number work attempt status bytes driver disk step ends on is) =
      get-remove_other so_far.node.gateway.works req q apart ∙ there
  other_steps session req next moved apart (CommandBegins ask step arrival is) = there
  other_steps session req next moved apart (CommandGoesOn number work attempt status bytes op step ends is) =
      get-remove_other so_far.node.gateway.works req q apart ∙ there
  other_steps session req next moved apart (CommandDecided entry op step from read got waits is) = there
  other_steps session req next moved apart (CheckBegins inode arrival on) = there
  other_steps session req next moved apart (CheckGoesOn number work attempt status bytes check step ends is) =
      get-remove_other so_far.node.gateway.works req q apart ∙ there
  other_steps session req next moved apart (ObjectBegins one arrival) = there
  other_steps session req next moved apart (ObjectIsDone number work attempt status bytes one ends) =
      get-remove_other so_far.node.gateway.works req q apart ∙ there
  other_steps session req next moved apart (EntryBegins entry arrival) = there
  other_steps session req next moved apart (EntryDecided entry wanted from read got waits) = there

  steps_mid : (session req : ℕ) (next : Outcome) (moved : StepState) → RequestSteps input node so_far session req next moved → Mid moved
  steps_mid session req next moved steps = ⊎_elim
      (λ (own : q ≡ req).
      inr (own_steps session next moved
      (subst (λ (k : ℕ). RequestSteps input node so_far session k next moved) (sym own) steps)))
      (λ (apart : q ≢ req). inl (other_steps session req next moved apart steps))
      (cases_eq q req)

  -- ---- the next work

  own_next : (session : ℕ) (next : Work) (lined : StepState) → WorkIsNext input node so_far session q next lined
      → ((next ≡ was) × (lined ≡ so_far)) ⊎ DoneAt lined.node.sessions
  own_next session next lined (AtOnce work moved steps begins) =
      inr (done_still moved.node.sessions session
      (record (session_in session moved) { inode_queue = lines.queue_with_open (session_in session moved).inode_queue q work }) refl
      (own_steps session (ToWork work) moved steps))
  own_next session next lined (InTurn work later none is) =
      let first : lines.Waiting = record { req = q; work = work } in
      let free : tree.get so_far.node.gateway.works q ≡ None
      = good.waiting_free session first
      (subst (λ (list : List lines.Waiting). Contains list first) (sym is) (Contains-first first first later refl)) in
      absurd (cc (free, there))
  own_next session next lined (Again work course from first got request) = inl (same_Some next was (sym got ∙ there), refl)
  own_next session next lined (AgainAlone work from first got none) = never_none none

  other_next : (session req : ℕ) (next : Work) (lined : StepState) → q ≢ req → WorkIsNext input node so_far session req next lined
      → tree.get lined.node.gateway.works q ≡ Some was
  other_next session req next lined apart (AtOnce work moved steps begins) = other_steps session req (ToWork work) moved apart steps
  other_next session req next lined apart (InTurn work later none is) = there
  other_next session req next lined apart (Again work course from first got request) = there
  other_next session req next lined apart (AgainAlone work from first got none) = there

  -- ---- a change

  abbrev After : StepState → Type 0
  After next = WorkAfter input node so_far next q was

  of_mid : (next : StepState) → Mid next → After next
  of_mid next (inl same) = GoesOn was same refl
  of_mid next (inr done) = IsDone done

  refused_now : (session : ℕ) (cause : Cause) (now : StepState) → After (course_refused session q cause (Driving driven) now)
  unfolding request_ended
  refused_now session cause now = IsRefused cause (in_order_has (q, replies.Refused cause) now.outputs.replies)

  -- a work is put in the place of the next one
  put_after : (session req : ℕ) (next now : Work) (lined after : StepState) → WorkIsNext input node so_far session req next lined
      → now.work ≡ next.work → after.node.gateway.works ≡ tree.insert lined.node.gateway.works req now
      → after.node.sessions ≡ lined.node.sessions → After after
  put_after session req next now lined after comes same works sessions = ⊎_elim
      (λ (own : q ≡ req). ⊎_elim
      (λ (again : (next ≡ was) × (lined ≡ so_far)).
      GoesOn now
      (ap (λ all. tree.get all q) works ∙ ap (tree.get (tree.insert lined.node.gateway.works req now)) own
      ∙ get-insert_same lined.node.gateway.works req now)
      (same ∙ ap (λ (w : Work). w.work) again.0))
      (λ (done : DoneAt lined.node.sessions). IsDone (subst DoneAt (sym sessions) done))
      (own_next session next lined (subst (λ (k : ℕ). WorkIsNext input node so_far session k next lined) (sym own) comes)))
      (λ (apart : q ≢ req).
      GoesOn was
      (ap (λ all. tree.get all q) works ∙ get-insert_other lined.node.gateway.works req now q apart
      ∙ other_next session req next lined apart comes) refl)
      (cases_eq q req)

  denied_after : (session req : ℕ) (tried : Work) (lined : StepState) (request : Option Request)
      → WorkIsNext input node so_far session req tried lined → tree.get lined.node.requests req ≡ request
      → After (option_map_or
      (λ (request : Request). course_refused request.session req
      (Halt (zones_of_members lined.node) (zones_for tried.work)) request.course (without_denied_work session req tried lined))
      request (without_denied_work session req tried lined))
  denied_after session req tried lined request comes got = ⊎_elim
      (λ (own : q ≡ req). own_denied own (own_next session tried lined
      (subst (λ (k : ℕ). WorkIsNext input node so_far session k tried lined) (sym own) comes)))
      (λ (apart : q ≢ req).
      of_mid _ (request_refused-keeps Mid ended_mid (λ entry before now. now) req cause request denied
      (inl (get-remove_other lined.node.gateway.works req q apart ∙ other_next session req tried lined apart comes))))
      (cases_eq q req)
    where
      cause : Cause
      cause = Halt (zones_of_members lined.node) (zones_for tried.work)

      denied : StepState
      denied = without_denied_work session req tried lined

      own_denied : q ≡ req → ((tried ≡ was) × (lined ≡ so_far)) ⊎ DoneAt lined.node.sessions
          → After (option_map_or
          (λ (request : Request). course_refused request.session req
          (Halt (zones_of_members lined.node) (zones_for tried.work)) request.course (without_denied_work session req tried lined))
          request (without_denied_work session req tried lined))
      own_denied own (inl (same, first)) =
          let is : request ≡ Some mine
          = sym got ∙ ap (λ (s : StepState). tree.get s.node.requests req) first ∙ ap (tree.get so_far.node.requests) (sym own) ∙ asked in
          subst (λ (o : Option Request). After (option_map_or
          (λ (request : Request). course_refused request.session req
          (Halt (zones_of_members lined.node) (zones_for tried.work)) request.course (without_denied_work session req tried lined))
          o (without_denied_work session req tried lined))) (sym is)
          (subst (λ (k : ℕ). After (course_refused of k cause (Driving driven) denied)) own (refused_now of cause denied))
      own_denied own (inr done) =
          of_mid _ (request_refused-keeps Mid ended_mid (λ entry before now. now) req cause request denied
          (inr (done_still lined.node.sessions session
          (record (session_in session lined) { inode_queue = lines.queue_after_end (session_in session lined).inode_queue tried.work }) refl
          done)))

  stopped : (session number : ℕ) (work : Work) (attempt : Attempt) (status : Status) (course : Course) (bytes : List ℕ)
      → EndsWork input node so_far session q number work attempt status course bytes
      → IsOverWith bytes (session_in session (without_ended_work session q work status so_far)).disk course → ⊥
  stopped session number work attempt status course bytes ends over =
      driver_goes open_disk bytes driven was.work wants
      (subst (λ (o : Option Disk). IsOverWith bytes o (Driving driven)) disk_so
      (subst (IsOverWith bytes (session_in session (without_ended_work session q work status so_far)).disk) (sym course_so) over))
    where
      same : mine ≡ record { session = session; course = course }
      same = one_request session course ends.ends.request

      course_so : Driving driven ≡ course
      course_so = ap (λ (r : Request). r.course) same

      session_so : of ≡ session
      session_so = ap (λ (r : Request). r.session) same

      disk_so : (session_in session (without_ended_work session q work status so_far)).disk ≡ Some open_disk
      disk_so =
          same_view (λ (s : Session). s.disk) so_far.node.sessions session
          (record (session_in session so_far) { inode_queue = lines.queue_after_end (session_in session so_far).inode_queue work.work })
          refl
          session ∙ ap (λ (k : ℕ). (session_among k so_far.node.sessions).disk) (sym session_so) ∙ opened

  -- a work in its own place
  kept_in : (req : ℕ) (work now : Work) (next : StepState) → tree.get so_far.node.gateway.works req ≡ Some work → now.work ≡ work.work
      → next.node.gateway.works ≡ tree.insert so_far.node.gateway.works req now → After next
  kept_in req work now next got same works = ⊎_elim
      (λ (own : q ≡ req).
      GoesOn now
      (ap (λ all. tree.get all q) works ∙ ap (tree.get (tree.insert so_far.node.gateway.works req now)) own
      ∙ get-insert_same so_far.node.gateway.works req now)
      (same ∙ ap (λ (w : Work). w.work) (same_Some work was (sym got ∙ ap (tree.get so_far.node.gateway.works) (sym own) ∙ there))))
      (λ (apart : q ≢ req).
      GoesOn was (ap (λ all. tree.get all q) works ∙ get-insert_other so_far.node.gateway.works req now q apart ∙ there) refl)
      (cases_eq q req)

  pub work_after : (next : StepState) → Change input node so_far next → WorkAfter input node so_far next q was
  work_after next (changes.Marks req number work attempt status learns over) =
      kept_in req work (record work { stage = Open (attempt_with_status number status attempt) }) next learns.there refl refl
  work_after next (changes.Fails session req number work attempt status course ends done why) =
      kept_in req work (record work { ended = work.ended + 1; stage = Ended }) next ends.learns.there refl refl
  work_after next (changes.Stops session req number work attempt status course bytes ends over) = ⊎_elim
      (λ (own : q ≡ req).
      absurd (stopped session number work attempt status course bytes
      (subst (λ (k : ℕ). EndsWork input node so_far session k number work attempt status course bytes) (sym own) ends)
      (subst (λ (k : ℕ). IsOverWith bytes (session_in session (without_ended_work session k work status so_far)).disk course) (sym own)
      over)))
      (λ (apart : q ≢ req). of_mid next (freed_mid session req work status apart))
      (cases_eq q req)
  work_after next (changes.Refuses session req number work attempt status course cause ends done why) = ⊎_elim
      (λ (own : q ≡ req).
      let got : tree.get so_far.node.requests q ≡ Some (record { session = session; course = course })
      = ap (tree.get so_far.node.requests) own ∙ ends.request in
      let same : Driving driven ≡ course = ap (λ (r : Request). r.course) (one_request session course got) in
      subst (λ (c : Course). After (course_refused session req cause c (without_ended_work session req work status so_far))) same
      (subst (λ (k : ℕ). After (course_refused session k cause (Driving driven) (without_ended_work session req work status so_far))) own
      (refused_now session cause (without_ended_work session req work status so_far))))
      (λ (apart : q ≢ req).
      of_mid next (course_refused-keeps Mid ended_mid (λ entry before now. now) session req cause course
      (without_ended_work session req work status so_far) (freed_mid session req work status apart)))
      (cases_eq q req)
  work_after next (changes.Opens session req tried lined comes enough) =
      put_after session req tried (record tried { stage = Open (attempt_in tried lined.node) }) lined next comes refl refl refl
  work_after next (changes.Holds session req tried lined comes short touched) =
      put_after session req tried (record tried { stage = WaitsForMembers (record { 0 = lined.node.peer.epoch }) }) lined next comes refl
      refl
      refl
  work_after next (changes.Denies session req tried lined request comes short untouched got own) =
      denied_after session req tried lined request comes got
  work_after next (changes.Strays req work gateway got none apart) = ⊎_elim
      (λ (own : q ≡ req). never_none (ap (tree.get so_far.node.requests) own ∙ none))
      (λ (others : q ≢ req). GoesOn was (apart.others q others ∙ there) refl)
      (cases_eq q req)
  work_after next (changes.Lines session req work moved steps waits) =
      of_mid next (lined_mid session (lines.queue_with_waiting (session_in session moved).inode_queue req work) moved
      (steps_mid session req (ToWork work) moved steps))
  work_after next (changes.Appends session req entry moved steps) = of_mid next (steps_mid session req (ToEntry entry) moved steps)
  work_after next (changes.Replies session req reply moved steps) =
      of_mid next (ended_mid session req reply moved (steps_mid session req (ToReply reply) moved steps))
  work_after next (changes.Arrives session req ask disk arrival on) = GoesOn was there refl
  work_after next (changes.Rejects session req ask cause arrival) = GoesOn was there refl
  work_after next (changes.Recovers due) = GoesOn was there refl
