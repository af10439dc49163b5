-- What becomes of a command that makes the inode that is to take a disk's place, or waits for its publication, by a change of its node: it
-- is there yet, with that inode, or its request is refused, or the entry that it waits for was read.
use Rattle.std.proofs.Common.{◌≡◌, ◌≢◌, ◌⊎◌, inl, inr, ⊎_elim, ℕ, true, List, Contains, Option, Some, None, refl, sym, ap, subst, ◌∙◌}
use Rattle.std.specs.Option.{option_map_or}
use Rattle.std.specs.FinMap as tree
use Rattle.std.proofs.lemmas.Bool.{cases_eq}
use Rattle.std.proofs.lemmas.Option.{same_Some}
use Rattle.proof_tools.proofs.FiniteMaps.{get-insert_same, get-insert_other, get-remove_other}
use Rattle.object_id.specs.declared.cause.Cause.{Cause}
use Rattle.object_id.specs.declared.cause.Cause.TheVariants.{Halt}
use Rattle.object_id.specs.declared.entry.Entry.{Entry}
use Rattle.object_id.specs.declared.oid.Vid.{Vid}
use Rattle.inode.specs.Layout.{Content}
use Rattle.peer_proto.specs.declared.guest.GuestRsp.{GuestRsp}
use Rattle.peer_proto.specs.declared.guest.GuestRsp.TheVariants as replies
use Rattle.gateway.specs.State.{Work}
use Rattle.gateway.specs.Work.{zones_for}
use Rattle.guest_driver.specs.Driver as drivers
use Rattle.disk_check.specs.Check.{begin_check}
use Rattle.vdi_ops.specs.declared.end.OpEnd.{OpEnd}
use Rattle.vdi_ops.specs.Op.{Task, Opening, WritingBack, Tagging, Copying, Making, OpStage, Asked, Working, Publishing, Answered, Op}
use Rattle.vdi_ops.specs.Op.{OpStep}
use Rattle.vdi_ops.specs.Steps.{done_at, on_refusal, op_on_done, refused_at, task_done}
use Rattle.sheep_node.specs.declared.course.Course.{Course}
use Rattle.sheep_node.specs.declared.course.Course.TheVariants.{Waiting, Driving, Commanding, Checking, DoingWork, AwaitingDecision}
use Rattle.sheep_node.specs.declared.course.Request.{Request}
use Rattle.sheep_node.specs.declared.input.Input.{Input}
use Rattle.sheep_node.specs.declared.input.Input.TheVariants as inputs
use Rattle.sheep_node.specs.AwaitedEntry.{waits_for_entry}
use Rattle.sheep_node.specs.Changes as changes
use Rattle.sheep_node.specs.Changes.{IsSoundStep, Outcome, ToWork, ToEntry, ToReply, outcome_of_command, without_ended_work}
use Rattle.sheep_node.specs.Changes.{without_denied_work, zones_of_members, RequestSteps, DiskBegins, DiskGoesOn, CommandBegins}
use Rattle.sheep_node.specs.Changes.{CommandGoesOn, CommandDecided, CheckBegins, CheckGoesOn, ObjectBegins, ObjectIsDone, EntryBegins}
use Rattle.sheep_node.specs.Changes.{EntryDecided, WorkIsNext, AtOnce, InTurn, Again, AgainAlone, Change}
use Rattle.sheep_node.specs.RequestWorks.{command_refused, course_refused}
use Rattle.sheep_node.specs.State.{Node}
use Rattle.sheep_node.specs.StepState.{StepState, request_ended}
use Rattle.sheep_node.proofs.OneWorkParts.{Requests}
use Rattle.sheep_node.proofs.RefusedCourses.{this_refused-keeps, this_if_there-keeps}
use Rattle.overlap_law.proofs.PlaceTables.{IsPlaceStage}
use Rattle.overlap_law.proofs.WorksGoOn.{in_order_has}

-- the command is there yet, and has the inode
pub record IsPlaceYet (q session : ℕ) (inode : Content) (requests : Requests) : Type 0 where
  pub op : Op
  pub there : tree.get requests q ≡ Some (record { session = session; course = Commanding op })
  pub place : IsPlaceStage inode op.stage

-- what becomes of it
pub data PlaceAfter (input : Input) (q session : ℕ) (op : Op) (inode : Content) (next : StepState) : Type 0 where
  StaysPlaced : IsPlaceYet q session inode next.node.requests → PlaceAfter input q session op inode next
  IsRefused : (cause : Cause) → Contains next.outputs.replies (q, replies.Refused cause) → PlaceAfter input q session op inode next
  IsDecided : (entry : Entry) → input ≡ inputs.LogEntry entry → waits_for_entry entry (Commanding op) ≡ true
      → PlaceAfter input q session op inode next

-- a step that replies to nobody
abbrev IsNoReply : Outcome → Type 0
IsNoReply (ToWork work) = Unit {0}
IsNoReply (ToEntry entry) = Unit {0}
IsNoReply (ToReply reply) = ⊥

-- the creation is done, and the entry is put
abbrev PublishesIt : Content → OpStep → Type 0
PublishesIt inode step = IsPlaceStage inode step.op.stage × IsNoReply (outcome_of_command step.act)

publishes_it : (inode : Content) (op : Op) (bytes : List ℕ) (step : OpStep) → IsPlaceStage inode op.stage → op_on_done bytes op ≡ Some step
    → PublishesIt inode step
unfolding op_on_done
publishes_it inode op bytes step place is = by_stage op.stage place is
  where
    by_task : (vid : Vid) (task : Task) → IsPlaceStage inode (Working vid task) → task_done op vid bytes task ≡ step
        → PublishesIt inode step
    by_task vid (Opening snapshot ids header) (inl never) same = absurd never
    by_task vid (WritingBack other) (inl never) same = absurd never
    by_task vid (Tagging old other) (inl never) same = absurd never
    by_task vid (Copying ids header) (inl never) same = absurd never
    by_task vid (Making entry made) (inl own) same = subst (PublishesIt inode) same (inr own, tt)
    by_task vid task (inr never) same = absurd never

    by_stage : (stage : OpStage) → IsPlaceStage inode stage → done_at bytes op stage ≡ Some step → PublishesIt inode step
    by_stage (Asked entry) place is = absurd (cc (is))
    by_stage (Working vid task) place is = by_task vid task place (same_Some (task_done op vid bytes task) step is)
    by_stage (Publishing entry made) place is = absurd (cc (is))
    by_stage (Answered change) place is = absurd (cc (is))

module _ (input : Input) (node : Node) (sound : IsSoundStep input node) (so_far : StepState) (q of : ℕ) (op : Op)
    (asked : tree.get so_far.node.requests q ≡ Some (record { session = of; course = Commanding op })) (inode : Content)
    (place : IsPlaceStage inode op.stage) where
  abbrev mine : Request
  mine = record { session = of; course = Commanding op }

  abbrev Yet : StepState → Type 0
  Yet now = IsPlaceYet q of inode now.node.requests

  abbrev After : StepState → Type 0
  After next = PlaceAfter input q of op inode next

  -- its entry was read
  abbrev WasRead : Type 0
  WasRead = (entry : Entry) × (input ≡ inputs.LogEntry entry) × (waits_for_entry entry (Commanding op) ≡ true)

  one_request : (session : ℕ) (course : Course) → tree.get so_far.node.requests q ≡ Some (record { session = session; course = course })
      → mine ≡ record { session = session; course = course }
  one_request session course got = same_Some mine (record { session = session; course = course }) (sym asked ∙ got)

  -- the request is that one
  other : {P : Type 0} (session : ℕ) (course : Course)
      → tree.get so_far.node.requests q ≡ Some (record { session = session; course = course })
      → (Commanding op ≡ course → ⊥) → P
  other session course got apart = absurd (apart (ap (λ (r : Request). r.course) (one_request session course got)))

  never_none : {P : Type 0} → tree.get so_far.node.requests q ≡ None → P
  never_none none = absurd (cc (none, asked))

  still : (requests : Requests) → tree.get requests q ≡ Some (record { session = of; course = Commanding op })
      → IsPlaceYet q of inode requests
  still requests there = record { op = op; there = there; place = place }

  -- another request gets a course, or ends
  put_other : (req : ℕ) (request : Request) → q ≢ req → IsPlaceYet q of inode (tree.insert so_far.node.requests req request)
  put_other req request apart =
      still (tree.insert so_far.node.requests req request) (get-insert_other so_far.node.requests req request q apart ∙ asked)

  ended_yet : (req : ℕ) → q ≢ req → (session : ℕ) (reply : GuestRsp) (now : StepState) → Yet now → Yet (request_ended session req reply now)
  unfolding request_ended
  ended_yet req apart session reply now yet =
      record { op = yet.op; there = get-remove_other now.node.requests req q apart ∙ yet.there; place = yet.place }

  -- ---- a step of the request

  goes : (session : ℕ) (one : Op) (bytes : List ℕ) (step : OpStep)
      → tree.get so_far.node.requests q ≡ Some (record { session = session; course = Commanding one }) → op_on_done bytes one ≡ Some step
      → IsPlaceYet q of inode (tree.insert so_far.node.requests q (record { session = session; course = Commanding step.op }))
      × IsNoReply (outcome_of_command step.act)
  goes session one bytes step got is =
      let same = one_request session (Commanding one) got in
      let course : Commanding op ≡ Commanding one = ap (λ (r : Request). r.course) same in
      let op_so : op ≡ one = cc (course) in
      let session_so : of ≡ session = ap (λ (r : Request). r.session) same in
      let publishes = publishes_it inode one bytes step (subst (λ (o : Op). IsPlaceStage inode o.stage) op_so place) is in (
        record {
          op = step.op;
          there = get-insert_same so_far.node.requests q (record { session = session; course = Commanding step.op })
              ∙ ap (λ (k : ℕ). Some (record { session = k; course = Commanding step.op })) (sym session_so);
          place = publishes.0;
        },
        publishes.1,
      )

  abbrev Steps : Outcome → StepState → Type 0
  Steps next moved = (IsPlaceYet q of inode moved.node.requests × IsNoReply next) ⊎ WasRead

  own_steps : (session : ℕ) (next : Outcome) (moved : StepState) → RequestSteps input node so_far session q next moved → Steps next moved
  own_steps session next moved (DiskBegins ask disk got on may) = other session (Waiting ask) got (λ is. cc (is))
  own_steps session next moved (DiskGoesOn number work attempt status bytes driver disk step ends on is) =
      other session (Driving driver) ends.ends.request (λ same. cc (same))
  own_steps session next moved (CommandBegins ask step arrival is) = never_none (arrival.none sound)
  own_steps session next moved (CommandGoesOn number work attempt status bytes one step ends is) =
      inl (goes session one bytes step ends.ends.request is)
  own_steps session next moved (CommandDecided entry one step from read got waits is) =
      let course : Commanding op ≡ Commanding one = ap (λ (r : Request). r.course) (one_request session (Commanding one) got) in
      inr (entry, from, ap (waits_for_entry entry) course ∙ waits)
  own_steps session next moved (CheckBegins content arrival on) = never_none (arrival.none sound)
  own_steps session next moved (CheckGoesOn number work attempt status bytes check step ends is) =
      other session (Checking check) ends.ends.request (λ same. cc (same))
  own_steps session next moved (ObjectBegins one arrival) = never_none (arrival.none sound)
  own_steps session next moved (ObjectIsDone number work attempt status bytes one ends) =
      other session (DoingWork one) ends.ends.request (λ same. cc (same))
  own_steps session next moved (EntryBegins entry arrival) = never_none (arrival.none sound)
  own_steps session next moved (EntryDecided entry wanted from read got waits) =
      other session (AwaitingDecision wanted) got (λ same. cc (same))

  -- of another request
  other_steps : (session req : ℕ) (next : Outcome) (moved : StepState) → q ≢ req → RequestSteps input node so_far session req next moved
      → IsPlaceYet q of inode moved.node.requests
  other_steps session req next moved apart (DiskBegins ask disk got on may) =
      put_other req (record { session = session; course = Driving (drivers.begin_driver disk ask).driver }) apart
  other_steps session req next moved apart (DiskGoesOn number work attempt status bytes driver disk step ends on is) =
      put_other req (record { session = session; course = Driving step.driver }) apart
  other_steps session req next moved apart (CommandBegins ask step arrival is) =
      put_other req (record { session = session; course = Commanding step.op }) apart
  other_steps session req next moved apart (CommandGoesOn number work attempt status bytes one step ends is) =
      put_other req (record { session = session; course = Commanding step.op }) apart
  other_steps session req next moved apart (CommandDecided entry one step from read got waits is) =
      put_other req (record { session = session; course = Commanding step.op }) apart
  other_steps session req next moved apart (CheckBegins content arrival on) =
      put_other req (record { session = session; course = Checking (begin_check content).check }) apart
  other_steps session req next moved apart (CheckGoesOn number work attempt status bytes check step ends is) =
      put_other req (record { session = session; course = Checking step.check }) apart
  other_steps session req next moved apart (ObjectBegins one arrival) =
      put_other req (record { session = session; course = DoingWork one }) apart
  other_steps session req next moved apart (ObjectIsDone number work attempt status bytes one ends) = still so_far.node.requests asked
  other_steps session req next moved apart (EntryBegins entry arrival) =
      put_other req (record { session = session; course = AwaitingDecision entry }) apart
  other_steps session req next moved apart (EntryDecided entry wanted from read got waits) = still so_far.node.requests asked

  -- whichever it is of; and what replies is of another
  steps_yet : (session req : ℕ) (next : Outcome) (moved : StepState) → RequestSteps input node so_far session req next moved
      → (IsPlaceYet q of inode moved.node.requests × (q ≡ req → IsNoReply next)) ⊎ WasRead
  steps_yet session req next moved steps = ⊎_elim
      (λ (own : q ≡ req). ⊎_elim
      (λ (yet : IsPlaceYet q of inode moved.node.requests × IsNoReply next). inl (yet.0, λ same. yet.1))
      (λ (read : WasRead). inr read)
      (own_steps session next moved (subst (λ (k : ℕ). RequestSteps input node so_far session k next moved) (sym own) steps)))
      (λ (apart : q ≢ req). inl (other_steps session req next moved apart steps, λ same. absurd (apart same)))
      (cases_eq q req)

  -- ---- the next work

  next_yet : (session req : ℕ) (tried : Work) (lined : StepState) → WorkIsNext input node so_far session req tried lined
      → IsPlaceYet q of inode lined.node.requests ⊎ WasRead
  next_yet session req tried lined (AtOnce work moved steps begins) = ⊎_elim
      (λ (yet : IsPlaceYet q of inode moved.node.requests × (q ≡ req → Unit {0})). inl yet.0)
      (λ (read : WasRead). inr read)
      (steps_yet session req (ToWork work) moved steps)
  next_yet session req tried lined (InTurn work later none is) = inl (still so_far.node.requests asked)
  next_yet session req tried lined (Again work course from first got request) = inl (still so_far.node.requests asked)
  next_yet session req tried lined (AgainAlone work from first got none) = inl (still so_far.node.requests asked)

  -- ---- a change

  of_yet : (next : StepState) → IsPlaceYet q of inode next.node.requests ⊎ WasRead → After next
  of_yet next (inl yet) = StaysPlaced yet
  of_yet next (inr (entry, from, waits)) = IsDecided entry from waits

  -- its work is refused
  refused_now : (cause : Cause) (now : StepState) (yet : IsPlaceYet q of inode now.node.requests)
      → After (course_refused of q cause (Commanding yet.op) now)
  unfolding on_refusal request_ended
  refused_now cause now yet = by_stage yet.op.stage refl yet.place
    where
      by_stage : (stage : OpStage) → yet.op.stage ≡ stage → IsPlaceStage inode stage
          → After (course_refused of q cause (Commanding yet.op) now)
      by_stage (Asked entry) at (inl never) = absurd never
      by_stage (Asked entry) at (inr never) = absurd never
      by_stage (Working vid task) at placed =
          subst (λ (o : Option OpEnd). After (command_refused of q o now)) (sym (ap (refused_at cause yet.op) at))
          (IsRefused cause (in_order_has (q, replies.Refused cause) now.outputs.replies))
      by_stage (Publishing entry made) at placed =
          subst (λ (o : Option OpEnd). After (command_refused of q o now)) (sym (ap (refused_at cause yet.op) at)) (StaysPlaced yet)
      by_stage (Answered change) at (inl never) = absurd never
      by_stage (Answered change) at (inr never) = absurd never

  denied_after : (session req : ℕ) (tried : Work) (lined : StepState) (request : Option Request)
      → WorkIsNext input node so_far session req tried lined → tree.get lined.node.requests req ≡ request
      → After (option_map_or
      (λ (request : Request). course_refused request.session req
      (Halt (zones_of_members lined.node) (zones_for tried.work)) request.course (without_denied_work session req tried lined))
      request (without_denied_work session req tried lined))
  denied_after session req tried lined request comes got = ⊎_elim
      (λ (yet : IsPlaceYet q of inode lined.node.requests). ⊎_elim
      (λ (own : q ≡ req).
      let is : request ≡ Some (record { session = of; course = Commanding yet.op })
      = sym got ∙ ap (tree.get lined.node.requests) (sym own) ∙ yet.there in
      subst (λ (o : Option Request). After (option_map_or
      (λ (request : Request). course_refused request.session req
      (Halt (zones_of_members lined.node) (zones_for tried.work)) request.course (without_denied_work session req tried lined))
      o (without_denied_work session req tried lined))) (sym is)
      (subst (λ (k : ℕ). After (course_refused of k cause (Commanding yet.op) denied)) own (refused_now cause denied yet)))
      (λ (apart : q ≢ req).
      StaysPlaced (this_if_there-keeps req Yet (ended_yet req apart) (λ entry before now. now) cause request denied yet))
      (cases_eq q req))
      (λ (read : WasRead). of_yet _ (inr read))
      (next_yet session req tried lined comes)
    where
      cause : Cause
      cause = Halt (zones_of_members lined.node) (zones_for tried.work)

      denied : StepState
      denied = without_denied_work session req tried lined

  pub place_after : (next : StepState) → Change input node so_far next → PlaceAfter input q of op inode next
  unfolding still
  place_after next (changes.Marks req number work attempt status learns over) = StaysPlaced (still next.node.requests asked)
  place_after next (changes.Fails session req number work attempt status course ends done why) =
      StaysPlaced (still next.node.requests asked)
  place_after next (changes.Stops session req number work attempt status course bytes ends over) =
      StaysPlaced (still next.node.requests asked)
  place_after next (changes.Refuses session req number work attempt status course cause ends done why) = ⊎_elim
      (λ (own : q ≡ req).
      let got : tree.get so_far.node.requests q ≡ Some (record { session = session; course = course })
      = ap (tree.get so_far.node.requests) own ∙ ends.request in
      let same : mine ≡ record { session = session; course = course } = one_request session course got in
      let ended : StepState = without_ended_work session req work status so_far in
      subst (λ (r : Request). After (course_refused r.session req cause r.course ended)) same
      (subst (λ (k : ℕ). After (course_refused of k cause (Commanding op) ended)) own
      (refused_now cause ended (still so_far.node.requests asked))))
      (λ (apart : q ≢ req).
      StaysPlaced (this_refused-keeps req Yet (ended_yet req apart) (λ entry before now. now) session cause course
      (without_ended_work session req work status so_far) (still so_far.node.requests asked)))
      (cases_eq q req)
  place_after next (changes.Opens session req tried lined comes enough) = of_yet next (next_yet session req tried lined comes)
  place_after next (changes.Holds session req tried lined comes short touched) = of_yet next (next_yet session req tried lined comes)
  place_after next (changes.Denies session req tried lined request comes short untouched got own) =
      denied_after session req tried lined request comes got
  place_after next (changes.Strays req work gateway got none apart) = StaysPlaced (still next.node.requests asked)
  place_after next (changes.Lines session req work moved steps waits) = ⊎_elim
      (λ (yet : IsPlaceYet q of inode moved.node.requests × (q ≡ req → Unit {0})). StaysPlaced yet.0)
      (λ (read : WasRead). of_yet next (inr read))
      (steps_yet session req (ToWork work) moved steps)
  place_after next (changes.Appends session req entry moved steps) = ⊎_elim
      (λ (yet : IsPlaceYet q of inode moved.node.requests × (q ≡ req → Unit {0})). StaysPlaced yet.0)
      (λ (read : WasRead). of_yet next (inr read))
      (steps_yet session req (ToEntry entry) moved steps)
  place_after next (changes.Replies session req reply moved steps) = ⊎_elim
      (λ (yet : IsPlaceYet q of inode moved.node.requests × (q ≡ req → ⊥)).
      StaysPlaced (ended_yet req yet.1 session reply moved yet.0))
      (λ (read : WasRead). of_yet next (inr read))
      (steps_yet session req (ToReply reply) moved steps)
  place_after next (changes.Arrives session req ask disk arrival on) = ⊎_elim
      (λ (own : q ≡ req). never_none (ap (tree.get so_far.node.requests) own ∙ arrival.none sound))
      (λ (apart : q ≢ req). StaysPlaced (put_other req (record { session = session; course = Waiting ask }) apart))
      (cases_eq q req)
  place_after next (changes.Rejects session req ask cause arrival) = StaysPlaced (still next.node.requests asked)
  place_after next (changes.Recovers due) = StaysPlaced (still next.node.requests asked)
