-- For which disk a message of an open work is: for the one on which the work's request began, or for that of its object, by what was asked.
-- So a message that was there before a change of the node was for the same disk then.
use Rattle.std.proofs.Common.{◌≡◌, inl, ℕ, not, true, [], Option, Some, None, is_some, option_map, refl, sym, ap, subst, ◌∙◌, false}
use Rattle.std.specs.FinMap as tree
use Rattle.std.proofs.lemmas.Option.{same_Some}
use Rattle.object_id.specs.Oid.{vid_of}
use Rattle.peer_proto.specs.declared.guest.VdiAsk.{VdiAsk}
use Rattle.peer_proto.specs.declared.guest.VdiAsk.TheVariants as disk_commands
use Rattle.peer_proto.specs.declared.work.ObjWork.{ObjWork}
use Rattle.peer_proto.specs.Work.{oid_of}
use Rattle.gateway.specs.declared.message.Message.{Message}
use Rattle.gateway.specs.Attempt as gateways
use Rattle.gateway.specs.State.{Work}
use Rattle.guest_driver.specs.declared.disk.Disk.{Disk}
use Rattle.vdi_ops.specs.Op.{Op, Task, OpStage, Asked, Working, Publishing, Answered}
use Rattle.sheep_node.specs.declared.ask.Ask.{Ask}
use Rattle.sheep_node.specs.declared.ask.Ask.TheVariants as asks
use Rattle.sheep_node.specs.declared.course.Course.{Course}
use Rattle.sheep_node.specs.declared.course.Course.TheVariants.{Waiting, Driving, Commanding, Checking, DoingWork, AwaitingDecision}
use Rattle.sheep_node.specs.declared.course.Request.{Request}
use Rattle.sheep_node.specs.declared.input.Input.{Input}
use Rattle.sheep_node.specs.Changes.{input_received, IsSoundStep, MeetsNumbers, Leads}
use Rattle.sheep_node.specs.May.{May}
use Rattle.sheep_node.specs.OneWork.{may_work_at}
use Rattle.sheep_node.specs.SessionQueues.{session_among, QueuesAreDiskRequests, CommandsAreAlone}
use Rattle.sheep_node.specs.State.{Node}
use Rattle.sheep_node.specs.StepState.{StepState, at_first}
use Rattle.sheep_node.proofs.AwaitedWorks.{Works}
use Rattle.sheep_node.proofs.OneWorkParts.{Requests, Sessions}
use Rattle.overlap_law.specs.Courses.{WaitsFor, IsOfStage}
use Rattle.overlap_law.specs.NoObjects.{IsMessageFor, disk_for}
use Rattle.overlap_law.specs.RequestsOfScript.{IsCourseOfAsk, IsStageOfAsk, IsTaskOfAsk, IsOnDisk, is_of_client}
use Rattle.overlap_law.proofs.CoursesAtChanges.{placed_in_chain}
use Rattle.overlap_law.proofs.CoursesOfAsks.{id_of_disk, ArePlaced, IsPlacedIn, IsBrought, placed_as, placed_by_ask, IsPlacedAs}
use Rattle.overlap_law.proofs.CoursesOfAsks.{IsBroughtAs}
use Rattle.overlap_law.proofs.OpenStatuses.{WasMessage}
use Rattle.overlap_law.proofs.WaitedSteps.{no_id, Waits}
use Rattle.overlap_law.proofs.WorksAtCourses.{HaveAt, IsAt}
use Rattle.overlap_law.proofs.PlacedAnew.{placed_anew, brought_anew, course_asks}

-- ---- by what was asked

-- a command is for the disk of its object, a check for the one on which it began
abbrev disk_of_command : VdiAsk → Option ℕ → ℕ → Option ℕ
disk_of_command disk_commands.Check began oid = began
disk_of_command _ began oid = Some (vid_of oid)

abbrev disk_of_ask : Option Ask → Option ℕ → ℕ → Option ℕ
disk_of_ask None began oid = None
disk_of_ask (Some (asks.Disk ask)) began oid = began
disk_of_ask (Some (asks.Vdi ask)) began oid = disk_of_command ask began oid
disk_of_ask (Some (asks.Object work)) began oid = None
disk_of_ask (Some (asks.Entry entry)) began oid = None

task_disk : (ask : VdiAsk) (task : Task) (began : Option ℕ) (oid : ℕ) → IsTaskOfAsk ask task
    → disk_of_command ask began oid ≡ Some (vid_of oid)
task_disk disk_commands.Check task began oid is = absurd is
task_disk (disk_commands.Create name spec) task began oid is = refl
task_disk (disk_commands.Attach name tag) task began oid is = refl
task_disk disk_commands.Close task began oid is = refl
task_disk (disk_commands.Snapshot tag) task began oid is = refl
task_disk (disk_commands.Clone base tag name) task began oid is = refl
task_disk (disk_commands.Delete name tag) task began oid is = refl

module _ (asked : Option Ask) (opened : Option Disk) (began : Option ℕ) (work : ObjWork) where
  stage_disk : (ask : VdiAsk) (op : Op) (stage : OpStage) → IsStageOfAsk op.by op.session ask stage
      → IsOfStage [] no_id [] opened stage work
      → disk_of_command ask began (oid_of work) ≡ Some (vid_of (oid_of work))
  stage_disk ask op (Asked entry) is waits = absurd waits
  stage_disk ask op (Working vid task) is waits = task_disk ask task began (oid_of work) is
  stage_disk ask op (Publishing entry made) is waits = absurd waits
  stage_disk ask op (Answered change) is waits = absurd waits

  -- a work that a request waits for is for that disk
  disk_asked : (course : Course) → IsCourseOfAsk asked opened began course → WaitsFor [] no_id [] opened course work
      → disk_for opened (oid_of work) course ≡ disk_of_ask asked began (oid_of work)
  disk_asked (Waiting ask) is waits = absurd waits
  disk_asked (Driving driver) is waits =
      ap (option_map (λ (disk : Disk). disk.inode.vid)) is.on.there
      ∙ sym (ap (λ (a : Option Ask). disk_of_ask a began (oid_of work)) is.of ∙ is.on.same)
  disk_asked (Commanding op) is waits =
      sym (ap (λ (a : Option Ask). disk_of_ask a began (oid_of work)) is.of ∙ stage_disk is.ask op op.stage is.is waits)
  disk_asked (Checking check) is waits =
      ap (λ (vid : ℕ). Some vid) is.is.vid ∙ sym (ap (λ (a : Option Ask). disk_of_ask a began (oid_of work)) is.of ∙ is.on.same)
  disk_asked (DoingWork asks) is waits = absurd is
  disk_asked (AwaitingDecision entry) is waits = absurd is

module _ (asked : Option Ask) (opened : Option Disk) (began : Option ℕ) where
  on_own : IsOnDisk opened began → IsOnDisk opened (id_of_disk opened)
  on_own on = record { disk = on.disk; there = on.there; same = ap id_of_disk on.there }

  -- where a request is on a disk it is on the one that its session has open
  of_own : (course : Course) → IsCourseOfAsk asked opened began course → IsCourseOfAsk asked opened (id_of_disk opened) course
  unfolding on_own
  of_own (Waiting ask) is = (is.0, on_own is.1)
  of_own (Driving driver) is = record { ask = is.ask; on = on_own is.on; of = is.of; is = is.is }
  of_own (Commanding op) is = is
  of_own (Checking check) is = record { on = on_own is.on; working = is.working; of = is.of; is = is.is }
  of_own (DoingWork asks) is = is
  of_own (AwaitingDecision entry) is = is

-- what a client asks is for no disk
of_disk_for : (opened : Option Disk) (oid vid : ℕ) (course : Course) → disk_for opened oid course ≡ Some vid → is_of_client course ≡ false
of_disk_for opened oid vid (Waiting ask) is = refl
of_disk_for opened oid vid (Driving driver) is = refl
of_disk_for opened oid vid (Commanding op) is = refl
of_disk_for opened oid vid (Checking check) is = refl
of_disk_for opened oid vid (DoingWork work) is = absurd (cc (is))
of_disk_for opened oid vid (AwaitingDecision entry) is = absurd (cc (is))

-- a message of an open work that was there is for the disk
pub record StaysFor (input : Input) (node : Node) (vid : ℕ) {req : ℕ} {work : Work} {current : gateways.Attempt} {place : ℕ}
    {message : Message} (was : WasMessage input node req work current place message) : Type 0 where
  pub meant : IsMessageFor node vid was.m
  pub work_so : meant.work ≡ was.open_so.was

-- ---- over the changes of a step

module _ (asked : ℕ → Option Ask) (Began : ℕ → Option ℕ → Type 0) (input : Input) (node : Node) (sound : IsSoundStep input node)
    (placed : ArePlaced asked Began node.requests node.sessions) (brought : IsBrought asked Began input node) where
  abbrev opened_of : Request → Option Disk
  opened_of request = (session_among request.session node.sessions).disk

  -- a request of the node is on what its session has open then
  abbrev IsOnOwn : ℕ → Option ℕ → Type 0
  IsOnOwn req disk = (request : Request) → tree.get node.requests req ≡ Some request → id_of_disk (opened_of request) ≡ disk

  own_placed : ArePlaced asked IsOnOwn node.requests node.sessions
  own_placed req = by_got (tree.get node.requests req) refl (placed req)
    where
      by_got : (o : Option Request) → tree.get node.requests req ≡ o → IsPlacedIn asked Began req node.sessions o
          → IsPlacedIn asked IsOnOwn req node.sessions o
      by_got None got is = tt
      by_got (Some request) got is =
          placed_anew asked Began IsOnOwn req (opened_of request) request.course
          (λ (was : IsPlacedAs asked Began req (opened_of request) request.course). (
            id_of_disk (opened_of request),
            (λ other there. ap (λ (r : Request). id_of_disk (opened_of r)) (same_Some other request (sym there ∙ got))),
            of_own (asked req) (opened_of request) was.0 request.course was.2,
          )) is

  own_brought : IsBrought asked IsOnOwn input node
  own_brought req session ask from =
      brought_anew asked Began IsOnOwn req (session_among session node.sessions).disk ask
      (λ (brings : IsBroughtAs asked Began req (session_among session node.sessions).disk ask). (
        brings.0,
        brings.1,
        (λ request got.
            let free : not (tree.contains_key node.requests req) ≡ true = subst (λ (i : Input). MeetsNumbers i node) from sound.0 in
            let taken : tree.contains_key node.requests req ≡ true = ap (λ (o : Option Request). is_some o) got in
            let never = ap not taken in
            absurd (cc (free, never))),
      ))
      (brought req session ask from)

  module _ (may : May input node) (queued : QueuesAreDiskRequests node) (sole : CommandsAreAlone node)
      (waited : HaveAt Waits node.gateway.works node.requests node.sessions) (so_far : StepState)
      (leads : Leads input node (input_received input (at_first node)) so_far)
      (waits : HaveAt Waits so_far.node.gateway.works so_far.node.requests so_far.node.sessions) where
    placed_then : ArePlaced asked IsOnOwn so_far.node.requests so_far.node.sessions
    placed_then = placed_in_chain asked IsOnOwn input node may queued sole own_brought own_placed so_far leads

    -- a message that was there was for the same disk
    pub was_for : (vid : ℕ) (message : Message) (meant : IsMessageFor so_far.node vid message)
        → (was : WasMessage input node meant.req meant.work meant.current meant.place message) → StaysFor input node vid was
    was_for vid message meant was = by_request (tree.get node.requests meant.req) refl
      where
        by_request : (o : Option Request) → tree.get node.requests meant.req ≡ o → StaysFor input node vid was
        by_request None none =
            let may = sound.1.driven.open_works meant.req was.open_so.was was.open_so.there in
            let never = ap may_work_at none in
            absurd (cc (may, never))
        by_request (Some first) there = record {
          meant = record {
            req = meant.req;
            work = was.open_so.was;
            current = was.open_so.before;
            request = first;
            place = meant.place;
            there = was.open_so.there;
            stage = was.open_so.stage;
            among = was.at;
            asker = there;
            disk = before ∙ same_disk ∙ sym now ∙ meant.disk;
          };
          work_so = refl;
        }
          where
            at_last_so : IsPlacedAs asked IsOnOwn meant.req (session_among meant.request.session so_far.node.sessions).disk
                meant.request.course
            at_last_so =
                placed_as asked IsOnOwn meant.req (session_among meant.request.session so_far.node.sessions).disk meant.request.course
                (of_disk_for (session_among meant.request.session so_far.node.sessions).disk (oid_of meant.work.work) vid
                meant.request.course meant.disk)
                (subst (IsPlacedIn asked IsOnOwn meant.req so_far.node.sessions) meant.asker (placed_then meant.req))

            at_first_so : IsPlacedAs asked IsOnOwn meant.req (opened_of first) first.course
            at_first_so =
                let (ask, asks_it) = course_asks (asked meant.req) (session_among meant.request.session so_far.node.sessions).disk
                at_last_so.0
                meant.request.course at_last_so.2 in
                placed_by_ask asked IsOnOwn meant.req ask asks_it (opened_of first) first.course
                (subst (IsPlacedIn asked IsOnOwn meant.req node.sessions) there (own_placed meant.req))

            before : disk_for (opened_of first) (oid_of was.open_so.was.work) first.course
                ≡ disk_of_ask (asked meant.req) at_first_so.0 (oid_of was.open_so.was.work)
            before =
                disk_asked (asked meant.req) (opened_of first) at_first_so.0 was.open_so.was.work first.course at_first_so.2
                (subst (λ (o : Option Request). IsAt Waits node.sessions o was.open_so.was.work) there
                (waited meant.req was.open_so.was.work (inl (was.open_so.was, was.open_so.there, refl)))).0

            now : disk_for (session_among meant.request.session so_far.node.sessions).disk (oid_of meant.work.work) meant.request.course
                ≡ disk_of_ask (asked meant.req) at_last_so.0 (oid_of meant.work.work)
            now =
                disk_asked (asked meant.req) (session_among meant.request.session so_far.node.sessions).disk at_last_so.0 meant.work.work
                meant.request.course at_last_so.2
                (subst (λ (o : Option Request). IsAt Waits so_far.node.sessions o meant.work.work) meant.asker
                (waits meant.req meant.work.work (inl (meant.work, meant.there, refl)))).0

            same_disk : disk_of_ask (asked meant.req) at_first_so.0 (oid_of was.open_so.was.work)
                ≡ disk_of_ask (asked meant.req) at_last_so.0 (oid_of meant.work.work)
            same_disk = λ i.
                disk_of_ask (asked meant.req) ((sym (at_first_so.1 first there) ∙ at_last_so.1 first there) i)
                (oid_of (sym was.open_so.work_so i))

-- a node with the same works, requests and sessions
pub same_for : (old new : Node) → new.gateway.works ≡ old.gateway.works → new.requests ≡ old.requests → new.sessions ≡ old.sessions
    → (vid : ℕ) (message : Message) → IsMessageFor new vid message → IsMessageFor old vid message
same_for old new works requests sessions vid message meant = record {
  req = meant.req;
  work = meant.work;
  current = meant.current;
  request = meant.request;
  place = meant.place;
  there = ap (λ (works : Works). tree.get works meant.req) (sym works) ∙ meant.there;
  stage = meant.stage;
  among = meant.among;
  asker = ap (λ (requests : Requests). tree.get requests meant.req) (sym requests) ∙ meant.asker;
  disk = ap (λ (sessions : Sessions). disk_for (session_among meant.request.session sessions).disk (oid_of meant.work.work)
      meant.request.course) (sym sessions) ∙ meant.disk;
}
