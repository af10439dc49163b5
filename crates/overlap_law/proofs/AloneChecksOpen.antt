-- A check that hasn't told what it found has a work at its node's gateway, after each change of a step: it begins there at once, since it
-- is on a data object, and stays until it is done.
use Rattle.std.proofs.Common.{◌≡◌, ◌≢◌, ⊎_elim, ℕ, false, List, Option, Some, None, refl, sym, ap, subst, ◌∙◌}
use Rattle.std.specs.Option.{option_map_or}
use Rattle.std.specs.FinMap as tree
use Rattle.std.proofs.lemmas.Bool.{cases_eq}
use Rattle.std.proofs.lemmas.Option.{same_Some}
use Rattle.proof_tools.proofs.FiniteMaps.{get-insert_same, get-insert_other, get-remove_same, get-remove_other}
use Rattle.object_id.specs.declared.cause.Cause.{Cause}
use Rattle.object_id.specs.declared.cause.Cause.TheVariants.{Halt}
use Rattle.disk_check.specs.Check.{Check, CheckStage, Comparing, WritingBack, Answered, check_done_at, check_on_done}
use Rattle.guest_driver.specs.declared.act.DriverAct.{DriverAct}
use Rattle.guest_driver.specs.declared.act.DriverAct.TheVariants as driver_acts
use Rattle.guest_driver.specs.declared.disk.Disk.{Disk}
use Rattle.guest_driver.specs.InodeQueue.{is_on_inode, may_open_work}
use Rattle.disk_check.specs.declared.act.CheckAct.{CheckAct}
use Rattle.disk_check.specs.declared.act.CheckAct.TheVariants as check_acts
use Rattle.object_id.specs.declared.entry.Entry.{Entry}
use Rattle.peer_proto.specs.declared.guest.GuestRsp.{GuestRsp}
use Rattle.peer_proto.specs.declared.work.ObjWork.{ObjWork}
use Rattle.gateway.specs.State.{Work, Open}
use Rattle.gateway.specs.Step.{attempt_with_status}
use Rattle.gateway.specs.Work.{zones_for}
use Rattle.vdi_ops.specs.declared.end.OpEnd.{OpEnd}
use Rattle.vdi_ops.specs.Steps.{on_refusal}
use Rattle.sheep_node.specs.declared.course.Course.{Course}
use Rattle.sheep_node.specs.declared.course.Course.TheVariants.{Waiting, Driving, Commanding, Checking, DoingWork, AwaitingDecision}
use Rattle.sheep_node.specs.declared.course.Request.{Request}
use Rattle.sheep_node.specs.declared.input.Input.{Input}
use Rattle.sheep_node.specs.Changes as changes
use Rattle.sheep_node.specs.Changes.{Change, HasRequest, IsOverWith, Outcome, ToWork, ToEntry, ToReply, RequestSteps, WorkIsNext, AtOnce}
use Rattle.sheep_node.specs.Changes.{InTurn}
use Rattle.sheep_node.specs.Changes.{Again, AgainAlone, DiskBegins, DiskGoesOn, CommandBegins, CommandGoesOn, CommandDecided, CheckBegins}
use Rattle.sheep_node.specs.Changes.{CheckGoesOn, ObjectBegins, ObjectIsDone, EntryBegins, EntryDecided, attempt_in, outcome_of_check}
use Rattle.sheep_node.specs.Changes.{outcome_of_driver, without_denied_work, without_ended_work, zones_of_members}
use Rattle.sheep_node.specs.RequestWorks.{command_refused, course_refused}
use Rattle.sheep_node.specs.State.{Node}
use Rattle.sheep_node.specs.StepState.{StepState, request_ended, session_in}
use Rattle.sheep_node.proofs.AwaitedWorks.{Works}
use Rattle.sheep_node.proofs.OneWorkParts.{Requests}

-- a request is a check that waits for a work
pub record WaitsForWork (requests : Requests) (req : ℕ) : Type 0 where
  pub session : ℕ
  pub check : Check
  pub got : tree.get requests req ≡ Some (record { session = session; course = Checking check })
  pub waits : check.stage ≢ Answered

-- each that is one has it at the gateway
abbrev pub HaveOpenWorks : Works → Requests → Type 0
HaveOpenWorks works requests = (req : ℕ) → WaitsForWork requests req → (work : Work) × (tree.get works req ≡ Some work)

-- each but this one
abbrev OpenBut : ℕ → Works → Requests → Type 0
OpenBut q works requests = (req : ℕ) → req ≢ q → WaitsForWork requests req → (work : Work) × (tree.get works req ≡ Some work)

-- ---- what leaves the others

was_waiting : (old new : Requests) (req : ℕ) → tree.get new req ≡ tree.get old req → WaitsForWork new req → WaitsForWork old req
was_waiting old new req same w = record { session = w.session; check = w.check; got = sym same ∙ w.got; waits = w.waits }

put_request : (q : ℕ) (works : Works) (requests : Requests) (new : Request) → OpenBut q works requests
    → OpenBut q works (tree.insert requests q new)
put_request q works requests new others req apart w =
    others req apart (was_waiting requests (tree.insert requests q new) req (get-insert_other requests q new req apart) w)

gone_request : (q : ℕ) (works : Works) (requests : Requests) → OpenBut q works requests → OpenBut q works (tree.remove requests q)
gone_request q works requests others req apart w =
    others req apart (was_waiting requests (tree.remove requests q) req (get-remove_other requests q req apart) w)

gone_work : (q : ℕ) (works : Works) (requests : Requests) → OpenBut q works requests → OpenBut q (tree.remove works q) requests
gone_work q works requests others req apart w =
    let (work, got) = others req apart w in (work, get-remove_other works q req apart ∙ got)

-- with its work it is all
with_work : (q : ℕ) (works : Works) (requests : Requests) (new : Work) → OpenBut q works requests
    → HaveOpenWorks (tree.insert works q new) requests
with_work q works requests new others req w = ⊎_elim
    (λ (own : req ≡ q). (new, ap (tree.get (tree.insert works q new)) own ∙ get-insert_same works q new))
    (λ (apart : req ≢ q).
    let (work, got) = others req apart w in (work, get-insert_other works q new req apart ∙ got))
    (cases_eq req q)

-- and where it waits for none
without_one : (q : ℕ) (works : Works) (requests : Requests) → OpenBut q works requests → (WaitsForWork requests q → ⊥)
    → HaveOpenWorks works requests
without_one q works requests others none req w = ⊎_elim
    (λ (own : req ≡ q). absurd (none (subst (WaitsForWork requests) own w)))
    (λ (apart : req ≢ q). others req apart w)
    (cases_eq req q)

-- ---- a request that waits for none

gone_waits : (requests : Requests) (q : ℕ) → WaitsForWork (tree.remove requests q) q → ⊥
gone_waits requests q w =
    let got = w.got in
    let none = get-remove_same requests q in
    cc (got, none)

other_course : (requests : Requests) (q session : ℕ) (course : Course)
    → tree.get requests q ≡ Some (record { session = session; course = course }) → ((check : Check) → course ≢ Checking check)
    → WaitsForWork requests q → ⊥
other_course requests q session course there apart w =
    let its : Request = record { session = session; course = course } in
    let one : Request = record { session = w.session; course = Checking w.check } in
    apart w.check (ap (λ (r : Request). r.course) (same_Some its one (sym there ∙ w.got)))

pub put_waits : (requests : Requests) (q session : ℕ) (course : Course) → ((check : Check) → course ≢ Checking check)
    → WaitsForWork (tree.insert requests q (record { session = session; course = course })) q → ⊥
put_waits requests q session course apart =
    other_course (tree.insert requests q (record { session = session; course = course })) q session course
    (get-insert_same requests q (record { session = session; course = course })) apart

-- ---- refusals

ended_but : (q session : ℕ) (reply : GuestRsp) (so_far : StepState) → OpenBut q so_far.node.gateway.works so_far.node.requests
    → OpenBut q (request_ended session q reply so_far).node.gateway.works (request_ended session q reply so_far).node.requests
unfolding request_ended
ended_but q session reply so_far others = gone_request q so_far.node.gateway.works so_far.node.requests others

ended_waits : (q session : ℕ) (reply : GuestRsp) (so_far : StepState) → WaitsForWork (request_ended session q reply so_far).node.requests q
    → ⊥
unfolding request_ended
ended_waits q session reply so_far = gone_waits so_far.node.requests q

abbrev WholeThen : StepState → Type 0
WholeThen so_far = HaveOpenWorks so_far.node.gateway.works so_far.node.requests

abbrev BesideThen : ℕ → StepState → Type 0
BesideThen q so_far = OpenBut q so_far.node.gateway.works so_far.node.requests

ended_open : (q session : ℕ) (reply : GuestRsp) (so_far : StepState) → BesideThen q so_far
    → WholeThen (request_ended session q reply so_far)
ended_open q session reply so_far others =
    without_one q (request_ended session q reply so_far).node.gateway.works (request_ended session q reply so_far).node.requests
    (ended_but q session reply so_far others) (ended_waits q session reply so_far)

-- a request that is refused waits for no work
refused_open : (q session : ℕ) (cause : Cause) (course : Course) (so_far : StepState) → BesideThen q so_far
    → tree.get so_far.node.requests q ≡ Some (record { session = session; course = course })
    → (number : ℕ) → WholeThen (course_refused number q cause course so_far)
refused_open q session cause (Waiting ask) so_far others there number =
    without_one q so_far.node.gateway.works so_far.node.requests others
    (other_course so_far.node.requests q session (Waiting ask) there (λ check same. cc (same)))
refused_open q session cause (Driving driver) so_far others there number = ended_open q number _ so_far others
refused_open q session cause (Commanding op) so_far others there number = by_end (on_refusal cause op)
  where
    by_end : (end : Option OpEnd) → WholeThen (command_refused number q end so_far)
    by_end None =
        without_one q so_far.node.gateway.works so_far.node.requests others
        (other_course so_far.node.requests q session (Commanding op) there (λ check same. cc (same)))
    by_end (Some end) = ended_open q number end.reply _ others
refused_open q session cause (Checking check) so_far others there number = ended_open q number _ so_far others
refused_open q session cause (DoingWork work) so_far others there number = ended_open q number _ so_far others
refused_open q session cause (AwaitingDecision entry) so_far others there number =
    without_one q so_far.node.gateway.works so_far.node.requests others
    (other_course so_far.node.requests q session (AwaitingDecision entry) there (λ check same. cc (same)))

-- a check that doesn't go on with what its work gave has told what it found
over_answered : (bytes : List ℕ) (check : Check) → check_on_done bytes check ≡ None → check.stage ≡ Answered
unfolding check_on_done
over_answered bytes check over = by_stage check.stage refl over
  where
    by_stage : (stage : CheckStage) → check.stage ≡ stage → check_done_at bytes check stage ≡ None → check.stage ≡ Answered
    by_stage (Comparing index later) at over = absurd (cc (over))
    by_stage (WritingBack later) at over = absurd (cc (over))
    by_stage Answered at over = at

module _ (input : Input) (node : Node) (so_far : StepState) (all : HaveOpenWorks so_far.node.gateway.works so_far.node.requests) where
  but : (q : ℕ) → OpenBut q so_far.node.gateway.works so_far.node.requests
  but q req apart w = all req w

  freed : (q : ℕ) → OpenBut q (tree.remove so_far.node.gateway.works q) so_far.node.requests
  freed q = gone_work q so_far.node.gateway.works so_far.node.requests (but q)

  -- ---- a step that a request takes

  steps_but : (session q : ℕ) (next : Outcome) (moved : StepState) → RequestSteps input node so_far session q next moved
      → OpenBut q moved.node.gateway.works moved.node.requests
  steps_but session q next moved (DiskBegins ask disk there on may) =
      put_request q so_far.node.gateway.works so_far.node.requests _ (but q)
  steps_but session q next moved (DiskGoesOn number work attempt status bytes driver disk step ends on is) =
      put_request q (tree.remove so_far.node.gateway.works q) so_far.node.requests _ (freed q)
  steps_but session q next moved (CommandBegins ask step arrival is) =
      put_request q so_far.node.gateway.works so_far.node.requests _ (but q)
  steps_but session q next moved (CommandGoesOn number work attempt status bytes op step ends is) =
      put_request q (tree.remove so_far.node.gateway.works q) so_far.node.requests _ (freed q)
  steps_but session q next moved (CommandDecided entry op step from read there waits is) =
      put_request q so_far.node.gateway.works so_far.node.requests _ (but q)
  steps_but session q next moved (CheckBegins inode arrival on) =
      put_request q so_far.node.gateway.works so_far.node.requests _ (but q)
  steps_but session q next moved (CheckGoesOn number work attempt status bytes check step ends is) =
      put_request q (tree.remove so_far.node.gateway.works q) so_far.node.requests _ (freed q)
  steps_but session q next moved (ObjectBegins work arrival) =
      put_request q so_far.node.gateway.works so_far.node.requests _ (but q)
  steps_but session q next moved (ObjectIsDone number work attempt status bytes asked ends) = freed q
  steps_but session q next moved (EntryBegins entry arrival) =
      put_request q so_far.node.gateway.works so_far.node.requests _ (but q)
  steps_but session q next moved (EntryDecided entry wanted from read there waits) = but q

  next_but : (session q : ℕ) (asked : Work) (lined : StepState) → WorkIsNext input node so_far session q asked lined
      → OpenBut q lined.node.gateway.works lined.node.requests
  next_but session q asked lined (AtOnce work moved steps begins) = steps_but session q (ToWork work) moved steps
  next_but session q asked lined (InTurn work later none is) = but q
  next_but session q asked lined (Again work course from next there request) = but q
  next_but session q asked lined (AgainAlone work from next there none) = but q

  -- no check comes to an entry
  driver_acts_none : (act : DriverAct) (entry : Entry) → outcome_of_driver act ≡ ToEntry entry → ⊥
  driver_acts_none (driver_acts.Work work) entry is = cc (is)
  driver_acts_none (driver_acts.Reply reply) entry is = cc (is)

  check_acts_none : (act : CheckAct) (entry : Entry) → outcome_of_check act ≡ ToEntry entry → ⊥
  check_acts_none (check_acts.Work work) entry is = cc (is)
  check_acts_none (check_acts.Reply found) entry is = cc (is)

  entry_waits : (session q : ℕ) (next : Outcome) (entry : Entry) (moved : StepState) → RequestSteps input node so_far session q next moved
      → next ≡ ToEntry entry → WaitsForWork moved.node.requests q → ⊥
  entry_waits session q next entry moved (DiskBegins ask disk there on may) to w = driver_acts_none _ entry to
  entry_waits session q next entry moved (DiskGoesOn number work attempt status bytes driver disk step ends on is) to w =
      driver_acts_none step.act entry to
  entry_waits session q next entry moved (CommandBegins ask step arrival is) to w =
      put_waits so_far.node.requests q session (Commanding step.op) (λ check same. cc (same)) w
  entry_waits session q next entry moved (CommandGoesOn number work attempt status bytes op step ends is) to w =
      put_waits so_far.node.requests q session (Commanding step.op) (λ check same. cc (same)) w
  entry_waits session q next entry moved (CommandDecided of op step from read there waits is) to w =
      put_waits so_far.node.requests q session (Commanding step.op) (λ check same. cc (same)) w
  entry_waits session q next entry moved (CheckBegins inode arrival on) to w = check_acts_none _ entry to
  entry_waits session q next entry moved (CheckGoesOn number work attempt status bytes check step ends is) to w =
      check_acts_none step.act entry to
  entry_waits session q next entry moved (ObjectBegins work arrival) to w = cc (to)
  entry_waits session q next entry moved (ObjectIsDone number work attempt status bytes asked ends) to w = cc (to)
  entry_waits session q next entry moved (EntryBegins of arrival) to w =
      put_waits so_far.node.requests q session (AwaitingDecision of) (λ check same. cc (same)) w
  entry_waits session q next entry moved (EntryDecided of wanted from read there waits) to w = cc (to)

  -- ---- a change

  -- a work to which a check comes is on a data object
  module _ (plain : (session q : ℕ) (work : ObjWork) (moved : StepState) → RequestSteps input node so_far session q (ToWork work) moved
      → WaitsForWork moved.node.requests q → is_on_inode work ≡ false) where
    lines_none : (session q : ℕ) (work : ObjWork) (moved : StepState) → RequestSteps input node so_far session q (ToWork work) moved
        → may_open_work (session_in session moved).inode_queue work ≡ false → WaitsForWork moved.node.requests q → ⊥
    lines_none session q work moved steps waits w =
        let quiet = plain session q work moved steps w in
        cc (quiet, waits)

    stops_none : (session q : ℕ) (course : Course) (bytes : List ℕ) (disk : Option Disk) → HasRequest session q course so_far
        → IsOverWith bytes disk course → WaitsForWork so_far.node.requests q → ⊥
    stops_none session q course bytes disk there over w =
        let its : Request = record { session = session; course = course } in
        let one : Request = record { session = w.session; course = Checking w.check } in
        let same : course ≡ Checking w.check = ap (λ (r : Request). r.course) (same_Some its one (sym there ∙ w.got)) in
        w.waits (over_answered bytes w.check (subst (IsOverWith bytes disk) same over))

    denied : (session q : ℕ) (asked : Work) (lined : StepState) → WorkIsNext input node so_far session q asked lined
        → (request : Option Request) → tree.get lined.node.requests q ≡ request
        → WholeThen (option_map_or (λ (r : Request). course_refused r.session q (Halt (zones_of_members lined.node) (zones_for asked.work))
        r.course (without_denied_work session q asked lined)) request (without_denied_work session q asked lined))
    denied session q asked lined comes None there =
        without_one q (tree.remove lined.node.gateway.works q) lined.node.requests
        (gone_work q lined.node.gateway.works lined.node.requests (next_but session q asked lined comes))
        (λ w. let got = w.got in cc (got, there))
    denied session q asked lined comes (Some r) there =
        refused_open q r.session (Halt (zones_of_members lined.node) (zones_for asked.work)) r.course
        (without_denied_work session q asked lined)
        (gone_work q lined.node.gateway.works lined.node.requests (next_but session q asked lined comes)) there r.session

    pub change_open : (next : StepState) → Change input node so_far next → HaveOpenWorks next.node.gateway.works next.node.requests
    change_open next (changes.Marks q number work attempt status learns over) =
        with_work q so_far.node.gateway.works so_far.node.requests
        (record work { stage = Open (attempt_with_status number status attempt) }) (but q)
    change_open next (changes.Fails session q number work attempt status course ends done why) =
        with_work q so_far.node.gateway.works so_far.node.requests _ (but q)
    change_open next (changes.Stops session q number work attempt status course bytes ends over) =
        without_one q (tree.remove so_far.node.gateway.works q) so_far.node.requests (freed q)
        (stops_none session q course bytes (session_in session (without_ended_work session q work status so_far)).disk ends.ends.request
        over)
    change_open next (changes.Refuses session q number work attempt status course cause ends done why) =
        refused_open q session cause course (without_ended_work session q work status so_far) (freed q) ends.request session
    change_open next (changes.Opens session q asked lined comes enough) =
        with_work q lined.node.gateway.works lined.node.requests (record asked { stage = Open (attempt_in asked lined.node) })
        (next_but session q asked lined comes)
    change_open next (changes.Holds session q asked lined comes short touched) =
        with_work q lined.node.gateway.works lined.node.requests _ (next_but session q asked lined comes)
    change_open next (changes.Denies session q asked lined request comes short untouched there own) =
        denied session q asked lined comes request there
    change_open next (changes.Strays q work gateway there none apart) =
        without_one q gateway.works so_far.node.requests
        (λ req other w. let (one, got) = all req w in (one, apart.others req other ∙ got))
        (λ w. let got = w.got in cc (got, none))
    change_open next (changes.Lines session q work moved steps waits) =
        without_one q moved.node.gateway.works moved.node.requests (steps_but session q (ToWork work) moved steps)
        (lines_none session q work moved steps waits)
    change_open next (changes.Appends session q entry moved steps) =
        without_one q moved.node.gateway.works moved.node.requests (steps_but session q (ToEntry entry) moved steps)
        (entry_waits session q (ToEntry entry) entry moved steps refl)
    change_open next (changes.Replies session q reply moved steps) =
        ended_open q session reply moved (steps_but session q (ToReply reply) moved steps)
    change_open next (changes.Arrives session q ask disk arrival on) =
        without_one q so_far.node.gateway.works (tree.insert so_far.node.requests q (record { session = session; course = Waiting ask }))
        (put_request q so_far.node.gateway.works so_far.node.requests _ (but q))
        (put_waits so_far.node.requests q session (Waiting ask) (λ check same. cc (same)))
    change_open next (changes.Rejects session q ask cause arrival) = all
    change_open next (changes.Recovers due) = all
