-- A command that waits for the publication of an id waited for it before a change of its node, or the work was done just now by which it
-- makes the id's inode.
use Rattle.std.proofs.Common.{◌≡◌, ◌⊎◌, inl, inr, ℕ, true, false, List, Option, Some, None, refl, sym, ap, subst}
use Rattle.std.proofs.Common.{◌∙◌}
use Rattle.std.specs.FinMap as tree
use Rattle.std.proofs.lemmas.Option.{same_Some}
use Rattle.object_id.specs.declared.entry.Entry.{Entry}
use Rattle.object_id.specs.declared.oid.Vid.{Vid}
use Rattle.inode.specs.Layout.{Content}
use Rattle.peer_service.specs.State.{effects_of}
use Rattle.peer_service.specs.LogReading.{decision_on}
use Rattle.gateway.specs.declared.message.Status.{Status}
use Rattle.gateway.specs.Attempt as gateways
use Rattle.gateway.specs.State.{Work}
use Rattle.guest_driver.specs.Driver as drivers
use Rattle.disk_check.specs.Check.{begin_check}
use Rattle.vdi_ops.specs.Op.{Op, OpStep, OpStage, Asked, Working, Publishing, Answered, Task, Opening, WritingBack, Tagging, Copying}
use Rattle.vdi_ops.specs.Op.{Making}
use Rattle.vdi_ops.specs.Steps.{done_at, task_done}
use Rattle.vdi_ops.specs.Steps.{op_on_done}
use Rattle.sheep_node.specs.declared.course.Course.{Course}
use Rattle.sheep_node.specs.declared.course.Request.{Request}
use Rattle.sheep_node.specs.declared.course.Course.TheVariants.{Waiting, Driving, Commanding, Checking, DoingWork, AwaitingDecision}
use Rattle.sheep_node.specs.declared.input.Input.{Input}
use Rattle.sheep_node.specs.State.{Node}
use Rattle.sheep_node.specs.StepState.{StepState, session_in}
use Rattle.sheep_node.specs.Courses.{inode_open}
use Rattle.sheep_node.specs.Changes.{Outcome, EndsWork}
use Rattle.sheep_node.specs.Changes.{RequestSteps, DiskBegins, DiskGoesOn, CommandBegins, CommandGoesOn, CommandDecided, CheckBegins}
use Rattle.sheep_node.specs.Changes.{CheckGoesOn, ObjectBegins, ObjectIsDone, EntryBegins, EntryDecided}
use Rattle.sheep_node.specs.Changes.{Change}
use Rattle.sheep_node.proofs.OneWorkParts.{Requests}
use Rattle.overlap_law.specs.Drafts.{published_by}
use Rattle.overlap_law.proofs.ClosedFirstStages.{HoldsAtFirst, begins_so, decided_so}
use Rattle.overlap_law.proofs.RequestWalk.{IsWhereThere, put_there, change_there}

-- ---- what a command publishes

-- the id of the publication that a command waits for
abbrev pub published_at : OpStage → Option Vid
published_at (Asked entry) = None
published_at (Working vid task) = None
published_at (Publishing entry made) = published_by entry
published_at (Answered change) = None

abbrev pub published_in_course : Course → Option Vid
published_in_course (Waiting ask) = None
published_in_course (Driving driver) = None
published_in_course (Commanding op) = published_at op.stage
published_in_course (Checking check) = None
published_in_course (DoingWork work) = None
published_in_course (AwaitingDecision entry) = None

-- none as it begins, and as its first entry is decided
abbrev PublishesNone : OpStage → Type 0
PublishesNone stage = published_at stage ≡ None

none_at_first : HoldsAtFirst (λ (stage : OpStage). published_at stage ≡ None)
none_at_first = record {
  stays = refl;
  closes = refl;
  opening = λ vid snapshot ids header. refl;
  tagging = λ vid old inode. refl;
  copying = λ vid ids header. refl;
  making = λ vid by. refl;
}

-- ---- what is done

-- a command is at the making of an inode, after which it publishes an id
pub record IsMaking (op : Op) (vid : Vid) : Type 0 where
  pub of : Vid
  pub entry : Entry
  pub made : Option Content
  pub at : op.stage ≡ Working of (Making entry made)
  pub says : published_by entry ≡ Some vid

module _ (op : Op) (bytes : List ℕ) (step : OpStep) (vid : Vid) where
  by_task : (of : Vid) (task : Task) → op.stage ≡ Working of task → published_at (task_done op of bytes task).op.stage ≡ Some vid
      → IsMaking op vid
  by_task of (Opening true ids header) at says = absurd (cc (says))
  by_task of (Opening false ids header) at says = absurd (cc (says))
  by_task of (WritingBack inode) at says = absurd (cc (says))
  by_task of (Tagging old inode) at says = absurd (cc (says))
  by_task of (Copying ids header) at says = absurd (cc (says))
  by_task of (Making entry made) at says = record { of = of; entry = entry; made = made; at = at; says = says }

  done_making : op_on_done bytes op ≡ Some step → published_at step.op.stage ≡ Some vid → IsMaking op vid
  unfolding op_on_done
  done_making is says = by_stage op.stage refl is
    where
      by_stage : (stage : OpStage) → op.stage ≡ stage → done_at bytes op stage ≡ Some step → IsMaking op vid
      by_stage (Asked entry) at is = absurd (cc (is))
      by_stage (Working of task) at is =
          by_task of task at (ap (λ (s : OpStep). published_at s.op.stage) (same_Some (task_done op of bytes task) step is) ∙ says)
      by_stage (Publishing entry made) at is = absurd (cc (is))
      by_stage (Answered change) at is = absurd (cc (is))

-- ---- over a change of a node

-- a request is there that waits for the publication
pub record HadPublication (q : ℕ) (vid : Vid) (so_far : StepState) : Type 0 where
  pub request : Request
  pub there : tree.get so_far.node.requests q ≡ Some request
  pub says : published_in_course request.course ≡ Some vid

-- or its inode's making is done now
pub record IsMadeNow (input : Input) (node : Node) (q : ℕ) (vid : Vid) (so_far : StepState) : Type 0 where
  pub session : ℕ
  pub number : ℕ
  pub work : Work
  pub attempt : gateways.Attempt
  pub status : Status
  pub bytes : List ℕ
  pub op : Op
  pub ends : EndsWork input node so_far session q number work attempt status (Commanding op) bytes
  pub making : IsMaking op vid

module _ (q : ℕ) (vid : Vid) (input : Input) (node : Node) where
  abbrev pub HadOrMade : StepState → Type 0
  HadOrMade so_far = HadPublication q vid so_far ⊎ IsMadeNow input node q vid so_far

  abbrev IsFrom : StepState → Request → Type 0
  IsFrom origin r = published_in_course r.course ≡ Some vid → HadOrMade origin

  abbrev AreFrom : StepState → Requests → Type 0
  AreFrom origin = IsWhereThere q (IsFrom origin)

  abbrev From : StepState → StepState → Type 0
  From origin so_far = AreFrom origin so_far.node.requests

  put_from : (origin : StepState) (requests : Requests) (session req : ℕ) (course : Course)
      → (q ≡ req → published_in_course course ≡ Some vid → HadOrMade origin)
      → AreFrom origin requests → AreFrom origin (tree.insert requests req (record { session = session; course = course }))
  put_from origin requests session req course =
      put_there q (IsFrom origin) requests req (record { session = session; course = course })

  from_itself : (so_far : StepState) → From so_far so_far
  from_itself so_far r got says = inl (record { request = r; there = got; says = says })

  -- one that publishes nothing
  put_none : (so_far : StepState) (session req : ℕ) (course : Course) → published_in_course course ≡ None
      → AreFrom so_far (tree.insert so_far.node.requests req (record { session = session; course = course }))
  put_none so_far session req course none =
      put_from so_far so_far.node.requests session req course (λ own says. absurd (cc (none, says))) (from_itself so_far)

  steps_from : (so_far : StepState) (session req : ℕ) (next : Outcome) (moved : StepState)
      → RequestSteps input node so_far session req next moved
      → From so_far moved
  steps_from so_far session req next moved (DiskBegins ask disk there on may) =
      put_none so_far session req (Driving (drivers.begin_driver disk ask).driver) refl
  steps_from so_far session req next moved (DiskGoesOn number work attempt status bytes driver disk step ends on is) =
      put_none so_far session req (Driving step.driver) refl
  steps_from so_far session req next moved (CommandBegins ask step arrival is) =
      put_none so_far session req (Commanding step.op)
      (begins_so PublishesNone (λ entry. refl) so_far.node.me session ask (inode_open (session_in session so_far).disk) step is)
  steps_from so_far session req next moved (CommandGoesOn number work attempt status bytes op step ends is) =
      put_from so_far so_far.node.requests session req (Commanding step.op)
      (λ own says. inr (record {
        session = session;
        number = number;
        work = work;
        attempt = attempt;
        status = status;
        bytes = bytes;
        op = op;
        ends = subst (λ (k : ℕ). EndsWork input node so_far session k number work attempt status (Commanding op) bytes) (sym own) ends;
        making = done_making op bytes step vid is says;
      })) (from_itself so_far)
  steps_from so_far session req next moved (CommandDecided entry op step from read there waits is) =
      put_none so_far session req (Commanding step.op)
      (decided_so PublishesNone none_at_first op (λ inode. refl) (effects_of so_far.node.peer)
      (inode_open (session_in session so_far).disk) (decision_on entry node.peer) step
      is)
  steps_from so_far session req next moved (CheckBegins inode arrival on) = put_none so_far session req
      (Checking (begin_check inode).check) refl
  steps_from so_far session req next moved (CheckGoesOn number work attempt status bytes check step ends is) =
      put_none so_far session req (Checking step.check) refl
  steps_from so_far session req next moved (ObjectBegins asked arrival) = put_none so_far session req (DoingWork asked) refl
  steps_from so_far session req next moved (ObjectIsDone number work attempt status bytes asked ends) = from_itself so_far
  steps_from so_far session req next moved (EntryBegins entry arrival) = put_none so_far session req (AwaitingDecision entry) refl
  steps_from so_far session req next moved (EntryDecided entry wanted from read there waits) = from_itself so_far

  pub publication_from : (so_far next : StepState) → Change input node so_far next → From so_far next
  publication_from so_far =
      change_there q (IsFrom so_far) so_far (steps_from so_far) (λ session req ask arrival own says. absurd (cc (says)))
      (from_itself so_far)
