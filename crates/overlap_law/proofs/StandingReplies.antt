-- To whom a change of a node's step replies: the request could run in its session's queue, or is alone in its session, unless it is
-- refused.
use Rattle.std.proofs.Common.{◌≡◌, ◌⊎◌, inl, inr, ⊎_elim, ℕ, true, false, List, Contains, Option, Some, None, refl, sym, ap, subst}
use Rattle.std.specs.Option.{option_map_or}
use Rattle.std.specs.FinMap as tree
use Rattle.object_id.specs.declared.cause.Cause.{Cause}
use Rattle.object_id.specs.declared.cause.Cause.TheVariants.{Halt}
use Rattle.peer_proto.specs.declared.guest.DiskAsk.{DiskAsk}
use Rattle.peer_proto.specs.declared.guest.GuestRsp.{GuestRsp}
use Rattle.peer_proto.specs.declared.guest.GuestRsp.TheVariants as replies
use Rattle.peer_proto.specs.declared.guest.VdiAsk.TheVariants as disk_commands
use Rattle.gateway.specs.Work.{zones_for}
use Rattle.gateway.specs.State.{Work}
use Rattle.gateway_queue.specs.Queue.{may_run}
use Rattle.sheep_node.specs.declared.ask.Ask.{Ask}
use Rattle.sheep_node.specs.declared.ask.Ask.TheVariants as asks
use Rattle.sheep_node.specs.declared.input.Input.{Input}
use Rattle.sheep_node.specs.declared.input.Input.TheVariants as inputs
use Rattle.sheep_node.specs.declared.course.Course.{Course}
use Rattle.sheep_node.specs.declared.course.Course.TheVariants.{Waiting, Driving, Commanding, Checking, DoingWork, AwaitingDecision}
use Rattle.sheep_node.specs.declared.course.Request.{Request}
use Rattle.sheep_node.specs.May.{May, is_disk_course}
use Rattle.sheep_node.specs.RequestWorks.{course_refused}
use Rattle.sheep_node.specs.SessionQueues.{QueuesAreDiskRequests, CommandsAreAlone}
use Rattle.sheep_node.specs.State.{Node}
use Rattle.sheep_node.specs.StepState.{StepState, session_in, request_ended}
use Rattle.sheep_node.specs.Changes as changes
use Rattle.sheep_node.specs.Changes.{HasRequest, Outcome, ToWork, ToEntry, ToReply, RequestSteps, DiskBegins, DiskGoesOn, CommandBegins}
use Rattle.sheep_node.specs.Changes.{CommandGoesOn, CommandDecided, CheckBegins, CheckGoesOn, ObjectBegins, ObjectIsDone, EntryBegins}
use Rattle.sheep_node.specs.Changes.{EntryDecided, WorkIsNext, AtOnce, InTurn, Again, AgainAlone, Change, without_ended_work}
use Rattle.sheep_node.specs.Changes.{without_denied_work, zones_of_members}
use Rattle.sheep_node.proofs.RefusedCourses.{this_refused-keeps}
use Rattle.sheep_node.proofs.SoleCommands.{free}
use Rattle.sheep_node.proofs.SoleParts.{CommandsAre, IsFreeFor, command_is_free}
use Rattle.overlap_law.specs.PastWords.{is_refusal}
use Rattle.overlap_law.proofs.CoveredCourses.{CoveredSoFar, course_covered}
use Rattle.overlap_law.proofs.RepliesOfChanges.{steps_silent, comes_silent}
use Rattle.overlap_law.proofs.RequestsInSteps.{is_disk_ask, replies-in_order}

-- a request is there in its session, or a guest asks it in it
abbrev pub IsAsking : Input → StepState → ℕ → ℕ → Type 0
IsAsking input so_far session req = ((course : Course) × HasRequest session req course so_far)
    ⊎ ((ask : Ask) × (input ≡ inputs.Guest req session ask))

-- a request may be answered: it may run in its session's queue, or is alone in its session
pub data MayAnswer (input : Input) (so_far : StepState) (req : ℕ) : Type 0 where
  Ran : (session : ℕ) (course : Course) → HasRequest session req course so_far → is_disk_course course ≡ true
      → may_run req (session_in session so_far).queue ≡ true
      → MayAnswer input so_far req
  Alone : (session : ℕ) → IsAsking input so_far session req → IsFreeFor session req so_far.node.requests → MayAnswer input so_far req

-- it may run, or is alone in its session, where it is there or begins now as no read or write
pub data Answers (input : Input) (so_far : StepState) (req : ℕ) : Type 0 where
  RanThere : (session : ℕ) (course : Course) → HasRequest session req course so_far → is_disk_course course ≡ true
      → may_run req (session_in session so_far).queue ≡ true → Answers input so_far req
  AloneThere : (session : ℕ) (course : Course) → HasRequest session req course so_far → IsFreeFor session req so_far.node.requests
      → Answers input so_far req
  BeginsNow : (session : ℕ) (ask : Ask) → input ≡ inputs.Guest req session ask → is_disk_ask ask ≡ false
      → IsFreeFor session req so_far.node.requests → Answers input so_far req

may_answer : {input : Input} {so_far : StepState} {req : ℕ} → Answers input so_far req → MayAnswer input so_far req
may_answer (RanThere session course there disk runs) = Ran session course there disk runs
may_answer (AloneThere session course there free) = Alone session (inl (course, there)) free
may_answer (BeginsNow session ask from off free) = Alone session (inr (ask, from)) free

module _ (input : Input) (node : Node) (may : May input node) (queued : QueuesAreDiskRequests node) (sole : CommandsAreAlone node) where
  -- a request that has begun
  course_answers : (so_far : StepState) (session req : ℕ) (course : Course) → HasRequest session req course so_far → CommandsAre so_far
      → CoveredSoFar so_far → ((ask : DiskAsk) → course ≡ Waiting ask → ⊥) → Answers input so_far req
  course_answers so_far session req (Waiting ask) there alone covered begun = absurd (begun ask refl)
  course_answers so_far session req (Driving driver) there alone covered begun =
      RanThere session (Driving driver) there refl (course_covered session req (Driving driver) so_far there covered).0
  course_answers so_far session req (Commanding op) there alone covered begun =
      AloneThere session (Commanding op) there (command_is_free session req (Commanding op) so_far there refl alone)
  course_answers so_far session req (Checking check) there alone covered begun =
      AloneThere session (Checking check) there (command_is_free session req (Checking check) so_far there refl alone)
  course_answers so_far session req (DoingWork work) there alone covered begun =
      AloneThere session (DoingWork work) there (command_is_free session req (DoingWork work) so_far there refl alone)
  course_answers so_far session req (AwaitingDecision entry) there alone covered begun =
      AloneThere session (AwaitingDecision entry) there (command_is_free session req (AwaitingDecision entry) so_far there refl alone)

  -- a request that takes a step
  steps_answers : (so_far : StepState) (session req : ℕ) (next : Outcome) (moved : StepState)
      → RequestSteps input node so_far session req next moved → CommandsAre so_far → CoveredSoFar so_far → Answers input so_far req
  steps_answers so_far session req next moved (DiskBegins ask disk there on runs) alone covered =
      RanThere session (Waiting ask) there refl runs
  steps_answers so_far session req next moved (DiskGoesOn number work attempt status bytes driver disk step ends on is) alone covered =
      course_answers so_far session req (Driving driver) ends.ends.request alone covered (λ ask same. cc (same))
  steps_answers so_far session req next moved (CommandBegins ask step arrival is) alone covered =
      BeginsNow session (asks.Vdi ask) arrival.from refl (free may queued sole so_far session req (asks.Vdi ask) None arrival refl)
  steps_answers so_far session req next moved (CommandGoesOn number work attempt status bytes op step ends is) alone covered =
      course_answers so_far session req (Commanding op) ends.ends.request alone covered (λ ask same. cc (same))
  steps_answers so_far session req next moved (CommandDecided entry op step from read there waits is) alone covered =
      course_answers so_far session req (Commanding op) there alone covered (λ ask same. cc (same))
  steps_answers so_far session req next moved (CheckBegins inode arrival on) alone covered =
      BeginsNow session (asks.Vdi disk_commands.Check) arrival.from refl
      (free may queued sole so_far session req (asks.Vdi disk_commands.Check) None arrival refl)
  steps_answers so_far session req next moved (CheckGoesOn number work attempt status bytes check step ends is) alone covered =
      course_answers so_far session req (Checking check) ends.ends.request alone covered (λ ask same. cc (same))
  steps_answers so_far session req next moved (ObjectBegins asked arrival) alone covered =
      BeginsNow session (asks.Object asked) arrival.from refl
      (free may queued sole so_far session req (asks.Object asked) None arrival refl)
  steps_answers so_far session req next moved (ObjectIsDone number work attempt status bytes asked ends) alone covered =
      course_answers so_far session req (DoingWork asked) ends.ends.request alone covered (λ ask same. cc (same))
  steps_answers so_far session req next moved (EntryBegins entry arrival) alone covered =
      BeginsNow session (asks.Entry entry) arrival.from refl (free may queued sole so_far session req (asks.Entry entry) None arrival refl)
  steps_answers so_far session req next moved (EntryDecided entry wanted from read there waits) alone covered =
      course_answers so_far session req (AwaitingDecision wanted) there alone covered (λ ask same. cc (same))

  -- ---- a change

  module _ (so_far : StepState) (alone : CommandsAre so_far) (covered : CoveredSoFar so_far) where
    -- each reply that refuses nothing was there, or is to one that may be answered
    abbrev AreFrom : StepState → Type 0
    AreFrom next = (reply : ℕ × GuestRsp) → Contains next.outputs.replies reply → is_refusal reply.1 ≡ false
        → Contains so_far.outputs.replies reply ⊎ Answers input so_far reply.0

    silent : (next : StepState) → next.outputs.replies ≡ so_far.outputs.replies → AreFrom next
    silent next same reply among fine = inl (subst (λ (list : List (ℕ × GuestRsp)). Contains list reply) same among)

    ended : (req : ℕ) → Answers input so_far req → (session : ℕ) (rsp : GuestRsp) (moved : StepState) → AreFrom moved
        → AreFrom (request_ended session req rsp moved)
    unfolding request_ended
    ended req answers session rsp moved before reply among fine = ⊎_elim
        (λ (new : (req, rsp) ≡ reply). inr (subst (λ (r : ℕ × GuestRsp). Answers input so_far r.0) new answers))
        (λ (old : Contains moved.outputs.replies reply). before reply old fine)
        (replies-in_order (req, rsp) moved.outputs.replies reply among)

    -- a request is refused for its work
    answers : (session req : ℕ) (course : Course) → HasRequest session req course so_far ⊎ Answers input so_far req
        → ((ask : DiskAsk) → course ≡ Waiting ask → ⊥) → Answers input so_far req
    answers session req course known begun = ⊎_elim
        (λ (there : HasRequest session req course so_far). course_answers so_far session req course there alone covered begun)
        (λ (known_so : Answers input so_far req). known_so)
        known

    refused : (session req : ℕ) (cause : Cause) (course : Course) → HasRequest session req course so_far ⊎ Answers input so_far req
        → (moved : StepState) → AreFrom moved → AreFrom (course_refused session req cause course moved)
    refused session req cause (Waiting ask) known moved before = before
    refused session req cause (Driving driver) known moved before =
        this_refused-keeps req AreFrom (ended req (answers session req (Driving driver) known (λ ask same. cc (same))))
        (λ entry before now. now) session cause (Driving driver) moved before
    refused session req cause (Commanding op) known moved before =
        this_refused-keeps req AreFrom (ended req (answers session req (Commanding op) known (λ ask same. cc (same))))
        (λ entry before now. now) session cause (Commanding op) moved before
    refused session req cause (Checking check) known moved before =
        this_refused-keeps req AreFrom (ended req (answers session req (Checking check) known (λ ask same. cc (same))))
        (λ entry before now. now) session cause (Checking check) moved before
    refused session req cause (DoingWork work) known moved before =
        this_refused-keeps req AreFrom (ended req (answers session req (DoingWork work) known (λ ask same. cc (same))))
        (λ entry before now. now) session cause (DoingWork work) moved before
    refused session req cause (AwaitingDecision entry) known moved before = before

    -- a work's turn has come, and its request is there
    next_known : (session req : ℕ) (asked : Work) (lined : StepState) → WorkIsNext input node so_far session req asked lined
        → (request : Request) → tree.get lined.node.requests req ≡ Some request
        → HasRequest request.session req request.course so_far ⊎ Answers input so_far req
    next_known session req asked lined (AtOnce work moved steps begins) request there =
        inr (steps_answers so_far session req (ToWork work) moved steps alone covered)
    next_known session req asked lined (InTurn work later none is) request there = inl there
    next_known session req asked lined (Again work course from next got found) request there = inl there
    next_known session req asked lined (AgainAlone work from next got none) request there = inl there

    pub answers_from : (next : StepState) → Change input node so_far next → (reply : ℕ × GuestRsp) → Contains next.outputs.replies reply
        → is_refusal reply.1 ≡ false → Contains so_far.outputs.replies reply ⊎ Answers input so_far reply.0
    answers_from next (changes.Marks req number work attempt status learns over) = silent next refl
    answers_from next (changes.Fails session req number work attempt status course ends done why) = silent next refl
    answers_from next (changes.Stops session req number work attempt status course bytes ends over) = silent next refl
    answers_from next (changes.Refuses session req number work attempt status course cause ends done why) =
        refused session req cause course (inl ends.request) (without_ended_work session req work status so_far)
        (silent (without_ended_work session req work status so_far) refl)
    answers_from next (changes.Opens session req asked lined comes enough) =
        silent next (comes_silent input node so_far session req asked lined comes)
    answers_from next (changes.Holds session req asked lined comes short touched) =
        silent next (comes_silent input node so_far session req asked lined comes)
    answers_from next (changes.Denies session req asked lined request comes short untouched there own) = by_request request there
      where
        moved : StepState
        moved = without_denied_work session req asked lined

        by_request : (request : Option Request) → tree.get lined.node.requests req ≡ request
            → AreFrom (option_map_or (λ (request : Request). course_refused request.session req
            (Halt (zones_of_members lined.node) (zones_for asked.work)) request.course (without_denied_work session req asked lined))
            request (without_denied_work session req asked lined))
        by_request None none = silent moved (comes_silent input node so_far session req asked lined comes)
        by_request (Some request) got =
            refused request.session req (Halt (zones_of_members lined.node) (zones_for asked.work)) request.course
            (next_known session req asked lined comes request got) moved
            (silent moved (comes_silent input node so_far session req asked lined comes))
    answers_from next (changes.Strays req work gateway there none apart) = silent next refl
    answers_from next (changes.Lines session req work moved steps waits) =
        silent next (steps_silent input node so_far session req (ToWork work) moved steps)
    answers_from next (changes.Appends session req entry moved steps) =
        silent next (steps_silent input node so_far session req (ToEntry entry) moved steps)
    answers_from next (changes.Replies session req rsp moved steps) =
        ended req (steps_answers so_far session req (ToReply rsp) moved steps alone covered) session rsp moved
        (silent moved (steps_silent input node so_far session req (ToReply rsp) moved steps))
    answers_from next (changes.Arrives session req ask disk arrival on) = silent next refl
    answers_from next (changes.Rejects session req ask cause arrival) = λ reply among fine. ⊎_elim
        (λ (new : (req, replies.Refused cause) ≡ reply).
        let refuses : is_refusal reply.1 ≡ true = ap (λ (r : ℕ × GuestRsp). is_refusal r.1) (sym new) in
        absurd (cc (refuses, fine)))
        (λ (old : Contains so_far.outputs.replies reply). inl old)
        (replies-in_order (req, replies.Refused cause) so_far.outputs.replies reply among)
    answers_from next (changes.Recovers due) = silent next refl

    pub comes_from : (next : StepState) → Change input node so_far next → (reply : ℕ × GuestRsp) → Contains next.outputs.replies reply
        → is_refusal reply.1 ≡ false → Contains so_far.outputs.replies reply ⊎ MayAnswer input so_far reply.0
    comes_from next change reply among fine = ⊎_elim
        (λ (old : Contains so_far.outputs.replies reply). inl old)
        (λ (new : Answers input so_far reply.0). inr (may_answer new))
        (answers_from next change reply among fine)
