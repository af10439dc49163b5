-- What a change of a node does to it at one request alone: a course, an end, a refusal, a step of a request, a work whose turn has come.
use Rattle.std.proofs.Common.{◌≡◌, arith, ℕ, ◌≤◌, ◌<◌, true, false, List, Contains, Option, Some, refl, sym, ap, subst, ◌∙◌}
use Rattle.std.specs.List.{list_any}
use Rattle.std.specs.Option.{option_map_or}
use Rattle.std.specs.Ordering.{nat_cmp}
use Rattle.std.specs.FinMap as tree
use Rattle.std.proofs.lemmas.Option.{same_Some}
use Rattle.proof_tools.proofs.Lists.{Contains-first, find-contains}
use Rattle.proof_tools.proofs.FiniteMaps.{get-insert_same, get-insert_other, get-remove_same, get-remove_other}
use Rattle.object_id.specs.declared.cause.Cause.{Cause}
use Rattle.object_id.specs.declared.entry.Entry.{Entry}
use Rattle.peer_proto.specs.declared.guest.GuestRsp.{GuestRsp}
use Rattle.gateway.specs.declared.message.Status.{Status}
use Rattle.gateway.specs.Attempt.{Attempt, is_awaited_message, is_over, messages_with_status}
use Rattle.gateway.specs.State.{WorkStage, Open, Ended, WaitsForMembers, Work, Gateway, open_messages, is_awaited_in, may_try}
use Rattle.gateway.specs.Step.{with_work}
use Rattle.guest_driver.specs.Driver as drivers
use Rattle.guest_driver.specs.InodeQueue as lines
use Rattle.disk_check.specs.Check.{begin_check}
use Rattle.sheep_node.specs.declared.input.Input.{Input}
use Rattle.sheep_node.specs.declared.course.Course.{Course}
use Rattle.sheep_node.specs.declared.course.Course.TheVariants.{Driving, Commanding, Checking, DoingWork, AwaitingDecision}
use Rattle.sheep_node.specs.declared.course.Request.{Request}
use Rattle.sheep_node.specs.State.{Node}
use Rattle.sheep_node.specs.StepState.{StepState, with_optional_entry, with_gateway, with_course, request_ended}
use Rattle.sheep_node.specs.RequestWorks.{course_refused}
use Rattle.sheep_node.specs.OneWork.{may_work_at}
use Rattle.sheep_node.specs.Changes as changes
use Rattle.sheep_node.specs.Changes.{IsSoundStep, LearnsStatus, without_ended_work, Outcome, ToWork, RequestSteps, DiskBegins, DiskGoesOn}
use Rattle.sheep_node.specs.Changes.{CommandBegins, CommandGoesOn, CommandDecided, CheckBegins, CheckGoesOn, ObjectBegins, ObjectIsDone}
use Rattle.sheep_node.specs.Changes.{EntryBegins, EntryDecided, WorkIsNext, AtOnce, InTurn, Again, AgainAlone}
use Rattle.sheep_node.proofs.RefusedCourses.{this_refused-keeps, this_if_there-keeps}
use Rattle.sheep_node.proofs.OneWorkChanges.{StepHasOneWork, wanted_never, never_alone, steps_free}
use Rattle.sheep_world.proofs.AskedWorks.{ToldIsBelow}
use Rattle.overlap_law.proofs.BegunNumbers.{session_of_request, DifferAtRequest, differ_twice}
use Rattle.overlap_law.proofs.MarkedMessages.{none_awaited-over}

-- a request's work waits for none of these numbers
abbrev pub AwaitsNone : ℕ → ℕ → ℕ → Node → Type 0
AwaitsNone low high req node =
    (k : ℕ) → low ≤ k → k < high → (work : Work) → tree.get node.gateway.works req ≡ Some work → is_awaited_in k work ≡ false

-- a request that may have no work has none
pub awaits_none-idle : (low high req : ℕ) (so_far : StepState) → StepHasOneWork so_far
    → may_work_at (tree.get so_far.node.requests req) ≡ false
    → AwaitsNone low high req so_far.node
awaits_none-idle low high req so_far good never k from below work got = let may = good.open_works req work got in absurd (cc (may, never))

module _ (low high req : ℕ) where
  -- nodes that differ so from another
  abbrev pub Differs : StepState → StepState → Type 0
  Differs so_far next = DifferAtRequest low high req so_far.node next.node

  pub same_differ : (so_far : StepState) → AwaitsNone low high req so_far.node → Differs so_far so_far
  same_differ so_far none = record { me_so = refl; works_so = λ q other. refl; sessions_so = λ q other. refl; was = none; is = none }

  -- a request's course changes
  pub course_differs : (session : ℕ) (course : Course) (so_far : StepState) → AwaitsNone low high req so_far.node
      → Differs so_far (with_course session req course so_far)
  course_differs session course so_far none = record {
    me_so = refl;
    works_so = λ q other. refl;
    sessions_so = λ q other. ap session_of_request (get-insert_other so_far.node.requests req
        (record { session = session; course = course }) q other);
    was = none;
    is = none;
  }

  -- a request ends, in a node that differs from an earlier one at this request alone
  pub ended_differs : (first : StepState) (session : ℕ) (reply : GuestRsp) (so_far : StepState) → Differs first so_far
      → Differs first (request_ended session req reply so_far)
  unfolding request_ended
  ended_differs first session reply so_far d = record {
    me_so = d.me_so;
    works_so = d.works_so;
    sessions_so = λ q other. ap session_of_request (get-remove_other so_far.node.requests req q other) ∙ d.sessions_so q other;
    was = d.was;
    is = d.is;
  }

  entry_differs : (first : StepState) (entry : Option Entry) (so_far : StepState) → Differs first so_far
      → Differs first (with_optional_entry entry so_far)
  entry_differs first entry so_far d =
      record { me_so = d.me_so; works_so = d.works_so; sessions_so = d.sessions_so; was = d.was; is = d.is }

  pub refused_differs : (first : StepState) (session : ℕ) (cause : Cause) (course : Course) (so_far : StepState) → Differs first so_far
      → Differs first (course_refused session req cause course so_far)
  refused_differs first = this_refused-keeps req (Differs first) (ended_differs first) (entry_differs first)

  pub refused_if_there_differs : (first : StepState) (cause : Cause) (request : Option Request) (so_far : StepState) → Differs first so_far
      → Differs first (option_map_or (λ (request : Request). course_refused request.session req cause request.course so_far) request so_far)
  refused_if_there_differs first = this_if_there-keeps req (Differs first) (ended_differs first) (entry_differs first)

  -- a work stands otherwise, and waits for none of the numbers
  pub work_differs : (now : Work) (so_far : StepState) (gateway : Gateway) → gateway.works ≡ so_far.node.gateway.works
      → ((k : ℕ) → low ≤ k → k < high → is_awaited_in k now ≡ false) → AwaitsNone low high req so_far.node
      → Differs so_far (with_gateway (with_work req now gateway) so_far)
  work_differs now so_far gateway same waits none = record {
    me_so = refl;
    works_so = λ q other. get-insert_other gateway.works req now q other ∙ ap (λ (works : tree.FinMap nat_cmp Work). tree.get works q) same;
    sessions_so = λ q other. refl;
    was = none;
    is = λ k from below work got. ap (is_awaited_in k) (sym (same_Some now work (sym (get-insert_same gateway.works req now) ∙ got)))
        ∙ waits k from below;
  }

  -- its work goes
  pub gone_differs : (session : ℕ) (work : Work) (so_far : StepState) → AwaitsNone low high req so_far.node
      → Differs so_far (changes.without_denied_work session req work so_far)
  gone_differs session work so_far none = record {
    me_so = refl;
    works_so = λ q other. get-remove_other so_far.node.gateway.works req q other;
    sessions_so = λ q other. refl;
    was = none;
    is = λ k from below other got. let gone = get-remove_same so_far.node.gateway.works req in absurd (cc (got, gone));
  }

  -- a request goes on, in a node that differs from an earlier one at this request alone
  course_after : (first : StepState) (session : ℕ) (course : Course) (so_far : StepState) → Differs first so_far
      → Differs first (with_course session req course so_far)
  course_after first session course so_far d =
      differ_twice low high req first.node so_far.node (with_course session req course so_far).node d
      (course_differs session course so_far d.is)

  module _ {input : Input} {node : Node} (sound : IsSoundStep input node) (given : ToldIsBelow input low) where
    -- a work of which a message comes to something waits for no new number once its attempt is over
    pub awaits_none-over : (so_far : StepState) (number : ℕ) (work : Work) (attempt : Attempt) (status : Status)
        → LearnsStatus input node so_far req number work attempt status
        → is_over (messages_with_status number status attempt.messages) ≡ true → AwaitsNone low high req so_far.node
    awaits_none-over so_far number work attempt status learns over k from below other got =
        let told : number < low = given number status learns.told in
        let same : other ≡ work = same_Some other work (sym got ∙ learns.there) in
        ap (is_awaited_in k) same ∙ ap (λ (stage : WorkStage). list_any (is_awaited_message k) (open_messages stage)) learns.open_so
        ∙ none_awaited-over number status k (λ (is : k ≡ number). omega (arith, told, from, is)) attempt.messages over

    pub ended_work_differs : (so_far : StepState) (session number : ℕ) (work : Work) (attempt : Attempt) (status : Status)
        → LearnsStatus input node so_far req number work attempt status
        → is_over (messages_with_status number status attempt.messages) ≡ true
        → Differs so_far (without_ended_work session req work status so_far)
    ended_work_differs so_far session number work attempt status learns over = record {
      me_so = refl;
      works_so = λ q other. get-remove_other so_far.node.gateway.works req q other;
      sessions_so = λ q other. refl;
      was = awaits_none-over so_far number work attempt status learns over;
      is = λ k from below other got. let gone = get-remove_same so_far.node.gateway.works req in absurd (cc (got, gone));
    }

    pub steps_differ : (so_far : StepState) (session : ℕ) (next : Outcome) (moved : StepState)
        → RequestSteps input node so_far session req next moved
        → StepHasOneWork so_far → Differs so_far moved
    steps_differ so_far session next moved (DiskBegins ask disk there on may) good =
        let d = course_differs session (Driving (drivers.begin_driver disk ask).driver) so_far
        (awaits_none-idle low high req so_far good (ap may_work_at there)) in
        record { me_so = d.me_so; works_so = d.works_so; sessions_so = d.sessions_so; was = d.was; is = d.is }
    steps_differ so_far session next moved (DiskGoesOn number work attempt status bytes driver disk step ends on is) good =
        let d = course_after so_far session (Driving step.driver) (without_ended_work session req work status so_far)
        (ended_work_differs so_far session number work attempt status ends.ends.learns ends.ends.over) in
        record { me_so = d.me_so; works_so = d.works_so; sessions_so = d.sessions_so; was = d.was; is = d.is }
    steps_differ so_far session next moved (CommandBegins ask step arrival is) good =
        let d = course_differs session (Commanding step.op) so_far (awaits_none-idle low high req so_far good
        (ap may_work_at (arrival.none sound))) in
        record { me_so = d.me_so; works_so = d.works_so; sessions_so = d.sessions_so; was = d.was; is = d.is }
    steps_differ so_far session next moved (CommandGoesOn number work attempt status bytes op step ends is) good =
        let d = course_after so_far session (Commanding step.op) (without_ended_work session req work status so_far)
        (ended_work_differs so_far session number work attempt status ends.ends.learns ends.ends.over) in
        record { me_so = d.me_so; works_so = d.works_so; sessions_so = d.sessions_so; was = d.was; is = d.is }
    steps_differ so_far session next moved (CommandDecided entry op step from read there waits is) good =
        let d = course_differs session (Commanding step.op) so_far (awaits_none-idle low high req so_far good
        (ap may_work_at there ∙ wanted_never entry (Commanding op) waits)) in
        record { me_so = d.me_so; works_so = d.works_so; sessions_so = d.sessions_so; was = d.was; is = d.is }
    steps_differ so_far session next moved (CheckBegins inode arrival on) good =
        let d = course_differs session (Checking (begin_check inode).check) so_far
        (awaits_none-idle low high req so_far good (ap may_work_at (arrival.none sound))) in
        record { me_so = d.me_so; works_so = d.works_so; sessions_so = d.sessions_so; was = d.was; is = d.is }
    steps_differ so_far session next moved (CheckGoesOn number work attempt status bytes check step ends is) good =
        let d = course_after so_far session (Checking step.check) (without_ended_work session req work status so_far)
        (ended_work_differs so_far session number work attempt status ends.ends.learns ends.ends.over) in
        record { me_so = d.me_so; works_so = d.works_so; sessions_so = d.sessions_so; was = d.was; is = d.is }
    steps_differ so_far session next moved (ObjectBegins asked arrival) good =
        let d = course_differs session (DoingWork asked) so_far (awaits_none-idle low high req so_far good
        (ap may_work_at (arrival.none sound))) in
        record { me_so = d.me_so; works_so = d.works_so; sessions_so = d.sessions_so; was = d.was; is = d.is }
    steps_differ so_far session next moved (ObjectIsDone number work attempt status bytes asked ends) good =
        ended_work_differs so_far session number work attempt status ends.ends.learns ends.ends.over
    steps_differ so_far session next moved (EntryBegins entry arrival) good =
        let d = course_differs session (AwaitingDecision entry) so_far
        (awaits_none-idle low high req so_far good (ap may_work_at (arrival.none sound))) in
        record { me_so = d.me_so; works_so = d.works_so; sessions_so = d.sessions_so; was = d.was; is = d.is }
    steps_differ so_far session next moved (EntryDecided entry wanted from read there waits) good =
        same_differ so_far (awaits_none-idle low high req so_far good (ap may_work_at there))

    -- a work whose turn has come waits for nothing
    pub next_awaits_none : (so_far : StepState) (session : ℕ) (asked : Work) (lined : StepState)
        → WorkIsNext input node so_far session req asked lined
        → StepHasOneWork so_far → (k : ℕ) (work : Work) → tree.get lined.node.gateway.works req ≡ Some work → is_awaited_in k work ≡ false
    next_awaits_none so_far session asked lined (AtOnce work moved steps begins) good k w got =
        let none = (steps_free so_far session req (ToWork work) moved steps sound good).free.idle in
        absurd (cc (none, got))
    next_awaits_none so_far session asked lined (InTurn work later none is) good k w got =
        let first : lines.Waiting = record { req = req; work = work } in
        let free = good.waiting_free session first (subst (λ (list : List lines.Waiting). Contains list first) (sym is)
        (Contains-first first first later refl)) in
        absurd (cc (free, got))
    next_awaits_none so_far session asked lined (Again work course from next there request) good k w got =
        let may = (find-contains (λ (entry : ℕ × Work). may_try (record { 0 = so_far.node.peer.epoch }) entry.1.stage)
        (tree.entries so_far.node.gateway.works) (req, asked) next).1 in
        ap (is_awaited_in k) (sym (same_Some asked w (sym there ∙ got))) ∙ by_stage asked.stage may
      where
        by_stage : (stage : WorkStage) → may_try (record { 0 = so_far.node.peer.epoch }) stage ≡ true
            → list_any (is_awaited_message k) (open_messages stage) ≡ false
        by_stage (Open current) may = absurd (cc (may))
        by_stage Ended may = refl
        by_stage (WaitsForMembers since) may = refl
    next_awaits_none so_far session asked lined (AgainAlone work from next there none) good k w got =
        absurd (never_alone req asked so_far there none good)

    pub next_differs : (so_far : StepState) (session : ℕ) (asked : Work) (lined : StepState)
        → WorkIsNext input node so_far session req asked lined
        → StepHasOneWork so_far → Differs so_far lined
    next_differs so_far session asked lined (AtOnce work moved steps begins) good =
        let d = steps_differ so_far session (ToWork work) moved steps good in
        record { me_so = d.me_so; works_so = d.works_so; sessions_so = d.sessions_so; was = d.was; is = d.is }
    next_differs so_far session asked lined (InTurn work later none is) good =
        let idle = next_awaits_none so_far session asked lined (InTurn work later none is) good in
        let quiet : AwaitsNone low high req so_far.node = λ k from below w got. idle k w got in
        record { me_so = refl; works_so = λ q other. refl; sessions_so = λ q other. refl; was = quiet; is = quiet }
    next_differs so_far session asked lined (Again work course from next there request) good =
        same_differ so_far (λ k above below w got. next_awaits_none so_far session asked lined (Again work course from next there request)
        good k w got)
    next_differs so_far session asked lined (AgainAlone work from next there none) good =
        same_differ so_far (λ k above below w got. next_awaits_none so_far session asked lined (AgainAlone work from next there none) good k
        w got)
