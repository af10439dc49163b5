-- Over a change of a node a request that is touched stays so as long as it is there; and a request that is there was there before, or is
-- the one with which the step begins.
use Rattle.std.proofs.Common.{◌≡◌, ◌≢◌, ◌⊎◌, inl, inr, ⊎_elim, ℕ, true, false, Option, None, is_some, sym, ap, subst, ◌∙◌}
use Rattle.std.specs.Ordering.{nat_cmp}
use Rattle.std.specs.FinMap as tree
use Rattle.std.proofs.lemmas.Bool.{cases_eq}
use Rattle.proof_tools.proofs.FiniteMaps.{get-remove_same, get-remove_other, get-insert_other}
use Rattle.object_id.specs.declared.cause.Cause.{Cause}
use Rattle.object_id.specs.declared.cause.Cause.TheVariants.{Halt}
use Rattle.peer_proto.specs.declared.guest.GuestRsp.{GuestRsp}
use Rattle.peer_proto.specs.declared.guest.VdiAsk.TheVariants as disk_commands
use Rattle.gateway.specs.Work.{zones_for}
use Rattle.gateway.specs.State.{Work, is_touched}
use Rattle.gateway.proofs.MapLaws.{touched-stays, without_touch-others}
use Rattle.sheep_node.specs.declared.ask.Ask.{Ask}
use Rattle.sheep_node.specs.declared.ask.Ask.TheVariants as asks
use Rattle.sheep_node.specs.declared.course.Course.{Course}
use Rattle.sheep_node.specs.declared.course.Request.{Request}
use Rattle.sheep_node.specs.declared.course.Course.TheVariants.{Waiting, Driving, Commanding, Checking, DoingWork, AwaitingDecision}
use Rattle.guest_driver.specs.Driver as drivers
use Rattle.disk_check.specs.Check.{begin_check}
use Rattle.sheep_node.specs.declared.input.Input.{Input}
use Rattle.sheep_node.specs.declared.input.Input.TheVariants as inputs
use Rattle.sheep_node.specs.State.{Node}
use Rattle.sheep_node.specs.StepState.{StepState, at_first, request_ended}
use Rattle.sheep_node.specs.Changes as changes
use Rattle.sheep_node.specs.Changes.{IsSoundStep, gateway_with_touch, without_ended_work, Outcome, ToWork, ToEntry, ToReply}
use Rattle.sheep_node.specs.Changes.{without_denied_work, zones_of_members, RequestSteps, DiskBegins, DiskGoesOn, CommandBegins}
use Rattle.sheep_node.specs.Changes.{CommandGoesOn, CommandDecided, CheckBegins, CheckGoesOn, ObjectBegins, ObjectIsDone, EntryBegins}
use Rattle.sheep_node.specs.Changes.{EntryDecided, WorkIsNext, AtOnce, InTurn, Again, AgainAlone, Change}
use Rattle.sheep_node.proofs.RefusedCourses.{course_refused-keeps, request_refused-keeps}
use Rattle.sheep_node.proofs.OneWorkChanges.{StepHasOneWork, never_alone}
use Rattle.overlap_law.proofs.UnansweredMessages.{IsTouchedOrGone, gone_key}

module _ (q : ℕ) where
  -- a request that ended is no more, and the others are as they were
  ended_touched : (session req : ℕ) (reply : GuestRsp) (so_far : StepState) → IsTouchedOrGone q so_far
      → IsTouchedOrGone q (request_ended session req reply so_far)
  unfolding request_ended
  ended_touched session req reply so_far touched = ⊎_elim
      (λ (own : q ≡ req).
      inr (gone_key (tree.get (tree.remove so_far.node.requests req) q)
      (ap (tree.get (tree.remove so_far.node.requests req)) own ∙ get-remove_same so_far.node.requests req)))
      (λ (other : q ≢ req). ⊎_elim
      (λ (still : is_touched q so_far.node.gateway ≡ true). inl (without_touch-others q req so_far.node.gateway other ∙ still))
      (λ (gone : tree.contains_key so_far.node.requests q ≡ false).
      inr (ap (λ (o : Option Request). is_some o) (get-remove_other so_far.node.requests req q other) ∙ gone))
      touched)
      (cases_eq q req)

  module _ {input : Input} {node : Node} where
    steps_touched : (so_far : StepState) (session req : ℕ) (next : Outcome) (moved : StepState)
        → RequestSteps input node so_far session req next moved
        → is_touched q so_far.node.gateway ≡ true → is_touched q moved.node.gateway ≡ true
    steps_touched so_far session req next moved (DiskBegins ask disk there on may) still = still
    steps_touched so_far session req next moved (DiskGoesOn number work attempt status bytes driver disk step ends on is) still =
        touched-stays q req work.work status so_far.node.gateway still
    steps_touched so_far session req next moved (CommandBegins ask step arrival is) still = still
    steps_touched so_far session req next moved (CommandGoesOn number work attempt status bytes op step ends is) still =
        touched-stays q req work.work status so_far.node.gateway still
    steps_touched so_far session req next moved (CommandDecided entry op step from read there waits is) still = still
    steps_touched so_far session req next moved (CheckBegins inode arrival on) still = still
    steps_touched so_far session req next moved (CheckGoesOn number work attempt status bytes check step ends is) still =
        touched-stays q req work.work status so_far.node.gateway still
    steps_touched so_far session req next moved (ObjectBegins asked arrival) still = still
    steps_touched so_far session req next moved (ObjectIsDone number work attempt status bytes asked ends) still =
        touched-stays q req work.work status so_far.node.gateway still
    steps_touched so_far session req next moved (EntryBegins entry arrival) still = still
    steps_touched so_far session req next moved (EntryDecided entry wanted from read there waits) still = still

    next_touched : (so_far : StepState) (session req : ℕ) (asked : Work) (lined : StepState)
        → WorkIsNext input node so_far session req asked lined
        → is_touched q so_far.node.gateway ≡ true → is_touched q lined.node.gateway ≡ true
    next_touched so_far session req asked lined (AtOnce work moved steps begins) still =
        steps_touched so_far session req (ToWork work) moved steps still
    next_touched so_far session req asked lined (InTurn work later none is) still = still
    next_touched so_far session req asked lined (Again work course from next there request) still = still
    next_touched so_far session req asked lined (AgainAlone work from next there none) still = still

    pub change_touched : (so_far next : StepState) → StepHasOneWork so_far → Change input node so_far next
        → is_touched q so_far.node.gateway ≡ true
        → IsTouchedOrGone q next
    change_touched so_far next good (changes.Marks req number work attempt status learns over) still =
        inl (touched-stays q req work.work status so_far.node.gateway still)
    change_touched so_far next good (changes.Fails session req number work attempt status course ends done why) still =
        inl (touched-stays q req work.work status so_far.node.gateway still)
    change_touched so_far next good (changes.Stops session req number work attempt status course bytes ends over) still =
        inl (touched-stays q req work.work status so_far.node.gateway still)
    change_touched so_far next good (changes.Refuses session req number work attempt status course cause ends done why) still =
        course_refused-keeps (IsTouchedOrGone q) ended_touched (λ entry before now. now) session req cause course
        (without_ended_work session req work status so_far) (inl (touched-stays q req work.work status so_far.node.gateway still))
    change_touched so_far next good (changes.Opens session req asked lined comes enough) still =
        inl (next_touched so_far session req asked lined comes still)
    change_touched so_far next good (changes.Holds session req asked lined comes short touched) still =
        inl (next_touched so_far session req asked lined comes still)
    change_touched so_far next good (changes.Denies session req asked lined request comes short untouched there own) still =
        request_refused-keeps (IsTouchedOrGone q) ended_touched (λ entry before now. now) req
        (Halt (zones_of_members lined.node) (zones_for asked.work)) request (without_denied_work session req asked lined)
        (inl (next_touched so_far session req asked lined comes still))
    change_touched so_far next good (changes.Strays req work gateway there none apart) still =
        absurd (never_alone req work so_far there none good)
    change_touched so_far next good (changes.Lines session req work moved steps waits) still =
        inl (steps_touched so_far session req (ToWork work) moved steps still)
    change_touched so_far next good (changes.Appends session req entry moved steps) still =
        inl (steps_touched so_far session req (ToEntry entry) moved steps still)
    change_touched so_far next good (changes.Replies session req reply moved steps) still =
        ended_touched session req reply moved (inl (steps_touched so_far session req (ToReply reply) moved steps still))
    change_touched so_far next good (changes.Arrives session req ask disk arrival on) still = inl still
    change_touched so_far next good (changes.Rejects session req ask cause arrival) still = inl still
    change_touched so_far next good (changes.Recovers due) still = inl still

-- ---- the requests

module _ (q : ℕ) (input : Input) (node : Node) where
  -- the step begins with the request, that a guest asks
  pub record Arrives (so_far : StepState) : Type 0 where
    pub session : ℕ
    pub ask : Ask
    pub from : input ≡ inputs.Guest q session ask
    pub first : so_far ≡ at_first node

  -- the request was there, or arrives
  abbrev pub WasOrArrives : StepState → Type 0
  WasOrArrives so_far = (tree.contains_key so_far.node.requests q ≡ true) ⊎ Arrives so_far

  module _ (origin : StepState) where
    -- if it is there
    abbrev Came : StepState → Type 0
    Came so_far = tree.contains_key so_far.node.requests q ≡ true → WasOrArrives origin

    ended_came : (session req : ℕ) (reply : GuestRsp) (so_far : StepState) → Came so_far → Came (request_ended session req reply so_far)
    unfolding request_ended
    ended_came session req reply so_far came there = ⊎_elim
        (λ (own : q ≡ req).
        let none = gone_key (tree.get (tree.remove so_far.node.requests req) q)
        (ap (tree.get (tree.remove so_far.node.requests req)) own ∙ get-remove_same so_far.node.requests req) in
        absurd (cc (none, there)))
        (λ (other : q ≢ req). came (sym (ap (λ (o : Option Request). is_some o) (get-remove_other so_far.node.requests req q other))
        ∙ there)) (cases_eq q req)

    -- one request is there, which was, or arrives
    put_came : (requests : tree.FinMap nat_cmp Request) (req : ℕ) (request : Request) → (q ≡ req → WasOrArrives origin)
        → (tree.contains_key requests q ≡ true → WasOrArrives origin) → tree.contains_key (tree.insert requests req request) q ≡ true
        → WasOrArrives origin
    put_came requests req request own came there = ⊎_elim own
        (λ (other : q ≢ req). came (sym (ap (λ (o : Option Request). is_some o) (get-insert_other requests req request q other)) ∙ there))
        (cases_eq q req)

  here_came : (so_far : StepState) (session req : ℕ) (course : Course) → changes.HasRequest session req course so_far → q ≡ req
      → WasOrArrives so_far
  here_came so_far session req course there own =
      inl (ap (λ (o : Option Request). is_some o) (ap (tree.get so_far.node.requests) own ∙ there))

  new_came : (so_far : StepState) (session req : ℕ) (ask : Ask) (refusal : Option Cause)
      → changes.Arrival input node so_far session req ask refusal → q ≡ req
      → WasOrArrives so_far
  new_came so_far session req ask refusal arrival own =
      inr (record {
        session = session;
        ask = ask;
        from = subst (λ (k : ℕ). input ≡ inputs.Guest k session ask) (sym own) arrival.from;
        first = arrival.first;
      })

  abbrev pub CameIn : StepState → StepState → Type 0
  CameIn so_far next = Came so_far next

  -- the request that takes a step
  put_in : (so_far : StepState) (session req : ℕ) (course : Course) → (q ≡ req → WasOrArrives so_far)
      → tree.contains_key (tree.insert so_far.node.requests req (record { session = session; course = course })) q ≡ true
      → WasOrArrives so_far
  put_in so_far session req course own =
      put_came so_far so_far.node.requests req (record { session = session; course = course }) own (λ there. inl there)

  steps_came : (so_far : StepState) (session req : ℕ) (next : Outcome) (moved : StepState)
      → RequestSteps input node so_far session req next moved → CameIn so_far moved
  steps_came so_far session req next moved (DiskBegins ask disk there on may) =
      put_in so_far session req (Driving (drivers.begin_driver disk ask).driver) (here_came so_far session req (Waiting ask) there)
  steps_came so_far session req next moved (DiskGoesOn number work attempt status bytes driver disk step ends on is) =
      put_in so_far session req (Driving step.driver) (here_came so_far session req (Driving driver) ends.ends.request)
  steps_came so_far session req next moved (CommandBegins ask step arrival is) =
      put_in so_far session req (Commanding step.op) (new_came so_far session req (asks.Vdi ask) None arrival)
  steps_came so_far session req next moved (CommandGoesOn number work attempt status bytes op step ends is) =
      put_in so_far session req (Commanding step.op) (here_came so_far session req (Commanding op) ends.ends.request)
  steps_came so_far session req next moved (CommandDecided entry op step from read there waits is) =
      put_in so_far session req (Commanding step.op) (here_came so_far session req (Commanding op) there)
  steps_came so_far session req next moved (CheckBegins inode arrival on) =
      put_in so_far session req (Checking (begin_check inode).check)
      (new_came so_far session req (asks.Vdi disk_commands.Check) None arrival)
  steps_came so_far session req next moved (CheckGoesOn number work attempt status bytes check step ends is) =
      put_in so_far session req (Checking step.check) (here_came so_far session req (Checking check) ends.ends.request)
  steps_came so_far session req next moved (ObjectBegins asked arrival) =
      put_in so_far session req (DoingWork asked) (new_came so_far session req (asks.Object asked) None arrival)
  steps_came so_far session req next moved (ObjectIsDone number work attempt status bytes asked ends) = λ there. inl there
  steps_came so_far session req next moved (EntryBegins entry arrival) =
      put_in so_far session req (AwaitingDecision entry) (new_came so_far session req (asks.Entry entry) None arrival)
  steps_came so_far session req next moved (EntryDecided entry wanted from read there waits) = λ there. inl there

  pub next_came : (so_far : StepState) (session req : ℕ) (asked : Work) (lined : StepState)
      → WorkIsNext input node so_far session req asked lined → CameIn so_far lined
  next_came so_far session req asked lined (AtOnce work moved steps begins) = steps_came so_far session req (ToWork work) moved steps
  next_came so_far session req asked lined (InTurn work later none is) = λ there. inl there
  next_came so_far session req asked lined (Again work course from next there request) = λ there. inl there
  next_came so_far session req asked lined (AgainAlone work from next there none) = λ there. inl there

  pub change_came : (so_far next : StepState) → Change input node so_far next → CameIn so_far next
  change_came so_far next (changes.Marks req number work attempt status learns over) = λ there. inl there
  change_came so_far next (changes.Fails session req number work attempt status course ends done why) = λ there. inl there
  change_came so_far next (changes.Stops session req number work attempt status course bytes ends over) = λ there. inl there
  change_came so_far next (changes.Refuses session req number work attempt status course cause ends done why) =
      course_refused-keeps (Came so_far) (ended_came so_far) (λ entry before now. now) session req cause course
      (without_ended_work session req work status so_far) (λ there. inl there)
  change_came so_far next (changes.Opens session req asked lined comes enough) = next_came so_far session req asked lined comes
  change_came so_far next (changes.Holds session req asked lined comes short touched) = next_came so_far session req asked lined comes
  change_came so_far next (changes.Denies session req asked lined request comes short untouched there own) =
      request_refused-keeps (Came so_far) (ended_came so_far) (λ entry before now. now) req
      (Halt (zones_of_members lined.node) (zones_for asked.work)) request (without_denied_work session req asked lined)
      (next_came so_far session req asked lined comes)
  change_came so_far next (changes.Strays req work gateway there none apart) = λ there. inl there
  change_came so_far next (changes.Lines session req work moved steps waits) = steps_came so_far session req (ToWork work) moved steps
  change_came so_far next (changes.Appends session req entry moved steps) = steps_came so_far session req (ToEntry entry) moved steps
  change_came so_far next (changes.Replies session req reply moved steps) =
      ended_came so_far session req reply moved (steps_came so_far session req (ToReply reply) moved steps)
  change_came so_far next (changes.Arrives session req ask disk arrival on) =
      put_in so_far session req (Waiting ask) (new_came so_far session req (asks.Disk ask) None arrival)
  change_came so_far next (changes.Rejects session req ask cause arrival) = λ there. inl there
  change_came so_far next (changes.Recovers due) = λ there. inl there
