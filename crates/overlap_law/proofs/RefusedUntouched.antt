-- A change of a node refuses a request only as it arrives, before its first work, or while it is untouched, also by what the step is told.
use Rattle.std.proofs.Common.{◌≡◌, ◌⊎◌, inl, inr, ⊎_elim, ℕ, ◌+◌, nat_le, not, ◌&&◌, Bool, true, false, cond, List, Contains, Option, Some}
use Rattle.std.proofs.Common.{None, is_some, refl, sym, ap, subst, ◌∙◌}
use Rattle.std.specs.Option.{option_map_or}
use Rattle.std.specs.FinMap as tree
use Rattle.std.proofs.lemmas.Bool.{and_parts, not-true}
use Rattle.std.proofs.lemmas.Option.{same_Some}
use Rattle.proof_tools.proofs.Lists.{Contains-first}
use Rattle.object_id.specs.declared.cause.Cause.{Cause}
use Rattle.object_id.specs.declared.cause.Cause.TheVariants.{Halt}
use Rattle.peer_proto.specs.declared.guest.GuestRsp.{GuestRsp}
use Rattle.peer_proto.specs.declared.guest.GuestRsp.TheVariants as replies
use Rattle.peer_proto.specs.declared.guest.VdiAsk.TheVariants as disk_commands
use Rattle.peer_service.specs.State.{effects_of}
use Rattle.peer_service.specs.LogReading.{decision_on}
use Rattle.gateway.specs.declared.message.Status.{Status}
use Rattle.gateway.specs.Work.{is_making, zones_for}
use Rattle.gateway.specs.Attempt as gateways
use Rattle.gateway.specs.Attempt.{may_be_made, first_failure}
use Rattle.gateway.specs.State.{Work, is_touched}
use Rattle.gateway.specs.Step.{attempt_with_status}
use Rattle.gateway.proofs.MapLaws.{touched-made, touched-stays}
use Rattle.guest_driver.specs.InodeQueue as lines
use Rattle.sheep_node.specs.declared.ask.Ask.{Ask}
use Rattle.sheep_node.specs.declared.ask.Ask.TheVariants as asks
use Rattle.sheep_node.specs.declared.course.Course.{Course}
use Rattle.sheep_node.specs.declared.course.Request.{Request}
use Rattle.sheep_node.specs.declared.course.Course.TheVariants.{Waiting, Commanding, AwaitingDecision}
use Rattle.sheep_node.specs.declared.input.Input.{Input}
use Rattle.sheep_node.specs.declared.input.Input.TheVariants as inputs
use Rattle.sheep_node.specs.State.{Node}
use Rattle.sheep_node.specs.StepState.{StepState, with_gateway, session_in, replies_in_order, request_ended}
use Rattle.sheep_node.specs.RequestWorks.{course_refused}
use Rattle.sheep_node.specs.Courses.{inode_open, work_reply}
use Rattle.sheep_node.specs.Changes as changes
use Rattle.sheep_node.specs.Changes.{IsTold, IsSoundStep, LearnsStatus, HasRequest, gateway_with_touch, without_ended_work}
use Rattle.sheep_node.specs.Changes.{refusal_after_status, Outcome, ToWork, ToEntry, ToReply, outcome_of_driver, outcome_of_command}
use Rattle.sheep_node.specs.Changes.{outcome_of_check, without_denied_work, zones_of_members, RequestSteps, DiskBegins, DiskGoesOn}
use Rattle.sheep_node.specs.Changes.{CommandBegins, CommandGoesOn, CommandDecided, CheckBegins, CheckGoesOn, ObjectBegins, ObjectIsDone}
use Rattle.sheep_node.specs.Changes.{EntryBegins, EntryDecided, WorkIsNext, AtOnce, InTurn, Again, AgainAlone, Change}
use Rattle.sheep_node.proofs.RefusedCourses.{this_refused-keeps}
use Rattle.sheep_node.proofs.OneWorkChanges.{StepHasOneWork, steps_free, never_alone}
use Rattle.overlap_law.specs.PastWords.{is_refusal}
use Rattle.overlap_law.proofs.RefusingNothing.{RefusesNothing, driver_refuses_nothing, command_refuses_nothing, entry_refuses_nothing}
use Rattle.overlap_law.proofs.RefusingNothing.{check_refuses_nothing, work_refuses_nothing}
use Rattle.overlap_law.proofs.RequestsInSteps.{replies-in_order}
use Rattle.overlap_law.proofs.TouchedStay.{Arrives, next_came}
use Rattle.overlap_law.proofs.WorkedCourses.{HadNoWork, is_past_first, may_have_worked}

-- an input tells one thing of a message
pub told_once : (input : Input) (one other : ℕ) (status another : Status) → IsTold input one status → IsTold input other another
    → status ≡ another
told_once (inputs.Guest req session ask) one other status another told too = absurd told
told_once (inputs.Request request) one other status another told too = absurd told
told_once (inputs.Reply rsp) one other status another told too = sym told.1 ∙ too.1
told_once (inputs.Lost lost) one other status another told too = sym told.1 ∙ too.1
told_once (inputs.LogEntry entry) one other status another told too = absurd told
told_once inputs.Put one other status another told too = absurd told
told_once inputs.RecoverTick one other status another told too = absurd told
told_once inputs.RetryTick one other status another told too = absurd told
told_once (inputs.Back entries) one other status another told too = absurd told

pub if_some : {X : Type 0} (b : Bool) (o : Option X) (x : X) → cond b o None ≡ Some x → b ≡ true
if_some {X = X} true o x is = refl
if_some {X = X} false o x is = absurd (cc (is))

abbrev pub Replies : Type 0
Replies = List (ℕ × GuestRsp)

module _ (input : Input) (node : Node) (sound : IsSoundStep input node) (so_far : StepState) (good : StepHasOneWork so_far) where
  -- a request isn't touched, nor by what the step is told of its work
  pub record IsUntouched (q : ℕ) : Type 0 where
    pub asked : tree.contains_key so_far.node.requests q ≡ true
    pub before : is_touched q so_far.node.gateway ≡ false
    pub told : (work : Work) → tree.get so_far.node.gateway.works q ≡ Some work → is_making work.work ≡ true
        → (number : ℕ) (status : Status)
        → IsTold input number status → may_be_made status ≡ true → ⊥

  -- why it may be refused
  abbrev pub MayBeRefused : ℕ → Type 0
  MayBeRefused q = Arrives q input node so_far ⊎ (HadNoWork q so_far ⊎ IsUntouched q)

  -- what is touched by a status that is learned
  untouched_before : (q : ℕ) (next : StepState) → (is_touched q so_far.node.gateway ≡ true → is_touched q next.node.gateway ≡ true)
      → is_touched q next.node.gateway ≡ false → is_touched q so_far.node.gateway ≡ false
  untouched_before q next stays none = by_touch (is_touched q so_far.node.gateway) refl
    where
      by_touch : (b : Bool) → is_touched q so_far.node.gateway ≡ b → is_touched q so_far.node.gateway ≡ false
      by_touch false is = is
      by_touch true is = let yes = stays is in absurd (cc (yes, none))

  learned_untouched : (q number : ℕ) (work : Work) (attempt : gateways.Attempt) (status : Status)
      → LearnsStatus input node so_far q number work attempt status
      → is_touched q (gateway_with_touch q work status so_far) ≡ false → (w : Work) → tree.get so_far.node.gateway.works q ≡ Some w
      → is_making w.work ≡ true
      → (k : ℕ) (told : Status) → IsTold input k told → may_be_made told ≡ true → ⊥
  learned_untouched q number work attempt status learns none w there making k told so made =
      let same : work ≡ w = same_Some work w (sym learns.there ∙ there) in
      let status_so : told ≡ status = told_once input k number told status so learns.told in
      let yes = touched-made q work.work status so_far.node.gateway (ap (λ (v : Work). is_making v.work) same ∙ making)
      (ap may_be_made (sym status_so) ∙ made) in
      cc (yes, none)

  ended_untouched : (q number : ℕ) (work : Work) (attempt : gateways.Attempt) (status : Status)
      → LearnsStatus input node so_far q number work attempt status
      → tree.contains_key so_far.node.requests q ≡ true → is_touched q (gateway_with_touch q work status so_far) ≡ false → IsUntouched q
  ended_untouched q number work attempt status learns asked none = record {
    asked = asked;
    before = untouched_before q (with_gateway (gateway_with_touch q work status so_far) so_far)
        (touched-stays q q work.work status so_far.node.gateway) none;
    told = learned_untouched q number work attempt status learns none;
  }

  -- a request without a work isn't told of
  idle_untouched : (q : ℕ) (next : StepState) → (is_touched q so_far.node.gateway ≡ true → is_touched q next.node.gateway ≡ true)
      → tree.contains_key so_far.node.requests q ≡ true → tree.get so_far.node.gateway.works q ≡ None
      → is_touched q next.node.gateway ≡ false → IsUntouched q
  idle_untouched q next stays asked idle none = record {
    asked = asked;
    before = untouched_before q next stays none;
    told = λ work there making number status told made. absurd (cc (idle, there));
  }

  stepped_untouched : (session q : ℕ) (next : Outcome) (moved : StepState) → (steps : RequestSteps input node so_far session q next moved)
      → tree.contains_key so_far.node.requests q ≡ true → tree.get moved.node.gateway.works q ≡ None
      → is_touched q moved.node.gateway ≡ false → IsUntouched q
  stepped_untouched session q next moved (DiskBegins ask disk there on may) asked idle none =
      idle_untouched q moved (λ still. still) asked idle none
  stepped_untouched session q next moved (DiskGoesOn number work attempt status bytes driver disk step ends on is) asked idle none =
      ended_untouched q number work attempt status ends.ends.learns asked none
  stepped_untouched session q next moved (CommandBegins ask step arrival is) asked idle none =
      idle_untouched q moved (λ still. still) asked idle none
  stepped_untouched session q next moved (CommandGoesOn number work attempt status bytes op step ends is) asked idle none =
      ended_untouched q number work attempt status ends.ends.learns asked none
  stepped_untouched session q next moved (CommandDecided entry op step from read there waits is) asked idle none =
      idle_untouched q moved (λ still. still) asked idle none
  stepped_untouched session q next moved (CheckBegins inode arrival on) asked idle none =
      idle_untouched q moved (λ still. still) asked idle none
  stepped_untouched session q next moved (CheckGoesOn number work attempt status bytes check step ends is) asked idle none =
      ended_untouched q number work attempt status ends.ends.learns asked none
  stepped_untouched session q next moved (ObjectBegins does arrival) asked idle none =
      idle_untouched q moved (λ still. still) asked idle none
  stepped_untouched session q next moved (ObjectIsDone number work attempt status bytes does ends) asked idle none =
      ended_untouched q number work attempt status ends.ends.learns asked none
  stepped_untouched session q next moved (EntryBegins entry arrival) asked idle none =
      idle_untouched q moved (λ still. still) asked idle none
  stepped_untouched session q next moved (EntryDecided entry wanted from read there waits) asked idle none =
      idle_untouched q moved (λ still. still) asked idle none

  next_untouched : (session q : ℕ) (tried : Work) (lined : StepState) → WorkIsNext input node so_far session q tried lined
      → tree.contains_key so_far.node.requests q ≡ true → is_touched q lined.node.gateway ≡ false → IsUntouched q
  next_untouched session q tried lined (AtOnce work moved steps begins) asked none =
      stepped_untouched session q (ToWork work) moved steps asked (steps_free so_far session q (ToWork work) moved steps sound
      good).free.idle none
  next_untouched session q tried lined (InTurn work later waits is) asked none =
      let first : lines.Waiting = record { req = q; work = work } in
      idle_untouched q lined (λ still. still) asked
      (good.waiting_free session first (subst (λ (list : List lines.Waiting). Contains list first) (sym is)
      (Contains-first first first later refl))) none
  next_untouched session q tried lined (Again work course from next there request) asked none = record {
    asked = asked;
    before = none;
    told = λ w at making number status told made. subst (λ (i : Input). IsTold i number status) from told;
  }
  next_untouched session q tried lined (AgainAlone work from next there alone) asked none =
      absurd (never_alone q tried so_far there alone good)

  -- ---- what is refused

  -- a reply that refuses was given before, or its request may be refused
  abbrev pub RefusesMay : Replies → Type 0
  RefusesMay all =
      (reply : ℕ × GuestRsp) → Contains all reply → is_refusal reply.1 ≡ true → Contains so_far.outputs.replies reply ⊎ MayBeRefused reply.0

  same_refuses : (all : Replies) → all ≡ so_far.outputs.replies → RefusesMay all
  same_refuses all same reply there refuses = inl (subst (λ (r : Replies). Contains r reply) same there)

  -- a request gets its reply
  one_refuses : (req : ℕ) (given : GuestRsp) (all : Replies) → (is_refusal given ≡ true → MayBeRefused req) → RefusesMay all
      → RefusesMay (replies_in_order (req, given) all)
  one_refuses req given all may before reply there refuses = ⊎_elim
      (λ (new : (req, given) ≡ reply).
      inr (subst (λ (r : ℕ × GuestRsp). MayBeRefused r.0) new (may (ap (λ (r : ℕ × GuestRsp). is_refusal r.1) new ∙ refuses))))
      (λ (old : Contains all reply). before reply old refuses)
      (replies-in_order (req, given) all reply there)

  ended_refuses : (req : ℕ) → MayBeRefused req → (session : ℕ) (given : GuestRsp) (now : StepState) → RefusesMay now.outputs.replies
      → RefusesMay (request_ended session req given now).outputs.replies
  unfolding request_ended
  ended_refuses req may session given now before = one_refuses req given now.outputs.replies (λ refuses. may) before

  end_refuses : (session req : ℕ) (given : GuestRsp) (now : StepState) → (is_refusal given ≡ true → MayBeRefused req)
      → RefusesMay now.outputs.replies
      → RefusesMay (request_ended session req given now).outputs.replies
  unfolding request_ended
  end_refuses session req given now may before = one_refuses req given now.outputs.replies may before

  pub steps_silent : (session req : ℕ) (next : Outcome) (moved : StepState) → RequestSteps input node so_far session req next moved
      → moved.outputs.replies ≡ so_far.outputs.replies
  steps_silent session req next moved (DiskBegins ask disk there on may) = refl
  steps_silent session req next moved (DiskGoesOn number work attempt status bytes driver disk step ends on is) = refl
  steps_silent session req next moved (CommandBegins ask step arrival is) = refl
  steps_silent session req next moved (CommandGoesOn number work attempt status bytes op step ends is) = refl
  steps_silent session req next moved (CommandDecided entry op step from read there waits is) = refl
  steps_silent session req next moved (CheckBegins inode arrival on) = refl
  steps_silent session req next moved (CheckGoesOn number work attempt status bytes check step ends is) = refl
  steps_silent session req next moved (ObjectBegins asked arrival) = refl
  steps_silent session req next moved (ObjectIsDone number work attempt status bytes asked ends) = refl
  steps_silent session req next moved (EntryBegins entry arrival) = refl
  steps_silent session req next moved (EntryDecided entry wanted from read there waits) = refl

  pub next_silent : (session req : ℕ) (asked : Work) (lined : StepState) → WorkIsNext input node so_far session req asked lined
      → lined.outputs.replies ≡ so_far.outputs.replies
  next_silent session req asked lined (AtOnce work moved steps begins) = steps_silent session req (ToWork work) moved steps
  next_silent session req asked lined (InTurn work later none is) = refl
  next_silent session req asked lined (Again work course from next there request) = refl
  next_silent session req asked lined (AgainAlone work from next there none) = refl

  -- an outcome that refuses something isn't one of those
  refuses_never : (next : Outcome) (reply : GuestRsp) → next ≡ ToReply reply → is_refusal reply ≡ true → RefusesNothing next → ⊥
  refuses_never next reply is refuses none = let never : is_refusal reply ≡ false = subst RefusesNothing is none in cc (never, refuses)

  arrives_so : (session req : ℕ) (ask : Ask) (refusal : Option Cause) → changes.Arrival input node so_far session req ask refusal
      → MayBeRefused req
  arrives_so session req ask refusal arrival = inl (record { session = session; ask = ask; from = arrival.from; first = arrival.first })

  had_none : (session req : ℕ) (course : Course) → HasRequest session req course so_far → may_have_worked course ≡ false → MayBeRefused req
  had_none session req course there unworked =
      inr (inl (record { request = record { session = session; course = course }; there = there; unworked = unworked }))

  steps_refuse : (session req : ℕ) (next : Outcome) (moved : StepState) → RequestSteps input node so_far session req next moved
      → (reply : GuestRsp) → next ≡ ToReply reply
      → is_refusal reply ≡ true → MayBeRefused req
  steps_refuse session req next moved (DiskBegins ask disk there on may) reply is refuses = had_none session req (Waiting ask) there refl
  steps_refuse session req next moved (DiskGoesOn number work attempt status bytes driver disk step ends on done) reply is refuses =
      absurd (refuses_never (outcome_of_driver step.act) reply is refuses (driver_refuses_nothing disk.inode bytes driver step done))
  steps_refuse session req next moved (CommandBegins ask step arrival begins) reply is refuses =
      arrives_so session req (asks.Vdi ask) None arrival
  steps_refuse session req next moved (CommandGoesOn number work attempt status bytes op step ends done) reply is refuses =
      absurd (refuses_never (outcome_of_command step.act) reply is refuses (command_refuses_nothing bytes op step done))
  steps_refuse session req next moved (CommandDecided entry op step from read there waits decided) reply is refuses = ⊎_elim
      (λ (first : is_past_first op.stage ≡ false). had_none session req (Commanding op) there first)
      (λ (none : RefusesNothing (outcome_of_command step.act)). absurd (refuses_never (outcome_of_command step.act) reply is refuses none))
      (entry_refuses_nothing (effects_of so_far.node.peer) (inode_open (session_in session so_far).disk) (decision_on entry node.peer) op
      step decided)
  steps_refuse session req next moved (CheckBegins inode arrival on) reply is refuses =
      arrives_so session req (asks.Vdi disk_commands.Check) None arrival
  steps_refuse session req next moved (CheckGoesOn number work attempt status bytes check step ends done) reply is refuses =
      absurd (refuses_never (outcome_of_check step.act) reply is refuses (check_refuses_nothing step.act))
  steps_refuse session req next moved (ObjectBegins asked arrival) reply is refuses =
      arrives_so session req (asks.Object asked) None arrival
  steps_refuse session req next moved (ObjectIsDone number work attempt status bytes asked ends) reply is refuses =
      absurd (refuses_never (ToReply (work_reply asked bytes)) reply is refuses (work_refuses_nothing asked bytes))
  steps_refuse session req next moved (EntryBegins entry arrival) reply is refuses = arrives_so session req (asks.Entry entry) None arrival
  steps_refuse session req next moved (EntryDecided entry wanted from read there waits) reply is refuses =
      had_none session req (AwaitingDecision wanted) there refl

  -- ---- every change

  refused_why : (req number : ℕ) (work : Work) (attempt : gateways.Attempt) (status : Status) (cause : Cause)
      → refusal_after_status req number work attempt status so_far ≡ Some cause
      → is_touched req (gateway_with_touch req work status so_far) ≡ false
  refused_why req number work attempt status cause why =
      let gateway = gateway_with_touch req work status so_far in
      let marked = attempt_with_status number status attempt in
      let both = if_some (nat_le gateway.tries (work.ended + 1) && not (is_touched req gateway))
      (first_failure work.work marked.epoch marked.messages) cause why in
      not-true (is_touched req gateway) (and_parts (nat_le gateway.tries (work.ended + 1)) (not (is_touched req gateway)) both).1

  pub change_refuses : (next : StepState) → Change input node so_far next → RefusesMay next.outputs.replies
  change_refuses next (changes.Marks req number work attempt status learns over) = same_refuses next.outputs.replies refl
  change_refuses next (changes.Fails session req number work attempt status course ends done why) = same_refuses next.outputs.replies refl
  change_refuses next (changes.Stops session req number work attempt status course bytes ends over) = same_refuses next.outputs.replies refl
  change_refuses next (changes.Refuses session req number work attempt status course cause ends done why) =
      let may : MayBeRefused req
      = inr (inr (ended_untouched req number work attempt status ends.learns (ap (λ (o : Option Request). is_some o) ends.request)
      (refused_why req number work attempt status cause why))) in
      this_refused-keeps req (λ (now : StepState). RefusesMay now.outputs.replies) (ended_refuses req may) (λ entry before now. now) session
      cause course (without_ended_work session req work status so_far) (same_refuses so_far.outputs.replies refl)
  change_refuses next (changes.Opens session req asked lined comes enough) =
      same_refuses lined.outputs.replies (next_silent session req asked lined comes)
  change_refuses next (changes.Holds session req asked lined comes short touched) =
      same_refuses lined.outputs.replies (next_silent session req asked lined comes)
  change_refuses next (changes.Denies session req tried lined request comes short untouched there own) = by_request request there
    where
      cause : Cause
      cause = Halt (zones_of_members lined.node) (zones_for tried.work)

      denied : StepState
      denied = without_denied_work session req tried lined

      silent : RefusesMay denied.outputs.replies
      silent = same_refuses lined.outputs.replies (next_silent session req tried lined comes)

      may : (r : Request) → tree.get lined.node.requests req ≡ Some r → MayBeRefused req
      may r there = ⊎_elim
          (λ (was : tree.contains_key so_far.node.requests req ≡ true). inr
          (inr (next_untouched session req tried lined comes was untouched))) (λ (arrives : Arrives req input node so_far). inl arrives)
          (next_came req input node so_far session req tried lined comes (ap (λ (o : Option Request). is_some o) there))

      by_request : (request : Option Request) → tree.get lined.node.requests req ≡ request
          → RefusesMay (option_map_or (λ (r : Request). course_refused r.session req cause r.course denied) request denied).outputs.replies
      by_request None none = silent
      by_request (Some r) there =
          this_refused-keeps req (λ (now : StepState). RefusesMay now.outputs.replies) (ended_refuses req (may r there))
          (λ entry before now. now) r.session cause r.course denied silent
  change_refuses next (changes.Strays req work gateway there none apart) = same_refuses next.outputs.replies refl
  change_refuses next (changes.Lines session req work moved steps waits) =
      same_refuses moved.outputs.replies (steps_silent session req (ToWork work) moved steps)
  change_refuses next (changes.Appends session req entry moved steps) =
      same_refuses moved.outputs.replies (steps_silent session req (ToEntry entry) moved steps)
  change_refuses next (changes.Replies session req reply moved steps) =
      end_refuses session req reply moved (λ refuses. steps_refuse session req (ToReply reply) moved steps reply refl refuses)
      (same_refuses moved.outputs.replies (steps_silent session req (ToReply reply) moved steps))
  change_refuses next (changes.Arrives session req ask disk arrival on) = same_refuses next.outputs.replies refl
  change_refuses next (changes.Rejects session req ask cause arrival) =
      one_refuses req (replies.Refused cause) so_far.outputs.replies (λ refuses. arrives_so session req ask (Some cause) arrival)
      (same_refuses so_far.outputs.replies refl)
  change_refuses next (changes.Recovers due) = same_refuses next.outputs.replies refl
