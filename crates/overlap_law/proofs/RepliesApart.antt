-- No request that a node has was replied to by its step.
use Rattle.std.proofs.Common.{◌≡◌, ◌≢◌, ℕ, List, [], Contains, Option, Some, None, sym, ap, subst, ◌∙◌, ⊎_elim}
use Rattle.std.specs.FinMap as tree
use Rattle.std.proofs.lemmas.Bool.{cases_eq}
use Rattle.proof_tools.proofs.FiniteMaps.{get-insert_cases, get-remove_other, get-remove_same}
use Rattle.proof_tools.proofs.Lists.{Contains-nil}
use Rattle.peer_proto.specs.declared.guest.GuestRsp.{GuestRsp}
use Rattle.peer_proto.specs.declared.guest.GuestRsp.TheVariants as refusals
use Rattle.object_id.specs.declared.cause.Cause.{Cause}
use Rattle.object_id.specs.declared.cause.Cause.TheVariants.{Halt}
use Rattle.gateway.specs.Work.{zones_for}
use Rattle.gateway.specs.State.{Work}
use Rattle.guest_driver.specs.Driver as drivers
use Rattle.disk_check.specs.Check.{begin_check}
use Rattle.sheep_node.specs.declared.ask.Ask.{Ask}
use Rattle.sheep_node.specs.declared.input.Input.{Input}
use Rattle.sheep_node.specs.declared.course.Request.{Request}
use Rattle.sheep_node.specs.declared.course.Course.TheVariants.{Waiting, Driving, Commanding, Checking, DoingWork, AwaitingDecision}
use Rattle.sheep_node.specs.State.{Node}
use Rattle.sheep_node.specs.StepState.{StepState, at_first, replies_in_order, request_ended}
use Rattle.sheep_node.specs.Step.{node_step}
use Rattle.sheep_node.specs.Changes as changes
use Rattle.sheep_node.specs.Changes.{Leads, IsSoundStep, Arrival, Outcome, ToWork, ToEntry, ToReply, RequestSteps, DiskBegins, DiskGoesOn}
use Rattle.sheep_node.specs.Changes.{CommandBegins, CommandGoesOn, CommandDecided, CheckBegins, CheckGoesOn, ObjectBegins, ObjectIsDone}
use Rattle.sheep_node.specs.Changes.{EntryBegins, EntryDecided, WorkIsNext, AtOnce, InTurn, Again, AgainAlone, input_received, Change}
use Rattle.sheep_node.proofs.OneWorkParts.{Requests}
use Rattle.sheep_node.proofs.RefusedCourses.{course_refused-keeps, request_refused-keeps}
use Rattle.sheep_node.proofs.StepChain.{kept_by_chain, step_chain}
use Rattle.overlap_law.proofs.RequestsInSteps.{received_replies, replies-in_order}

-- no request has a reply among these
abbrev AreApart : Requests → List (ℕ × GuestRsp) → Type 0
AreApart requests replies =
    (req : ℕ) (request : Request) (reply : ℕ × GuestRsp) → tree.get requests req ≡ Some request → Contains replies reply
    → reply.0 ≢ req

abbrev pub ApartIn : StepState → Type 0
ApartIn so_far = AreApart so_far.node.requests so_far.outputs.replies

-- a request in another course
again_apart : (requests : Requests) (replies : List (ℕ × GuestRsp)) (req : ℕ) (was now : Request) → tree.get requests req ≡ Some was
    → AreApart requests replies → AreApart (tree.insert requests req now) replies
again_apart requests replies req was now there apart q at reply got replied = ⊎_elim
    (λ (own : (q ≡ req) × (now ≡ at)). apart q was reply (ap (tree.get requests) own.0 ∙ there) replied)
    (λ (other : (q ≢ req) × (tree.get requests q ≡ Some at)). apart q at reply other.1 replied)
    (get-insert_cases requests req now q at got)

-- nothing was replied yet
pub none_apart : (requests : Requests) (replies : List (ℕ × GuestRsp)) → replies ≡ [] → AreApart requests replies
none_apart requests replies none req request reply got replied =
    absurd (Contains-nil reply (subst (λ (all : List (ℕ × GuestRsp)). Contains all reply) none replied))

gone_apart : (requests : Requests) (replies : List (ℕ × GuestRsp)) (req : ℕ) (reply : GuestRsp) → AreApart requests replies
    → AreApart (tree.remove requests req) (replies_in_order (req, reply) replies)
gone_apart requests replies req reply apart q at one got replied = ⊎_elim
    (λ (own : q ≡ req).
    let none : tree.get (tree.remove requests req) q ≡ None = ap (tree.get (tree.remove requests req)) own ∙ get-remove_same requests req in
    absurd (cc (none, got)))
    (λ (other : q ≢ req). ⊎_elim
    (λ (new : (req, reply) ≡ one). λ (same : one.0 ≡ q). other (sym (ap (λ (r : ℕ × GuestRsp). r.0) new ∙ same)))
    (λ (old : Contains replies one). apart q at one (sym (get-remove_other requests req q other) ∙ got) old)
    (replies-in_order (req, reply) replies one replied))
    (cases_eq q req)

ended_apart : (session req : ℕ) (reply : GuestRsp) (so_far : StepState) → ApartIn so_far → ApartIn (request_ended session req reply so_far)
unfolding request_ended
ended_apart session req reply so_far apart = gone_apart so_far.node.requests so_far.outputs.replies req reply apart

module _ (input : Input) (node : Node) where
  first_silent : (so_far : StepState) (session req : ℕ) (ask : Ask) (refusal : Option Cause)
      → Arrival input node so_far session req ask refusal
      → so_far.outputs.replies ≡ []
  first_silent so_far session req ask refusal arrival = ap (λ (s : StepState). s.outputs.replies) arrival.first

  steps_apart : (so_far : StepState) (session req : ℕ) (next : Outcome) (moved : StepState)
      → RequestSteps input node so_far session req next moved
      → ApartIn so_far → ApartIn moved
  steps_apart so_far session req next moved (DiskBegins ask disk there on may) apart =
      again_apart so_far.node.requests so_far.outputs.replies req (record { session = session; course = Waiting ask })
      (record { session = session; course = Driving (drivers.begin_driver disk ask).driver }) there apart
  steps_apart so_far session req next moved (DiskGoesOn number work attempt status bytes driver disk step ends on is) apart =
      again_apart so_far.node.requests so_far.outputs.replies req (record { session = session; course = Driving driver })
      (record { session = session; course = Driving step.driver }) ends.ends.request apart
  steps_apart so_far session req next moved (CommandBegins ask step arrival is) apart =
      none_apart (tree.insert so_far.node.requests req (record { session = session; course = Commanding step.op })) so_far.outputs.replies
      (ap (λ (s : StepState). s.outputs.replies) arrival.first)
  steps_apart so_far session req next moved (CommandGoesOn number work attempt status bytes op step ends is) apart =
      again_apart so_far.node.requests so_far.outputs.replies req (record { session = session; course = Commanding op })
      (record { session = session; course = Commanding step.op }) ends.ends.request apart
  steps_apart so_far session req next moved (CommandDecided entry op step from read there waits is) apart =
      again_apart so_far.node.requests so_far.outputs.replies req (record { session = session; course = Commanding op })
      (record { session = session; course = Commanding step.op }) there apart
  steps_apart so_far session req next moved (CheckBegins inode arrival on) apart =
      none_apart (tree.insert so_far.node.requests req (record { session = session; course = Checking (begin_check inode).check }))
      so_far.outputs.replies (ap (λ (s : StepState). s.outputs.replies) arrival.first)
  steps_apart so_far session req next moved (CheckGoesOn number work attempt status bytes check step ends is) apart =
      again_apart so_far.node.requests so_far.outputs.replies req (record { session = session; course = Checking check })
      (record { session = session; course = Checking step.check }) ends.ends.request apart
  steps_apart so_far session req next moved (ObjectBegins asked arrival) apart =
      none_apart (tree.insert so_far.node.requests req (record { session = session; course = DoingWork asked })) so_far.outputs.replies
      (ap (λ (s : StepState). s.outputs.replies) arrival.first)
  steps_apart so_far session req next moved (ObjectIsDone number work attempt status bytes does ends) apart = apart
  steps_apart so_far session req next moved (EntryBegins entry arrival) apart =
      none_apart (tree.insert so_far.node.requests req (record { session = session; course = AwaitingDecision entry }))
      so_far.outputs.replies (ap (λ (s : StepState). s.outputs.replies) arrival.first)
  steps_apart so_far session req next moved (EntryDecided entry wanted from read there waits) apart = apart

  pub comes_apart : (so_far : StepState) (session req : ℕ) (tried : Work) (lined : StepState)
      → WorkIsNext input node so_far session req tried lined
      → ApartIn so_far → ApartIn lined
  comes_apart so_far session req tried lined (AtOnce work moved steps begins) apart =
      steps_apart so_far session req (ToWork work) moved steps apart
  comes_apart so_far session req tried lined (InTurn work later none is) apart = apart
  comes_apart so_far session req tried lined (Again work course from next there request) apart = apart
  comes_apart so_far session req tried lined (AgainAlone work from next there none) apart = apart

  pub change_apart : IsSoundStep input node → (so_far next : StepState) → Change input node so_far next → ApartIn so_far → ApartIn next
  change_apart sound so_far next (changes.Marks req number work attempt status learns over) apart = apart
  change_apart sound so_far next (changes.Fails session req number work attempt status course ends done why) apart = apart
  change_apart sound so_far next (changes.Stops session req number work attempt status course bytes ends over) apart = apart
  change_apart sound so_far next (changes.Refuses session req number work attempt status course cause ends done why) apart =
      course_refused-keeps ApartIn ended_apart (λ entry before now. now) session req cause course
      (changes.without_ended_work session req work status so_far) apart
  change_apart sound so_far next (changes.Opens session req tried lined comes short) apart =
      comes_apart so_far session req tried lined comes apart
  change_apart sound so_far next (changes.Holds session req tried lined comes short touched) apart =
      comes_apart so_far session req tried lined comes apart
  change_apart sound so_far next (changes.Denies session req tried lined request comes short untouched there own) apart =
      request_refused-keeps ApartIn ended_apart (λ entry before now. now) req
      (Halt (changes.zones_of_members lined.node) (zones_for tried.work)) request
      (changes.without_denied_work session req tried lined) (comes_apart so_far session req tried lined comes apart)
  change_apart sound so_far next (changes.Strays req work gateway there none other) apart = apart
  change_apart sound so_far next (changes.Lines session req work moved steps waits) apart =
      steps_apart so_far session req (ToWork work) moved steps apart
  change_apart sound so_far next (changes.Appends session req entry moved steps) apart =
      steps_apart so_far session req (ToEntry entry) moved steps apart
  change_apart sound so_far next (changes.Replies session req reply moved steps) apart =
      ended_apart session req reply moved (steps_apart so_far session req (ToReply reply) moved steps apart)
  change_apart sound so_far next (changes.Arrives session req ask disk arrival on) apart =
      none_apart (tree.insert so_far.node.requests req (record { session = session; course = Waiting ask })) so_far.outputs.replies
      (ap (λ (s : StepState). s.outputs.replies) arrival.first)
  change_apart sound so_far next (changes.Rejects session req ask cause arrival) apart = λ q at one got replied. ⊎_elim
      (λ (new : (req, refusals.Refused cause) ≡ one). λ (same : one.0 ≡ q).
      let free = arrival.none sound in
      let is : tree.get so_far.node.requests q ≡ None = ap (tree.get so_far.node.requests) (sym (ap (λ (r : ℕ × GuestRsp). r.0) new ∙ same))
      ∙ free in
      absurd (cc (is, got)))
      (λ (old : Contains so_far.outputs.replies one). apart q at one got old)
      (replies-in_order (req, refusals.Refused cause) so_far.outputs.replies one replied)
  change_apart sound so_far next (changes.Recovers due) apart = apart

  -- at each point of a sound step
  pub apart_so_far : IsSoundStep input node → {so_far : StepState} → Leads input node (input_received input (at_first node)) so_far
      → ApartIn so_far
  apart_so_far sound leads =
      kept_by_chain ApartIn (change_apart sound) leads
      (none_apart (input_received input (at_first node)).node.requests (input_received input (at_first node)).outputs.replies
      (received_replies input node))

  -- and at its end
  pub step_apart : IsSoundStep input node → ApartIn (node_step input node)
  step_apart sound = apart_so_far sound (step_chain input node)
