-- A node's step replies to requests that the node has, or to the guest's that it steps on, to each once; and one that it replied to is
-- gone behind it.
use Rattle.std.proofs.Common.{◌≡◌, ◌≢◌, ◌⊎◌, inl, inr, ⊎_elim, ℕ, nat_lt, Bool, true, false, cond, List, [], ◌∷◌, Contains, Option, Some, None, refl, sym, ap, subst, ◌∙◌}
use Rattle.std.specs.Option.{option_map_or}
use Rattle.std.specs.FinMap as tree
use Rattle.std.proofs.lemmas.Bool.{cases_eq}
use Rattle.proof_tools.proofs.Booleans.{cond_either}
use Rattle.proof_tools.proofs.FiniteMaps.{get-insert_same, get-insert_other, get-insert_cases, get-remove_same, get-remove_other}
use Rattle.proof_tools.proofs.Lists.{Contains-nil, Contains-first, Contains-cons, Contains-cons_cases}
use Rattle.object_id.specs.declared.cause.Cause.{Cause}
use Rattle.object_id.specs.declared.cause.Cause.TheVariants.{Halt}
use Rattle.object_id.specs.declared.entry.Entry.{Entry}
use Rattle.peer_proto.specs.declared.guest.GuestRsp.{GuestRsp}
use Rattle.peer_proto.specs.declared.guest.GuestRsp.TheVariants.{Refused}
use Rattle.peer_proto.specs.declared.guest.VdiAsk.TheVariants as disk_commands
use Rattle.gateway.specs.Work.{zones_for}
use Rattle.gateway.specs.State as gateways
use Rattle.gateway.specs.State.{Work}
use Rattle.guest_driver.specs.Driver as drivers
use Rattle.vdi_ops.specs.declared.end.OpEnd.{OpEnd}
use Rattle.vdi_ops.specs.Steps.{on_refusal}
use Rattle.recovery.specs.Steps as recovery_steps
use Rattle.disk_check.specs.Check.{begin_check}
use Rattle.sheep_node.specs.declared.ask.Ask.{Ask}
use Rattle.sheep_node.specs.declared.ask.Ask.TheVariants as asks
use Rattle.sheep_node.specs.declared.input.Input.{Input}
use Rattle.sheep_node.specs.declared.input.Input.TheVariants as inputs
use Rattle.sheep_node.specs.declared.course.Course.{Course}
use Rattle.sheep_node.specs.declared.course.Request.{Request}
use Rattle.sheep_node.specs.declared.course.Course.TheVariants.{Waiting, Driving, Commanding, Checking, DoingWork, AwaitingDecision}
use Rattle.sheep_node.specs.State.{Node}
use Rattle.sheep_node.specs.RecoveryView.{recovery_state_of}
use Rattle.sheep_node.specs.StepState.{StepState, at_first, replies_in_order, request_ended}
use Rattle.sheep_node.specs.RequestWorks.{command_refused, course_refused}
use Rattle.sheep_node.specs.Step.{on_request, on_recover_tick, on_put, recovery_stepped, is_due, with_recovered, on_input, recovered_put, node_step}
use Rattle.sheep_node.specs.Changes as changes
use Rattle.sheep_node.specs.Changes.{Outcome, ToWork, ToEntry, ToReply, RequestSteps, DiskBegins, DiskGoesOn, CommandBegins, CommandGoesOn, CommandDecided}
use Rattle.sheep_node.specs.Changes.{CheckBegins, CheckGoesOn, ObjectBegins, ObjectIsDone, EntryBegins, EntryDecided}
use Rattle.sheep_node.specs.Changes.{WorkIsNext, AtOnce, InTurn, Again, AgainAlone, Arrival, Change, input_received}
use Rattle.sheep_node.proofs.OneWorkParts.{Requests}
use Rattle.sheep_node.proofs.RequestChanges.{received_requests}
use Rattle.sheep_node.proofs.StepChain.{kept_by_chain, step_chain}

abbrev pub Replies : Type 0
Replies = List (ℕ × GuestRsp)

abbrev IsSame : ℕ × GuestRsp → ℕ × GuestRsp → Type 0
IsSame one other = one ≡ other

-- what stands among replies, once one more was put in order
in_order : (reply : ℕ × GuestRsp) (replies : Replies) (found : ℕ × GuestRsp) → Contains (replies_in_order reply replies) found
    → (reply ≡ found) ⊎ Contains replies found
in_order reply [] found there = Contains-cons_cases reply [] found there
in_order reply (first ∷ later) found there = by_test (in_order reply later found) (nat_lt reply.0 first.0) there
  where
    by_test : (Contains (replies_in_order reply later) found → (reply ≡ found) ⊎ Contains later found) → (b : Bool)
        → Contains (cond b (reply ∷ first ∷ later) (first ∷ replies_in_order reply later)) found
        → (reply ≡ found) ⊎ Contains (first ∷ later) found
    by_test rest true there = Contains-cons_cases reply (first ∷ later) found there
    by_test rest false there = ⊎_elim
        (λ (same : first ≡ found). inr (Contains-first first found later same))
        (λ (behind : Contains (replies_in_order reply later) found). ⊎_elim
        (λ (new : reply ≡ found). inl new)
        (λ (old : Contains later found). inr (Contains-cons first later found old))
        (rest behind))
        (Contains-cons_cases first (replies_in_order reply later) found there)

-- nothing is replied by what an input changes by itself
received_replies : (input : Input) (node : Node) → (input_received input (at_first node)).outputs.replies ≡ []
unfolding on_request on_recover_tick
received_replies (inputs.Guest req session ask) node = refl
received_replies (inputs.Request request) node = refl
received_replies (inputs.Reply rsp) node =
    cond_either (λ (so_far : StepState). so_far.outputs.replies ≡ []) (gateways.gateway_awaits rsp.number node.gateway) (at_first node)
    (recovery_stepped (recovery_steps.recovery_on_reply rsp (recovery_state_of node)) (at_first node)) refl refl
received_replies (inputs.Lost number) node =
    cond_either (λ (so_far : StepState). so_far.outputs.replies ≡ []) (gateways.gateway_awaits number node.gateway) (at_first node)
    (recovery_stepped (recovery_steps.recovery_on_loss number (recovery_state_of node)) (at_first node)) refl refl
received_replies (inputs.LogEntry entry) node = refl
received_replies inputs.Put node = by_outbox node.outbox
  where
    by_outbox : (outbox : List Entry) → (on_put outbox (at_first node)).outputs.replies ≡ []
    by_outbox [] = refl
    by_outbox (entry ∷ later) = refl
received_replies inputs.RecoverTick node = refl
received_replies inputs.RetryTick node = refl
received_replies (inputs.Back entries) node = refl

-- a request that a node has, or the guest's that it steps on
abbrev pub IsOwn : Input → Node → ℕ → Type 0
IsOwn input node q =
    ((request : Request) × (tree.get node.requests q ≡ Some request))
    ⊎ ((session : ℕ) × (ask : Ask) × (input ≡ inputs.Guest q session ask))

-- a request's replies so far: it was such a one, is no more, and has one reply; and if it is there, it is such a one
pub record IsRepliedOnce (input : Input) (node : Node) (q : ℕ) (requests : Requests) (replies : Replies) : Type 0 where
  pub own : (rsp : GuestRsp) → Contains replies (q, rsp) → IsOwn input node q
  pub gone : (rsp : GuestRsp) → Contains replies (q, rsp) → tree.get requests q ≡ None
  pub one : (rsp other : GuestRsp) → Contains replies (q, rsp) → Contains replies (q, other) → rsp ≡ other
  pub there : (request : Request) → tree.get requests q ≡ Some request → IsOwn input node q

module _ (input : Input) (node : Node) (q : ℕ) where
  abbrev Once : Requests → Replies → Type 0
  Once requests replies = IsRepliedOnce input node q requests replies

  abbrev Holds : StepState → Type 0
  Holds so_far = Once so_far.node.requests so_far.outputs.replies

  abbrev Has : Requests → ℕ → Type 0
  Has requests req = (request : Request) × (tree.get requests req ≡ Some request)

  -- a request that is there goes on
  put_same : (requests : Requests) (replies : Replies) (req : ℕ) (old new : Request) → tree.get requests req ≡ Some old → Once requests replies
      → Once (tree.insert requests req new) replies × Has (tree.insert requests req new) req
  put_same requests replies req old new had holds = (
    record {
      own = holds.own;
      gone = λ rsp replied. ⊎_elim
          (λ (same : q ≡ req).
          let none : tree.get requests q ≡ None = holds.gone rsp replied in
          let some : tree.get requests q ≡ Some old = ap (tree.get requests) same ∙ had in
          absurd (cc (none, some)))
          (λ (other : q ≢ req). get-insert_other requests req new q other ∙ holds.gone rsp replied)
          (cases_eq q req);
      one = holds.one;
      there = λ request got. ⊎_elim
          (λ (same : (q ≡ req) × (new ≡ request)). holds.there old (ap (tree.get requests) same.0 ∙ had))
          (λ (other : (q ≢ req) × (tree.get requests q ≡ Some request)). holds.there request other.1)
          (get-insert_cases requests req new q request got);
    },
    (new, get-insert_same requests req new),
  )

  nothing_replied : (replies : Replies) (rsp : GuestRsp) → replies ≡ [] → Contains replies (q, rsp) → ⊥
  nothing_replied replies rsp none replied =
      Contains-nil (q, rsp) (subst (λ (replies : Replies). Contains replies (q, rsp)) none replied)

  -- one that comes is there, before anything is replied
  put_new : (requests : Requests) (replies : Replies) (req : ℕ) (new : Request) → replies ≡ [] → (q ≡ req → IsOwn input node q)
      → Once requests replies → Once (tree.insert requests req new) replies × Has (tree.insert requests req new) req
  put_new requests replies req new none own holds = (
    record {
      own = holds.own;
      gone = λ rsp replied. absurd (nothing_replied replies rsp none replied);
      one = holds.one;
      there = λ request got. ⊎_elim
          (λ (same : (q ≡ req) × (new ≡ request)). own same.0)
          (λ (other : (q ≢ req) × (tree.get requests q ≡ Some request)). holds.there request other.1)
          (get-insert_cases requests req new q request got);
    },
    (new, get-insert_same requests req new),
  )

  -- one that is there ends with its reply
  ended : (requests : Requests) (replies : Replies) (req : ℕ) (reply : GuestRsp) → Has requests req → Once requests replies
      → Once (tree.remove requests req) (replies_in_order (req, reply) replies)
  ended requests replies req reply had holds = record {
    own = λ rsp replied. ⊎_elim
        (λ (new : IsSame (req, reply) (q, rsp)). holds.there had.0 (ap (tree.get requests) (sym (number_same rsp new)) ∙ had.1))
        (λ (old : Contains replies (q, rsp)). holds.own rsp old)
        (in_order (req, reply) replies (q, rsp) replied);
    gone = λ rsp replied. ⊎_elim
        (λ (same : q ≡ req). ap (tree.get (tree.remove requests req)) same ∙ get-remove_same requests req)
        (λ (other : q ≢ req). ⊎_elim
        (λ (new : IsSame (req, reply) (q, rsp)). absurd (other (sym (number_same rsp new))))
        (λ (old : Contains replies (q, rsp)). get-remove_other requests req q other ∙ holds.gone rsp old)
        (in_order (req, reply) replies (q, rsp) replied))
        (cases_eq q req);
    one = λ rsp other replied again. ⊎_elim
        (λ (new : IsSame (req, reply) (q, rsp)). ⊎_elim
        (λ (too : IsSame (req, reply) (q, other)). sym (reply_same rsp new) ∙ reply_same other too)
        (λ (old : Contains replies (q, other)). absurd (not_both rsp other new old))
        (in_order (req, reply) replies (q, other) again))
        (λ (old : Contains replies (q, rsp)). ⊎_elim
        (λ (new : IsSame (req, reply) (q, other)). absurd (not_both other rsp new old))
        (λ (too : Contains replies (q, other)). holds.one rsp other old too)
        (in_order (req, reply) replies (q, other) again))
        (in_order (req, reply) replies (q, rsp) replied);
    there = λ request got. ⊎_elim
        (λ (same : q ≡ req).
        let none : tree.get (tree.remove requests req) q ≡ None
        = ap (tree.get (tree.remove requests req)) same ∙ get-remove_same requests req in
        absurd (cc (none, got)))
        (λ (other : q ≢ req). holds.there request (sym (get-remove_other requests req q other) ∙ got))
        (cases_eq q req);
  }
    where
      number_same : (rsp : GuestRsp) → IsSame (req, reply) (q, rsp) → req ≡ q
      number_same rsp same = ap (λ (one : ℕ × GuestRsp). one.0) same

      reply_same : (rsp : GuestRsp) → IsSame (req, reply) (q, rsp) → reply ≡ rsp
      reply_same rsp same = ap (λ (one : ℕ × GuestRsp). one.1) same

      not_both : (rsp other : GuestRsp) → IsSame (req, reply) (q, rsp) → Contains replies (q, other) → ⊥
      not_both rsp other new old =
          let none : tree.get requests q ≡ None = holds.gone other old in
          let some : tree.get requests q ≡ Some had.0
          = ap (tree.get requests) (sym (ap (λ (one : ℕ × GuestRsp). one.0) new)) ∙ had.1 in
          cc (none, some)

  -- what comes is the guest's request
  comes_own : (so_far : StepState) (session req : ℕ) (ask : Ask) (refusal : Option Cause) → Arrival input node so_far session req ask refusal
      → q ≡ req → IsOwn input node q
  comes_own so_far session req ask refusal arrival same =
      inr (session, ask, subst (λ (k : ℕ). input ≡ inputs.Guest k session ask) (sym same) arrival.from)

  comes_first : (so_far : StepState) (session req : ℕ) (ask : Ask) (refusal : Option Cause) → Arrival input node so_far session req ask refusal
      → so_far.outputs.replies ≡ []
  comes_first so_far session req ask refusal arrival = ap (λ (so_far : StepState). so_far.outputs.replies) arrival.first

  steps_hold : (so_far : StepState) (session req : ℕ) (next : Outcome) (moved : StepState) → RequestSteps input node so_far session req next moved
      → Holds so_far → Holds moved × Has moved.node.requests req
  steps_hold so_far session req next moved (DiskBegins ask disk there on may) holds =
      put_same so_far.node.requests so_far.outputs.replies req (record { session = session; course = Waiting ask })
      (record { session = session; course = Driving (drivers.begin_driver disk ask).driver }) there holds
  steps_hold so_far session req next moved (DiskGoesOn number work attempt status bytes driver disk step ends on is) holds =
      put_same so_far.node.requests so_far.outputs.replies req (record { session = session; course = Driving driver })
      (record { session = session; course = Driving step.driver }) ends.ends.request holds
  steps_hold so_far session req next moved (CommandBegins ask step arrival is) holds =
      put_new so_far.node.requests so_far.outputs.replies req (record { session = session; course = Commanding step.op })
      (comes_first so_far session req (asks.Vdi ask) None arrival) (comes_own so_far session req (asks.Vdi ask) None arrival) holds
  steps_hold so_far session req next moved (CommandGoesOn number work attempt status bytes op step ends is) holds =
      put_same so_far.node.requests so_far.outputs.replies req (record { session = session; course = Commanding op })
      (record { session = session; course = Commanding step.op }) ends.ends.request holds
  steps_hold so_far session req next moved (CommandDecided entry op step from read there waits is) holds =
      put_same so_far.node.requests so_far.outputs.replies req (record { session = session; course = Commanding op })
      (record { session = session; course = Commanding step.op }) there holds
  steps_hold so_far session req next moved (CheckBegins inode arrival on) holds =
      put_new so_far.node.requests so_far.outputs.replies req (record { session = session; course = Checking (begin_check inode).check })
      (comes_first so_far session req (asks.Vdi disk_commands.Check) None arrival)
      (comes_own so_far session req (asks.Vdi disk_commands.Check) None arrival) holds
  steps_hold so_far session req next moved (CheckGoesOn number work attempt status bytes check step ends is) holds =
      put_same so_far.node.requests so_far.outputs.replies req (record { session = session; course = Checking check })
      (record { session = session; course = Checking step.check }) ends.ends.request holds
  steps_hold so_far session req next moved (ObjectBegins work arrival) holds =
      put_new so_far.node.requests so_far.outputs.replies req (record { session = session; course = DoingWork work })
      (comes_first so_far session req (asks.Object work) None arrival) (comes_own so_far session req (asks.Object work) None arrival) holds
  steps_hold so_far session req next moved (ObjectIsDone number work attempt status bytes does ends) holds =
      (holds, (record { session = session; course = DoingWork does }, ends.ends.request))
  steps_hold so_far session req next moved (EntryBegins entry arrival) holds =
      put_new so_far.node.requests so_far.outputs.replies req (record { session = session; course = AwaitingDecision entry })
      (comes_first so_far session req (asks.Entry entry) None arrival) (comes_own so_far session req (asks.Entry entry) None arrival) holds
  steps_hold so_far session req next moved (EntryDecided entry wanted from read there waits) holds =
      (holds, (record { session = session; course = AwaitingDecision wanted }, there))

  next_holds : (so_far : StepState) (session req : ℕ) (tried : Work) (lined : StepState) → WorkIsNext input node so_far session req tried lined
      → Holds so_far → Holds lined
  next_holds so_far session req tried lined (AtOnce work moved steps begins) holds = (steps_hold so_far session req (ToWork work) moved steps holds).0
  next_holds so_far session req tried lined (InTurn work later none is) holds = holds
  next_holds so_far session req tried lined (Again work course from next there request) holds = holds
  next_holds so_far session req tried lined (AgainAlone work from next there none) holds = holds

  refused_holds : (session req : ℕ) (cause : Cause) (course : Course) (so_far : StepState) → Has so_far.node.requests req → Holds so_far
      → Holds (course_refused session req cause course so_far)
  unfolding request_ended
  refused_holds session req cause (Waiting ask) so_far had holds = holds
  refused_holds session req cause (Driving driver) so_far had holds =
      ended so_far.node.requests so_far.outputs.replies req (Refused cause) had holds
  refused_holds session req cause (Commanding op) so_far had holds = by_end (on_refusal cause op)
    where
      by_end : (end : Option OpEnd) → Holds (command_refused session req end so_far)
      by_end None = holds
      by_end (Some end) = ended so_far.node.requests so_far.outputs.replies req end.reply had holds
  refused_holds session req cause (Checking check) so_far had holds =
      ended so_far.node.requests so_far.outputs.replies req (Refused cause) had holds
  refused_holds session req cause (DoingWork work) so_far had holds =
      ended so_far.node.requests so_far.outputs.replies req (Refused cause) had holds
  refused_holds session req cause (AwaitingDecision entry) so_far had holds = holds

  -- of a request that was looked up
  denied_holds : (req : ℕ) (cause : Cause) (request : Option Request) (so_far : StepState) → tree.get so_far.node.requests req ≡ request
      → Holds so_far
      → Holds (option_map_or (λ (request : Request). course_refused request.session req cause request.course so_far) request so_far)
  denied_holds req cause None so_far there holds = holds
  denied_holds req cause (Some request) so_far there holds = refused_holds request.session req cause request.course so_far (request, there) holds

  module _ (fresh : (req session : ℕ) (ask : Ask) → input ≡ inputs.Guest req session ask → tree.get node.requests req ≡ None) where
    -- a request is refused as it comes
    rejected_holds : (so_far : StepState) (session req : ℕ) (ask : Ask) (cause : Cause) → Arrival input node so_far session req ask (Some cause)
        → Holds so_far → Once so_far.node.requests (replies_in_order (req, Refused cause) so_far.outputs.replies)
    rejected_holds so_far session req ask cause arrival holds = record {
      own = λ rsp replied. comes_own so_far session req ask (Some cause) arrival (number_same rsp replied);
      gone = λ rsp replied.
          ap (tree.get so_far.node.requests) (number_same rsp replied)
          ∙ ap (λ (so_far : StepState). tree.get so_far.node.requests req) arrival.first ∙ fresh req session ask arrival.from;
      one = λ rsp other replied again. sym (reply_same rsp replied) ∙ reply_same other again;
      there = holds.there;
    }
      where
        told : (rsp : GuestRsp) → Contains (replies_in_order (req, Refused cause) so_far.outputs.replies) (q, rsp) → IsSame (req, Refused cause) (q, rsp)
        told rsp replied = ⊎_elim
            (λ (new : IsSame (req, Refused cause) (q, rsp)). new)
            (λ (old : Contains so_far.outputs.replies (q, rsp)).
            absurd (nothing_replied so_far.outputs.replies rsp (comes_first so_far session req ask (Some cause) arrival) old))
            (in_order (req, Refused cause) so_far.outputs.replies (q, rsp) replied)

        number_same : (rsp : GuestRsp) → Contains (replies_in_order (req, Refused cause) so_far.outputs.replies) (q, rsp) → q ≡ req
        number_same rsp replied = sym (ap (λ (one : ℕ × GuestRsp). one.0) (told rsp replied))

        reply_same : (rsp : GuestRsp) → Contains (replies_in_order (req, Refused cause) so_far.outputs.replies) (q, rsp) → Refused cause ≡ rsp
        reply_same rsp replied = ap (λ (one : ℕ × GuestRsp). one.1) (told rsp replied)

    change_holds : (so_far next : StepState) → Change input node so_far next → Holds so_far → Holds next
    unfolding request_ended
    change_holds so_far next (changes.Marks req number work attempt status learns over) holds = holds
    change_holds so_far next (changes.Fails session req number work attempt status course ends done why) holds = holds
    change_holds so_far next (changes.Stops session req number work attempt status course bytes ends over) holds = holds
    change_holds so_far next (changes.Refuses session req number work attempt status course cause ends done why) holds =
        refused_holds session req cause course (changes.without_ended_work session req work status so_far)
        (record { session = session; course = course }, ends.request) holds
    change_holds so_far next (changes.Opens session req tried lined comes short) holds = next_holds so_far session req tried lined comes holds
    change_holds so_far next (changes.Holds session req tried lined comes short touched) holds = next_holds so_far session req tried lined comes holds
    change_holds so_far next (changes.Denies session req tried lined request comes short untouched there own) holds =
        denied_holds req (Halt (changes.zones_of_members lined.node) (zones_for tried.work)) request
        (changes.without_denied_work session req tried lined) there (next_holds so_far session req tried lined comes holds)
    change_holds so_far next (changes.Strays req work gateway there none apart) holds = holds
    change_holds so_far next (changes.Lines session req work moved steps waits) holds = (steps_hold so_far session req (ToWork work) moved steps holds).0
    change_holds so_far next (changes.Appends session req entry moved steps) holds = (steps_hold so_far session req (ToEntry entry) moved steps holds).0
    change_holds so_far next (changes.Replies session req reply moved steps) holds =
        let both = steps_hold so_far session req (ToReply reply) moved steps holds in
        ended moved.node.requests moved.outputs.replies req reply both.1 both.0
    change_holds so_far next (changes.Arrives session req ask disk arrival on) holds =
        (put_new so_far.node.requests so_far.outputs.replies req (record { session = session; course = Waiting ask })
        (comes_first so_far session req (asks.Disk ask) None arrival) (comes_own so_far session req (asks.Disk ask) None arrival) holds).0
    change_holds so_far next (changes.Rejects session req ask cause arrival) holds = rejected_holds so_far session req ask cause arrival holds
    change_holds so_far next (changes.Recovers due) holds = holds

    at_receipt : Holds (input_received input (at_first node))
    at_receipt = record {
      own = λ rsp replied. absurd (nothing_replied _ rsp (received_replies input node) replied);
      gone = λ rsp replied. absurd (nothing_replied _ rsp (received_replies input node) replied);
      one = λ rsp other replied again. absurd (nothing_replied _ rsp (received_replies input node) replied);
      there = λ request got. received_requests (IsOwn input node) input node (λ req request got. inl (request, got)) q request got;
    }

    pub replied-once : IsRepliedOnce input node q (node_step input node).node.requests (node_step input node).outputs.replies
    replied-once = kept_by_chain Holds change_holds (step_chain input node) at_receipt

-- `Recovered` is no reply
recovered_replies : (so_far : StepState) → (recovered_put so_far).outputs.replies ≡ so_far.outputs.replies
unfolding recovered_put
recovered_replies so_far =
    cond_either (λ (next : StepState). next.outputs.replies ≡ so_far.outputs.replies) (is_due so_far.node) (with_recovered so_far) so_far refl refl

-- nothing is replied to a guest as an entry is put
pub put-silent : (node : Node) → (node_step inputs.Put node).outputs.replies ≡ []
unfolding node_step on_input
put-silent node = recovered_replies (on_put node.outbox (at_first node)) ∙ received_replies inputs.Put node

-- nor as a node comes back
pub back-silent : (entries : List Entry) (node : Node) → (node_step (inputs.Back entries) node).outputs.replies ≡ []
unfolding node_step on_input
back-silent entries node = recovered_replies (input_received (inputs.Back entries) (at_first node))
