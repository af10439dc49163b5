-- What is known of a number and a session, wherever a guest asks under them, is known of each request that a node has in its step, and of
-- each to which it has replied there.
use Rattle.std.proofs.Common.{◌≡◌, ◌≢◌, ◌⊎◌, inl, inr, ℕ, Bool, true, false, cond, List, [], ◌∷◌, Contains, Option, Some, None, refl, sym}
use Rattle.std.proofs.Common.{ap, subst, ◌∙◌, ⊎_elim}
use Rattle.std.specs.Prelude.{nat_lt}
use Rattle.std.specs.Option.{option_map_or}
use Rattle.std.specs.Ordering.{nat_cmp}
use Rattle.std.specs.FinMap as tree
use Rattle.std.proofs.lemmas.Bool.{cases_eq}
use Rattle.proof_tools.proofs.Booleans.{cond_either}
use Rattle.proof_tools.proofs.FiniteMaps.{get-insert_cases, get-remove_other, get-remove_same}
use Rattle.proof_tools.proofs.Lists.{Contains-nil, Contains-cons, Contains-cons_cases, Contains-first}
use Rattle.object_id.specs.declared.entry.Entry.{Entry}
use Rattle.peer_proto.specs.declared.guest.GuestRsp.{GuestRsp}
use Rattle.peer_proto.specs.declared.guest.GuestRsp.TheVariants as refusals
use Rattle.object_id.specs.declared.cause.Cause.TheVariants.{Halt}
use Rattle.gateway.specs.Work.{zones_for}
use Rattle.gateway.specs.State as gateways
use Rattle.gateway.specs.State.{Work}
use Rattle.recovery.specs.Steps as recovery_steps
use Rattle.guest_driver.specs.Driver as drivers
use Rattle.disk_check.specs.Check.{begin_check}
use Rattle.peer_proto.specs.declared.guest.VdiAsk.TheVariants as disk_commands
use Rattle.sheep_node.specs.declared.ask.Ask.{Ask}
use Rattle.sheep_node.specs.declared.ask.Ask.TheVariants as asks
use Rattle.sheep_node.specs.declared.input.Input.{Input}
use Rattle.sheep_node.specs.declared.input.Input.TheVariants as inputs
use Rattle.sheep_node.specs.declared.course.Request.{Request}
use Rattle.sheep_node.specs.declared.course.Course.TheVariants.{Waiting, Driving, Commanding, Checking, DoingWork, AwaitingDecision}
use Rattle.sheep_node.specs.State.{Node}
use Rattle.sheep_node.specs.May.{is_disk_course}
use Rattle.sheep_node.specs.StepState.{StepState, at_first, replies_in_order, request_ended}
use Rattle.sheep_node.specs.RecoveryView.{recovery_state_of}
use Rattle.sheep_node.specs.Step.{on_request, recovery_stepped, on_put, on_recover_tick}
use Rattle.sheep_node.specs.LogReading.{entry_read, on_back}
use Rattle.sheep_node.specs.RequestWorks.{course_refused}
use Rattle.sheep_node.specs.Changes as changes
use Rattle.sheep_node.specs.Changes.{Outcome, ToWork, ToEntry, ToReply, RequestSteps, DiskBegins, DiskGoesOn, CommandBegins, CommandGoesOn}
use Rattle.sheep_node.specs.Changes.{CommandDecided, CheckBegins, CheckGoesOn, ObjectBegins, ObjectIsDone, EntryBegins, EntryDecided}
use Rattle.sheep_node.specs.Changes.{WorkIsNext, AtOnce, InTurn, Again, AgainAlone, input_received, Change}
use Rattle.sheep_node.proofs.OneWorkParts.{Requests}
use Rattle.sheep_node.proofs.ReceivedInputs.{received_keeps}
use Rattle.sheep_node.proofs.RefusedCourses.{this_refused-keeps}

-- what stands among replies by ascending request stood there, or is the new one
pub replies-in_order : (reply : ℕ × GuestRsp) (replies : List (ℕ × GuestRsp)) (one : ℕ × GuestRsp)
    → Contains (replies_in_order reply replies) one
    → (reply ≡ one) ⊎ Contains replies one
replies-in_order reply [] one there = Contains-cons_cases reply [] one there
replies-in_order reply (first ∷ later) one there = by_test (nat_lt reply.0 first.0) there (replies-in_order reply later one)
  where
    by_test : (b : Bool) → Contains (cond b (reply ∷ first ∷ later) (first ∷ replies_in_order reply later)) one
        → (Contains (replies_in_order reply later) one → (reply ≡ one) ⊎ Contains later one)
        → (reply ≡ one) ⊎ Contains (first ∷ later) one
    by_test true there rest = Contains-cons_cases reply (first ∷ later) one there
    by_test false there rest = ⊎_elim
        (λ (same : first ≡ one). inr (Contains-first first one later same))
        (λ (behind : Contains (replies_in_order reply later) one). ⊎_elim
        (λ (same : reply ≡ one). inl same)
        (λ (old : Contains later one). inr (Contains-cons first later one old))
        (rest behind))
        (Contains-cons_cases first (replies_in_order reply later) one there)

-- whether a read or write is asked for
abbrev pub is_disk_ask : Ask → Bool
is_disk_ask (asks.Disk ask) = true
is_disk_ask (asks.Vdi ask) = false
is_disk_ask (asks.Object work) = false
is_disk_ask (asks.Entry entry) = false

-- no input by itself replies to a guest
pub received_replies : (input : Input) (node : Node) → (input_received input (at_first node)).outputs.replies ≡ []
unfolding entry_read on_request on_recover_tick on_back
received_replies (inputs.Guest req session ask) node = refl
received_replies (inputs.Request request) node = refl
received_replies (inputs.Reply rsp) node =
    cond_either (λ (so_far : StepState). so_far.outputs.replies ≡ []) (gateways.gateway_awaits rsp.number node.gateway) (at_first node)
    (recovery_stepped (recovery_steps.recovery_on_reply rsp (recovery_state_of node)) (at_first node)) refl refl
received_replies (inputs.Lost number) node =
    cond_either (λ (so_far : StepState). so_far.outputs.replies ≡ []) (gateways.gateway_awaits number node.gateway) (at_first node)
    (recovery_stepped (recovery_steps.recovery_on_loss number (recovery_state_of node)) (at_first node)) refl refl
received_replies (inputs.LogEntry entry) node = refl
received_replies inputs.Put node = by_outbox node.outbox
  where
    by_outbox : (outbox : List Entry) → (on_put outbox (at_first node)).outputs.replies ≡ []
    by_outbox [] = refl
    by_outbox (entry ∷ later) = refl
received_replies inputs.RecoverTick node = refl
received_replies inputs.RetryTick node = refl
received_replies (inputs.Back entries) node = refl

module _ (P : ℕ → ℕ → Bool → Type 0) where
  -- each request is known with its session, and whether it is a read or write; and each that has its reply with some session
  pub record AreKnown (requests : Requests) (replies : List (ℕ × GuestRsp)) : Type 0 where
    pub asked : (req : ℕ) (request : Request) → tree.get requests req ≡ Some request → P req request.session (is_disk_course request.course)
    pub replied : (reply : ℕ × GuestRsp) → Contains replies reply → (session : ℕ) × (disk : Bool) × P reply.0 session disk

  abbrev pub KnownIn : StepState → Type 0
  KnownIn so_far = AreKnown so_far.node.requests so_far.outputs.replies

  put_known : (requests : Requests) (replies : List (ℕ × GuestRsp)) (req : ℕ) (request : Request)
      → P req request.session (is_disk_course request.course)
      → AreKnown requests replies → AreKnown (tree.insert requests req request) replies
  put_known requests replies req request so known = record {
    asked = λ q at got. ⊎_elim
        (λ (own : (q ≡ req) × (request ≡ at)).
        subst (λ (k : ℕ). P k at.session (is_disk_course at.course)) (sym own.0)
        (subst (λ (r : Request). P req r.session (is_disk_course r.course)) own.1 so))
        (λ (other : (q ≢ req) × (tree.get requests q ≡ Some at)). known.asked q at other.1)
        (get-insert_cases requests req request q at got);
    replied = known.replied;
  }

  gone_known : (requests : Requests) (replies : List (ℕ × GuestRsp)) (req : ℕ) (reply : GuestRsp) (session : ℕ) (disk : Bool)
      → P req session disk
      → AreKnown requests replies
      → AreKnown (tree.remove requests req) (replies_in_order (req, reply) replies)
  gone_known requests replies req reply session disk so known = record {
    asked = λ q at got. ⊎_elim
        (λ (own : q ≡ req).
        let none : tree.get (tree.remove requests req) q ≡ None = ap (tree.get (tree.remove requests req)) own
        ∙ get-remove_same requests req in
        absurd (cc (none, got)))
        (λ (other : q ≢ req). known.asked q at (sym (get-remove_other requests req q other) ∙ got))
        (cases_eq q req);
    replied = λ one there. ⊎_elim
        (λ (new : (req, reply) ≡ one). (session, disk, subst (λ (r : ℕ × GuestRsp). P r.0 session disk) new so))
        (λ (old : Contains replies one). known.replied one old)
        (replies-in_order (req, reply) replies one there);
  }

  ended_known : (req own : ℕ) (disk : Bool) → P req own disk → (session : ℕ) (reply : GuestRsp) (so_far : StepState) → KnownIn so_far
      → KnownIn (request_ended session req reply so_far)
  unfolding request_ended
  ended_known req own disk so session reply so_far known =
      gone_known so_far.node.requests so_far.outputs.replies req reply own disk so known

  pub received_none : (input : Input) (node : Node) → (input_received input (at_first node)).outputs.replies ≡ []
      → ((req : ℕ) (request : Request)
      → tree.get node.requests req ≡ Some request
      → P req request.session (is_disk_course request.course)) → KnownIn (input_received input (at_first node))
  received_none input node none all = record {
    asked =
        received_keeps (λ works requests sessions. (req : ℕ) (request : Request) → tree.get requests req ≡ Some request
        → P req request.session (is_disk_course request.course))
        (λ req request got. let empty = tree.get-empty {X = Request} nat_cmp req in absurd (cc (empty, got))) input node all;
    replied = λ one there. absurd (Contains-nil one (subst (λ (replies : List (ℕ × GuestRsp)). Contains replies one) none there));
  }

  module _ (input : Input) (node : Node) (brought : (req session : ℕ) (ask : Ask) → input ≡ inputs.Guest req session ask
      → P req session (is_disk_ask ask)) where
    -- the request that takes a step is
    steps_of : (so_far : StepState) (session req : ℕ) (next : Outcome) (moved : StepState)
        → RequestSteps input node so_far session req next moved
        → KnownIn so_far → (disk : Bool) × P req session disk
    steps_of so_far session req next moved (DiskBegins ask disk there on may) known =
        (_, known.asked req (record { session = session; course = Waiting ask }) there)
    steps_of so_far session req next moved (DiskGoesOn number work attempt status bytes driver disk step ends on is) known =
        (_, known.asked req (record { session = session; course = Driving driver }) ends.ends.request)
    steps_of so_far session req next moved (CommandBegins ask step arrival is) known = (_, brought req session (asks.Vdi ask) arrival.from)
    steps_of so_far session req next moved (CommandGoesOn number work attempt status bytes op step ends is) known =
        (_, known.asked req (record { session = session; course = Commanding op }) ends.ends.request)
    steps_of so_far session req next moved (CommandDecided entry op step from read there waits is) known =
        (_, known.asked req (record { session = session; course = Commanding op }) there)
    steps_of so_far session req next moved (CheckBegins inode arrival on) known =
        (_, brought req session (asks.Vdi disk_commands.Check) arrival.from)
    steps_of so_far session req next moved (CheckGoesOn number work attempt status bytes check step ends is) known =
        (_, known.asked req (record { session = session; course = Checking check }) ends.ends.request)
    steps_of so_far session req next moved (ObjectBegins work arrival) known = (_, brought req session (asks.Object work) arrival.from)
    steps_of so_far session req next moved (ObjectIsDone number work attempt status bytes does ends) known =
        (_, known.asked req (record { session = session; course = DoingWork does }) ends.ends.request)
    steps_of so_far session req next moved (EntryBegins entry arrival) known = (_, brought req session (asks.Entry entry) arrival.from)
    steps_of so_far session req next moved (EntryDecided entry wanted from read there waits) known =
        (_, known.asked req (record { session = session; course = AwaitingDecision wanted }) there)

    -- and stays so
    steps_known : (so_far : StepState) (session req : ℕ) (next : Outcome) (moved : StepState)
        → RequestSteps input node so_far session req next moved
        → KnownIn so_far → KnownIn moved
    steps_known so_far session req next moved (DiskBegins ask disk there on may) known =
        put_known so_far.node.requests so_far.outputs.replies req
        (record { session = session; course = Driving (drivers.begin_driver disk ask).driver })
        (known.asked req (record { session = session; course = Waiting ask }) there) known
    steps_known so_far session req next moved (DiskGoesOn number work attempt status bytes driver disk step ends on is) known =
        put_known so_far.node.requests so_far.outputs.replies req (record { session = session; course = Driving step.driver })
        (known.asked req (record { session = session; course = Driving driver }) ends.ends.request) known
    steps_known so_far session req next moved (CommandBegins ask step arrival is) known =
        put_known so_far.node.requests so_far.outputs.replies req (record { session = session; course = Commanding step.op })
        (brought req session (asks.Vdi ask) arrival.from) known
    steps_known so_far session req next moved (CommandGoesOn number work attempt status bytes op step ends is) known =
        put_known so_far.node.requests so_far.outputs.replies req (record { session = session; course = Commanding step.op })
        (known.asked req (record { session = session; course = Commanding op }) ends.ends.request) known
    steps_known so_far session req next moved (CommandDecided entry op step from read there waits is) known =
        put_known so_far.node.requests so_far.outputs.replies req (record { session = session; course = Commanding step.op })
        (known.asked req (record { session = session; course = Commanding op }) there) known
    steps_known so_far session req next moved (CheckBegins inode arrival on) known =
        put_known so_far.node.requests so_far.outputs.replies req
        (record { session = session; course = Checking (begin_check inode).check })
        (brought req session (asks.Vdi disk_commands.Check) arrival.from) known
    steps_known so_far session req next moved (CheckGoesOn number work attempt status bytes check step ends is) known =
        put_known so_far.node.requests so_far.outputs.replies req (record { session = session; course = Checking step.check })
        (known.asked req (record { session = session; course = Checking check }) ends.ends.request) known
    steps_known so_far session req next moved (ObjectBegins work arrival) known =
        put_known so_far.node.requests so_far.outputs.replies req (record { session = session; course = DoingWork work })
        (brought req session (asks.Object work) arrival.from) known
    steps_known so_far session req next moved (ObjectIsDone number work attempt status bytes does ends) known = known
    steps_known so_far session req next moved (EntryBegins entry arrival) known =
        put_known so_far.node.requests so_far.outputs.replies req (record { session = session; course = AwaitingDecision entry })
        (brought req session (asks.Entry entry) arrival.from) known
    steps_known so_far session req next moved (EntryDecided entry wanted from read there waits) known = known

    pub comes_known : (so_far : StepState) (session req : ℕ) (tried : Work) (lined : StepState)
        → WorkIsNext input node so_far session req tried lined
        → KnownIn so_far → KnownIn lined
    comes_known so_far session req tried lined (AtOnce work moved steps begins) known =
        steps_known so_far session req (ToWork work) moved steps known
    comes_known so_far session req tried lined (InTurn work later none is) known = known
    comes_known so_far session req tried lined (Again work course from next there request) known = known
    comes_known so_far session req tried lined (AgainAlone work from next there none) known = known

    pub change_known : (so_far next : StepState) → Change input node so_far next → KnownIn so_far → KnownIn next
    change_known so_far next (changes.Marks req number work attempt status learns over) known = known
    change_known so_far next (changes.Fails session req number work attempt status course ends done why) known = known
    change_known so_far next (changes.Stops session req number work attempt status course bytes ends over) known = known
    change_known so_far next (changes.Refuses session req number work attempt status course cause ends done why) known =
        this_refused-keeps req KnownIn
        (ended_known req session (is_disk_course course) (known.asked req (record { session = session; course = course }) ends.request))
        (λ entry before now. now) session cause course (changes.without_ended_work session req work status so_far) known
    change_known so_far next (changes.Opens session req tried lined comes short) known =
        comes_known so_far session req tried lined comes known
    change_known so_far next (changes.Holds session req tried lined comes short touched) known =
        comes_known so_far session req tried lined comes known
    change_known so_far next (changes.Denies session req tried lined request comes short untouched there own) known =
        by_request request there
      where
        before : KnownIn (changes.without_denied_work session req tried lined)
        before = comes_known so_far session req tried lined comes known

        by_request : (request : Option Request) → tree.get lined.node.requests req ≡ request
            → KnownIn (option_map_or (λ (request : Request). course_refused request.session req
            (Halt (changes.zones_of_members lined.node) (zones_for tried.work)) request.course
            (changes.without_denied_work session req tried lined)) request (changes.without_denied_work session req tried lined))
        by_request None none = before
        by_request (Some request) there =
            this_refused-keeps req KnownIn (ended_known req request.session (is_disk_course request.course)
            (before.asked req request there)) (λ entry before now. now) request.session
            (Halt (changes.zones_of_members lined.node) (zones_for tried.work)) request.course
            (changes.without_denied_work session req tried lined) before
    change_known so_far next (changes.Strays req work gateway there none apart) known = known
    change_known so_far next (changes.Lines session req work moved steps waits) known =
        steps_known so_far session req (ToWork work) moved steps known
    change_known so_far next (changes.Appends session req entry moved steps) known =
        steps_known so_far session req (ToEntry entry) moved steps known
    change_known so_far next (changes.Replies session req reply moved steps) known =
        let (disk, own) = steps_of so_far session req (ToReply reply) moved steps known in
        ended_known req session disk own session reply moved
        (steps_known so_far session req (ToReply reply) moved steps known)
    change_known so_far next (changes.Arrives session req ask disk arrival on) known =
        put_known so_far.node.requests so_far.outputs.replies req (record { session = session; course = Waiting ask })
        (brought req session (asks.Disk ask) arrival.from) known
    change_known so_far next (changes.Rejects session req ask cause arrival) known = record {
      asked = known.asked;
      replied = λ one there. ⊎_elim
          (λ (new : (req, refusals.Refused cause) ≡ one). (
            session,
            is_disk_ask ask,
            subst (λ (r : ℕ × GuestRsp). P r.0 session (is_disk_ask ask)) new
                (brought req session ask arrival.from),
          )) (λ (old : Contains so_far.outputs.replies one). known.replied one old)
          (replies-in_order (req, refusals.Refused cause) so_far.outputs.replies one there);
    }
    change_known so_far next (changes.Recovers due) known = known
