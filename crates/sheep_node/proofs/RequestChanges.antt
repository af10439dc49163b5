-- A node's requests are those that it had, and the guest's request that it steps on.
use Rattle.std.proofs.Common.{◌≡◌, ◌≢◌, ◌⊎◌, inl, inr, ℕ, true, List, Option, Some, None, is_some, refl, sym, ap, subst, ◌∙◌, ⊎_elim}
use Rattle.std.specs.Ordering.{nat_cmp}
use Rattle.std.specs.FinMap as tree
use Rattle.std.proofs.lemmas.Bool.{cases_eq}
use Rattle.proof_tools.proofs.FiniteMaps.{get-insert_cases, get-remove_other, get-remove_same}
use Rattle.peer_proto.specs.declared.guest.GuestRsp.{GuestRsp}
use Rattle.object_id.specs.declared.entry.Entry.{Entry}
use Rattle.guest_driver.specs.Driver as drivers
use Rattle.guest_driver.specs.InodeQueue.{InodeQueue}
use Rattle.vdi_ops.specs.Op as ops
use Rattle.sheep_node.specs.declared.ask.Ask.{Ask}
use Rattle.sheep_node.specs.declared.ask.Ask.TheVariants as asks
use Rattle.sheep_node.specs.declared.input.Input.{Input}
use Rattle.sheep_node.specs.declared.input.Input.TheVariants as inputs
use Rattle.sheep_node.specs.declared.course.Request.{Request}
use Rattle.sheep_node.specs.declared.course.Course.TheVariants.{Waiting, Driving, Commanding, Checking, DoingWork, AwaitingDecision}
use Rattle.sheep_node.specs.State.{Node}
use Rattle.sheep_node.specs.StepState.{StepState, at_first, request_ended}
use Rattle.sheep_node.specs.Courses.{after_command_step}
use Rattle.sheep_node.specs.LogReading.{on_back}
use Rattle.sheep_node.specs.SessionQueues.{session_among}
use Rattle.sheep_node.specs.Step.{node_step}
use Rattle.sheep_node.specs.Changes.{without_ended_work, Outcome, RequestSteps, DiskBegins, DiskGoesOn, CommandBegins, CommandGoesOn}
use Rattle.sheep_node.specs.Changes.{CommandDecided, input_received, Change, CheckBegins, CheckGoesOn, ObjectBegins, ObjectIsDone}
use Rattle.sheep_node.specs.Changes.{EntryBegins, EntryDecided}
use Rattle.sheep_node.proofs.ChangeWalk.{kept_by_steps, change_holds}
use Rattle.sheep_node.proofs.OneWorkParts.{Requests, Sessions}
use Rattle.sheep_node.proofs.StepChain.{kept_by_chain, step_chain}
use Rattle.disk_check.specs.Check.{begin_check}
use Rattle.peer_proto.specs.declared.guest.VdiAsk.TheVariants as disk_commands
use Rattle.sheep_node.proofs.ReceivedInputs.{received_keeps}

-- each number of a request is so
abbrev pub AllAre : (ℕ → Type 0) → Requests → Type 0
AllAre P requests = (req : ℕ) (request : Request) → tree.get requests req ≡ Some request → P req

module _ (P : ℕ → Type 0) where
  abbrev In : StepState → Type 0
  In so_far = AllAre P so_far.node.requests

  put_are : (requests : Requests) (req : ℕ) (request : Request) → P req → AllAre P requests → AllAre P (tree.insert requests req request)
  put_are requests req request so all q at got = ⊎_elim
      (λ (own : (q ≡ req) × (request ≡ at)). subst P (sym own.0) so)
      (λ (other : (q ≢ req) × (tree.get requests q ≡ Some at)). all q at other.1)
      (get-insert_cases requests req request q at got)

  gone_are : (requests : Requests) (req : ℕ) → AllAre P requests → AllAre P (tree.remove requests req)
  gone_are requests req all q at got = ⊎_elim
      (λ (own : q ≡ req).
      let none : tree.get (tree.remove requests req) q ≡ None = ap (tree.get (tree.remove requests req)) own ∙ get-remove_same requests req in
      absurd (cc (none, got)))
      (λ (other : q ≢ req). all q at (sym (get-remove_other requests req q other) ∙ got))
      (cases_eq q req)

  abbrev AreIn : Requests → Sessions → Type 0
  AreIn requests sessions = AllAre P requests

  -- the line of works may change
  lined_are : (requests : Requests) (sessions : Sessions) (number : ℕ) (queue : InodeQueue) → AreIn requests sessions
      → AreIn requests (tree.insert sessions number (record (session_among number sessions) { inode_queue = queue }))
  lined_are requests sessions number queue all = all

  command_are : (session req : ℕ) (step : ops.OpStep) (so_far : StepState) → P req → In so_far → In (after_command_step session req step so_far)
  command_are session req step so_far so all = put_are so_far.node.requests req (record { session = session; course = Commanding step.op }) so all

  ended_are : (session req : ℕ) (reply : GuestRsp) (so_far : StepState) → In so_far → In (request_ended session req reply so_far)
  unfolding request_ended
  ended_are session req reply so_far all = gone_are so_far.node.requests req all

  pub received_requests : (input : Input) (node : Node) → In (at_first node) → In (input_received input (at_first node))
  received_requests =
      received_keeps (λ works requests sessions. AllAre P requests)
      (λ req request got. let none = tree.get-empty {X = Request} nat_cmp req in absurd (cc (none, got)))

  module _ (input : Input) (node : Node) (asked : (req session : ℕ) (ask : Ask) → input ≡ inputs.Guest req session ask → P req) where
    steps_are : (so_far : StepState) (session req : ℕ) (next : Outcome) (moved : StepState) → RequestSteps input node so_far session req next moved → In so_far → In moved
    steps_are so_far session req next moved (DiskBegins ask disk there on may) all =
        put_are so_far.node.requests req (record { session = session; course = Driving (drivers.begin_driver disk ask).driver }) (all req (record { session = session; course = Waiting ask }) there) all
    steps_are so_far session req next moved (DiskGoesOn number work attempt status bytes driver disk step ends on is) all =
        put_are so_far.node.requests req (record { session = session; course = Driving step.driver }) (all req (record { session = session; course = Driving driver }) ends.ends.request) all
    steps_are so_far session req next moved (CommandBegins ask step arrival is) all =
        command_are session req step so_far (asked req session (asks.Vdi ask) arrival.from) all
    steps_are so_far session req next moved (CommandGoesOn number work attempt status bytes op step ends is) all =
        command_are session req step (without_ended_work session req work status so_far)
        (all req (record { session = session; course = Commanding op }) ends.ends.request) all
    steps_are so_far session req next moved (CommandDecided entry op step from read there waits is) all =
        command_are session req step so_far (all req (record { session = session; course = Commanding op }) there) all
    steps_are so_far session req next moved (CheckBegins inode arrival on) all =
        put_are so_far.node.requests req (record { session = session; course = Checking (begin_check inode).check })
        (asked req session (asks.Vdi disk_commands.Check) arrival.from) all
    steps_are so_far session req next moved (CheckGoesOn number work attempt status bytes check step ends is) all =
        put_are so_far.node.requests req (record { session = session; course = Checking step.check })
        (all req (record { session = session; course = Checking check }) ends.ends.request) all
    steps_are so_far session req next moved (ObjectBegins work arrival) all =
        put_are so_far.node.requests req (record { session = session; course = DoingWork work })
        (asked req session (asks.Object work) arrival.from) all
    steps_are so_far session req next moved (ObjectIsDone number work attempt status bytes does ends) all = all
    steps_are so_far session req next moved (EntryBegins entry arrival) all =
        put_are so_far.node.requests req (record { session = session; course = AwaitingDecision entry })
        (asked req session (asks.Entry entry) arrival.from) all
    steps_are so_far session req next moved (EntryDecided entry wanted from read there waits) all = all

    pub change_keeps_requests : (so_far next : StepState) → Change input node so_far next → In so_far → In next
    change_keeps_requests so_far next change all =
        change_holds AreIn lined_are so_far
        (kept_by_steps AreIn lined_are so_far (λ session req outcome moved steps. steps_are so_far session req outcome moved steps all)
        ended_are
        (λ session req ask disk arrival on.
        put_are so_far.node.requests req (record { session = session; course = Waiting ask })
        (asked req session (asks.Disk ask) arrival.from) all)) all next change

    pub requests_stay : AllAre P node.requests → AllAre P (node_step input node).node.requests
    requests_stay all = kept_by_chain In change_keeps_requests (step_chain input node) (received_requests input node all)

  -- a node that comes back has no request that it had
  pub requests_back : (entries : List Entry) (node : Node) → AllAre P (node_step (inputs.Back entries) node).node.requests
  unfolding on_back
  requests_back entries node =
      kept_by_chain In (change_keeps_requests (inputs.Back entries) node (λ req session ask from. absurd (cc (from)))) (step_chain (inputs.Back entries) node)
      (λ req request got. let none = tree.get-empty {X = Request} nat_cmp req in absurd (cc (none, got)))

-- a request that a node has once it stepped it had, or it is the guest's
pub requests_from_inputs : (input : Input) (node : Node) (req : ℕ)
    → tree.contains_key (node_step input node).node.requests req ≡ true
    → (tree.contains_key node.requests req ≡ true) ⊎ ((session : ℕ) × (ask : Ask) × (input ≡ inputs.Guest req session ask))
requests_from_inputs input node req has = by_request (tree.get (node_step input node).node.requests req) refl has
  where
    IsKnown : ℕ → Type 0
    IsKnown q = (tree.contains_key node.requests q ≡ true) ⊎ ((session : ℕ) × (ask : Ask) × (input ≡ inputs.Guest q session ask))

    by_request : (o : Option Request) → tree.get (node_step input node).node.requests req ≡ o → is_some o ≡ true → IsKnown req
    by_request None is has = absurd (cc (has))
    by_request (Some request) is has =
        requests_stay IsKnown input node (λ q session ask from. inr (session, ask, from))
        (λ q had got. inl (ap (λ (o : Option Request). is_some o) got)) req request is
