-- Every change leaves the numbers of open attempts below the count of sends.
use Rattle.std.proofs.Common.{ℕ, suc, ◌+◌, ◌<◌, ◌≤◌, ◌==◌, Bool, true, false, cond, List, [], ◌∷◌, All, length, map, subst}
use native.Mathlib.Omega.{arith}
use Rattle.std.specs.List.{enumerate_from}
use Rattle.std.proofs.lemmas.List.Elements.{All-cons, All-head, All-tail, All-nil}
use Rattle.proof_tools.proofs.Booleans.{cond_either}
use Rattle.object_id.specs.declared.cause.Cause.TheVariants.{Halt}
use Rattle.object_id.specs.declared.entry.Entry.{Entry}
use Rattle.object_id.specs.declared.node.Epoch.{Epoch}
use Rattle.object_id.specs.declared.node.NodeId.{NodeId}
use Rattle.vnode_table.specs.Targets.{targets_in}
use Rattle.peer_proto.specs.Work.{oid_of, policy_of}
use Rattle.peer_proto.specs.declared.guest.GuestRsp.{GuestRsp}
use Rattle.peer_proto.specs.declared.work.ObjWork.{ObjWork}
use Rattle.gateway.specs.declared.message.Status.{Status}
use Rattle.gateway.specs.declared.message.Message.{Message}
use Rattle.gateway.specs.Attempt.{message_for, send_of, messages_with_status}
use Rattle.gateway.specs.Work as works
use Rattle.gateway.specs.State as gateways
use Rattle.gateway.specs.State.{WorkStage, Open, Ended, WaitsForMembers, Work, open_messages}
use Rattle.gateway.specs.Step.{attempt_with_status}
use Rattle.recovery.specs.Steps as recovery_steps
use Rattle.sheep_node.specs.declared.input.Input.{Input}
use Rattle.sheep_node.specs.declared.input.Input.TheVariants as inputs
use Rattle.sheep_node.specs.State.{Node, initial_node}
use Rattle.sheep_node.specs.RecoveryView.{recovery_state_of}
use Rattle.sheep_node.specs.StepState.{StepState, at_first, request_ended}
use Rattle.sheep_node.specs.LogReading.{entry_read, on_back}
use Rattle.sheep_node.specs.Step.{on_request, recovery_stepped, on_put, on_recover_tick, node_step}
use Rattle.sheep_node.specs.Validity.{EachIs}
use Rattle.sheep_node.specs.GivenNumbers.{HasNumbersBelow, NumbersWereGiven}
use Rattle.sheep_node.specs.Changes as changes
use Rattle.sheep_node.specs.Changes.{IsSoundStep, without_ended_work, Outcome, ToWork, ToEntry, ToReply, RequestSteps, DiskBegins, DiskGoesOn, CommandBegins, CommandGoesOn, CommandDecided, CheckBegins, CheckGoesOn, ObjectBegins, ObjectIsDone, EntryBegins, EntryDecided, WorkIsNext, AtOnce, InTurn, Again, AgainAlone, attempt_in, input_received, Change}
use Rattle.sheep_node.specs.OneWork.{HasOneWorkPerRequest}
use Rattle.sheep_node.specs.May.{May}
use Rattle.sheep_node.proofs.AwaitedWorks.{Works}
use Rattle.sheep_node.proofs.RefusedCourses.{course_refused-keeps, request_refused-keeps}
use Rattle.sheep_node.proofs.OneWorkChanges.{StepHasOneWork, never_alone, change_keeps_one_work, received_one_work}
use Rattle.sheep_node.proofs.NumberChanges.{meets_numbers}
use Rattle.sheep_node.proofs.ValidityChanges.{put_is, gone_is, none_is}
use Rattle.sheep_node.proofs.StepChain.{kept_by_chain, step_chain}

abbrev pub WereGiven : StepState → Type 0
WereGiven so_far = EachIs (HasNumbersBelow so_far.node.sends) so_far.node.gateway.works

abbrev IsBelow : ℕ → Message → Type 0
IsBelow count message = message.number < count

abbrev AreBelow : ℕ → List Message → Type 0
AreBelow count messages = All (IsBelow count) messages

-- ---- messages

higher : (low high : ℕ) → low ≤ high → (messages : List Message) → AreBelow low messages → AreBelow high messages
higher low high most [] all = All-nil (IsBelow high)
higher low high most (message ∷ messages) all =
    let below : message.number < low = All-head (IsBelow low) message messages all in
    All-cons (IsBelow high) message messages (omega (arith, below, most))
    (higher low high most messages (All-tail (IsBelow low) message messages all))

-- what a message came to changes no number
still_below : (count number : ℕ) (status : Status) (messages : List Message) → AreBelow count messages
    → AreBelow count (messages_with_status number status messages)
still_below count number status [] all = All-nil (IsBelow count)
still_below count number status (message ∷ messages) all =
    All-cons (IsBelow count) (cond (message.number == number) (record message { status = status }) message)
    (messages_with_status number status messages) (by_tie (message.number == number))
    (still_below count number status messages (All-tail (IsBelow count) message messages all))
  where
    by_tie : (b : Bool) → IsBelow count (cond b (record message { status = status }) message)
    by_tie true = All-head (IsBelow count) message messages all
    by_tie false = All-head (IsBelow count) message messages all

-- the messages of a new attempt are numbered from the count on
fresh_given : (me : NodeId) (epoch : Epoch) (work : ObjWork) (first : ℕ) (targets : List (ℕ × NodeId))
    → AreBelow (first + length (map (send_of me epoch work) (map (message_for work) (enumerate_from first targets))))
    (map (message_for work) (enumerate_from first targets))
fresh_given me epoch work first [] = All-nil (IsBelow (first + 0))
fresh_given me epoch work first (target ∷ targets) =
    let later = map (message_for work) (enumerate_from (first + 1) targets) in
    let more : ℕ = length (map (send_of me epoch work) later) in
    All-cons (IsBelow (first + suc more)) (message_for work (first, target)) later (omega arith)
    (higher ((first + 1) + more) (first + suc more) (omega arith) later (fresh_given me epoch work (first + 1) targets))

-- ---- works

-- numbers stay given as the count grows
grown : (low high : ℕ) (works : Works) → low ≤ high → EachIs (HasNumbersBelow low) works → EachIs (HasNumbersBelow high) works
grown low high works most all req work got = higher low high most (open_messages work.stage) (all req work got)

freed_given : (session req : ℕ) (work : Work) (status : Status) (so_far : StepState) → WereGiven so_far
    → WereGiven (without_ended_work session req work status so_far)
freed_given session req work status so_far all = gone_is (HasNumbersBelow so_far.node.sends) so_far.node.gateway.works req all

steps_given : {input : Input} {node : Node} → (so_far : StepState) (session req : ℕ) (next : Outcome) (moved : StepState)
    → RequestSteps input node so_far session req next moved → WereGiven so_far → WereGiven moved
steps_given so_far session req next moved (DiskBegins ask disk there on may) all = all
steps_given so_far session req next moved (DiskGoesOn number work attempt status bytes driver disk step ends on is) all =
    freed_given session req work status so_far all
steps_given so_far session req next moved (CommandBegins ask step arrival is) all = all
steps_given so_far session req next moved (CommandGoesOn number work attempt status bytes op step ends is) all =
    freed_given session req work status so_far all
steps_given so_far session req next moved (CommandDecided entry op step from read there waits is) all = all
steps_given so_far session req next moved (CheckBegins inode arrival on) all = all
steps_given so_far session req next moved (CheckGoesOn number work attempt status bytes check step ends is) all =
    freed_given session req work status so_far all
steps_given so_far session req next moved (ObjectBegins asked arrival) all = all
steps_given so_far session req next moved (ObjectIsDone number work attempt status bytes asked ends) all =
    freed_given session req work status so_far all
steps_given so_far session req next moved (EntryBegins entry arrival) all = all
steps_given so_far session req next moved (EntryDecided entry wanted from read there waits) all = all

comes_given : {input : Input} {node : Node} → (so_far : StepState) (session req : ℕ) (asked : Work) (lined : StepState)
    → WorkIsNext input node so_far session req asked lined → WereGiven so_far → WereGiven lined
comes_given so_far session req asked lined (AtOnce work moved steps begins) all = steps_given so_far session req (ToWork work) moved steps all
comes_given so_far session req asked lined (InTurn work later none is) all = all
comes_given so_far session req asked lined (Again work course from next there request) all = all
comes_given so_far session req asked lined (AgainAlone work from next there none) all = all

ended_given : (session req : ℕ) (reply : GuestRsp) (so_far : StepState) → WereGiven so_far → WereGiven (request_ended session req reply so_far)
unfolding request_ended
ended_given session req reply so_far all = all

opened_given : (req : ℕ) (asked : Work) (so_far : StepState) → WereGiven so_far → WereGiven (changes.with_open_attempt req asked so_far)
opened_given req asked so_far all =
    let node = so_far.node in
    let epoch : Epoch = record { 0 = node.peer.epoch } in
    let targets = targets_in node.epochs node.peer.epoch (oid_of asked.work) (policy_of asked.work) in
    let places = works.targets_asked asked.work asked.ended targets in
    let made = map (message_for asked.work) (enumerate_from node.sends places) in
    let after : ℕ = node.sends + length (map (send_of node.gateway.me epoch asked.work) made) in
    put_is (HasNumbersBelow after) node.gateway.works req (record asked { stage = Open (attempt_in asked node) })
    (fresh_given node.gateway.me epoch asked.work node.sends places)
    (grown node.sends after node.gateway.works (omega arith) all)

-- ---- every change

pub change_keeps_given : {input : Input} {node : Node} → (so_far next : StepState) → Change input node so_far next → StepHasOneWork so_far
    → WereGiven so_far → WereGiven next
change_keeps_given so_far next (changes.Marks req number work attempt status learns over) good all =
    put_is (HasNumbersBelow so_far.node.sends) so_far.node.gateway.works req (record work { stage = Open (attempt_with_status number status attempt) })
    (still_below so_far.node.sends number status attempt.messages
    (subst (λ (stage : WorkStage). AreBelow so_far.node.sends (open_messages stage)) learns.open_so (all req work learns.there))) all
change_keeps_given so_far next (changes.Fails session req number work attempt status course ends done why) good all =
    put_is (HasNumbersBelow so_far.node.sends) so_far.node.gateway.works req (record work { ended = work.ended + 1; stage = Ended })
    (All-nil (IsBelow so_far.node.sends)) all
change_keeps_given so_far next (changes.Stops session req number work attempt status course bytes ends over) good all =
    freed_given session req work status so_far all
change_keeps_given so_far next (changes.Refuses session req number work attempt status course cause ends done why) good all =
    course_refused-keeps WereGiven ended_given (λ entry before now. now) session req cause course (without_ended_work session req work status so_far)
    (freed_given session req work status so_far all)
change_keeps_given so_far next (changes.Opens session req asked lined comes short) good all =
    opened_given req asked lined (comes_given so_far session req asked lined comes all)
change_keeps_given so_far next (changes.Holds session req asked lined comes short touched) good all =
    put_is (HasNumbersBelow lined.node.sends) lined.node.gateway.works req
    (record asked { stage = WaitsForMembers (record { 0 = lined.node.peer.epoch }) }) (All-nil (IsBelow lined.node.sends))
    (comes_given so_far session req asked lined comes all)
change_keeps_given so_far next (changes.Denies session req asked lined request comes short untouched there own) good all =
    request_refused-keeps WereGiven ended_given (λ entry before now. now) req
    (Halt (changes.zones_of_members lined.node) (works.zones_for asked.work)) request (changes.without_denied_work session req asked lined)
    (gone_is (HasNumbersBelow lined.node.sends) lined.node.gateway.works req (comes_given so_far session req asked lined comes all))
change_keeps_given so_far next (changes.Strays req work gateway there none apart) good all = absurd (never_alone req work so_far there none good)
change_keeps_given so_far next (changes.Lines session req work moved steps waits) good all = steps_given so_far session req (ToWork work) moved steps all
change_keeps_given so_far next (changes.Appends session req entry moved steps) good all = steps_given so_far session req (ToEntry entry) moved steps all
change_keeps_given so_far next (changes.Replies session req reply moved steps) good all =
    ended_given session req reply moved (steps_given so_far session req (ToReply reply) moved steps all)
change_keeps_given so_far next (changes.Arrives session req ask disk arrival on) good all = all
change_keeps_given so_far next (changes.Rejects session req ask cause arrival) good all = all
change_keeps_given so_far next (changes.Recovers due) good all = all

pub received_given : (input : Input) (node : Node) → WereGiven (at_first node) → WereGiven (input_received input (at_first node))
unfolding entry_read on_request on_recover_tick on_back
received_given (inputs.Guest req session ask) node all = all
received_given (inputs.Request request) node all = all
received_given (inputs.Reply rsp) node all =
    cond_either WereGiven (gateways.gateway_awaits rsp.number node.gateway) (at_first node)
    (recovery_stepped (recovery_steps.recovery_on_reply rsp (recovery_state_of node)) (at_first node)) all all
received_given (inputs.Lost number) node all =
    cond_either WereGiven (gateways.gateway_awaits number node.gateway) (at_first node)
    (recovery_stepped (recovery_steps.recovery_on_loss number (recovery_state_of node)) (at_first node)) all all
received_given (inputs.LogEntry entry) node all = all
received_given inputs.Put node all = by_outbox node.outbox
  where
    by_outbox : (outbox : List Entry) → WereGiven (on_put outbox (at_first node))
    by_outbox [] = all
    by_outbox (entry ∷ later) = all
received_given inputs.RecoverTick node all = grown node.sends _ node.gateway.works (omega arith) all
received_given inputs.RetryTick node all = all
received_given (inputs.Back entries) node all = none_is (HasNumbersBelow (on_back entries node).sends)

pub numbers_given_at_opening : (me : NodeId) (tries : ℕ) → NumbersWereGiven (initial_node me tries)
numbers_given_at_opening me tries = none_is (HasNumbersBelow 0)

abbrev pub GivenWithOneWork : StepState → Type 0
GivenWithOneWork so_far = StepHasOneWork so_far × WereGiven so_far

pub numbers_stay_given : (input : Input) (node : Node) → May input node → HasOneWorkPerRequest node → NumbersWereGiven node
    → NumbersWereGiven (node_step input node).node
numbers_stay_given input node may driven all =
    (kept_by_chain GivenWithOneWork
    (λ so_far next change both. (
      change_keeps_one_work so_far next change (meets_numbers input node may.condition, driven) both.0,
      change_keeps_given so_far next change both.0 both.1,
    )) (step_chain input node)
    (received_one_work input node driven.driven, received_given input node all)).1
