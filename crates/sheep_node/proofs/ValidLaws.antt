-- What a node has of disks is valid at its opening and after each step; so a step sends no more than 1,000 messages.
use Rattle.std.proofs.Common.{◌≡◌, ℕ, ◌+◌, ◌*◌, ◌≤◌, List, [], ◌∷◌, ◌++◌, length, All, sym, ap, subst, ◌∙◌, append_assoc, append-nil}
use native.Mathlib.Omega.{arith}
use Rattle.std.specs.FinMap as tree
use Rattle.std.proofs.lemmas.List.Elements.{All-nil, All-push, All-tail}
use Rattle.proof_tools.proofs.Booleans.{cond_either}
use Rattle.object_id.specs.Policy.{IsPolicy}
use Rattle.object_id.specs.declared.node.NodeId.{NodeId}
use Rattle.object_id.specs.declared.entry.Entry.{Entry}
use Rattle.object_id.specs.declared.entry.Entry.TheVariants.{Format, Join, Leave, Reweight, Recovered, Reserve, Publish, Clone, Snapshot, Delete, Lock, Unlock}
use Rattle.epoch_log.specs.Appending.{IsReservable}
use Rattle.vdi_directory.proofs.ValidLemmas.{header-valid}
use Rattle.peer_proto.specs.Work.{oid_of}
use Rattle.peer_service.specs.State.{effects_of}
use Rattle.gateway.specs.State as gateways
use Rattle.gateway.specs.State.{Work}
use Rattle.recovery.specs.Steps as recovery_steps
use Rattle.sheep_node.specs.declared.ask.Ask.{Ask}
use Rattle.sheep_node.specs.declared.ask.Ask.TheVariants as asks
use Rattle.sheep_node.specs.declared.input.Input.{Input}
use Rattle.sheep_node.specs.declared.input.Input.TheVariants as inputs
use Rattle.sheep_node.specs.declared.course.Request.{Request}
use Rattle.sheep_node.specs.State.{Node, initial_node}
use Rattle.sheep_node.specs.RecoveryView.{recovery_state_of}
use Rattle.sheep_node.specs.RecoveryRange.{RecoveryMayStep}
use Rattle.sheep_node.specs.StepState.{StepState, at_first}
use Rattle.sheep_node.specs.LogReading.{entry_read, on_back}
use Rattle.sheep_node.specs.Step.{on_request, recovery_stepped, on_put, on_recover_tick, node_step}
use Rattle.sheep_node.specs.StepFacts.{read_after}
use Rattle.sheep_node.specs.May.{IsGuestAsk, MayRead, MayReadAll, Meets, May}
use Rattle.sheep_node.specs.OutsideAsks.{IsEntryAsk}
use Rattle.sheep_node.specs.SessionQueues.{QueuesAreShort}
use Rattle.sheep_node.specs.Validity.{IsValidSessionBy}
use Rattle.sheep_node.specs.ValidDisks.{IsValidAsk, IsValidInput, WorkHasPolicy, IsValidCourse, HaveValidDisks, disk_validity, HasValidDisks}
use Rattle.sheep_node.specs.Changes.{input_received}
use Rattle.sheep_node.proofs.MessageCounts.{tick_few}
use Rattle.sheep_node.proofs.OutsideAskLaws.{known_spec}
use Rattle.sheep_node.proofs.PeerLog.{entries_reading}
use Rattle.sheep_node.proofs.ValidityChanges.{none_is}
use Rattle.sheep_node.proofs.ValidChanges.{IsValidSoFar, chain_valid}
use Rattle.sheep_node.proofs.ValidSteps.{HeadersAreValid}
use Rattle.sheep_node.proofs.QueueLengths.{queues_stay_short_along}
use Rattle.sheep_node.proofs.ReachedSteps.{changes_in}
use Rattle.sheep_node.proofs.StepChain.{step_chain, changes_in-step_chain}
use Rattle.sheep_node.proofs.StepResults.{step_reads}

-- ---- what may be read reserves for such disks

pub read_reservable : (before : List Entry) (entry : Entry) → MayRead before entry → IsReservable entry
read_reservable (first ∷ later) entry may = may.reservable
read_reservable [] (Format members) may = tt
read_reservable [] (Join node zone vnodes) may = absurd may
read_reservable [] (Leave node) may = absurd may
read_reservable [] (Reweight node vnodes) may = absurd may
read_reservable [] (Recovered node epoch) may = absurd may
read_reservable [] (Reserve by session name origin) may = absurd may
read_reservable [] (Publish by vid) may = absurd may
read_reservable [] (Clone by vid) may = absurd may
read_reservable [] (Snapshot by old vid) may = absurd may
read_reservable [] (Delete by session name tag) may = absurd may
read_reservable [] (Lock by session name tag) may = absurd may
read_reservable [] (Unlock by session vid) may = absurd may

all_reservable : (before later : List Entry) → All IsReservable before → MayReadAll before later → All IsReservable (before ++ later)
all_reservable before [] are may = subst (All IsReservable) (sym (append-nil before)) are
all_reservable before (entry ∷ later) are may =
    subst (All IsReservable) (append_assoc before (entry ∷ []) later)
    (all_reservable (before ++ entry ∷ []) later (All-push IsReservable before entry are (read_reservable before entry may.0)) may.1)

pub reservable_after : (input : Input) (read : List Entry) → IsValidInput input → All IsReservable read → All IsReservable (read_after input read)
reservable_after (inputs.Guest req session ask) read valid are = are
reservable_after (inputs.Request request) read valid are = are
reservable_after (inputs.Reply rsp) read valid are = are
reservable_after (inputs.Lost number) read valid are = are
reservable_after (inputs.LogEntry entry) read valid are = All-push IsReservable read entry are valid
reservable_after inputs.Put read valid are = are
reservable_after inputs.RecoverTick read valid are = are
reservable_after inputs.RetryTick read valid are = are
reservable_after (inputs.Back entries) read valid are = valid

-- a lock, or its end, is what a client asks for
asked_reservable : (me : NodeId) (entry : Entry) → IsEntryAsk me entry → IsReservable entry
asked_reservable me (Lock by session name tag) may = tt
asked_reservable me (Unlock by session vid) may = tt
asked_reservable me (Format members) may = absurd may
asked_reservable me (Join node zone vnodes) may = absurd may
asked_reservable me (Leave node) may = absurd may
asked_reservable me (Reweight node vnodes) may = absurd may
asked_reservable me (Recovered node epoch) may = absurd may
asked_reservable me (Reserve by session name origin) may = absurd may
asked_reservable me (Publish by vid) may = absurd may
asked_reservable me (Clone by vid) may = absurd may
asked_reservable me (Snapshot by old vid) may = absurd may
asked_reservable me (Delete by session name tag) may = absurd may

valid_ask : (node : Node) (ask : Ask) → IsGuestAsk node ask → All IsReservable node.peer.entries → IsValidAsk ask
valid_ask node (asks.Disk ask) may are = tt
valid_ask node (asks.Vdi ask) may are = may
valid_ask node (asks.Object work) may are =
    subst IsPolicy (sym may.policy) (known_spec node.peer (oid_of work) may.spec are may.known).policy
valid_ask node (asks.Entry entry) may are = asked_reservable node.me entry may

-- what a node may step on is valid
pub valid_input : (input : Input) (node : Node) → Meets input node → All IsReservable node.peer.entries → IsValidInput input
valid_input (inputs.Guest req session ask) node meets are = valid_ask node ask meets.asked are
valid_input (inputs.Request request) node meets are = tt
valid_input (inputs.Reply rsp) node meets are = tt
valid_input (inputs.Lost number) node meets are = tt
valid_input (inputs.LogEntry entry) node meets are = read_reservable node.peer.entries entry meets
valid_input inputs.Put node meets are = tt
valid_input inputs.RecoverTick node meets are = tt
valid_input inputs.RetryTick node meets are = tt
valid_input (inputs.Back entries) node meets are =
    subst (All IsReservable) (sym meets.goes_on) (all_reservable node.peer.entries meets.later are meets.read)

-- ---- the beginning of a step

abbrev IsValidNode : Node → Type 0
IsValidNode node = HaveValidDisks node.gateway.works node.requests node.sessions × All IsReservable node.outbox

none_have : HaveValidDisks tree.empty tree.empty tree.empty
none_have = record {
  open_works = none_is (λ (work : Work). WorkHasPolicy work.work);
  courses = none_is (λ (request : Request). IsValidCourse request.course);
  each_session = none_is (IsValidSessionBy disk_validity);
}

pub received_valid : (input : Input) (node : Node) → IsValidNode node → IsValidNode (input_received input (at_first node)).node
unfolding entry_read on_request on_recover_tick on_back
received_valid (inputs.Guest req session ask) node all = all
received_valid (inputs.Request request) node all = all
received_valid (inputs.Reply rsp) node all =
    cond_either (λ (start : StepState). IsValidNode start.node) (gateways.gateway_awaits rsp.number node.gateway) (at_first node)
    (recovery_stepped (recovery_steps.recovery_on_reply rsp (recovery_state_of node)) (at_first node)) all all
received_valid (inputs.Lost number) node all =
    cond_either (λ (start : StepState). IsValidNode start.node) (gateways.gateway_awaits number node.gateway) (at_first node)
    (recovery_stepped (recovery_steps.recovery_on_loss number (recovery_state_of node)) (at_first node)) all all
received_valid (inputs.LogEntry entry) node all = all
received_valid inputs.Put node all = by_outbox node.outbox all.1
  where
    by_outbox : (outbox : List Entry) → All IsReservable outbox → IsValidNode (on_put outbox (at_first node)).node
    by_outbox [] are = all
    by_outbox (entry ∷ later) are = (all.0, All-tail IsReservable entry later are)
received_valid inputs.RecoverTick node all = all
received_valid inputs.RetryTick node all = all
received_valid (inputs.Back entries) node all = (none_have, All-nil IsReservable)

-- only a tick sends by itself
pub received_sends : (input : Input) (node : Node) → RecoveryMayStep node → length (input_received input (at_first node)).outputs.sends ≤ 64
unfolding entry_read on_request on_recover_tick on_back
received_sends (inputs.Guest req session ask) node is = omega arith
received_sends (inputs.Request request) node is = omega arith
received_sends (inputs.Reply rsp) node is =
    cond_either (λ (start : StepState). length start.outputs.sends ≤ 64) (gateways.gateway_awaits rsp.number node.gateway) (at_first node)
    (recovery_stepped (recovery_steps.recovery_on_reply rsp (recovery_state_of node)) (at_first node)) (omega arith) (omega arith)
received_sends (inputs.Lost number) node is =
    cond_either (λ (start : StepState). length start.outputs.sends ≤ 64) (gateways.gateway_awaits number node.gateway) (at_first node)
    (recovery_stepped (recovery_steps.recovery_on_loss number (recovery_state_of node)) (at_first node)) (omega arith) (omega arith)
received_sends (inputs.LogEntry entry) node is = omega arith
received_sends inputs.Put node is = by_outbox node.outbox
  where
    by_outbox : (outbox : List Entry) → length (on_put outbox (at_first node)).outputs.sends ≤ 64
    by_outbox [] = omega arith
    by_outbox (entry ∷ later) = omega arith
received_sends inputs.RecoverTick node is = tick_few node.sends node is.may
received_sends inputs.RetryTick node is = omega arith
received_sends (inputs.Back entries) node is = omega arith

-- ---- a step

module _ (input : Input) (node : Node) (valid : IsValidInput input) (sound : HasValidDisks node) where
  reservable : All IsReservable (read_after input node.peer.entries)
  reservable = reservable_after input node.peer.entries valid sound.read

  pub headers_are_valid : (entry : Entry) → input ≡ inputs.LogEntry entry → HeadersAreValid (effects_of (entry_read entry node).peer)
  headers_are_valid entry from vid header there =
      let entries : read_after input node.peer.entries ≡ (entry_read entry node).peer.entries
      = ap (λ (input : Input). read_after input node.peer.entries) from ∙ sym (entries_reading entry node) in
      let is = header-valid (entry_read entry node).peer.entries (subst (All IsReservable) entries reservable) vid header there in
      (is.spec.policy, is.name)

  step_valid : (most : ℕ) → length (input_received input (at_first node)).outputs.sends ≤ most
      → IsValidSoFar (31 * changes_in (step_chain input node) + most) (node_step input node)
  step_valid most few =
      let received = received_valid input node (sound.kept, sound.to_put) in
      chain_valid most headers_are_valid valid (step_chain input node) (received.0, record { few = few; sent = λ k d within. tt; to_put = received.1 })

  pub valid_disks_stay : HasValidDisks (node_step input node).node
  valid_disks_stay =
      let now = step_valid (length (input_received input (at_first node)).outputs.sends) (omega arith) in
      record { read = subst (All IsReservable) (sym (step_reads input node)) reservable; to_put = now.1.to_put; kept = now.0 }

  pub sends_few : May input node → QueuesAreShort node → RecoveryMayStep node → length (node_step input node).outputs.sends ≤ 1000
  sends_few may short recovers =
      let few = (step_valid 64 (received_sends input node recovers)).1.few in
      let changes : changes_in (step_chain input node) ≤ 19 = changes_in-step_chain input node (queues_stay_short_along input node may short) in
      omega (arith, few, changes)

pub valid_disks_at_opening : (me : NodeId) (tries : ℕ) → HasValidDisks (initial_node me tries)
valid_disks_at_opening me tries = record { read = All-nil IsReservable; to_put = All-nil IsReservable; kept = none_have }
