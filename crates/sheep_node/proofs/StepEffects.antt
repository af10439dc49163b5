-- How sends and replies go in a step, and what its changes leave alone: who the node is, its peer, its epochs and its recovery, and
-- what is said and put. These are as they were when the input was received.
use Rattle.std.proofs.Common.{◌≡◌, ℕ, ◌+◌, ◌≤◌, nat_lt, Bool, true, false, cond, List, [], ◌∷◌, length, map, Option, refl, sym, ap, subst, ◌∙◌, arith}
use Rattle.std.proofs.lemmas.Bool.{ltb-true, ltb-false}
use Rattle.std.proofs.lemmas.List.{length-append}
use Rattle.proof_tools.proofs.Booleans.{cond_either}
use Rattle.object_id.specs.declared.cause.Cause.TheVariants.{Halt}
use Rattle.object_id.specs.declared.node.NodeId.{NodeId}
use Rattle.object_id.specs.declared.entry.Entry.{Entry}
use Rattle.vnode_table.specs.Epochs.{EpochMembers}
use Rattle.vnode_table.specs.Targets.{targets_in}
use Rattle.peer_proto.specs.Work.{oid_of, policy_of}
use Rattle.peer_proto.specs.declared.ask.PeerReq.{PeerReq}
use Rattle.peer_proto.specs.declared.guest.GuestRsp.{GuestRsp}
use Rattle.peer_proto.specs.declared.guest.GuestRsp.TheVariants.{Refused}
use Rattle.peer_proto.specs.declared.say.PeerRsp.{PeerRsp}
use Rattle.peer_service.specs.State.{Peer}
use Rattle.gateway.specs.Work.{zones_for}
use Rattle.gateway.specs.Attempt.{send_of}
use Rattle.gateway.specs.State as gateways
use Rattle.gateway.specs.State.{Work, Open}
use Rattle.gateway.specs.Step.{with_work}
use Rattle.gateway.specs.Outcomes.{AreNumberedFrom}
use Rattle.gateway.proofs.SendLaws.{sends-numbers}
use Rattle.recovery.specs.State.{Recovery, RecoveryState}
use Rattle.recovery.specs.Steps as recovery_steps
use Rattle.sheep_node.specs.declared.input.Input.{Input}
use Rattle.sheep_node.specs.declared.input.Input.TheVariants as inputs
use Rattle.sheep_node.specs.State.{Node}
use Rattle.sheep_node.specs.RecoveryView.{recovery_state_of}
use Rattle.sheep_node.specs.StepState.{StepState, at_first, with_sends, replies_in_order, with_guest_reply, with_gateway, without_request, request_ended}
use Rattle.sheep_node.specs.LogReading.{entry_read, on_back}
use Rattle.sheep_node.specs.Step.{on_request, recovery_stepped, on_put, on_recover_tick, node_step}
use Rattle.sheep_node.specs.StepFacts.{AscendFrom, Ascend}
use Rattle.sheep_node.specs.Changes as changes
use Rattle.sheep_node.specs.Changes.{Outcome, ToWork, ToEntry, ToReply, without_ended_work, zones_of_members, without_denied_work, attempt_in, RequestSteps, DiskBegins, DiskGoesOn, CommandBegins, CommandGoesOn, CommandDecided, WorkIsNext, AtOnce, InTurn, Again, AgainAlone, input_received, Change, CheckBegins, CheckGoesOn, ObjectBegins, ObjectIsDone, EntryBegins, EntryDecided}
use Rattle.sheep_node.proofs.RefusedCourses.{course_refused-keeps, request_refused-keeps}
use Rattle.sheep_node.proofs.Numbers.{tick_numbers, numbers_joined}
use Rattle.sheep_node.proofs.StepChain.{kept_by_chain, step_chain}

-- what the changes of a step leave alone
pub record Untouched : Type 0 where
  pub me : NodeId
  pub peer : Peer
  pub epochs : List EpochMembers
  pub recovery : Recovery
  pub say : Option PeerRsp
  pub put : Option Entry

abbrev pub untouched_in : StepState → Untouched
untouched_in so_far = record {
  me = so_far.node.me;
  peer = so_far.node.peer;
  epochs = so_far.node.epochs;
  recovery = so_far.node.recovery;
  say = so_far.outputs.say;
  put = so_far.outputs.put;
}

-- the sends are numbered from a number on, and the count of sends is behind them; the replies ascend; the rest is untouched
pub record AreInOrder (first : ℕ) (sends : List (NodeId × PeerReq)) (count : ℕ) (replies : List (ℕ × GuestRsp))
    (recovered was_recovered : Bool) (old now : Untouched) : Type 0 where
  pub numbers : AreNumberedFrom first sends
  pub counted : count ≡ first + length sends
  pub ascend : Ascend replies
  pub recovered_stays : was_recovered ≡ true → recovered ≡ true
  pub same : now ≡ old

module _ (first : ℕ) (was_recovered : Bool) (old : Untouched) where
  abbrev pub IsInOrder : StepState → Type 0
  IsInOrder so_far = AreInOrder first so_far.outputs.sends so_far.node.sends so_far.outputs.replies so_far.node.recovered was_recovered old (untouched_in so_far)

  pub sent_in_order : (sends : List (NodeId × PeerReq)) (so_far : StepState) → AreNumberedFrom so_far.node.sends sends → IsInOrder so_far
      → IsInOrder (with_sends sends so_far)
  sent_in_order sends so_far n s = record {
    numbers = numbers_joined first so_far.outputs.sends sends s.numbers (subst (λ (k : ℕ). AreNumberedFrom k sends) s.counted n);
    counted =
        ap (λ k. k + length sends) s.counted ∙ the_sum first (length so_far.outputs.sends) (length sends)
        ∙ ap (λ k. first + k) (sym (length-append so_far.outputs.sends sends));
    ascend = s.ascend;
    recovered_stays = s.recovered_stays;
    same = s.same;
  }
    where
      the_sum : (a b c : ℕ) → (a + b) + c ≡ a + (b + c)
      the_sum a b c = omega arith

  placed_if : (low : ℕ) (reply next : ℕ × GuestRsp) (later : List (ℕ × GuestRsp)) (b : Bool) → nat_lt reply.0 next.0 ≡ b
      → low ≤ reply.0 → low ≤ next.0 → AscendFrom next.0 later → (next.0 ≤ reply.0 → AscendFrom next.0 (replies_in_order reply later))
      → AscendFrom low (cond b (reply ∷ next ∷ later) (next ∷ replies_in_order reply later))
  placed_if low reply next later true e below from rest there =
      let before : reply.0 ≤ next.0 = (let less = ltb-true reply.0 next.0 e in omega arith) in
      (below, (before, rest))
  placed_if low reply next later false e below from rest there = (from, there (ltb-false reply.0 next.0 e))

  placed_ascends : (low : ℕ) (reply : ℕ × GuestRsp) (replies : List (ℕ × GuestRsp)) → low ≤ reply.0 → AscendFrom low replies
      → AscendFrom low (replies_in_order reply replies)
  placed_ascends low reply [] below h = (below, tt)
  placed_ascends low reply (next ∷ later) below h =
      placed_if low reply next later (nat_lt reply.0 next.0) refl below h.0 h.1
      (λ (from : next.0 ≤ reply.0). placed_ascends next.0 reply later from h.1)

  replied_in_order : (req : ℕ) (reply : GuestRsp) (so_far : StepState) → IsInOrder so_far → IsInOrder (with_guest_reply req reply so_far)
  replied_in_order req reply so_far s =
      let above : 0 ≤ req = omega arith in
      record {
        numbers = s.numbers;
        counted = s.counted;
        ascend = placed_ascends 0 (req, reply) so_far.outputs.replies above s.ascend;
        recovered_stays = s.recovered_stays;
        same = s.same;
      }

  ended_in_order : (session req : ℕ) (reply : GuestRsp) (so_far : StepState) → IsInOrder so_far → IsInOrder (request_ended session req reply so_far)
  unfolding request_ended
  ended_in_order session req reply so_far s = replied_in_order req reply (without_request session req so_far) s

  steps_in_order : {input : Input} {node : Node} → (so_far : StepState) (session req : ℕ) (outcome : Outcome) (moved : StepState)
      → RequestSteps input node so_far session req outcome moved → IsInOrder so_far → IsInOrder moved
  steps_in_order so_far session req outcome moved (DiskBegins ask disk there on may) s = s
  steps_in_order so_far session req outcome moved (DiskGoesOn number work attempt status bytes driver disk step ends on is) s = s
  steps_in_order so_far session req outcome moved (CommandBegins ask step arrival is) s = s
  steps_in_order so_far session req outcome moved (CommandGoesOn number work attempt status bytes op step ends is) s = s
  steps_in_order so_far session req outcome moved (CommandDecided entry op step from read there waits is) s = s
  steps_in_order so_far session req outcome moved (CheckBegins inode arrival on) s = s
  steps_in_order so_far session req outcome moved (CheckGoesOn number work attempt status bytes check step ends is) s = s
  steps_in_order so_far session req outcome moved (ObjectBegins asked arrival) s = s
  steps_in_order so_far session req outcome moved (ObjectIsDone number work attempt status bytes asked ends) s = s
  steps_in_order so_far session req outcome moved (EntryBegins entry arrival) s = s
  steps_in_order so_far session req outcome moved (EntryDecided entry wanted from read there waits) s = s

  next_in_order : {input : Input} {node : Node} → (so_far : StepState) (session req : ℕ) (asked : Work) (lined : StepState)
      → WorkIsNext input node so_far session req asked lined → IsInOrder so_far → IsInOrder lined
  next_in_order so_far session req asked lined (AtOnce work moved steps begins) s = steps_in_order so_far session req (ToWork work) moved steps s
  next_in_order so_far session req asked lined (InTurn work later none is) s = s
  next_in_order so_far session req asked lined (Again work course from next there request) s = s
  next_in_order so_far session req asked lined (AgainAlone work from next there none) s = s

  opened_in_order : (req : ℕ) (asked : Work) (so_far : StepState) → IsInOrder so_far → IsInOrder (changes.with_open_attempt req asked so_far)
  opened_in_order req asked so_far s =
      sent_in_order
      (map (send_of so_far.node.gateway.me (record { 0 = so_far.node.peer.epoch }) asked.work) (attempt_in asked so_far.node).messages)
      (with_gateway (with_work req (record asked { stage = Open (attempt_in asked so_far.node) }) so_far.node.gateway) so_far)
      (sends-numbers so_far.node.gateway.me (record { 0 = so_far.node.peer.epoch }) asked.work asked.ended so_far.node.sends
      (targets_in so_far.node.epochs so_far.node.peer.epoch (oid_of asked.work) (policy_of asked.work))) s

  pub change_keeps_order : {input : Input} {node : Node} → (so_far next : StepState) → Change input node so_far next → IsInOrder so_far → IsInOrder next
  change_keeps_order so_far next (changes.Marks req number work attempt status learns over) s = s
  change_keeps_order so_far next (changes.Fails session req number work attempt status course ends done why) s = s
  change_keeps_order so_far next (changes.Stops session req number work attempt status course bytes ends over) s = s
  change_keeps_order so_far next (changes.Refuses session req number work attempt status course cause ends done why) s =
      course_refused-keeps IsInOrder ended_in_order (λ entry before now. now) session req cause course (without_ended_work session req work status so_far) s
  change_keeps_order so_far next (changes.Opens session req asked lined comes enough) s =
      opened_in_order req asked lined (next_in_order so_far session req asked lined comes s)
  change_keeps_order so_far next (changes.Holds session req asked lined comes short touched) s = next_in_order so_far session req asked lined comes s
  change_keeps_order so_far next (changes.Denies session req asked lined request comes short untouched there own) s =
      request_refused-keeps IsInOrder ended_in_order (λ entry before now. now) req (Halt (zones_of_members lined.node) (zones_for asked.work)) request (without_denied_work session req asked lined)
      (next_in_order so_far session req asked lined comes s)
  change_keeps_order so_far next (changes.Strays req work gateway there none apart) s = s
  change_keeps_order so_far next (changes.Lines session req work moved steps waits) s = steps_in_order so_far session req (ToWork work) moved steps s
  change_keeps_order so_far next (changes.Appends session req entry moved steps) s = steps_in_order so_far session req (ToEntry entry) moved steps s
  change_keeps_order so_far next (changes.Replies session req reply moved steps) s =
      ended_in_order session req reply moved (steps_in_order so_far session req (ToReply reply) moved steps s)
  change_keeps_order so_far next (changes.Arrives session req ask disk arrival on) s = s
  change_keeps_order so_far next (changes.Rejects session req ask cause arrival) s = replied_in_order req (Refused cause) so_far s
  change_keeps_order so_far next (changes.Recovers due) s =
      record { numbers = s.numbers; counted = s.counted; ascend = s.ascend; recovered_stays = λ was. refl; same = s.same }

-- ---- the beginning of a step

abbrev pub BeginsInOrder : ℕ → StepState → Type 0
BeginsInOrder first start = IsInOrder first start.node.recovered (untouched_in start) start

module _ (node : Node) where
  idle : BeginsInOrder node.sends (at_first node)
  idle = record { numbers = refl; counted = omega arith; ascend = tt; recovered_stays = λ was. was; same = refl }

  heard : (state : RecoveryState) → BeginsInOrder node.sends (recovery_stepped state (at_first node))
  heard state = record { numbers = refl; counted = omega arith; ascend = tt; recovered_stays = λ was. was; same = refl }

pub received_in_order : (input : Input) (node : Node) → BeginsInOrder node.sends (input_received input (at_first node))
unfolding entry_read on_request on_recover_tick on_back
received_in_order (inputs.Guest req session ask) node = idle node
received_in_order (inputs.Request request) node =
    record { numbers = refl; counted = omega arith; ascend = tt; recovered_stays = λ was. was; same = refl }
received_in_order (inputs.Reply rsp) node =
    cond_either (BeginsInOrder node.sends) (gateways.gateway_awaits rsp.number node.gateway)
    (at_first node) (recovery_stepped (recovery_steps.recovery_on_reply rsp (recovery_state_of node)) (at_first node)) (idle node)
    (heard node (recovery_steps.recovery_on_reply rsp (recovery_state_of node)))
received_in_order (inputs.Lost number) node =
    cond_either (BeginsInOrder node.sends) (gateways.gateway_awaits number node.gateway)
    (at_first node) (recovery_stepped (recovery_steps.recovery_on_loss number (recovery_state_of node)) (at_first node)) (idle node)
    (heard node (recovery_steps.recovery_on_loss number (recovery_state_of node)))
received_in_order (inputs.LogEntry entry) node = record {
  numbers = refl;
  counted = omega arith;
  ascend = tt;
  recovered_stays = λ was. was;
  same = refl;
}
received_in_order inputs.Put node = by_outbox node.outbox
  where
    by_outbox : (outbox : List Entry) → BeginsInOrder node.sends (on_put outbox (at_first node))
    by_outbox [] = idle node
    by_outbox (entry ∷ later) =
        record { numbers = refl; counted = omega arith; ascend = tt; recovered_stays = λ was. was; same = refl }
received_in_order inputs.RecoverTick node = record {
  numbers = tick_numbers node.sends (recovery_state_of node);
  counted = refl;
  ascend = tt;
  recovered_stays = λ was. was;
  same = refl;
}
received_in_order inputs.RetryTick node = idle node
received_in_order (inputs.Back entries) node =
    record { numbers = refl; counted = omega arith; ascend = tt; recovered_stays = λ was. was; same = refl }

-- a step is in order
pub step_in_order : (input : Input) (node : Node)
    → IsInOrder node.sends (input_received input (at_first node)).node.recovered (untouched_in (input_received input (at_first node)))
    (node_step input node)
step_in_order input node =
    let start = input_received input (at_first node) in
    kept_by_chain (IsInOrder node.sends start.node.recovered (untouched_in start))
    (change_keeps_order node.sends start.node.recovered (untouched_in start)) (step_chain input node)
    (received_in_order input node)
