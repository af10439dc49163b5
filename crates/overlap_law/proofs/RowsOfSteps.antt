-- A step of a sound node leaves its rows as the rows of their objects are.
use Rattle.std.proofs.Common.{◌≡◌, arith, ℕ, ◌-◌, ◌^◌, ◌<◌, ◌≤◌, nat_lt, Bool, true, false, not, cond, List, [], ◌∷◌, map, All, Option}
use Rattle.std.proofs.Common.{Some, None, IfSome, refl, sym, ap, subst}
use Rattle.std.specs.Option.{option_map}
use Rattle.std.proofs.lemmas.Bool.{leb-true}
use Rattle.std.proofs.lemmas.List.Elements.{All-nil, All-filter}
use Rattle.std.proofs.lemmas.Option.{same_Some}
use Rattle.proof_tools.proofs.Booleans.{cond_either}
use Rattle.object_id.specs.declared.entry.Entry.{Entry}
use Rattle.object_id.specs.declared.entry.Member.{Member}
use Rattle.object_id.specs.declared.entry.VdiSpec.{VdiSpec}
use Rattle.object_id.specs.declared.node.NodeId.{NodeId}
use Rattle.object_id.specs.declared.policy.Policy.{Policy}
use Rattle.object_id.specs.Oid.{kind_of, vid_of}
use Rattle.epoch_log.specs.Epochs.{begins_epoch, epoch_of, settled_of}
use Rattle.object_store.proofs.StoreLaws.{rows_of-empty}
use Rattle.peer_proto.specs.declared.say.PeerRsp.{PeerRsp}
use Rattle.peer_proto.specs.declared.say.PeerSay.{PeerSay}
use Rattle.vdi_directory.specs.declared.effect.Effect.{Effect}
use Rattle.peer_service.specs.State.{Peer, row_size, spec_of}
use Rattle.peer_service.specs.Epochs as peers
use Rattle.peer_service.specs.Epochs.{peer_settled_to}
use Rattle.peer_service.specs.LogReading.{without_objects, read_entry}
use Rattle.peer_service.specs.Back.{closed_at_end, come_back}
use Rattle.vnode_table.specs.Targets.{targets_in}
use Rattle.gateway.specs.State as gateways
use Rattle.recovery.specs.Fits.{fits_recovery}
use Rattle.recovery.specs.Frame.{Frame}
use Rattle.recovery.specs.State.{Message, RecoveryState, has_number, message_of}
use Rattle.recovery.specs.Step.{SaysOfRow, MayStep}
use Rattle.recovery.specs.Steps as recovery_steps
use Rattle.recovery.specs.Steps.{without_unanswered, message_end}
use Rattle.recovery.specs.Tick.{state_after_tick}
use Rattle.recovery.proofs.ReplyLemmas.{reply_fits}
use Rattle.recovery.proofs.StepLemmas.{frame_of_end, frame_of_tick}
use Rattle.object_id.specs.declared.limits.TheConstants.{TARGETS_MAX}
use Rattle.sheep_node.specs.declared.input.Input.{Input}
use Rattle.sheep_node.specs.declared.input.Input.TheVariants as inputs
use Rattle.sheep_node.specs.declared.limits.TheConstants.{SENDS_MAX}
use Rattle.sheep_node.specs.State as nodes
use Rattle.sheep_node.specs.State.{Node}
use Rattle.sheep_node.specs.RecoveryView.{shown_node, recovery_state_of, with_recovered_rows}
use Rattle.sheep_node.specs.StepState.{StepState, at_first}
use Rattle.sheep_node.specs.May.{May}
use Rattle.sheep_node.specs.LogReading.{epoch_members, epochs_with_entry, peer_with_entry, node_with_entry, recovery_in_epoch}
use Rattle.sheep_node.specs.LogReading.{begins_recovery, recovery_with_entry, entry_read, come_back_with, on_back}
use Rattle.sheep_node.specs.Step.{on_request, recovery_stepped, on_put, on_recover_tick, node_step}
use Rattle.sheep_node.specs.Changes.{input_received}
use Rattle.sheep_node.specs.NodeInvariant.{IsSoundNode}
use Rattle.sheep_node.proofs.RecoverySteps.{fits_what_recovery_asked}
use Rattle.sheep_node.proofs.StepResults.{step_peer}
use Rattle.sheep_world.proofs.RangeBySteps.{few_targets}
use Rattle.overlap_law.specs.Each.{spec_in}
use Rattle.overlap_law.specs.RowsInRange.{CreatesAsRowsAre}
use Rattle.overlap_law.proofs.RowsOfPeers.{IsRowBy, AreRowsBy, IsNumber, HasRowsBy, later_rows, served_rows, entered_are, back_are}
use Rattle.overlap_law.proofs.RowsOfPeers.{settled_are, read_are}
use Rattle.overlap_law.proofs.RowsOfRecoveries.{KnowsSpec, IsRowView, RowsAt, begun_rows, ticked_rows, ended_rows_of}
use Rattle.overlap_law.proofs.ServedNodes.{sound_epoch}

-- nothing has rows at first
pub none_yet : (effects : List Effect) (me : NodeId) (tries : ℕ) → HasRowsBy effects (nodes.initial_node me tries).peer
none_yet effects me tries oid =
    let Is = IsRowBy effects (nodes.initial_node me tries).peer.epoch oid in
    subst (All Is) (sym (rows_of-empty oid)) (All-nil Is)

-- what is known of the disks by the entries of a node is so by these effects too
abbrev pub KnowsLess : List Effect → Node → Type 0
KnowsLess effects node = (oid : ℕ) (spec : VdiSpec) → spec_of node.peer oid ≡ Some spec → spec_in effects (vid_of oid) ≡ Some spec

module _ (effects : List Effect) (node : Node) (is : IsSoundNode node) (knows : KnowsLess effects node)
    (are : HasRowsBy effects node.peer) where
  abbrev state : RecoveryState
  state = recovery_state_of node

  number : IsNumber effects node.peer.epoch
  number =
      let least = is.recovery.may.epoch in
      let entered = is.recovery.may.entered in
      (omega (arith, least, entered), sound_epoch node is)

  view : IsRowView effects (shown_node node)
  view = record {
    knows = λ oid policy known. by_spec oid policy (spec_of node.peer oid) refl known;
    targets = few_targets node.epochs;
    number = number;
  }
    where
      by_spec : (oid : ℕ) (policy : Policy) (o : Option VdiSpec) → spec_of node.peer oid ≡ o
          → option_map (λ (spec : VdiSpec). spec.policy) o ≡ Some policy → KnowsSpec effects (shown_node node) oid policy
      by_spec oid policy None known so = absurd (cc (so))
      by_spec oid policy (Some spec) known so = record {
        spec = spec;
        made = knows oid spec known;
        policy_so = same_Some spec.policy policy so;
        size_so = ap (option_map (row_size (kind_of oid))) known;
      }

  -- a message is unanswered no more
  let_go_may : (n : ℕ) → MayStep (without_unanswered n state)
  let_go_may n = record {
    epoch = is.recovery.may.epoch;
    entered = is.recovery.may.entered;
    settled = is.recovery.may.settled;
    waiting = is.recovery.may.waiting;
    policies = is.recovery.may.policies;
    sizes = is.recovery.may.sizes;
    search = is.recovery.may.search;
    wanted = All-filter (λ (message : Message). not (has_number n message)) (λ (message : Message). message.wanted ≤ TARGETS_MAX)
        node.recovery.unanswered is.recovery.may.wanted;
  }

  ended : (n : ℕ) (said : Option PeerSay)
      → IfSome said (λ say. IfSome (message_of n node.recovery.unanswered)
      (λ (message : Message). SaysOfRow (shown_node node) message.request.ask say))
      → HasRowsBy effects (recovery_stepped (message_end n said state) (at_first node)).node.peer
  ended n said told =
      subst (λ (epoch : ℕ). AreRowsBy effects epoch (message_end n said state).shown.rows)
      (ap (λ (f : Frame). f.epoch) (frame_of_end n said state))
      (ended_rows_of effects n said state view (let_go_may n) told are)

  replied : (rsp : PeerRsp) → fits_recovery rsp state ≡ true
      → HasRowsBy effects (recovery_stepped (recovery_steps.recovery_on_reply rsp state) (at_first node)).node.peer
  unfolding recovery_steps.recovery_on_reply
  replied rsp fits = ended rsp.number (Some rsp.say) (reply_fits rsp state fits is.recovery.may.wanted)

  told : (n : ℕ) → HasRowsBy effects (recovery_stepped (recovery_steps.recovery_on_loss n state) (at_first node)).node.peer
  unfolding recovery_steps.recovery_on_loss
  told n = ended n None tt

  ticked : May inputs.RecoverTick node → HasRowsBy effects (on_recover_tick (at_first node)).node.peer
  unfolding on_recover_tick
  ticked may =
      let count : node.sends ≤ SENDS_MAX = leb-true node.sends SENDS_MAX may.numbers in
      let room : node.sends ≤ 2 ^ 32 - 64 = omega (arith, count) in
      subst (λ (epoch : ℕ). AreRowsBy effects epoch (state_after_tick node.sends state).shown.rows)
      (ap (λ (f : Frame). f.epoch) (frame_of_tick node.sends state))
      (ticked_rows effects node.sends state view (record { work = may.condition; room = room }) is.recovery.may are)

  -- ---- an entry is read

  module _ (entry : Entry) where
    base : HasRowsBy effects (read_entry entry node.peer)
    unfolding read_entry without_objects
    base = read_are effects node.peer node.peer.epoch are entry

    base_number : IsNumber effects (read_entry entry node.peer).epoch
    unfolding read_entry without_objects
    base_number = number

    entered : HasRowsBy effects (peer_with_entry entry node)
    entered =
        cond_either (HasRowsBy effects) (begins_epoch entry)
        (peers.peer_in_next_epoch node.me (targets_in (epochs_with_entry entry node)) (read_entry entry node.peer))
        (read_entry entry node.peer)
        (entered_are effects (read_entry entry node.peer) base_number base node.me (targets_in (epochs_with_entry entry node))) base

    recovering : RowsAt effects (peer_with_entry entry node).epoch (recovery_with_entry entry node)
    recovering =
        let new : Node = node_with_entry entry node in
        cond_either (RowsAt effects (peer_with_entry entry node).epoch) (begins_recovery entry node) (recovery_in_epoch new)
        (recovery_state_of new)
        (begun_rows effects (peer_with_entry entry node).epoch new.peer.epoch (map (λ (member : Member). member.node) (epoch_members new))
        (recovery_state_of new) entered) entered

    entry_rows : HasRowsBy effects (entry_read entry node).peer
    unfolding entry_read peer_settled_to
    entry_rows =
        let settled : ℕ = settled_of (read_entry entry node.peer).entries in
        let peer : Peer = with_recovered_rows (recovery_with_entry entry node) (peer_with_entry entry node) in
        cond_either (HasRowsBy effects) (nat_lt peer.settled settled) (peer_settled_to settled peer) peer
        (settled_are effects peer peer.epoch recovering settled) recovering

  -- ---- the node comes back

  back_rows_are : (entries : List Entry) → node.peer.epoch ≤ epoch_of entries → HasRowsBy effects (on_back entries node).peer
  unfolding on_back come_back without_objects peer_settled_to closed_at_end
  back_rows_are entries later =
      let back : Node = come_back_with entries node in
      begun_rows effects (epoch_of entries) back.peer.epoch (map (λ (member : Member). member.node) (epoch_members back))
      (recovery_state_of back)
      (later_rows effects node.peer.epoch (epoch_of entries) (come_back entries node.peer).rows later
      (back_are effects node.peer number are entries))

  -- ---- each step

  -- what is asked of the step: a request is so, and any other input may be stepped on
  abbrev pub StepsSo : Input → Type 0
  StepsSo (inputs.Request request) = CreatesAsRowsAre effects request.ask
  StepsSo input = May input node

  received_rows : (input : Input) → StepsSo input → HasRowsBy effects (input_received input (at_first node)).node.peer
  unfolding on_request
  received_rows (inputs.Guest req session ask) may = are
  received_rows (inputs.Request request) creates = served_rows effects node.peer number are request creates
  received_rows (inputs.Reply rsp) may = by_waiting (gateways.gateway_awaits rsp.number node.gateway) refl
    where
      by_waiting : (b : Bool) → gateways.gateway_awaits rsp.number node.gateway ≡ b
          → HasRowsBy effects (cond b (at_first node)
          (recovery_stepped (recovery_steps.recovery_on_reply rsp state) (at_first node))).node.peer
      by_waiting true waits = are
      by_waiting false apart = replied rsp (fits_what_recovery_asked rsp node apart may.condition)
  received_rows (inputs.Lost n) may =
      cond_either (λ (start : StepState). HasRowsBy effects start.node.peer) (gateways.gateway_awaits n node.gateway) (at_first node)
      (recovery_stepped (recovery_steps.recovery_on_loss n state) (at_first node)) are (told n)
  received_rows (inputs.LogEntry entry) may = entry_rows entry
  received_rows inputs.Put may = by_outbox node.outbox
    where
      by_outbox : (outbox : List Entry) → HasRowsBy effects (on_put outbox (at_first node)).node.peer
      by_outbox [] = are
      by_outbox (entry ∷ later) = are
  received_rows inputs.RecoverTick may = ticked may
  received_rows inputs.RetryTick may = are
  received_rows (inputs.Back entries) may =
      back_rows_are entries (let above : node.peer.epoch < epoch_of entries = may.condition.above_own in omega (arith, above))

  pub stepped_rows : (input : Input) → StepsSo input → HasRowsBy effects (node_step input node).node.peer
  stepped_rows input steps = subst (HasRowsBy effects) (sym (step_peer input node)) (received_rows input steps)
