-- A step leaves what a node has rows of, has still to recover, was named and searches among some objects, if what it is asked to create and
-- what it is named is among them.
use Rattle.std.proofs.Common.{ℕ, ◌==◌, nat_lt, not, List, [], ◌∷◌, map, All, Option, Some, None, IfSome, sym, subst}
use Rattle.std.specs.Option.{option_map_or}
use Rattle.std.specs.List.{enumerate_from}
use Rattle.object_id.specs.declared.policy.Policy.{Policy}
use Rattle.object_id.specs.Oid.{kind_of}
use Rattle.object_id.specs.Policy.{wanted_of}
use Rattle.std.specs.FinMap as tree
use Rattle.std.proofs.lemmas.List.Elements.{All-nil, All-cons, All-head, All-filter, All-append}
use Rattle.proof_tools.proofs.Booleans.{cond_either}
use Rattle.object_id.specs.declared.entry.Entry.{Entry}
use Rattle.object_id.specs.declared.entry.Member.{Member}
use Rattle.object_id.specs.declared.node.NodeId.{NodeId}
use Rattle.epoch_log.specs.Epochs.{begins_epoch, settled_of}
use Rattle.object_list.specs.Gathered.{gathered_with_answer}
use Rattle.peer_proto.specs.declared.ask.PeerAsk.{PeerAsk}
use Rattle.peer_proto.specs.declared.ask.PeerAsk.TheVariants as asks
use Rattle.peer_proto.specs.declared.say.PeerRsp.{PeerRsp}
use Rattle.peer_proto.specs.declared.say.PeerSay.{PeerSay}
use Rattle.peer_proto.specs.declared.say.PeerSay.TheVariants as says
use Rattle.peer_service.specs.State.{Peer}
use Rattle.peer_service.specs.Epochs as peers
use Rattle.peer_service.specs.Epochs.{peer_settled_to}
use Rattle.peer_service.specs.LogReading.{read_entry}
use Rattle.vnode_table.specs.Targets.{targets_in}
use Rattle.gateway.specs.State as gateways
use Rattle.recovery.specs.Shown.{first_in, is_pending_object, live_policy}
use Rattle.recovery.specs.State as recoveries
use Rattle.recovery.specs.State.{Message, Search, Recovery, RecoveryState, search_on, is_listed, message_of, has_number}
use Rattle.recovery.specs.Steps as recovery_steps
use Rattle.recovery.specs.Steps.{without_unanswered, search_after_answer, after_list, after_read, after_ask, message_end}
use Rattle.recovery.specs.Level.{searching}
use Rattle.recovery.specs.Tick.{request_message, lists_asked, asked_of, level_asked, level_messages, or_next, next_search, tick_messages}
use Rattle.recovery.specs.Tick.{with_messages, state_after_tick}
use Rattle.sheep_node.specs.declared.input.Input.{Input}
use Rattle.sheep_node.specs.declared.input.Input.TheVariants as inputs
use Rattle.sheep_node.specs.State as nodes
use Rattle.sheep_node.specs.State.{Node}
use Rattle.sheep_node.specs.RecoveryView.{recovery_state_of, with_recovered_rows}
use Rattle.sheep_node.specs.StepState.{StepState, at_first}
use Rattle.sheep_node.specs.LogReading.{epoch_members, epochs_with_entry, peer_with_entry, node_with_entry, recovery_in_epoch}
use Rattle.sheep_node.specs.LogReading.{begins_recovery, recovery_with_entry, entry_read, come_back_with, on_back}
use Rattle.sheep_node.specs.Step.{on_request, recovery_stepped, on_put, on_recover_tick, node_step}
use Rattle.sheep_node.specs.Changes.{input_received}
use Rattle.sheep_node.proofs.StepResults.{step_peer, step_recovery}
use Rattle.overlap_law.proofs.ObjectsOfRows.{AskWithin, SaidWithin, IsPeerWithin, IsStateWithin, HasWithin, IsAskedWithin, keys_made}
use Rattle.overlap_law.proofs.ObjectsOfRows.{union_within, served_within, entered_within, settled_within, read_within, back_within}
use Rattle.overlap_law.proofs.ObjectsOfRows.{named_within, begun_within, searching_within}

module _ (K : ℕ → Type 0) where
  -- ---- a message of a recovery ends, and a tick

  list_within : (from : NodeId) (said : Option PeerSay) (state : RecoveryState) → IfSome said (SaidWithin K) → IsStateWithin K state
      → IsStateWithin K (after_list from said state)
  list_within from None state told is = is
  list_within from (Some says.Success) state told is = is
  list_within from (Some (says.Piece bytes)) state told is = is
  list_within from (Some (says.Objects oids)) state told is =
      named_within K (record state { recovery = record state.recovery { lists = gathered_with_answer from oids state.recovery.lists } })
      (record {
        rows = is.rows;
        pending = is.pending;
        listed = union_within K state.recovery.lists.objects oids is.listed told;
        searched = is.searched;
        asked = is.asked;
      })
  list_within from (Some (says.Row row)) state told is = is
  list_within from (Some says.NoRow) state told is = is
  list_within from (Some (says.Refused refusal)) state told is = is

  -- an answer is for the object that is searched
  same_search : (from : NodeId) (said : Option PeerSay) (search : Search) → K search.oid → K (search_after_answer from said search).oid
  same_search from None search own = own
  same_search from (Some says.Success) search own = own
  same_search from (Some (says.Piece bytes)) search own = own
  same_search from (Some (says.Objects oids)) search own = own
  same_search from (Some (says.Row row)) search own = own
  same_search from (Some says.NoRow) search own = own
  same_search from (Some (says.Refused refusal)) search own = own

  on_within : (state : RecoveryState) → IsStateWithin K state → IfSome (search_on state) (λ (search : Search). K search.oid)
  on_within state is = by_search state.recovery.search is.searched
    where
      by_search : (o : Option Search) → IfSome o (λ (search : Search). K search.oid)
          → IfSome (recoveries.still_on state.shown.pending o) (λ (search : Search). K search.oid)
      by_search None own = tt
      by_search (Some search) own =
          cond_either (λ (o : Option Search). IfSome o (λ (search : Search). K search.oid))
          (is_pending_object search.oid state.shown.pending)
          (Some search) None own tt

  row_within : (oid : ℕ) (from : NodeId) (said : Option PeerSay) (state : RecoveryState) → IsStateWithin K state
      → IsStateWithin K (after_read oid from said (search_on state) state)
  row_within oid from said state is = by_search (search_on state) (on_within state is)
    where
      by_search : (o : Option Search) → IfSome o (λ (search : Search). K search.oid) → IsStateWithin K (after_read oid from said o state)
      by_search None own = is
      by_search (Some search) own =
          cond_either (IsStateWithin K) (search.oid == oid) (searching (search_after_answer from said search) state) state
          (searching_within K (search_after_answer from said search) state (same_search from said search own) is) is

  ask_ends : (ask : PeerAsk) (from : NodeId) (said : Option PeerSay) (state : RecoveryState) → IfSome said (SaidWithin K)
      → IsStateWithin K state
      → IsStateWithin K (after_ask ask from said state)
  ask_ends (asks.Create key size offset bytes) from said state told is = is
  ask_ends (asks.Write key offset bytes) from said state told is = is
  ask_ends (asks.Read key offset size) from said state told is = is
  ask_ends asks.List from said state told is = list_within from said state told is
  ask_ends (asks.RecoverRead oid level) from said state told is = row_within oid from said state is

  message_ends : (number : ℕ) (said : Option PeerSay) (state : RecoveryState) → IfSome said (SaidWithin K) → IsStateWithin K state
      → IsStateWithin K (message_end number said state)
  message_ends number said state told is = by_message (message_of number state.recovery.unanswered)
    where
      let_go : RecoveryState
      let_go = without_unanswered number state

      still : IsStateWithin K let_go
      still = record {
        rows = is.rows;
        pending = is.pending;
        listed = is.listed;
        searched = is.searched;
        asked = All-filter (λ (message : Message). not (has_number number message)) (IsAskedWithin K) state.recovery.unanswered is.asked;
      }

      by_message : (o : Option Message)
          → IsStateWithin K (option_map_or (λ (message : Message). after_ask message.request.ask message.to said let_go) o let_go)
      by_message None = still
      by_message (Some message) = ask_ends message.request.ask message.to said let_go told still

  next_within : (state : RecoveryState) → IsStateWithin K state → IfSome (next_search state) (λ (search : Search). K search.oid)
  next_within state is = by_search (search_on state) (on_within state is)
    where
      by_pending : (pending : Option (List ℕ)) → IfSome pending (All K)
          → IfSome (or_next state.recovery.epoch (first_in pending) None) (λ (search : Search). K search.oid)
      by_pending None all = tt
      by_pending (Some []) all = tt
      by_pending (Some (oid ∷ rest)) all = All-head K oid rest all

      by_search : (o : Option Search) → IfSome o (λ (search : Search). K search.oid)
          → IfSome (or_next state.recovery.epoch (first_in state.shown.pending) o) (λ (search : Search). K search.oid)
      by_search None own = by_pending state.shown.pending is.pending
      by_search (Some search) own = own

  -- a level is asked for the object of the search
  each_asked : (recovery : Recovery) (wanted oid level : ℕ) (targets : List (ℕ × NodeId)) → K oid
      → All (IsAskedWithin K) (map (request_message recovery wanted (asks.RecoverRead oid (record { 0 = level }))) targets)
  each_asked recovery wanted oid level [] own = All-nil (IsAskedWithin K)
  each_asked recovery wanted oid level (target ∷ targets) own =
      All-cons (IsAskedWithin K) (request_message recovery wanted (asks.RecoverRead oid (record { 0 = level })) target)
      (map (request_message recovery wanted (asks.RecoverRead oid (record { 0 = level }))) targets) own
      (each_asked recovery wanted oid level targets own)

  each_listed : (recovery : Recovery) (targets : List (ℕ × NodeId))
      → All (IsAskedWithin K) (map (request_message recovery 0 asks.List) targets)
  each_listed recovery [] = All-nil (IsAskedWithin K)
  each_listed recovery (target ∷ targets) =
      All-cons (IsAskedWithin K) (request_message recovery 0 asks.List target) (map (request_message recovery 0 asks.List) targets) tt
      (each_listed recovery targets)

  tick_asks : (first : ℕ) (state : RecoveryState) → IsStateWithin K state → All (IsAskedWithin K) (tick_messages first state)
  unfolding tick_messages
  tick_asks first state is =
      cond_either (All (IsAskedWithin K)) (is_listed state.recovery)
      (option_map_or (level_messages first state) (next_search state) []) (lists_asked first state.recovery)
      (by_search (next_search state) (next_within state is)) (each_listed state.recovery
      (enumerate_from first state.recovery.lists.waiting))
    where
      by_policy : (search : Search) (o : Option Policy) → K search.oid
          → All (IsAskedWithin K) (option_map_or (level_asked first state search) o [])
      by_policy search None own = All-nil (IsAskedWithin K)
      by_policy search (Some policy) own =
          each_asked state.recovery (wanted_of policy (kind_of search.oid)) search.oid search.level
          (enumerate_from first (asked_of state policy search)) own

      by_search : (o : Option Search) → IfSome o (λ (search : Search). K search.oid)
          → All (IsAskedWithin K) (option_map_or (level_messages first state) o [])
      by_search None own = All-nil (IsAskedWithin K)
      by_search (Some search) own = by_policy search (live_policy state.shown search.oid) own

  ticks_within : (first : ℕ) (state : RecoveryState) → IsStateWithin K state → IsStateWithin K (state_after_tick first state)
  unfolding state_after_tick
  ticks_within first state is =
      cond_either (IsStateWithin K) (is_listed state.recovery)
      (option_map_or (λ (search : Search). searching search sent) (next_search state) sent) sent
      (by_search (next_search state) (next_within state is)) still
    where
      sent : RecoveryState
      sent = with_messages (tick_messages first state) state

      still : IsStateWithin K sent
      still = record {
        rows = is.rows;
        pending = is.pending;
        listed = is.listed;
        searched = is.searched;
        asked = All-append (IsAskedWithin K) state.recovery.unanswered (tick_messages first state) is.asked (tick_asks first state is);
      }

      by_search : (o : Option Search) → IfSome o (λ (search : Search). K search.oid)
          → IsStateWithin K (option_map_or (λ (search : Search). searching search sent) o sent)
      by_search None own = still
      by_search (Some search) own = searching_within K search sent own still

  -- ---- a node

  pub none_had : (me : NodeId) (tries : ℕ) → HasWithin K (nodes.initial_node me tries)
  none_had me tries =
      record {
        rows = keys_made K [] (All-nil K);
        pending = All-nil K;
        listed = All-nil K;
        searched = tt;
        asked = All-nil (IsAskedWithin K);
      }

  module _ (node : Node) (is : HasWithin K node) where
    abbrev state : RecoveryState
    state = recovery_state_of node

    peer_is : IsPeerWithin K node.peer
    peer_is = record { rows = is.rows; pending = is.pending }

    entry_within : (entry : Entry) → HasWithin K (entry_read entry node)
    unfolding entry_read
    entry_within entry =
        let base = read_within K entry node.peer peer_is in
        let peer : Peer = peer_with_entry entry node in
        let new : Node = node_with_entry entry node in
        let entered : IsPeerWithin K peer
        = cond_either (IsPeerWithin K) (begins_epoch entry)
        (peers.peer_in_next_epoch node.me (targets_in (epochs_with_entry entry node)) (read_entry entry node.peer))
        (read_entry entry node.peer)
        (entered_within K (read_entry entry node.peer) base node.me (targets_in (epochs_with_entry entry node))) base in
        let recovering : IsStateWithin K (recovery_with_entry entry node)
        = cond_either (IsStateWithin K) (begins_recovery entry node) (recovery_in_epoch new) (recovery_state_of new)
        (begun_within K new.peer.epoch (map (λ (member : Member). member.node) (epoch_members new)) (recovery_state_of new) entered.rows)
        (record { rows = entered.rows; pending = entered.pending; listed = is.listed; searched = is.searched; asked = is.asked }) in
        let settled : ℕ = settled_of (read_entry entry node.peer).entries in
        let back : Peer = with_recovered_rows (recovery_with_entry entry node) peer in
        let back_is : IsPeerWithin K back = record { rows = recovering.rows; pending = recovering.pending } in
        let left = cond_either (IsPeerWithin K) (nat_lt back.settled settled) (peer_settled_to settled back) back
        (settled_within K back back_is settled) back_is in
        record {
          rows = left.rows;
          pending = left.pending;
          listed = recovering.listed;
          searched = recovering.searched;
          asked = recovering.asked;
        }

    comes_back_within : (entries : List Entry) → HasWithin K (on_back entries node)
    unfolding on_back
    comes_back_within entries =
        let back : Node = come_back_with entries node in
        let begun = begun_within K back.peer.epoch (map (λ (member : Member). member.node) (epoch_members back)) (recovery_state_of back)
        (back_within K entries node.peer peer_is).rows in
        record { rows = begun.rows; pending = begun.pending; listed = begun.listed; searched = begun.searched; asked = begun.asked }

    -- what is asked of the step
    abbrev pub BringsWithin : Input → Type 0
    BringsWithin (inputs.Request request) = AskWithin K request.ask
    BringsWithin (inputs.Reply rsp) = SaidWithin K rsp.say
    BringsWithin _ = Unit {0}

    state_stepped : (after : RecoveryState) → IsStateWithin K after → HasWithin K (recovery_stepped after (at_first node)).node
    state_stepped after within =
        record { rows = within.rows; pending = within.pending; listed = within.listed; searched = within.searched; asked = within.asked }

    replied : (rsp : PeerRsp) → SaidWithin K rsp.say
        → HasWithin K (recovery_stepped (recovery_steps.recovery_on_reply rsp state) (at_first node)).node
    unfolding recovery_steps.recovery_on_reply
    replied rsp told = state_stepped (message_end rsp.number (Some rsp.say) state) (message_ends rsp.number (Some rsp.say) state told is)

    lost : (n : ℕ) → HasWithin K (recovery_stepped (recovery_steps.recovery_on_loss n state) (at_first node)).node
    unfolding recovery_steps.recovery_on_loss
    lost n = state_stepped (message_end n None state) (message_ends n None state tt is)

    ticked : HasWithin K (on_recover_tick (at_first node)).node
    unfolding on_recover_tick
    ticked = state_stepped (state_after_tick node.sends state) (ticks_within node.sends state is)

    received_has : (input : Input) → BringsWithin input → HasWithin K (input_received input (at_first node)).node
    unfolding on_request
    received_has (inputs.Guest req session ask) brings = is
    received_has (inputs.Request request) brings =
        let served = served_within K node.peer peer_is request brings in
        record { rows = served.rows; pending = served.pending; listed = is.listed; searched = is.searched; asked = is.asked }
    received_has (inputs.Reply rsp) brings =
        cond_either (λ (start : StepState). HasWithin K start.node) (gateways.gateway_awaits rsp.number node.gateway) (at_first node)
        (recovery_stepped (recovery_steps.recovery_on_reply rsp state) (at_first node)) is (replied rsp brings)
    received_has (inputs.Lost n) brings =
        cond_either (λ (start : StepState). HasWithin K start.node) (gateways.gateway_awaits n node.gateway) (at_first node)
        (recovery_stepped (recovery_steps.recovery_on_loss n state) (at_first node)) is (lost n)
    received_has (inputs.LogEntry entry) brings = entry_within entry
    received_has inputs.Put brings = by_outbox node.outbox
      where
        by_outbox : (outbox : List Entry) → HasWithin K (on_put outbox (at_first node)).node
        by_outbox [] = is
        by_outbox (entry ∷ later) = is
    received_has inputs.RecoverTick brings = ticked
    received_has inputs.RetryTick brings = is
    received_has (inputs.Back entries) brings = comes_back_within entries

    pub stepped_has : (input : Input) → BringsWithin input → HasWithin K (node_step input node).node
    stepped_has input brings =
        let now = received_has input brings in
        record {
          rows = subst (λ (peer : Peer). All K (tree.keys peer.rows)) (sym (step_peer input node)) now.rows;
          pending = subst (λ (peer : Peer). IfSome peer.pending (All K)) (sym (step_peer input node)) now.pending;
          listed = subst (λ (recovery : Recovery). All K recovery.lists.objects) (sym (step_recovery input node)) now.listed;
          searched = subst (λ (recovery : Recovery). IfSome recovery.search (λ (search : Search). K search.oid))
              (sym (step_recovery input node)) now.searched;
          asked = subst (λ (recovery : Recovery). All (IsAskedWithin K) recovery.unanswered) (sym (step_recovery input node)) now.asked;
        }
