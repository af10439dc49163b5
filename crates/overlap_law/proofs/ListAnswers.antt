-- What an input makes of what a recovery waits for: a node that it doesn't wait for any more has named its objects, and what it asks anew
-- it asks in a tick; or it begins anew, and waits for every other member.
use Rattle.std.proofs.Common.{◌≡◌, ◌⊎◌, inl, inr, ⊎_elim, ℕ, ◌==◌, ◌&&◌, Bool, true, false, not, cond, List, [], ◌∷◌, Contains, Option}
use Rattle.std.proofs.Common.{Some, None, refl, sym, ap, subst, ◌∙◌}
use Rattle.std.specs.Option.{option_map_or}
use Rattle.std.specs.List.{list_any}
use Rattle.std.proofs.lemmas.Bool.{eqb-true}
use Rattle.std.proofs.lemmas.List.Elements.{Contains-append_cases}
use Rattle.std.proofs.lemmas.Option.{same_Some}
use Rattle.proof_tools.proofs.Booleans.{cond_either}
use Rattle.proof_tools.proofs.Lists.{filter-contains, find-contains}
use Rattle.object_id.specs.declared.entry.Entry.{Entry}
use Rattle.object_id.specs.declared.node.NodeId.{NodeId}
use Rattle.object_list.specs.Gathered.{has_node, nodes_without, is_same_node, gathered_with_answer}
use Rattle.object_list.proofs.GatheredLemmas.{has_node-filter}
use Rattle.peer_proto.specs.declared.ask.PeerAsk.{PeerAsk}
use Rattle.peer_proto.specs.declared.ask.PeerAsk.TheVariants as asks
use Rattle.peer_proto.specs.declared.say.PeerRsp.{PeerRsp}
use Rattle.peer_proto.specs.declared.say.PeerSay.{PeerSay}
use Rattle.peer_proto.specs.declared.say.PeerSay.TheVariants as says
use Rattle.gateway.specs.State as gateways
use Rattle.recovery.specs.Frame.{Frame}
use Rattle.recovery.specs.Level.{is_of_search, level_over, searching}
use Rattle.recovery.specs.Shown.{shown_with_pending}
use Rattle.recovery.specs.State.{Message, Search, Recovery, RecoveryState, is_listed, has_number, message_of, search_on}
use Rattle.recovery.specs.Steps as recovery_steps
use Rattle.recovery.specs.Steps.{to_recover, when_listed, at_start, recovery_from_epoch, messages_without, without_unanswered, with_list_of}
use Rattle.recovery.specs.Steps.{after_list, after_read, after_ask, message_end, search_after_answer}
use Rattle.recovery.specs.Tick.{next_search, tick_messages, with_messages, state_after_tick}
use Rattle.recovery.proofs.StepLemmas.{judged_each, frame_of_tick, frame_of_end}
use Rattle.sheep_node.specs.declared.input.Input.{Input}
use Rattle.sheep_node.specs.declared.input.Input.TheVariants as inputs
use Rattle.sheep_node.specs.State.{Node}
use Rattle.sheep_node.specs.RecoveryView.{recovery_state_of}
use Rattle.sheep_node.specs.StepState.{StepState, at_first}
use Rattle.sheep_node.specs.LogReading.{epoch_members, node_with_entry, recovery_in_epoch, begins_recovery, entry_read, come_back_with}
use Rattle.sheep_node.specs.LogReading.{on_back}
use Rattle.sheep_node.specs.Step.{on_request, recovery_stepped, on_put, on_recover_tick}
use Rattle.sheep_node.specs.Changes.{input_received}
use Rattle.overlap_law.proofs.RecoveryMembers.{nodes_of_members}

-- a node has named its objects to a recovery by this reply
pub record IsHeard (input : Input) (unanswered : List Message) (other : NodeId) : Type 0 where
  pub message : Message
  pub there : Contains unanswered message
  pub lists : message.request.ask ≡ asks.List
  pub rsp : PeerRsp
  pub from : input ≡ inputs.Reply rsp
  pub number : message.request.number ≡ rsp.number
  pub oids : List ℕ
  pub said : rsp.say ≡ says.Objects oids
  pub by : other.0 ≡ message.to.0

-- a message is one of a tick
abbrev pub IsTicked : Input → Node → Message → Type 0
IsTicked input node message = (input ≡ inputs.RecoverTick) × Contains (tick_messages node.sends (recovery_state_of node)) message

-- a recovery goes on
pub record IsGoingOn (input : Input) (node : Node) (new : Recovery) : Type 0 where
  pub epoch : new.epoch ≡ node.recovery.epoch
  pub members : new.members ≡ node.recovery.members
  pub unanswered : (message : Message) → Contains new.unanswered message
      → Contains node.recovery.unanswered message ⊎ IsTicked input node message
  pub heard : (other : NodeId) → has_node other new.lists.waiting ≡ false
      → (has_node other node.recovery.lists.waiting ≡ false) ⊎ IsHeard input node.recovery.unanswered other

-- or begins
pub record IsBegun (me : NodeId) (new : Recovery) : Type 0 where
  pub unanswered : new.unanswered ≡ []
  pub waiting : new.lists.waiting ≡ nodes_without me new.members

-- ---- a search goes on

waits_on : (search : Search) (state : RecoveryState) → (searching search state).recovery.lists.waiting ≡ state.recovery.lists.waiting
waits_on search state =
    cond_either (λ (s : RecoveryState). s.recovery.lists.waiting ≡ state.recovery.lists.waiting)
    (list_any (is_of_search search.oid) state.recovery.unanswered)
    (record state { recovery = record state.recovery { search = Some search } }) (level_over search state) refl
    (judged_each (λ (s : RecoveryState). s.recovery.lists.waiting ≡ state.recovery.lists.waiting) search state refl (λ index bytes. refl)
    refl (λ level. refl))

pub waits_on_read : (oid : ℕ) (from : NodeId) (said : Option PeerSay) (search : Option Search) (state : RecoveryState)
    → (after_read oid from said search state).recovery.lists.waiting ≡ state.recovery.lists.waiting
waits_on_read oid from said None state = refl
waits_on_read oid from said (Some search) state =
    cond_either (λ (s : RecoveryState). s.recovery.lists.waiting ≡ state.recovery.lists.waiting) (search.oid == oid)
    (searching (search_after_answer from said search) state) state (waits_on (search_after_answer from said search) state) refl

pub ticked_waits : (first : ℕ) (state : RecoveryState)
    → (state_after_tick first state).recovery.lists.waiting ≡ state.recovery.lists.waiting
unfolding state_after_tick
ticked_waits first state =
    cond_either (λ (s : RecoveryState). s.recovery.lists.waiting ≡ state.recovery.lists.waiting) (is_listed state.recovery)
    (option_map_or (λ (search : Search). searching search (with_messages (tick_messages first state) state)) (next_search state)
    (with_messages (tick_messages first state) state))
    (with_messages (tick_messages first state) state) (by_next (next_search state)) refl
  where
    by_next : (search : Option Search)
        → (option_map_or (λ (search : Search). searching search (with_messages (tick_messages first state) state)) search
        (with_messages (tick_messages first state) state)).recovery.lists.waiting ≡ state.recovery.lists.waiting
    by_next None = refl
    by_next (Some search) = waits_on search (with_messages (tick_messages first state) state)

-- ---- a message ends

module _ (number : ℕ) (said : Option PeerSay) (state : RecoveryState) where
  -- a node is waited for no more since it named its objects
  record HasNamed (other : NodeId) : Type 0 where
    message : Message
    there : Contains state.recovery.unanswered message
    lists : message.request.ask ≡ asks.List
    number_so : message.request.number ≡ number
    oids : List ℕ
    said_so : said ≡ Some (says.Objects oids)
    by : other.0 ≡ message.to.0

  abbrev WaitsOr : RecoveryState → Type 0
  WaitsOr new = (other : NodeId) → has_node other new.recovery.lists.waiting ≡ false
      → (has_node other state.recovery.lists.waiting ≡ false) ⊎ HasNamed other

  abbrev rest : RecoveryState
  rest = without_unanswered number state

  as_before : (new : RecoveryState) → new.recovery.lists.waiting ≡ state.recovery.lists.waiting → WaitsOr new
  as_before new same other none = inl (ap (has_node other) (sym same) ∙ none)

  abbrev gathered : Message → List ℕ → RecoveryState
  gathered message oids =
      record rest { recovery = record rest.recovery { lists = gathered_with_answer message.to oids rest.recovery.lists } }

  module _ (message : Message) (there : Contains state.recovery.unanswered message) (own : message.request.number ≡ number)
      (lists : message.request.ask ≡ asks.List) where
    from_gathered : (oids : List ℕ) → said ≡ Some (says.Objects oids) → WaitsOr (gathered message oids)
    from_gathered oids is other none =
        by_node (has_node other state.recovery.lists.waiting) (is_same_node message.to other) refl refl
        (sym (has_node-filter (λ (q : NodeId). not (is_same_node message.to q)) other state.recovery.lists.waiting) ∙ none)
      where
        by_node : (a b : Bool) → has_node other state.recovery.lists.waiting ≡ a → is_same_node message.to other ≡ b → (a && not b) ≡ false
            → (has_node other state.recovery.lists.waiting ≡ false) ⊎ HasNamed other
        by_node false b waits same so = inl waits
        by_node true true waits same so = inr (record {
          message = message;
          there = there;
          lists = lists;
          number_so = own;
          oids = oids;
          said_so = is;
          by = eqb-true other.0 message.to.0 same;
        })
        by_node true false waits same so = absurd (cc (so))

    by_list : (told : Option PeerSay) → said ≡ told → WaitsOr (after_list message.to told rest)
    by_list None is = as_before rest refl
    by_list (Some says.Success) is = as_before rest refl
    by_list (Some (says.Piece bytes)) is = as_before rest refl
    by_list (Some (says.Objects oids)) is = by_end (is_listed (gathered message oids).recovery)
      where
        by_end : (b : Bool)
            → WaitsOr (cond b (record (gathered message
            oids) {
              shown =
                  shown_with_pending (to_recover (gathered message oids)) (gathered message oids).shown;
            }) (gathered message oids))
        by_end true = from_gathered oids is
        by_end false = from_gathered oids is
    by_list (Some (says.Row row)) is = as_before rest refl
    by_list (Some says.NoRow) is = as_before rest refl
    by_list (Some (says.Refused refusal)) is = as_before rest refl

  by_message : (o : Option Message) → message_of number state.recovery.unanswered ≡ o
      → WaitsOr (option_map_or (λ (message : Message). after_ask message.request.ask message.to said rest) o rest)
  by_message None is = as_before rest refl
  by_message (Some message) is =
      let (there, own) = find-contains (has_number number) state.recovery.unanswered message is in
      by_kind message there (eqb-true message.request.number number own) message.request.ask refl
    where
      by_kind : (message : Message) → Contains state.recovery.unanswered message → message.request.number ≡ number → (ask : PeerAsk)
          → message.request.ask ≡ ask
          → WaitsOr (after_ask ask message.to said rest)
      by_kind message there own (asks.Create key size offset bytes) is = as_before rest refl
      by_kind message there own (asks.Write key offset bytes) is = as_before rest refl
      by_kind message there own (asks.Read key offset size) is = as_before rest refl
      by_kind message there own asks.List is = by_list message there own is said refl
      by_kind message there own (asks.RecoverRead oid level) is =
          as_before (after_read oid message.to said (search_on rest) rest) (waits_on_read oid message.to said (search_on rest) rest)

  ended_waits : WaitsOr (message_end number said state)
  ended_waits = by_message (message_of number state.recovery.unanswered) refl

-- ---- each input

same_recovery : (input : Input) (node : Node) (new : Recovery) → new ≡ node.recovery → IsGoingOn input node new
same_recovery input node new same = record {
  epoch = ap (λ (r : Recovery). r.epoch) same;
  members = ap (λ (r : Recovery). r.members) same;
  unanswered = λ message there. inl (subst (λ (r : Recovery). Contains r.unanswered message) same there);
  heard = λ other none. inl (ap (λ (r : Recovery). has_node other r.lists.waiting) (sym same) ∙ none);
}

ended_goes_on : (input : Input) (number : ℕ) (said : Option PeerSay) (node : Node)
    → ((other : NodeId) → HasNamed number said (recovery_state_of node) other → IsHeard input node.recovery.unanswered other)
    → IsGoingOn input node (message_end number said (recovery_state_of node)).recovery
ended_goes_on input number said node heard =
    let state = recovery_state_of node in
    let frame = frame_of_end number said state in
    record {
      epoch = ap (λ (f : Frame). f.recovered) frame;
      members = ap (λ (f : Frame). f.members) frame;
      unanswered = λ message there.
          inl (filter-contains (λ (m : Message). not (has_number number m)) node.recovery.unanswered message
          (subst (λ (f : Frame). Contains f.unanswered message) frame there)).0;
      heard = λ other none. ⊎_elim
          (λ (before : has_node other node.recovery.lists.waiting ≡ false). inl before)
          (λ (named : HasNamed number said state other). inr (heard other named))
          (ended_waits number said state other none);
    }

heard_of : (rsp : PeerRsp) (node : Node) (other : NodeId) → HasNamed rsp.number (Some rsp.say) (recovery_state_of node) other
    → IsHeard (inputs.Reply rsp) node.recovery.unanswered other
heard_of rsp node other named = record {
  message = named.message;
  there = named.there;
  lists = named.lists;
  rsp = rsp;
  from = refl;
  number = named.number_so;
  oids = named.oids;
  said = same_Some rsp.say (says.Objects named.oids) named.said_so;
  by = named.by;
}

pub begun_anew : (epoch : ℕ) (nodes : List NodeId) (state : RecoveryState)
    → IsBegun state.recovery.me (recovery_from_epoch epoch nodes state).recovery
unfolding recovery_from_epoch
begun_anew epoch nodes state =
    let start = at_start epoch nodes state in
    cond_either (λ (s : RecoveryState). IsBegun state.recovery.me s.recovery) (is_listed start.recovery)
    (record start { shown = shown_with_pending (to_recover start) start.shown }) start
    (record { unanswered = refl; waiting = refl }) (record { unanswered = refl; waiting = refl })

pub back_begun : (entries : List Entry) (node : Node) → IsBegun node.me (input_received (inputs.Back entries) (at_first node)).node.recovery
unfolding on_back
back_begun entries node =
    let back = come_back_with entries node in
    begun_anew back.peer.epoch (nodes_of_members (epoch_members back)) (recovery_state_of back)

-- what a step on an input leaves of a recovery: it goes on, or began
pub recovery_moves : (input : Input) (node : Node) → IsGoingOn input node (input_received input (at_first node)).node.recovery
    ⊎ IsBegun node.recovery.me (input_received input (at_first node)).node.recovery
    ⊎ IsBegun node.me (input_received input (at_first node)).node.recovery
unfolding on_request on_recover_tick recovery_steps.recovery_on_reply recovery_steps.recovery_on_loss entry_read
recovery_moves (inputs.Guest req session ask) node = inl (same_recovery (inputs.Guest req session ask) node node.recovery refl)
recovery_moves (inputs.Request request) node = inl (same_recovery (inputs.Request request) node node.recovery refl)
recovery_moves (inputs.Reply rsp) node = inl (cond_either
    (λ (so_far : StepState). IsGoingOn (inputs.Reply rsp) node so_far.node.recovery) (gateways.gateway_awaits rsp.number node.gateway)
    (at_first node) (recovery_stepped (recovery_steps.message_end rsp.number (Some rsp.say) (recovery_state_of node)) (at_first node))
    (same_recovery (inputs.Reply rsp) node node.recovery refl)
    (ended_goes_on (inputs.Reply rsp) rsp.number (Some rsp.say) node (heard_of rsp node)))
recovery_moves (inputs.Lost number) node = inl (cond_either
    (λ (so_far : StepState). IsGoingOn (inputs.Lost number) node so_far.node.recovery) (gateways.gateway_awaits number node.gateway)
    (at_first node) (recovery_stepped (recovery_steps.message_end number None (recovery_state_of node)) (at_first node))
    (same_recovery (inputs.Lost number) node node.recovery refl)
    (ended_goes_on (inputs.Lost number) number None node (λ other named. let none = named.said_so in absurd (cc (none)))))
recovery_moves (inputs.LogEntry entry) node = by_begins (begins_recovery entry node)
  where
    by_begins : (b : Bool)
        → IsGoingOn (inputs.LogEntry entry) node (cond b (recovery_in_epoch (node_with_entry entry node))
        (recovery_state_of (node_with_entry entry node))).recovery
        ⊎ IsBegun node.recovery.me (cond b (recovery_in_epoch (node_with_entry entry node))
        (recovery_state_of (node_with_entry entry node))).recovery
        ⊎ IsBegun node.me (cond b (recovery_in_epoch (node_with_entry entry node))
        (recovery_state_of (node_with_entry entry node))).recovery
    by_begins true =
        let entered = node_with_entry entry node in
        inr (inl (begun_anew entered.peer.epoch (nodes_of_members (epoch_members entered)) (recovery_state_of entered)))
    by_begins false = inl (same_recovery (inputs.LogEntry entry) node node.recovery refl)
recovery_moves inputs.Put node =
    inl (same_recovery inputs.Put node (on_put node.outbox (at_first node)).node.recovery (by_outbox node.outbox))
  where
    by_outbox : (outbox : List Entry) → (on_put outbox (at_first node)).node.recovery ≡ node.recovery
    by_outbox [] = refl
    by_outbox (entry ∷ later) = refl
recovery_moves inputs.RecoverTick node =
    let state = recovery_state_of node in
    let frame = frame_of_tick node.sends state in
    inl (record {
      epoch = ap (λ (f : Frame). f.recovered) frame;
      members = ap (λ (f : Frame). f.members) frame;
      unanswered = λ message there. ⊎_elim
          (λ (old : Contains node.recovery.unanswered message). inl old)
          (λ (new : Contains (tick_messages node.sends state) message). inr (refl, new))
          (Contains-append_cases node.recovery.unanswered (tick_messages node.sends state) message
          (subst (λ (f : Frame). Contains f.unanswered message) frame there));
      heard = λ other none. inl (ap (has_node other) (sym (ticked_waits node.sends state)) ∙ none);
    })
recovery_moves inputs.RetryTick node = inl (same_recovery inputs.RetryTick node node.recovery refl)
recovery_moves (inputs.Back entries) node = inr (inr (back_begun entries node))
