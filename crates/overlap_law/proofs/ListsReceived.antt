-- What an input makes of the lists of a recovery: they stay as they are, or one that was asked for joins them; or the recovery begins anew.
use Rattle.std.proofs.Common.{◌≡◌, ◌⊎◌, inl, inr, ⊎_elim, ℕ, ◌==◌, List, [], ◌∷◌, Contains, Option, Some, None, refl, ap}
use Rattle.std.specs.Option.{option_map_or}
use Rattle.std.specs.List.{list_any}
use Rattle.std.proofs.lemmas.Bool.{eqb-true}
use Rattle.std.proofs.lemmas.Option.{same_Some}
use Rattle.proof_tools.proofs.Booleans.{cond_either}
use Rattle.proof_tools.proofs.Lists.{find-contains}
use Rattle.object_id.specs.declared.entry.Entry.{Entry}
use Rattle.object_id.specs.declared.node.NodeId.{NodeId}
use Rattle.object_list.specs.Gathered.{gathered_with_answer}
use Rattle.peer_proto.specs.declared.ask.PeerAsk.{PeerAsk}
use Rattle.peer_proto.specs.declared.ask.PeerAsk.TheVariants as asks
use Rattle.peer_proto.specs.declared.say.PeerRsp.{PeerRsp}
use Rattle.peer_proto.specs.declared.say.PeerSay.{PeerSay}
use Rattle.peer_proto.specs.declared.say.PeerSay.TheVariants as says
use Rattle.gateway.specs.State as gateways
use Rattle.recovery.specs.Frame.{Frame}
use Rattle.recovery.specs.Level.{is_of_search, level_over, searching}
use Rattle.recovery.specs.Shown.{shown_with_pending}
use Rattle.recovery.specs.State.{Message, Search, Recovery, RecoveryState, is_listed, has_number, message_of, search_on}
use Rattle.recovery.specs.Steps as recovery_steps
use Rattle.recovery.specs.Steps.{to_recover, without_unanswered, after_list, after_read, after_ask, message_end, search_after_answer}
use Rattle.recovery.specs.Tick.{next_search, tick_messages, with_messages, state_after_tick}
use Rattle.recovery.proofs.StepLemmas.{judged_each, frame_of_tick, frame_of_end}
use Rattle.sheep_node.specs.declared.input.Input.{Input}
use Rattle.sheep_node.specs.declared.input.Input.TheVariants as inputs
use Rattle.sheep_node.specs.State.{Node}
use Rattle.sheep_node.specs.RecoveryView.{recovery_state_of}
use Rattle.sheep_node.specs.StepState.{StepState, at_first}
use Rattle.sheep_node.specs.LogReading.{epoch_members, node_with_entry, recovery_in_epoch, begins_recovery, entry_read}
use Rattle.sheep_node.specs.Step.{on_request, recovery_stepped, on_put, on_recover_tick}
use Rattle.sheep_node.specs.Changes.{input_received}
use Rattle.overlap_law.proofs.ListAnswers.{IsBegun, begun_anew, back_begun}
use Rattle.overlap_law.proofs.RecoveryMembers.{nodes_of_members}

-- ---- a search goes on

lists_on : (search : Search) (state : RecoveryState) → (searching search state).recovery.lists ≡ state.recovery.lists
lists_on search state =
    cond_either (λ (s : RecoveryState). s.recovery.lists ≡ state.recovery.lists)
    (list_any (is_of_search search.oid) state.recovery.unanswered)
    (record state { recovery = record state.recovery { search = Some search } }) (level_over search state) refl
    (judged_each (λ (s : RecoveryState). s.recovery.lists ≡ state.recovery.lists) search state refl (λ index bytes. refl) refl
    (λ level. refl))

lists_read : (oid : ℕ) (from : NodeId) (said : Option PeerSay) (search : Option Search) (state : RecoveryState)
    → (after_read oid from said search state).recovery.lists ≡ state.recovery.lists
lists_read oid from said None state = refl
lists_read oid from said (Some search) state =
    cond_either (λ (s : RecoveryState). s.recovery.lists ≡ state.recovery.lists) (search.oid == oid)
    (searching (search_after_answer from said search) state) state (lists_on (search_after_answer from said search) state) refl

pub lists_ticked : (first : ℕ) (state : RecoveryState) → (state_after_tick first state).recovery.lists ≡ state.recovery.lists
unfolding state_after_tick
lists_ticked first state =
    cond_either (λ (s : RecoveryState). s.recovery.lists ≡ state.recovery.lists) (is_listed state.recovery)
    (option_map_or (λ (search : Search). searching search sent) (next_search state) sent) sent (by_next (next_search state)) refl
  where
    sent : RecoveryState
    sent = with_messages (tick_messages first state) state

    by_next : (o : Option Search)
        → (option_map_or (λ (search : Search). searching search sent) o sent).recovery.lists ≡ state.recovery.lists
    by_next None = refl
    by_next (Some search) = lists_on search sent

-- ---- a message ends

module _ (number : ℕ) (said : Option PeerSay) (state : RecoveryState) where
  -- a list joins the others
  pub record IsListTold (new : Recovery) : Type 0 where
    pub message : Message
    pub there : Contains state.recovery.unanswered message
    pub asked : message.request.ask ≡ asks.List
    pub number_so : message.request.number ≡ number
    pub oids : List ℕ
    pub told : said ≡ Some (says.Objects oids)
    pub lists_so : new.lists ≡ gathered_with_answer message.to oids state.recovery.lists

  abbrev pub ListsTo : RecoveryState → Type 0
  ListsTo new = (new.recovery.lists ≡ state.recovery.lists) ⊎ IsListTold new.recovery

  abbrev rest : RecoveryState
  rest = without_unanswered number state

  module _ (message : Message) (there : Contains state.recovery.unanswered message) (own : message.request.number ≡ number) where
    by_list : message.request.ask ≡ asks.List → (told : Option PeerSay) → said ≡ told → ListsTo (after_list message.to told rest)
    by_list asked None is = inl refl
    by_list asked (Some says.Success) is = inl refl
    by_list asked (Some (says.Piece bytes)) is = inl refl
    by_list asked (Some (says.Objects oids)) is =
        let gathered : RecoveryState
        = record rest { recovery = record rest.recovery { lists = gathered_with_answer message.to oids rest.recovery.lists } } in
        cond_either ListsTo (is_listed gathered.recovery)
        (record gathered { shown = shown_with_pending (to_recover gathered) gathered.shown })
        gathered
        (inr (record { message = message; there = there; asked = asked; number_so = own; oids = oids; told = is; lists_so = refl }))
        (inr (record { message = message; there = there; asked = asked; number_so = own; oids = oids; told = is; lists_so = refl }))
    by_list asked (Some (says.Row row)) is = inl refl
    by_list asked (Some says.NoRow) is = inl refl
    by_list asked (Some (says.Refused refusal)) is = inl refl

    by_ask : (ask : PeerAsk) → message.request.ask ≡ ask → ListsTo (after_ask ask message.to said rest)
    by_ask (asks.Create key size offset bytes) is = inl refl
    by_ask (asks.Write key offset bytes) is = inl refl
    by_ask (asks.Read key offset size) is = inl refl
    by_ask asks.List is = by_list is said refl
    by_ask (asks.RecoverRead oid level) is = inl (lists_read oid message.to said (search_on rest) rest)

  pub ended_lists : ListsTo (message_end number said state)
  ended_lists = by_message (message_of number state.recovery.unanswered) refl
    where
      by_message : (o : Option Message) → message_of number state.recovery.unanswered ≡ o → ListsTo (option_map_or
          (λ (message : Message). after_ask message.request.ask message.to said rest) o rest)
      by_message None is = inl refl
      by_message (Some message) is =
          let (there, own) = find-contains (has_number number) state.recovery.unanswered message is in
          by_ask message there (eqb-true message.request.number number own) message.request.ask refl

-- ---- each input

-- a list that was asked for came by the reply that is the input
pub record IsListHeard (input : Input) (old new : Recovery) : Type 0 where
  pub message : Message
  pub there : Contains old.unanswered message
  pub asked : message.request.ask ≡ asks.List
  pub rsp : PeerRsp
  pub from : input ≡ inputs.Reply rsp
  pub number_so : message.request.number ≡ rsp.number
  pub oids : List ℕ
  pub told : rsp.say ≡ says.Objects oids
  pub lists_so : new.lists ≡ gathered_with_answer message.to oids old.lists

-- a recovery goes on with its lists, of which there may be one more
pub record HasListsOf (input : Input) (old new : Recovery) : Type 0 where
  pub epoch : new.epoch ≡ old.epoch
  pub members : new.members ≡ old.members
  pub lists : (new.lists ≡ old.lists) ⊎ IsListHeard input old new

abbrev pub ListsReceived : Input → Node → Recovery → Type 0
ListsReceived input node new = HasListsOf input node.recovery new ⊎ IsBegun node.recovery.me new ⊎ IsBegun node.me new

kept_so : (input : Input) (node : Node) → ListsReceived input node node.recovery
kept_so input node = inl (record { epoch = refl; members = refl; lists = inl refl })

ended_received : (input : Input) (number : ℕ) (said : Option PeerSay) (node : Node)
    → ((new : Recovery) → IsListTold number said (recovery_state_of node) new → IsListHeard input node.recovery new)
    → ListsReceived input node (message_end number said (recovery_state_of node)).recovery
ended_received input number said node heard =
    let state = recovery_state_of node in
    let frame = frame_of_end number said state in
    inl (record {
      epoch = ap (λ (f : Frame). f.recovered) frame;
      members = ap (λ (f : Frame). f.members) frame;
      lists = ⊎_elim
          (λ (same : (message_end number said state).recovery.lists ≡ node.recovery.lists). inl same)
          (λ (told : IsListTold number said state (message_end number said state).recovery).
          inr (heard (message_end number said state).recovery told))
          (ended_lists number said state);
    })

heard_of : (rsp : PeerRsp) (node : Node) (new : Recovery) → IsListTold rsp.number (Some rsp.say) (recovery_state_of node) new
    → IsListHeard (inputs.Reply rsp) node.recovery new
heard_of rsp node new told = record {
  message = told.message;
  there = told.there;
  asked = told.asked;
  rsp = rsp;
  from = refl;
  number_so = told.number_so;
  oids = told.oids;
  told = same_Some rsp.say (says.Objects told.oids) told.told;
  lists_so = told.lists_so;
}

none_lost : (number : ℕ) (node : Node) (new : Recovery) → IsListTold number None (recovery_state_of node) new
    → IsListHeard (inputs.Lost number) node.recovery new
none_lost number node new told = let is = told.told in absurd (cc (is))

lists_at_entry : (entry : Entry) (node : Node) → ListsReceived (inputs.LogEntry entry) node (entry_read entry node).recovery
unfolding entry_read
lists_at_entry entry node =
    let entered : Node = node_with_entry entry node in
    cond_either (λ (state : RecoveryState). ListsReceived (inputs.LogEntry entry) node state.recovery) (begins_recovery entry node)
    (recovery_in_epoch entered) (recovery_state_of entered)
    (inr (inl (begun_anew entered.peer.epoch (nodes_of_members (epoch_members entered)) (recovery_state_of entered))))
    (kept_so (inputs.LogEntry entry) node)

pub lists_received : (input : Input) (node : Node) → ListsReceived input node (input_received input (at_first node)).node.recovery
unfolding on_request on_recover_tick recovery_steps.recovery_on_reply recovery_steps.recovery_on_loss
lists_received (inputs.Guest req session ask) node = kept_so (inputs.Guest req session ask) node
lists_received (inputs.Request request) node = kept_so (inputs.Request request) node
lists_received (inputs.Reply rsp) node =
    cond_either (λ (so_far : StepState). ListsReceived (inputs.Reply rsp) node so_far.node.recovery)
    (gateways.gateway_awaits rsp.number node.gateway) (at_first node)
    (recovery_stepped (message_end rsp.number (Some rsp.say) (recovery_state_of node)) (at_first node)) (kept_so (inputs.Reply rsp) node)
    (ended_received (inputs.Reply rsp) rsp.number (Some rsp.say) node (heard_of rsp node))
lists_received (inputs.Lost number) node =
    cond_either (λ (so_far : StepState). ListsReceived (inputs.Lost number) node so_far.node.recovery)
    (gateways.gateway_awaits number node.gateway) (at_first node)
    (recovery_stepped (message_end number None (recovery_state_of node)) (at_first node)) (kept_so (inputs.Lost number) node)
    (ended_received (inputs.Lost number) number None node (none_lost number node))
lists_received (inputs.LogEntry entry) node = lists_at_entry entry node
lists_received inputs.Put node = by_outbox node.outbox
  where
    by_outbox : (outbox : List Entry) → ListsReceived inputs.Put node (on_put outbox (at_first node)).node.recovery
    by_outbox [] = kept_so inputs.Put node
    by_outbox (entry ∷ later) = kept_so inputs.Put node
lists_received inputs.RecoverTick node =
    let state = recovery_state_of node in
    let frame = frame_of_tick node.sends state in
    inl (record {
      epoch = ap (λ (f : Frame). f.recovered) frame;
      members = ap (λ (f : Frame). f.members) frame;
      lists = inl (lists_ticked node.sends state);
    })
lists_received inputs.RetryTick node = kept_so inputs.RetryTick node
lists_received (inputs.Back entries) node = inr (inr (back_begun entries node))
