-- The messages of a recovery are of its epoch, and those for the object of its search are of the search's level: so it is as a recovery
-- begins, and so it stays at each step of its node.
use Rattle.std.proofs.Common.{◌≡◌, arith, ℕ, ◌+◌, ◌==◌, ◌||◌, map, Bool, true, false, not, cond, List, [], ◌∷◌, ◌++◌, length, All, Contains}
use Rattle.std.proofs.Common.{Option, Some, None, IfSome, refl, sym, ap, subst, ◌∙◌, slice_get}
use Rattle.std.specs.Option.{option_map_or}
use Rattle.std.specs.List.{list_any}
use Rattle.std.proofs.lemmas.Bool.{eq-eqb, eqb-true, cond_both, and_parts}
use Rattle.std.proofs.lemmas.List.Elements.{All-nil, All-cons, All-filter, All-weaker, All-contains, All-contains_itself, All-get_or}
use Rattle.std.proofs.lemmas.Option.{get_or_from_slice_get, slice_get_within}
use Rattle.proof_tools.proofs.Booleans.{cond_either}
use Rattle.proof_tools.proofs.Lists.{list_any-none}
use Rattle.object_id.specs.declared.entry.Entry.{Entry}
use Rattle.object_id.specs.declared.entry.Member.{Member}
use Rattle.object_id.specs.declared.node.NodeId.{NodeId}
use Rattle.object_id.specs.declared.policy.Policy.{Policy}
use Rattle.object_id.specs.Oid.{kind_of}
use Rattle.object_id.specs.Policy.{wanted_of}
use Rattle.object_list.specs.Gathered.{gathered_with_answer}
use Rattle.peer_proto.specs.declared.ask.PeerAsk.{PeerAsk}
use Rattle.peer_proto.specs.declared.ask.PeerAsk.TheVariants as asks
use Rattle.peer_proto.specs.declared.say.PeerSay.{PeerSay}
use Rattle.peer_proto.specs.declared.say.PeerSay.TheVariants as says
use Rattle.gateway.specs.State as gateways
use Rattle.recovery.specs.Shown.{live_policy, is_pending_object, shown_with_pending}
use Rattle.recovery.specs.State.{Message, Search, Recovery, RecoveryState, search_at, still_on, search_on, is_listed, all_unanswered}
use Rattle.recovery.specs.State.{has_number, message_of, can_tick, is_finished}
use Rattle.recovery.specs.Steps as recovery_steps
use Rattle.recovery.specs.Steps.{to_recover, when_listed, at_start, recovery_from_epoch, without_unanswered, search_after_answer}
use Rattle.recovery.specs.Steps.{after_list, after_read, after_ask, message_end}
use Rattle.recovery.specs.Level.{is_of_search, is_read_of, searching, level_over}
use Rattle.recovery.specs.Tick.{request_message, messages_to, lists_asked, asked_of, level_asked, next_search, level_messages}
use Rattle.recovery.specs.Tick.{tick_messages, with_messages, state_after_tick}
use Rattle.recovery.proofs.StepLemmas.{judged_each}
use Rattle.sheep_node.specs.declared.input.Input.{Input}
use Rattle.sheep_node.specs.declared.input.Input.TheVariants as inputs
use Rattle.sheep_node.specs.State.{Node}
use Rattle.sheep_node.specs.RecoveryView.{recovery_state_of}
use Rattle.sheep_node.specs.StepState.{StepState, at_first}
use Rattle.sheep_node.specs.LogReading.{epoch_members, node_with_entry, recovery_in_epoch, begins_recovery, entry_read, come_back_with}
use Rattle.sheep_node.specs.LogReading.{on_back}
use Rattle.sheep_node.specs.Step.{on_request, recovery_stepped, on_put, on_recover_tick, node_step}
use Rattle.sheep_node.specs.Changes.{input_received}
use Rattle.sheep_node.proofs.StepResults.{step_recovery}
use Rattle.overlap_law.specs.Flight.{IsAtLevel, MessagesAreOfTheRecovery}

-- ---- a message that fits a recovery

abbrev FitsSearch : Option Search → Message → Type 0
FitsSearch search message = IfSome search (λ (search : Search). IsAtLevel search message.request.ask)

abbrev Fits : ℕ → Option Search → Message → Type 0
Fits epoch search message = (message.request.epoch.0 ≡ epoch) × FitsSearch search message

-- all that a recovery waits for fits it
abbrev pub AsksSo : Recovery → Type 0
AsksSo recovery = All (Fits recovery.epoch recovery.search) recovery.unanswered

-- a search of the same object and level is fitted by the same
same_level : (one other : Search) → other.oid ≡ one.oid → other.level ≡ one.level → (ask : PeerAsk) → IsAtLevel one ask
    → IsAtLevel other ask
same_level one other oid level (asks.Create key size offset bytes) at = tt
same_level one other oid level (asks.Write key offset bytes) at = tt
same_level one other oid level (asks.Read key offset size) at = tt
same_level one other oid level asks.List at = tt
same_level one other oid level (asks.RecoverRead of asked) at = λ same. at (same ∙ oid) ∙ sym level

-- what isn't for the object of a search fits that at any level
none_for : (oid level : ℕ) (message : Message) → is_of_search oid message ≡ false → IsAtLevel (search_at oid level) message.request.ask
none_for oid level message = by_ask message.request.ask
  where
    by_ask : (ask : PeerAsk) → is_read_of oid ask ≡ false → IsAtLevel (search_at oid level) ask
    by_ask (asks.Create key size offset bytes) none = tt
    by_ask (asks.Write key offset bytes) none = tt
    by_ask (asks.Read key offset size) none = tt
    by_ask asks.List none = tt
    by_ask (asks.RecoverRead of asked) none = λ same. absurd (let is = eq-eqb of oid same in cc (is, none))

-- ---- steps of a recovery

abbrev StateAsksSo : RecoveryState → Type 0
StateAsksSo state = AsksSo state.recovery

-- what waits is of the epoch, and where none of it is for the object of a search, the search may go to any level
of_epoch : (epoch : ℕ) (search : Option Search) (messages : List Message) → All (Fits epoch search) messages
    → All (λ (message : Message). message.request.epoch.0 ≡ epoch) messages
of_epoch epoch search messages all =
    All-weaker (Fits epoch search) (λ (message : Message). message.request.epoch.0 ≡ epoch) (λ message is. is.0) messages all

-- the level of a search is over
level_over-so : (search : Search) (state : RecoveryState)
    → All (λ (message : Message). message.request.epoch.0 ≡ state.recovery.epoch) state.recovery.unanswered
    → list_any (is_of_search search.oid) state.recovery.unanswered ≡ false → StateAsksSo state → StateAsksSo (level_over search state)
level_over-so search state epochs none so = judged_each StateAsksSo search state so
    (λ index bytes. no_search) no_search
    (λ level. All-weaker (Contains messages) (Fits state.recovery.epoch (Some (search_at search.oid level)))
    (λ (message : Message) (there : Contains messages message). (
      All-contains (λ (message : Message). message.request.epoch.0 ≡ state.recovery.epoch) messages message epochs there,
      none_for search.oid level message (list_any-none (is_of_search search.oid) messages message none there),
    )) messages (All-contains_itself messages))
  where
    messages : List Message
    messages = state.recovery.unanswered

    no_search : All (Fits state.recovery.epoch None) messages
    no_search =
        All-weaker (λ (message : Message). message.request.epoch.0 ≡ state.recovery.epoch) (Fits state.recovery.epoch None)
        (λ message is. (is, tt)) messages epochs

-- a search of the same object and level goes on
searching-so : (one search : Search) (state : RecoveryState) → state.recovery.search ≡ Some one → search.oid ≡ one.oid
    → search.level ≡ one.level → StateAsksSo state
    → StateAsksSo (searching search state)
searching-so one search state on oid level so = cond_both
    (list_any (is_of_search search.oid) state.recovery.unanswered)
    (record state { recovery = record state.recovery { search = Some search } }) (level_over search state) StateAsksSo
    (λ some. All-weaker (Fits state.recovery.epoch state.recovery.search) (Fits state.recovery.epoch (Some search))
    (λ message is. (
      is.0,
      same_level one search oid level message.request.ask (subst (λ (o : Option Search). FitsSearch o message) on is.1),
    )) state.recovery.unanswered so)
    (λ none. level_over-so search state (of_epoch state.recovery.epoch state.recovery.search state.recovery.unanswered so) none so)

-- ---- a message ends

without-so : (number : ℕ) (state : RecoveryState) → StateAsksSo state → StateAsksSo (without_unanswered number state)
without-so number state so =
    All-filter (λ (message : Message). not (has_number number message)) (Fits state.recovery.epoch state.recovery.search)
    state.recovery.unanswered so

listed-so : (state : RecoveryState) → StateAsksSo state → StateAsksSo (when_listed state)
listed-so state so =
    cond_either StateAsksSo (is_listed state.recovery) (record state { shown = shown_with_pending (to_recover state) state.shown }) state so
    so

after_list-so : (from : NodeId) (said : Option PeerSay) (state : RecoveryState) → StateAsksSo state
    → StateAsksSo (after_list from said state)
after_list-so from None state so = so
after_list-so from (Some says.Success) state so = so
after_list-so from (Some (says.Piece bytes)) state so = so
after_list-so from (Some (says.Objects oids)) state so =
    listed-so (record state { recovery = record state.recovery { lists = gathered_with_answer from oids state.recovery.lists } }) so
after_list-so from (Some (says.Row row)) state so = so
after_list-so from (Some says.NoRow) state so = so
after_list-so from (Some (says.Refused refusal)) state so = so

abbrev SameSearch : Search → Search → Type 0
SameSearch one search = (search.oid ≡ one.oid) × (search.level ≡ one.level)

answered_same : (from : NodeId) (said : Option PeerSay) (search : Search) → SameSearch search (search_after_answer from said search)
answered_same from None search = (refl, refl)
answered_same from (Some says.Success) search = (refl, refl)
answered_same from (Some (says.Piece bytes)) search = (refl, refl)
answered_same from (Some (says.Objects oids)) search = (refl, refl)
answered_same from (Some (says.Row row)) search = (refl, refl)
answered_same from (Some says.NoRow) search = (refl, refl)
answered_same from (Some (says.Refused refusal)) search = (refl, refl)

-- a search that goes on is the recovery's
on_is : (pending : Option (List ℕ)) (o : Option Search) (search : Search) → still_on pending o ≡ Some search → o ≡ Some search
on_is pending None search is = absurd (cc (is))
on_is pending (Some one) search is = by_pending (is_pending_object one.oid pending) is
  where
    by_pending : (b : Bool) → cond b (Some one) None ≡ Some search → Some one ≡ Some search
    by_pending true is = is
    by_pending false is = absurd (cc (is))

after_read-so : (oid : ℕ) (from : NodeId) (said : Option PeerSay) (state : RecoveryState) → StateAsksSo state
    → StateAsksSo (after_read oid from said (search_on state) state)
after_read-so oid from said state so = by_search (search_on state) refl
  where
    by_search : (o : Option Search) → search_on state ≡ o → StateAsksSo (after_read oid from said o state)
    by_search None is = so
    by_search (Some search) is =
        let same = answered_same from said search in
        cond_either StateAsksSo (search.oid == oid) (searching (search_after_answer from said search) state) state
        (searching-so search (search_after_answer from said search) state (on_is state.shown.pending state.recovery.search search is) same.0
        same.1 so) so

after_ask-so : (ask : PeerAsk) (from : NodeId) (said : Option PeerSay) (state : RecoveryState) → StateAsksSo state
    → StateAsksSo (after_ask ask from said state)
after_ask-so (asks.Create key size offset bytes) from said state so = so
after_ask-so (asks.Write key offset bytes) from said state so = so
after_ask-so (asks.Read key offset size) from said state so = so
after_ask-so asks.List from said state so = after_list-so from said state so
after_ask-so (asks.RecoverRead oid level) from said state so = after_read-so oid from said state so

ended-so : (number : ℕ) (said : Option PeerSay) (state : RecoveryState) → StateAsksSo state → StateAsksSo (message_end number said state)
ended-so number said state so = by_message (message_of number state.recovery.unanswered)
  where
    by_message : (o : Option Message) → StateAsksSo (option_map_or
        (λ (message : Message). after_ask message.request.ask message.to said (without_unanswered number state)) o
        (without_unanswered number state))
    by_message None = without-so number state so
    by_message (Some message) =
        after_ask-so message.request.ask message.to said (without_unanswered number state) (without-so number state so)

-- ---- a recovery begins, or ticks

begun-so : (epoch : ℕ) (members : List NodeId) (state : RecoveryState) → StateAsksSo (recovery_from_epoch epoch members state)
unfolding recovery_from_epoch
begun-so epoch members state = listed-so (at_start epoch members state) (All-nil (Fits epoch None))

-- the messages of a tick
to_each : (recovery : Recovery) (first wanted : ℕ) (ask : PeerAsk) (search : Option Search) (nodes : List NodeId)
    → IfSome search (λ (search : Search). IsAtLevel search ask)
    → All (Fits recovery.epoch search) (messages_to recovery first wanted ask nodes)
to_each recovery first wanted ask search [] fits = All-nil (Fits recovery.epoch search)
to_each recovery first wanted ask search (node ∷ nodes) fits =
    All-cons (Fits recovery.epoch search) (request_message recovery wanted ask (first, node))
    (messages_to recovery (first + 1) wanted ask nodes) (refl, fits) (to_each recovery (first + 1) wanted ask search nodes fits)

if_any : (o : Option Search) → IfSome o (λ (search : Search). IsAtLevel search asks.List)
if_any None = tt
if_any (Some search) = tt

-- none of the messages to some nodes is for the object, so there are none
none_asked : (recovery : Recovery) (first wanted oid level : ℕ) (search : Option Search) (nodes : List NodeId)
    → list_any (is_of_search oid) (messages_to recovery first wanted (asks.RecoverRead oid (record { 0 = level })) nodes) ≡ false
    → All (Fits recovery.epoch search) (messages_to recovery first wanted (asks.RecoverRead oid (record { 0 = level })) nodes)
none_asked recovery first wanted oid level search [] none = All-nil (Fits recovery.epoch search)
none_asked recovery first wanted oid level search (node ∷ nodes) none =
    let own = eq-eqb oid oid refl in
    absurd (by_own (oid == oid) own none)
  where
    by_own : (b : Bool) → b ≡ true
        → (b || list_any (is_of_search oid) (messages_to recovery (first + 1) wanted (asks.RecoverRead oid (record { 0 = level })) nodes))
        ≡ false → ⊥
    by_own true own none = cc (none)
    by_own false own none = cc (own)

module _ (first : ℕ) (state : RecoveryState) (idle : state.recovery.unanswered ≡ []) where
  abbrev sent : RecoveryState
  sent = with_messages (tick_messages first state) state

  -- what is sent is all that is waited for
  sent_alone : (search : Option Search) → All (Fits state.recovery.epoch search) (tick_messages first state)
      → All (Fits state.recovery.epoch search) sent.recovery.unanswered
  sent_alone search all =
      subst (λ (before : List Message). All (Fits state.recovery.epoch search) (before ++ tick_messages first state)) (sym idle) all

  abbrev asked : Search → List Message
  asked search = level_messages first state search

  level_fits : (search : Search) → All (Fits state.recovery.epoch (Some search)) (asked search)
  level_fits search = by_policy (live_policy state.shown search.oid)
    where
      by_policy : (policy : Option Policy)
          → All (Fits state.recovery.epoch (Some search)) (option_map_or (level_asked first state search) policy [])
      by_policy None = All-nil (Fits state.recovery.epoch (Some search))
      by_policy (Some policy) =
          to_each state.recovery first (wanted_of policy (kind_of search.oid)) (asks.RecoverRead search.oid (record { 0 = search.level }))
          (Some search) (asked_of state policy search) (λ same. refl)

  level_none : (search : Search) (other : Option Search) → list_any (is_of_search search.oid) (asked search) ≡ false
      → All (Fits state.recovery.epoch other) (asked search)
  level_none search other = by_policy (live_policy state.shown search.oid)
    where
      by_policy : (policy : Option Policy)
          → list_any (is_of_search search.oid) (option_map_or (level_asked first state search) policy []) ≡ false
          → All (Fits state.recovery.epoch other) (option_map_or (level_asked first state search) policy [])
      by_policy None none = All-nil (Fits state.recovery.epoch other)
      by_policy (Some policy) none =
          none_asked state.recovery first (wanted_of policy (kind_of search.oid)) search.oid search.level other
          (asked_of state policy search) none

  -- with the list finished the level of a search is asked
  listed : (search : Search) → tick_messages first state ≡ asked search → StateAsksSo (searching search sent)
  listed search is =
      let fits : All (Fits state.recovery.epoch (Some search)) sent.recovery.unanswered
      = sent_alone (Some search) (subst (All (Fits state.recovery.epoch (Some search))) (sym is) (level_fits search)) in
      cond_both (list_any (is_of_search search.oid) sent.recovery.unanswered)
      (record sent { recovery = record sent.recovery { search = Some search } }) (level_over search sent)
      StateAsksSo (λ some. fits)
      (λ none. level_over-so search sent (of_epoch state.recovery.epoch (Some search) sent.recovery.unanswered fits) none
      (sent_alone state.recovery.search
      (subst (All (Fits state.recovery.epoch state.recovery.search)) (sym is)
      (level_none search state.recovery.search
      (sym (ap (λ (before : List Message). list_any (is_of_search search.oid) (before ++ tick_messages first state)) idle
      ∙ ap (list_any (is_of_search search.oid)) is) ∙ none)))))

  pub ticked-so : StateAsksSo (state_after_tick first state)
  unfolding state_after_tick tick_messages
  ticked-so = by_listed (is_listed state.recovery) refl
    where
      by_search : (o : Option Search) → tick_messages first state ≡ option_map_or (level_messages first state) o []
          → StateAsksSo (option_map_or (λ (search : Search). searching search sent) o sent)
      by_search None is =
          sent_alone state.recovery.search (subst (All (Fits state.recovery.epoch state.recovery.search)) (sym is)
          (All-nil (Fits state.recovery.epoch state.recovery.search)))
      by_search (Some search) is = listed search is

      by_listed : (b : Bool) → is_listed state.recovery ≡ b
          → StateAsksSo (cond b (option_map_or (λ (search : Search). searching search sent) (next_search state) sent) sent)
      by_listed true is =
          by_search (next_search state)
          (ap (λ (b : Bool). cond b (option_map_or (level_messages first state) (next_search state) []) (lists_asked first state.recovery))
          is)
      by_listed false is =
          sent_alone state.recovery.search
          (subst (All (Fits state.recovery.epoch state.recovery.search))
          (sym (ap (λ (b : Bool). cond b (option_map_or (level_messages first state) (next_search state) [])
          (lists_asked first state.recovery)) is)) (to_each state.recovery first 0 asks.List state.recovery.search
          state.recovery.lists.waiting (if_any state.recovery.search)))

-- nothing waits where a tick may be made
pub idle_before_tick : (state : RecoveryState) → can_tick state ≡ true → state.recovery.unanswered ≡ []
idle_before_tick state may =
    none_of state.recovery.unanswered state.recovery.older (and_parts (not (is_finished state))
    (length (all_unanswered state.recovery) == 0) may).1
  where
    none_of : (messages older : List Message) → (length (messages ++ older) == 0) ≡ true → messages ≡ []
    none_of [] older none = refl
    none_of (message ∷ messages) older none =
        absurd (let zero : length (message ∷ (messages ++ older)) ≡ 0 = eqb-true (length (message ∷ (messages ++ older))) 0 none in omega
        (arith, zero))

-- ---- a step of the node

-- where the input is a tick, it may be made
abbrev pub TicksIfMay : Input → Node → Type 0
TicksIfMay inputs.RecoverTick node = can_tick (recovery_state_of node) ≡ true
TicksIfMay _ node = Unit {0}

abbrev NodeAsksSo : Node → Type 0
NodeAsksSo node = AsksSo node.recovery

read-so : (entry : Entry) (node : Node) → NodeAsksSo node → NodeAsksSo (entry_read entry node)
unfolding entry_read
read-so entry node so =
    cond_either StateAsksSo (begins_recovery entry node) (recovery_in_epoch (node_with_entry entry node))
    (recovery_state_of (node_with_entry entry node)) (begun-so (node_with_entry entry node).peer.epoch
    (map (λ (member : Member). member.node) (epoch_members (node_with_entry entry node))) (recovery_state_of (node_with_entry entry node)))
    so

received-so : (input : Input) (node : Node) → TicksIfMay input node → NodeAsksSo node
    → NodeAsksSo (input_received input (at_first node)).node
unfolding on_request on_recover_tick on_back recovery_steps.recovery_on_reply recovery_steps.recovery_on_loss
received-so (inputs.Guest req session ask) node may so = so
received-so (inputs.Request request) node may so = so
received-so (inputs.Reply rsp) node may so =
    cond_either (λ (so_far : StepState). NodeAsksSo so_far.node) (gateways.gateway_awaits rsp.number node.gateway) (at_first node)
    (recovery_stepped (recovery_steps.recovery_on_reply rsp (recovery_state_of node)) (at_first node)) so
    (ended-so rsp.number (Some rsp.say) (recovery_state_of node) so)
received-so (inputs.Lost number) node may so =
    cond_either (λ (so_far : StepState). NodeAsksSo so_far.node) (gateways.gateway_awaits number node.gateway) (at_first node)
    (recovery_stepped (recovery_steps.recovery_on_loss number (recovery_state_of node)) (at_first node)) so
    (ended-so number None (recovery_state_of node) so)
received-so (inputs.LogEntry entry) node may so = read-so entry node so
received-so inputs.Put node may so = by_outbox node.outbox
  where
    by_outbox : (outbox : List Entry) → NodeAsksSo (on_put outbox (at_first node)).node
    by_outbox [] = so
    by_outbox (entry ∷ later) = so
received-so inputs.RecoverTick node may so = ticked-so node.sends (recovery_state_of node) (idle_before_tick (recovery_state_of node) may)
received-so inputs.RetryTick node may so = so
received-so (inputs.Back entries) node may so =
    begun-so (come_back_with entries node).peer.epoch (map (λ (member : Member). member.node) (epoch_members (come_back_with entries node)))
    (recovery_state_of (come_back_with entries node))

pub step_asks_so : (input : Input) (node : Node) → TicksIfMay input node → AsksSo node.recovery
    → AsksSo (node_step input node).node.recovery
step_asks_so input node may so = subst AsksSo (sym (step_recovery input node)) (received-so input node may so)

-- none is asked before the first recovery
pub none_asked_yet : (recovery : Recovery) → recovery.unanswered ≡ [] → AsksSo recovery
none_asked_yet recovery none =
    subst (All (Fits recovery.epoch recovery.search)) (sym none) (All-nil (Fits recovery.epoch recovery.search))

-- ---- as the invariant says it

at_place : {X : Type 0} (P : X → Type 0) (xs : List X) (place : ℕ) (x : X) → All P xs → slice_get xs place ≡ Some x → P x
at_place P xs place x all got =
    subst P (get_or_from_slice_get xs place x x got) (All-get_or P xs place x (slice_get_within xs place x got) all)

pub asks_so-of : (node : Node) → AsksSo node.recovery → MessagesAreOfTheRecovery node
asks_so-of node so = record {
  epoch = λ place message got. (at_place (Fits node.recovery.epoch node.recovery.search) node.recovery.unanswered place message so got).0;
  level = λ place message search got on.
      subst (λ (o : Option Search). FitsSearch o message) (on_is node.peer.pending node.recovery.search search on)
      (at_place (Fits node.recovery.epoch node.recovery.search) node.recovery.unanswered place message so got).1;
}
