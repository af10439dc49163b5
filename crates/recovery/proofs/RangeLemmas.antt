-- What a tick asks can be spelled, and a recovery stays in range.
use Rattle.std.proofs.Common.{◌≡◌, ◌⊎◌, inl, inr, ℕ, suc, ◌+◌, ◌-◌, ◌^◌, ◌<◌, ◌≤◌, ◌==◌, nat_lt, Bool, true, false, not, cond, ◌&&◌, List, [], ◌∷◌, length, map, filter, All, Contains, Option, None, Some, is_some, refl, ap, sym, subst, arith}
use Rattle.std.specs.List.{list_any, range_with_len}
use Rattle.std.specs.Option.{IfSome, option_map, option_map_or}
use Rattle.std.specs.FinMap as tree
use Rattle.std.proofs.lemmas.Bool.{eqb-false, ltb-false, and_parts, or_parts, not-true}
use Rattle.std.proofs.lemmas.List.{length-map}
use Rattle.std.proofs.lemmas.List.Elements.{All-nil, All-cons, All-head, All-map, All-weaker, All-filter, All-contains, All-contains_itself}
use Rattle.std.proofs.lemmas.Map.Keys.{sorted_from_strictly_increasing}
use Rattle.std.proofs.lemmas.Map.Views.{length-le_from_below}
use Rattle.proof_tools.proofs.Booleans.{cond_either}
use Rattle.proof_tools.proofs.FiniteMaps.{All-keys-insert}
use Rattle.object_id.specs.declared.limits.TheConstants.{NODES_MAX}
use Rattle.object_id.specs.declared.node.NodeId.{NodeId}
use Rattle.object_id.specs.declared.policy.Policy.{Policy}
use Rattle.object_id.specs.Oid.{IsOid, kind_of}
use Rattle.object_id.specs.Policy.{IsPolicy, wanted_of}
use Rattle.object_store.specs.Store.{AllRows, create_in, rows_of}
use Rattle.object_list.specs.Gathered.{is_same_node, has_node, nodes_without, gathered_with_answer}
use Rattle.object_list.specs.Union.{union}
use Rattle.object_list.proofs.UnionLemmas.{union-only}
use Rattle.peer_proto.specs.declared.ask.PeerAsk.{PeerAsk}
use Rattle.peer_proto.specs.declared.ask.PeerAsk.TheVariants as asks
use Rattle.peer_proto.specs.declared.ask.PeerReq.{PeerReq}
use Rattle.peer_proto.specs.declared.say.PeerSay.{PeerSay}
use Rattle.peer_proto.specs.declared.say.PeerSay.TheVariants as says
use Rattle.peer_proto.specs.Ask.{IsPeerAsk, IsPeerReq}
use Rattle.peer_proto.specs.Header.{IsEpoch}
use Rattle.recovery.specs.Shown.{live_policy, first_in, is_pending_object, is_to_recover, shown_with_pending}
use Rattle.recovery.specs.State.{Message, Search, Recovery, RecoveryState, search_at, still_on, search_on, is_listed, is_finished, all_unanswered, can_tick, message_of, MayBegin, MayTick}
use Rattle.recovery.specs.Level.{with_part_found, with_object_missing, to_ask, one_lower, level_without_part, own_index, own_part, rows_found, are_enough, level_over_by, level_over, is_of_search, searching}
use Rattle.recovery.specs.Tick.{request_message, messages_to, lists_asked, asked_of, level_asked, or_next, next_search, level_messages, tick_messages, tick_sends, with_messages, state_after_tick}
use Rattle.recovery.specs.Steps.{to_recover, when_listed, at_start, recovery_from_epoch, without_unanswered, with_list_of, search_after_answer, after_list, after_read, after_ask, message_end}
use Rattle.recovery.specs.Range.{IsSearchInRange, IsInRange, NamesIds}
use Rattle.recovery.proofs.FoundLemmas.{wanted-most}
use Rattle.recovery.proofs.StepLemmas.{numbers_of_tick}
use Rattle.recovery.proofs.TickLemmas.{kept_few}

-- ---- what is asked

-- a message asks for something that can be spelled, in the recovered epoch
record IsAsking (recovery : Recovery) (message : Message) : Type 0 where
  from : message.request.from ≡ recovery.me
  epoch : message.request.epoch ≡ record { 0 = recovery.epoch }
  ask : IsPeerAsk message.request.ask

messages_ask : (recovery : Recovery) (first wanted : ℕ) (ask : PeerAsk) (nodes : List NodeId) → IsPeerAsk ask
    → All (IsAsking recovery) (messages_to recovery first wanted ask nodes)
messages_ask recovery first wanted ask [] is = All-nil (IsAsking recovery)
messages_ask recovery first wanted ask (node ∷ nodes) is =
    All-cons (IsAsking recovery) (request_message recovery wanted ask (first, node)) (messages_to recovery (first + 1) wanted ask nodes)
    (record { from = refl; epoch = refl; ask = is }) (messages_ask recovery (first + 1) wanted ask nodes is)

count_messages : (recovery : Recovery) (first wanted : ℕ) (ask : PeerAsk) (nodes : List NodeId)
    → length (messages_to recovery first wanted ask nodes) ≡ length nodes
count_messages recovery first wanted ask [] = refl
count_messages recovery first wanted ask (node ∷ nodes) = ap (λ (n : ℕ). suc n) (count_messages recovery (first + 1) wanted ask nodes)

-- the messages of a tick: no more than there may be members
record IsTick (recovery : Recovery) (messages : List Message) : Type 0 where
  few : length messages ≤ 64
  asking : All (IsAsking recovery) messages

-- ---- the search that a tick goes on with

abbrev pub IsFine : Option Search → Type 0
IsFine search = IfSome search IsSearchInRange

still_fine : (pending : Option (List ℕ)) (search : Option Search) → IsFine search → IsFine (still_on pending search)
still_fine pending None fine = tt
still_fine pending (Some search) fine = cond_either IsFine (is_pending_object search.oid pending) (Some search) None fine tt

next_fine : (epoch : ℕ) (pending : Option (List ℕ)) (search : Option Search) → 2 ≤ epoch → epoch < 2 ^ 32
    → IfSome pending (All IsOid) → IsFine search → IsFine (or_next epoch (first_in pending) search)
next_fine epoch pending (Some search) above below ids fine = record { oid = fine.oid; level = fine.level }
next_fine epoch None None above below ids fine = tt
next_fine epoch (Some []) None above below ids fine = tt
next_fine epoch (Some (oid ∷ rest)) None above below ids fine =
    record { oid = All-head IsOid oid rest ids; level = (omega (arith, above), omega (arith, below)) }

-- a recovery that may tick is of a later epoch than the first
pub above_1 : (state : RecoveryState) → 1 ≤ state.recovery.epoch → can_tick state ≡ true → 2 ≤ state.recovery.epoch
above_1 state low may =
    let unfinished : is_finished state ≡ false
    = not-true (is_finished state) (and_parts (not (is_finished state)) (length (all_unanswered state.recovery) == 0) may).0 in
    let apart = eqb-false state.recovery.epoch 1
    (or_parts (state.recovery.epoch == 1) (is_listed state.recovery && not (is_some (first_in state.shown.pending))) unfinished).0 in
    omega (arith, low, apart)

pub next_search_fine : (state : RecoveryState) → IsInRange state → can_tick state ≡ true → IsFine (next_search state)
next_search_fine state range may =
    next_fine state.recovery.epoch state.shown.pending (search_on state) (above_1 state range.epoch.0 may) range.epoch.1 range.pending
    (still_fine state.shown.pending state.recovery.search range.search)

-- ---- the requests of a tick

tick_is : (first : ℕ) (state : RecoveryState) → IsInRange state → IsFine (next_search state) → IsTick state.recovery (tick_messages first state)
unfolding tick_messages
tick_is first state range fine =
    cond_either (IsTick state.recovery) (is_listed state.recovery) (option_map_or (level_messages first state) (next_search state) []) (lists_asked first state.recovery)
    (of_search (next_search state) fine)
    (record {
      few = subst (λ (n : ℕ). n ≤ 64) (sym (count_messages state.recovery first 0 asks.List state.recovery.lists.waiting)) range.waiting;
      asking = messages_ask state.recovery first 0 asks.List state.recovery.lists.waiting tt;
    })
  where
    none : IsTick state.recovery []
    none = record { few = omega arith; asking = All-nil (IsAsking state.recovery) }

    of_level : (search : Search) (policy : Option Policy) → IfSome policy IsPolicy → IsSearchInRange search
        → IsTick state.recovery (option_map_or (level_asked first state search) policy [])
    of_level search None known fine = none
    of_level search (Some policy) known fine =
        let nodes = asked_of state policy search in
        let ask = asks.RecoverRead search.oid (record { 0 = search.level }) in
        let wanted = wanted_of policy (kind_of search.oid) in
        let kept : length nodes ≤ length (state.shown.targets search.level search.oid policy)
        = kept_few (λ (node : NodeId). has_node node state.recovery.members && not (is_same_node state.recovery.me node)) (state.shown.targets search.level search.oid policy) in
        let within : length (state.shown.targets search.level search.oid policy) ≤ wanted = range.targets search.level search.oid policy in
        let few : wanted ≤ 31 = wanted-most policy (kind_of search.oid) known in
        record {
          few = subst (λ (n : ℕ). n ≤ 64) (sym (count_messages state.recovery first wanted ask nodes)) (omega (arith, kept, within, few));
          asking = messages_ask state.recovery first wanted ask nodes (fine.oid, fine.level);
        }

    of_search : (search : Option Search) → IsFine search → IsTick state.recovery (option_map_or (level_messages first state) search [])
    of_search None fine = none
    of_search (Some search) fine =
        of_level search (live_policy state.shown search.oid)
        (cond_either (λ (policy : Option Policy). IfSome policy IsPolicy) (state.shown.is_dead search.oid) None (state.shown.policy_of search.oid)
        tt (range.policies search.oid))
        fine

-- a message is sent in a node's name
abbrev IsIn : NodeId → Message → Type 0
IsIn me message = message.request.from ≡ me

-- what a tick asks, it asks in its node's name
pub asked_by_own : (first : ℕ) (state : RecoveryState) → All (λ (send : NodeId × PeerReq). send.1.from ≡ state.recovery.me) (tick_sends first state)
unfolding tick_sends tick_messages
asked_by_own first state =
    All-map (λ (send : NodeId × PeerReq). send.1.from ≡ state.recovery.me) (λ (message : Message). (message.to, message.request))
    (tick_messages first state)
    (cond_either (All (IsIn state.recovery.me)) (is_listed state.recovery) (option_map_or (level_messages first state) (next_search state) []) (lists_asked first state.recovery)
    (of_search (next_search state)) (to_each first 0 asks.List state.recovery.lists.waiting))
  where
    to_each : (first wanted : ℕ) (ask : PeerAsk) (nodes : List NodeId) → All (IsIn state.recovery.me) (messages_to state.recovery first wanted ask nodes)
    to_each first wanted ask [] = All-nil (IsIn state.recovery.me)
    to_each first wanted ask (node ∷ nodes) =
        All-cons (IsIn state.recovery.me) (request_message state.recovery wanted ask (first, node)) (messages_to state.recovery (first + 1) wanted ask nodes)
        refl (to_each (first + 1) wanted ask nodes)

    of_level : (search : Search) (policy : Option Policy) → All (IsIn state.recovery.me) (option_map_or (level_asked first state search) policy [])
    of_level search None = All-nil (IsIn state.recovery.me)
    of_level search (Some policy) =
        to_each first (wanted_of policy (kind_of search.oid)) (asks.RecoverRead search.oid (record { 0 = search.level }))
        (asked_of state policy search)

    of_search : (search : Option Search) → All (IsIn state.recovery.me) (option_map_or (level_messages first state) search [])
    of_search None = All-nil (IsIn state.recovery.me)
    of_search (Some search) = of_level search (live_policy state.shown search.oid)

first_number : List ℕ → ℕ
first_number [] = 0
first_number (n ∷ ns) = n

later_numbers : List ℕ → List ℕ
later_numbers [] = []
later_numbers (n ∷ ns) = ns

-- messages that are numbered upwards have numbers below any that is behind them
numbered_below : (first bound : ℕ) (messages : List Message)
    → map (λ (message : Message). message.request.number) messages ≡ range_with_len first (length messages) → first + length messages ≤ bound
    → All (λ (message : Message). message.request.number < bound) messages
unfolding first_number later_numbers
numbered_below first bound [] numbers room = All-nil (λ (message : Message). message.request.number < bound)
numbered_below first bound (message ∷ messages) numbers room =
    let own : message.request.number ≡ first = ap first_number numbers in
    let here : message.request.number < bound = omega (arith, own, room) in
    let behind : (first + 1) + length messages ≤ bound = omega (arith, room) in
    All-cons (λ (message : Message). message.request.number < bound) message messages here
    (numbered_below (first + 1) bound messages (ap later_numbers numbers) behind)

pub asked_in_range : (first : ℕ) (state : RecoveryState) → MayTick first state → IsInRange state
    → All (λ (send : NodeId × PeerReq). IsPeerReq send.1) (tick_sends first state)
unfolding tick_sends
asked_in_range first state may range =
    let tick = tick_is first state range (next_search_fine state range may.work) in
    let room : first ≤ 2 ^ 32 - 64 = may.room in
    let few : length (tick_messages first state) ≤ 64 = tick.few in
    let within : first + length (tick_messages first state) ≤ 2 ^ 32 = omega (arith, room, few) in
    let below = numbered_below first (2 ^ 32) (tick_messages first state) (numbers_of_tick first state) within in
    All-map (λ (send : NodeId × PeerReq). IsPeerReq send.1) (λ (message : Message). (message.to, message.request)) (tick_messages first state)
    (λ k d there. record {
      from = subst (λ (node : NodeId). node.0 < 64) (sym (tick.asking k d there).from) range.me;
      number = below k d there;
      epoch = subst IsEpoch (sym (tick.asking k d there).epoch) range.epoch;
      ask = (tick.asking k d there).ask;
    })

-- ---- a tick stays in range

given_up_ids : (pending : Option (List ℕ)) (p : ℕ → Bool) → IfSome pending (All IsOid) → IfSome (option_map (filter p) pending) (All IsOid)
given_up_ids None p ids = tt
given_up_ids (Some oids) p ids = All-filter p IsOid oids ids

-- a state stays in range with other messages, another search, and other rows and pending objects
with_others : (missing : List ℕ) (unanswered older : List Message) (search : Option Search) (rows : AllRows) (pending : Option (List ℕ)) (state : RecoveryState)
    → IsFine search → All IsOid (tree.keys rows) → IfSome pending (All IsOid) → IsInRange state
    → IsInRange (record state {
      recovery = record state.recovery { missing = missing; unanswered = unanswered; older = older; search = search };
      shown = record state.shown { rows = rows; pending = pending };
    })
with_others missing unanswered older search rows pending state fine kept ids range = record {
  me = range.me;
  epoch = range.epoch;
  settled = range.settled;
  waiting = range.waiting;
  policies = range.policies;
  targets = range.targets;
  named = range.named;
  kept = kept;
  pending = ids;
  search = fine;
}

with_search : (search : Option Search) (state : RecoveryState) → IsFine search → IsInRange state
    → IsInRange (record state { recovery = record state.recovery { search = search } })
with_search search state fine range = with_others _ _ _ search _ _ state fine range.kept range.pending range

found_range : (oid index : ℕ) (bytes : List ℕ) (state : RecoveryState) → IsOid oid → IsInRange state → IsInRange (with_part_found oid index bytes state)
found_range oid index bytes state is range = with_others _ _ _ None _ _ state tt
    (All-keys-insert IsOid state.shown.rows oid
    (create_in index state.shown.epoch (length bytes) 0 bytes (rows_of state.shown.rows oid)) is range.kept)
    (given_up_ids state.shown.pending (λ other. not (other == oid)) range.pending) range

missed_range : (oid : ℕ) (state : RecoveryState) → IsInRange state → IsInRange (with_object_missing oid state)
missed_range oid state range = with_others _ _ _ None _ _ state tt range.kept
    (given_up_ids state.shown.pending (λ other. not (other == oid)) range.pending) range

lower_range : (search : Search) (state : RecoveryState) → IsSearchInRange search → IsInRange state → IsInRange (one_lower search state)
lower_range search state fine range = by_level (nat_lt (search.level - 1) state.shown.settled) refl
  where
    by_level : (b : Bool) → nat_lt (search.level - 1) state.shown.settled ≡ b
        → IsInRange (cond b (with_object_missing search.oid state) (to_ask search.oid (search.level - 1) state))
    by_level true below = missed_range search.oid state range
    by_level false above =
        let settled : state.shown.settled ≤ search.level - 1 = ltb-false (search.level - 1) state.shown.settled above in
        let low : 1 ≤ state.shown.settled = range.settled in
        let high : search.level < 2 ^ 32 = fine.level.1 in
        with_search (Some (search_at search.oid (search.level - 1))) state
        (record { oid = fine.oid; level = (omega (arith, settled, low), omega (arith, high)) }) range

judged_range : (search : Search) (state : RecoveryState) → IsSearchInRange search → IsInRange state → IsInRange (level_over search state)
unfolding level_over
judged_range search state fine range = of_policy (live_policy state.shown search.oid)
  where
    of_policy : (policy : Option Policy) → IsInRange (option_map_or (λ (policy : Policy). level_over_by policy search (rows_found state policy search) state) policy state)
    of_policy None = range
    of_policy (Some policy) =
        let rows = rows_found state policy search in
        cond_either IsInRange (are_enough policy (kind_of search.oid) rows)
        (with_part_found search.oid (own_index policy search state) (own_part policy search rows state) state)
        (level_without_part search state)
        (found_range search.oid (own_index policy search state) (own_part policy search rows state) state fine.oid range)
        (cond_either IsInRange search.again (to_ask search.oid search.level state) (one_lower search state)
        (with_search (Some (search_at search.oid search.level)) state (record { oid = fine.oid; level = fine.level }) range)
        (lower_range search state fine range))

searching_range : (search : Search) (state : RecoveryState) → IsSearchInRange search → IsInRange state → IsInRange (searching search state)
searching_range search state fine range =
    cond_either IsInRange (list_any (is_of_search search.oid) state.recovery.unanswered)
    (record state { recovery = record state.recovery { search = Some search } }) (level_over search state)
    (with_search (Some search) state fine range) (judged_range search state fine range)

searching_on_range : (search : Option Search) (state : RecoveryState) → IsFine search → IsInRange state → IsInRange (option_map_or (λ (search : Search). searching search state) search state)
searching_on_range None state fine range = range
searching_on_range (Some search) state fine range = searching_range search state fine range

with_messages_range : (messages : List Message) (state : RecoveryState) → IsInRange state → IsInRange (with_messages messages state)
with_messages_range messages state range = with_others _ _ _ _ _ _ state range.search range.kept range.pending range

pub ticked_in_range : (first : ℕ) (state : RecoveryState) → MayTick first state → IsInRange state → IsInRange (state_after_tick first state)
unfolding state_after_tick
ticked_in_range first state may range =
    let sent = with_messages_range (tick_messages first state) state range in
    cond_either IsInRange (is_listed state.recovery)
    (option_map_or (λ (search : Search). searching search (with_messages (tick_messages first state) state)) (next_search state) (with_messages (tick_messages first state) state))
    (with_messages (tick_messages first state) state)
    (searching_on_range (next_search state) (with_messages (tick_messages first state) state) (next_search_fine state range may.work) sent)
    sent

-- ---- and so do the beginning of a recovery, and the end of a message

-- what is true of all that two lists have is true of all that their union has
union_all : (P : ℕ → Type 0) (oids others : List ℕ) → All P oids → All P others → All P (union oids others)
union_all P oids others one other =
    All-weaker (Contains (union oids others)) P
    (λ (oid : ℕ) (there : Contains (union oids others) oid). of_either oid (union-only oids others oid there))
    (union oids others) (All-contains_itself (union oids others))
  where
    of_either : (oid : ℕ) → Contains oids oid ⊎ Contains others oid → P oid
    of_either oid (inl there) = All-contains P oids oid one there
    of_either oid (inr there) = All-contains P others oid other there

listed_range : (state : RecoveryState) → IsInRange state → IsInRange (when_listed state)
listed_range state range =
    cond_either IsInRange (is_listed state.recovery) (record state { shown = shown_with_pending (to_recover state) state.shown }) state
    (with_others _ _ _ _ _ (Some (to_recover state)) state range.search range.kept
    (All-filter (is_to_recover state.recovery.me state.recovery.epoch state.shown) IsOid
    (union state.recovery.lists.objects (tree.keys state.shown.rows))
    (union_all IsOid state.recovery.lists.objects (tree.keys state.shown.rows) range.named range.kept)) range)
    range

-- no more than there may be members are asked for their lists
pub others_few : (epoch : ℕ) (members : List NodeId) (state : RecoveryState) → MayBegin epoch members state
    → length (nodes_without state.recovery.me members) ≤ NODES_MAX
others_few epoch members state may =
    let kept : length (nodes_without state.recovery.me members) ≤ length members
    = kept_few (λ (other : NodeId). not (is_same_node state.recovery.me other)) members in
    let numbers : length (map (λ (node : NodeId). node.0) members) ≤ 64
    = length-le_from_below 64 (map (λ (node : NodeId). node.0) members)
    (sorted_from_strictly_increasing (map (λ (node : NodeId). node.0) members) may.ascend)
    (All-map (λ (n : ℕ). n < 64) (λ (node : NodeId). node.0) members may.nodes) in
    let few : length members ≤ 64 = subst (λ (n : ℕ). n ≤ 64) (length-map members (λ (node : NodeId). node.0)) numbers in
    omega (arith, kept, few)

pub begun_in_range : (epoch : ℕ) (members : List NodeId) (state : RecoveryState) → MayBegin epoch members state → epoch < 2 ^ 32
    → IsInRange state → IsInRange (recovery_from_epoch epoch members state)
unfolding recovery_from_epoch
begun_in_range epoch members state may below range =
    let above : 1 < epoch = may.above_1 in
    listed_range (at_start epoch members state)
    (record {
      me = range.me;
      epoch = (omega (arith, above), below);
      settled = range.settled;
      waiting = others_few epoch members state may;
      policies = range.policies;
      targets = range.targets;
      named = All-nil IsOid;
      kept = range.kept;
      pending = tt;
      search = tt;
    })

without_message_range : (number : ℕ) (state : RecoveryState) → IsInRange state → IsInRange (without_unanswered number state)
without_message_range number state range = with_others _ _ _ _ _ _ state range.search range.kept range.pending range

named_range : (from : NodeId) (oids : List ℕ) (state : RecoveryState) → All IsOid oids → IsInRange state → IsInRange (with_list_of from oids state)
named_range from oids state ids range =
    let left : length (nodes_without from state.recovery.lists.waiting) ≤ length state.recovery.lists.waiting
    = kept_few (λ (other : NodeId). not (is_same_node from other)) state.recovery.lists.waiting in
    let before : length state.recovery.lists.waiting ≤ 64 = range.waiting in
    listed_range (record state { recovery = record state.recovery { lists = gathered_with_answer from oids state.recovery.lists } })
    (record {
      me = range.me;
      epoch = range.epoch;
      settled = range.settled;
      waiting = omega (arith, left, before);
      policies = range.policies;
      targets = range.targets;
      named = union_all IsOid state.recovery.lists.objects oids range.named ids;
      kept = range.kept;
      pending = range.pending;
      search = range.search;
    })

after_list_range : (from : NodeId) (said : Option PeerSay) (state : RecoveryState) → IfSome said NamesIds → IsInRange state → IsInRange (after_list from said state)
after_list_range from (Some (says.Objects oids)) state ids range = named_range from oids state ids range
after_list_range from said state ids range = range

heard_fine : (from : NodeId) (said : Option PeerSay) (search : Search) → IsSearchInRange search → IsSearchInRange (search_after_answer from said search)
heard_fine from (Some says.Success) search fine = fine
heard_fine from (Some (says.Piece bytes)) search fine = fine
heard_fine from (Some (says.Objects oids)) search fine = fine
heard_fine from said search fine = record { oid = fine.oid; level = fine.level }

after_read_range : (oid : ℕ) (from : NodeId) (said : Option PeerSay) (search : Option Search) (state : RecoveryState) → IsFine search → IsInRange state
    → IsInRange (after_read oid from said search state)
after_read_range oid from said None state fine range = range
after_read_range oid from said (Some search) state fine range =
    cond_either IsInRange (search.oid == oid) (searching (search_after_answer from said search) state) state
    (searching_range (search_after_answer from said search) state (heard_fine from said search fine) range) range

after_ask_range : (ask : PeerAsk) (from : NodeId) (said : Option PeerSay) (state : RecoveryState) → IfSome said NamesIds → IsInRange state
    → IsInRange (after_ask ask from said state)
after_ask_range asks.List from said state ids range = after_list_range from said state ids range
after_ask_range (asks.RecoverRead oid level) from said state ids range =
    after_read_range oid from said (search_on state) state (still_fine state.shown.pending state.recovery.search range.search) range
after_ask_range ask from said state ids range = range

after_message_range : (message : Option Message) (said : Option PeerSay) (state : RecoveryState) → IfSome said NamesIds → IsInRange state
    → IsInRange (option_map_or (λ (message : Message). after_ask message.request.ask message.to said state) message state)
after_message_range None said state ids range = range
after_message_range (Some message) said state ids range = after_ask_range message.request.ask message.to said state ids range

pub ended_in_range : (number : ℕ) (said : Option PeerSay) (state : RecoveryState) → IfSome said NamesIds → IsInRange state → IsInRange (message_end number said state)
ended_in_range number said state ids range =
    after_message_range (message_of number state.recovery.unanswered) said (without_unanswered number state) ids (without_message_range number state range)
