-- What a recovery needs for a step is there after each step.
use Rattle.std.proofs.Common.{◌≡◌, ℕ, ◌+◌, ◌-◌, ◌<◌, ◌≤◌, ◌==◌, nat_lt, not, Bool, true, false, cond, List, [], ◌∷◌, length, All, Option, None, Some, refl, sym, subst, arith}
use Rattle.std.specs.List.{list_any}
use Rattle.std.specs.Option.{IfSome, option_map_or}
use Rattle.std.proofs.lemmas.List.Elements.{All-nil, All-cons, All-append, All-filter}
use Rattle.std.proofs.lemmas.Bool.{eqb-true, ltb-false}
use Rattle.proof_tools.proofs.Booleans.{cond_either}
use Rattle.object_id.specs.declared.limits.TheConstants.{NODES_MAX, TARGETS_MAX}
use Rattle.object_id.specs.declared.node.NodeId.{NodeId}
use Rattle.object_id.specs.declared.policy.Policy.{Policy}
use Rattle.object_id.specs.Oid.{kind_of}
use Rattle.object_id.specs.Policy.{IsPolicy, wanted_of}
use Rattle.object_store.specs.declared.key.Key.{Key}
use Rattle.object_list.specs.Gathered.{is_same_node, nodes_without}
use Rattle.peer_proto.specs.declared.ask.PeerAsk.{PeerAsk}
use Rattle.peer_proto.specs.declared.ask.PeerAsk.TheVariants as asks
use Rattle.peer_proto.specs.declared.say.PeerSay.{PeerSay}
use Rattle.peer_proto.specs.declared.say.PeerSay.TheVariants as says
use Rattle.peer_proto.specs.declared.say.PeerRsp.{PeerRsp}
use Rattle.recovery.specs.Shown.{NodeView, with_row, live_policy, is_pending_object, first_in, shown_with_pending}
use Rattle.recovery.specs.State.{Message, Search, Recovery, RecoveryState, still_on, search_on, is_listed, has_number, message_of, MayBegin, MayTick}
use Rattle.recovery.specs.Level.{is_of_search, with_part_found, with_object_missing, to_ask, one_lower, level_without_part, own_index, own_part, rows_found, are_enough, level_over_by, level_over, searching}
use Rattle.recovery.specs.Tick.{request_message, messages_to, lists_asked, level_asked, asked_of, or_next, next_search, level_messages, tick_messages, with_messages, state_after_tick}
use Rattle.recovery.specs.Fits.{fits_recovery}
use Rattle.recovery.specs.Steps.{recovery_on_reply, recovery_on_loss, recovery_from_epoch, to_recover, at_start, without_unanswered, search_after_answer, with_list_of, after_list, after_read, after_ask, message_end}
use Rattle.recovery.specs.Frame.{Frame, frame}
use Rattle.recovery.specs.Step.{AnswersFit, IsFittingSay, SaysOfRow, IsPartSize, MayEndLevel, MayStep}
use Rattle.recovery.proofs.StepLemmas.{frame_of_tick, frame_of_end}
use Rattle.recovery.proofs.RangeLemmas.{above_1, others_few}
use Rattle.recovery.proofs.TickLemmas.{kept_few}
use Rattle.recovery.proofs.ReplyLemmas.{reply_fits}
use Rattle.recovery.proofs.EndLemmas.{answers-after, same-level, same-object}
use Rattle.recovery.proofs.FoundLemmas.{wanted-most}

-- a search is at an epoch below the recovered one, and its answers fit
abbrev Reaches : ℕ → NodeView → Search → Type 0
Reaches epoch shown search = (1 ≤ search.level) × (search.level < epoch) × AnswersFit shown search.oid search.answers

-- and no more members than there may be are still to name their objects
abbrev MayGo : RecoveryState → Type 0
MayGo state =
    IfSome state.recovery.search (Reaches state.recovery.epoch state.shown) × (length state.recovery.lists.waiting ≤ NODES_MAX)

over-may : (search : Search) (state : RecoveryState) → 1 ≤ state.shown.settled → 1 ≤ search.level → search.level < state.recovery.epoch
    → MayGo state → MayGo (level_over search state)
unfolding level_over
over-may search state settled from below may = by_policy (live_policy state.shown search.oid)
  where
    by_lower : (b : Bool) → nat_lt (search.level - 1) state.shown.settled ≡ b
        → MayGo (cond b (with_object_missing search.oid state) (to_ask search.oid (search.level - 1) state))
    by_lower true is = (tt, may.1)
    by_lower false is =
        let least : state.shown.settled ≤ search.level - 1 = ltb-false (search.level - 1) state.shown.settled is in
        ((omega (arith, settled, least), omega (arith, below), tt), may.1)

    by_policy : (o : Option Policy)
        → MayGo (option_map_or (λ (policy : Policy). level_over_by policy search (rows_found state policy search) state) o state)
    by_policy None = may
    by_policy (Some policy) =
        cond_either MayGo (are_enough policy (kind_of search.oid) (rows_found state policy search))
        (with_part_found search.oid (own_index policy search state) (own_part policy search (rows_found state policy search) state) state)
        (level_without_part search state) (tt, may.1)
        (cond_either MayGo search.again (to_ask search.oid search.level state) (one_lower search state) ((from, below, tt), may.1)
        (by_lower (nat_lt (search.level - 1) state.shown.settled) refl))

searching-may : (search : Search) (state : RecoveryState) → 1 ≤ state.shown.settled → Reaches state.recovery.epoch state.shown search
    → MayGo state → MayGo (searching search state)
searching-may search state settled reach may =
    cond_either MayGo (list_any (is_of_search search.oid) state.recovery.unanswered)
    (record state { recovery = record state.recovery { search = Some search } }) (level_over search state)
    (reach, may.1) (over-may search state settled reach.0 reach.1 may)

still-may : (pending : Option (List ℕ)) (o : Option Search) (epoch : ℕ) (shown : NodeView) → IfSome o (Reaches epoch shown)
    → IfSome (still_on pending o) (Reaches epoch shown)
still-may pending None epoch shown may = tt
still-may pending (Some search) epoch shown may = by_pending (is_pending_object search.oid pending)
  where
    by_pending : (b : Bool) → IfSome (cond b (Some search) None) (Reaches epoch shown)
    by_pending true = may
    by_pending false = tt

next-may : (epoch : ℕ) (shown : NodeView) (pending : Option ℕ) (o : Option Search) → 2 ≤ epoch → IfSome o (Reaches epoch shown)
    → IfSome (or_next epoch pending o) (Reaches epoch shown)
next-may epoch shown pending (Some search) above may = (may.0, may.1, tt)
next-may epoch shown None None above may = tt
next-may epoch shown (Some oid) None above may = (omega (arith, above), omega (arith, above), tt)

-- the search whose level a tick asks
searched-next : (first : ℕ) (state : RecoveryState) → MayTick first state → MayStep state
    → IfSome (next_search state) (Reaches state.recovery.epoch state.shown)
searched-next first state may is =
    next-may state.recovery.epoch state.shown (first_in state.shown.pending) (search_on state) (above_1 state is.epoch may.work)
    (still-may state.shown.pending state.recovery.search state.recovery.epoch state.shown is.search)

searched-may : (o : Option Search) (state : RecoveryState) → 1 ≤ state.shown.settled → IfSome o (Reaches state.recovery.epoch state.shown)
    → MayGo state → MayGo (option_map_or (λ (search : Search). searching search state) o state)
searched-may None state settled next may = may
searched-may (Some search) state settled next may = searching-may search state settled next may

tick-may : (first : ℕ) (state : RecoveryState) → MayTick first state → MayStep state → MayGo (state_after_tick first state)
unfolding state_after_tick
tick-may first state may is =
    let sent : RecoveryState = with_messages (tick_messages first state) state in
    cond_either MayGo (is_listed state.recovery)
    (option_map_or (λ (search : Search). searching search sent) (next_search state) sent) sent
    (searched-may (next_search state) sent is.settled (searched-next first state may is) (is.search, is.waiting))
    (is.search, is.waiting)

listed-may : (from : NodeId) (oids : List ℕ) (state : RecoveryState) → MayGo state → MayGo (with_list_of from oids state)
listed-may from oids state may =
    let left : length (nodes_without from state.recovery.lists.waiting) ≤ length state.recovery.lists.waiting
    = kept_few (λ (other : NodeId). not (is_same_node from other)) state.recovery.lists.waiting in
    let before : length state.recovery.lists.waiting ≤ NODES_MAX = may.1 in
    let few : length (nodes_without from state.recovery.lists.waiting) ≤ NODES_MAX = omega (arith, left, before) in
    cond_either MayGo _ _ _ (may.0, few) (may.0, few)

list-may : (from : NodeId) (said : Option PeerSay) (state : RecoveryState) → MayGo state → MayGo (after_list from said state)
list-may from None state may = may
list-may from (Some says.Success) state may = may
list-may from (Some (says.Piece bytes)) state may = may
list-may from (Some (says.Objects oids)) state may = listed-may from oids state may
list-may from (Some (says.Row row)) state may = may
list-may from (Some says.NoRow) state may = may
list-may from (Some (says.Refused refusal)) state may = may

read-may : (oid : ℕ) (from : NodeId) (said : Option PeerSay) (o : Option Search) (state : RecoveryState) → 1 ≤ state.shown.settled
    → IfSome said (IsFittingSay state.shown oid) → IfSome o (Reaches state.recovery.epoch state.shown) → MayGo state
    → MayGo (after_read oid from said o state)
read-may oid from said None state settled told reach may = may
read-may oid from said (Some search) state settled told reach may = by_object (search.oid == oid) refl
  where
    by_object : (b : Bool) → (search.oid == oid) ≡ b → MayGo (cond b (searching (search_after_answer from said search) state) state)
    by_object true is =
        searching-may (search_after_answer from said search) state settled (
          subst (λ (l : ℕ). 1 ≤ l) (sym (same-level from said search)) reach.0,
          subst (λ (l : ℕ). l < state.recovery.epoch) (sym (same-level from said search)) reach.1,
          subst (λ (k : ℕ). AnswersFit state.shown k (search_after_answer from said search).answers) (sym (same-object from said search))
              (answers-after state.shown from said search reach.2 (subst (λ (k : ℕ). IfSome said (IsFittingSay state.shown k)) (sym (eqb-true search.oid oid is)) told)),
        )
        may
    by_object false is = may

ask-may : (ask : PeerAsk) (from : NodeId) (said : Option PeerSay) (state : RecoveryState) → 1 ≤ state.shown.settled
    → IfSome said (SaysOfRow state.shown ask) → MayGo state → MayGo (after_ask ask from said state)
ask-may (asks.Create key size offset bytes) from said state settled told may = may
ask-may (asks.Write key offset bytes) from said state settled told may = may
ask-may (asks.Read key offset size) from said state settled told may = may
ask-may asks.List from said state settled told may = list-may from said state may
ask-may (asks.RecoverRead oid level) from said state settled told may =
    read-may oid from said (search_on state) state settled told
    (still-may state.shown.pending state.recovery.search state.recovery.epoch state.shown may.0) may

end-may : (o : Option Message) (said : Option PeerSay) (state : RecoveryState) → 1 ≤ state.shown.settled
    → IfSome said (λ say. IfSome o (λ (message : Message). SaysOfRow state.shown message.request.ask say)) → MayGo state
    → MayGo (option_map_or (λ (message : Message). after_ask message.request.ask message.to said state) o state)
end-may None said state settled told may = may
end-may (Some message) said state settled told may = ask-may message.request.ask message.to said state settled (turned said told) may
  where
    turned : (said : Option PeerSay) → IfSome said (λ say. SaysOfRow state.shown message.request.ask say)
        → IfSome said (SaysOfRow state.shown message.request.ask)
    turned None told = tt
    turned (Some say) told = told

-- ---- how many copies are wanted of what is asked for

abbrev AreWanted : List Message → Type 0
AreWanted messages = All (λ (message : Message). message.wanted ≤ TARGETS_MAX) messages

wanted-to : (recovery : Recovery) (first wanted : ℕ) (ask : PeerAsk) (nodes : List NodeId) → wanted ≤ TARGETS_MAX
    → AreWanted (messages_to recovery first wanted ask nodes)
wanted-to recovery first wanted ask [] most = All-nil (λ (message : Message). message.wanted ≤ TARGETS_MAX)
wanted-to recovery first wanted ask (node ∷ nodes) most =
    All-cons (λ (message : Message). message.wanted ≤ TARGETS_MAX) (request_message recovery wanted ask (first, node))
    (messages_to recovery (first + 1) wanted ask nodes) most (wanted-to recovery (first + 1) wanted ask nodes most)

level-wanted : (first : ℕ) (state : RecoveryState) (search : Search) → ((oid : ℕ) → IfSome (state.shown.policy_of oid) IsPolicy)
    → AreWanted (level_messages first state search)
level-wanted first state search valid = by_dead (state.shown.is_dead search.oid)
  where
    by_policy : (o : Option Policy) → IfSome o IsPolicy → AreWanted (option_map_or (level_asked first state search) o [])
    by_policy None is = All-nil (λ (message : Message). message.wanted ≤ TARGETS_MAX)
    by_policy (Some policy) is =
        wanted-to state.recovery first (wanted_of policy (kind_of search.oid)) (asks.RecoverRead search.oid (record { 0 = search.level }))
        (asked_of state policy search) (wanted-most policy (kind_of search.oid) is)

    by_dead : (b : Bool) → AreWanted (option_map_or (level_asked first state search) (cond b None (state.shown.policy_of search.oid)) [])
    by_dead true = All-nil (λ (message : Message). message.wanted ≤ TARGETS_MAX)
    by_dead false = by_policy (state.shown.policy_of search.oid) (valid search.oid)

tick-wanted : (first : ℕ) (state : RecoveryState) → ((oid : ℕ) → IfSome (state.shown.policy_of oid) IsPolicy) → AreWanted (tick_messages first state)
unfolding tick_messages
tick-wanted first state valid =
    cond_either AreWanted (is_listed state.recovery) (option_map_or (level_messages first state) (next_search state) []) (lists_asked first state.recovery)
    (by_search (next_search state)) (wanted-to state.recovery first 0 asks.List state.recovery.lists.waiting (omega arith))
  where
    by_search : (o : Option Search) → AreWanted (option_map_or (level_messages first state) o [])
    by_search None = All-nil (λ (message : Message). message.wanted ≤ TARGETS_MAX)
    by_search (Some search) = level-wanted first state search valid

-- ---- each step

-- what is needed beside the search, the lists and the messages
abbrev Rest : (recovered epoch settled : ℕ) (policy_of : ℕ → Option Policy) (size_of : ℕ → Option ℕ) → Type 0
Rest recovered epoch settled policy_of size_of =
    (1 ≤ recovered) × (recovered ≤ epoch) × (1 ≤ settled) × ((oid : ℕ) → IfSome (policy_of oid) IsPolicy)
    × ((oid : ℕ) (policy : Policy) (size : ℕ) → policy_of oid ≡ Some policy → size_of oid ≡ Some size → IsPartSize policy oid size)

abbrev RestOf : Frame → Type 0
RestOf f = Rest f.recovered f.epoch f.settled f.policy_of f.size_of

may-with : (state : RecoveryState) → RestOf (frame state) → MayGo state → AreWanted state.recovery.unanswered → MayStep state
may-with state rest go wanted = record {
  epoch = rest.0;
  entered = rest.1;
  settled = rest.2;
  waiting = go.1;
  policies = rest.3;
  sizes = rest.4;
  search = go.0;
  wanted = wanted;
}

rest-of : (state : RecoveryState) → MayStep state → RestOf (frame state)
rest-of state is = (is.epoch, is.entered, is.settled, is.policies, is.sizes)

pub may_after_tick : (first : ℕ) (state : RecoveryState) → MayTick first state → MayStep state → MayStep (state_after_tick first state)
may_after_tick first state may is =
    let same : frame (state_after_tick first state) ≡ frame (with_messages (tick_messages first state) state) = frame_of_tick first state in
    may-with (state_after_tick first state) (subst RestOf (sym same) (rest-of state is)) (tick-may first state may is)
    (subst (λ (f : Frame). AreWanted f.unanswered) (sym same)
    (All-append (λ (message : Message). message.wanted ≤ TARGETS_MAX) state.recovery.unanswered (tick_messages first state) is.wanted
    (tick-wanted first state is.policies)))

may_after_end : (number : ℕ) (said : Option PeerSay) (state : RecoveryState)
    → IfSome said (λ say. IfSome (message_of number state.recovery.unanswered) (λ (message : Message). SaysOfRow state.shown message.request.ask say))
    → MayStep state → MayStep (message_end number said state)
may_after_end number said state told is =
    let let_go : RecoveryState = without_unanswered number state in
    let same : frame (message_end number said state) ≡ frame let_go = frame_of_end number said state in
    may-with (message_end number said state) (subst RestOf (sym same) (rest-of state is))
    (end-may (message_of number state.recovery.unanswered) said let_go is.settled told (is.search, is.waiting))
    (subst (λ (f : Frame). AreWanted f.unanswered) (sym same)
    (All-filter (λ (message : Message). not (has_number number message)) (λ (message : Message). message.wanted ≤ TARGETS_MAX) state.recovery.unanswered is.wanted))

pub may_after_reply : (rsp : PeerRsp) (state : RecoveryState) → fits_recovery rsp state ≡ true → MayStep state → MayStep (recovery_on_reply rsp state)
unfolding recovery_on_reply
may_after_reply rsp state fits is = may_after_end rsp.number (Some rsp.say) state (reply_fits rsp state fits is.wanted) is

pub may_after_loss : (number : ℕ) (state : RecoveryState) → MayStep state → MayStep (recovery_on_loss number state)
unfolding recovery_on_loss
may_after_loss number state is = may_after_end number None state tt is

pub may_after_row : (key : Key) (size : ℕ) (bytes : List ℕ) (state : RecoveryState) → MayStep state
    → MayStep (record state { shown = with_row key size bytes state.shown })
may_after_row key size bytes state is =
    may-with (record state { shown = with_row key size bytes state.shown }) (rest-of state is) (is.search, is.waiting) is.wanted

pub may_after_begin : (epoch : ℕ) (members : List NodeId) (state : RecoveryState) → MayBegin epoch members state
    → MayStep state → MayStep (recovery_from_epoch epoch members state)
unfolding recovery_from_epoch
may_after_begin epoch members state may is =
    let begun : RecoveryState = at_start epoch members state in
    let above : 1 < epoch = may.above_1 in
    let start : MayStep begun
    = may-with begun (omega (arith, above), omega (arith, may.own_epoch), is.settled, is.policies, is.sizes) (tt, others_few epoch members state may)
    (All-nil (λ (message : Message). message.wanted ≤ TARGETS_MAX)) in
    cond_either MayStep (is_listed begun.recovery) (record begun { shown = shown_with_pending (to_recover begun) begun.shown }) begun
    (may-with (record begun { shown = shown_with_pending (to_recover begun) begun.shown }) (rest-of begun start) (start.search, start.waiting) start.wanted)
    start

-- ---- the search whose level a tick asks may end

pub next_ends : (first : ℕ) (state : RecoveryState) (search : Search) → MayTick first state → MayStep state → next_search state ≡ Some search
    → MayEndLevel state.recovery.epoch state.shown search
next_ends first state search may is next =
    let reach : Reaches state.recovery.epoch state.shown search
    = subst (λ (o : Option Search). IfSome o (Reaches state.recovery.epoch state.shown)) next (searched-next first state may is) in
    record {
      epoch_from = is.epoch;
      epoch_to = is.entered;
      from = reach.0;
      to = reach.1;
      answers = reach.2;
      policy = is.policies search.oid;
      size = is.sizes search.oid;
    }
