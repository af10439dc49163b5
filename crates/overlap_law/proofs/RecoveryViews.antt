-- What is kept of a node as its recovery sees it, whatever the recovery finds: it is kept where objects become pending and are so no more,
-- and where the row of an object is put that was searched.
use Rattle.std.proofs.Common.{◌≡◌, ℕ, ◌-◌, ◌==◌, Bool, true, false, cond, ◌||◌, List, [], ◌∷◌, length, Option, Some, None, refl, sym, ap}
use Rattle.std.proofs.Common.{◌∙◌}
use Rattle.std.specs.Prelude.{nat_lt}
use Rattle.std.specs.List.{list_any}
use Rattle.std.specs.Option.{option_map_or}
use Rattle.std.proofs.lemmas.Bool.{eq-eqb}
use Rattle.std.proofs.lemmas.Option.{same_Some}
use Rattle.proof_tools.proofs.Booleans.{cond_either}
use Rattle.object_id.specs.declared.node.NodeId.{NodeId}
use Rattle.object_id.specs.declared.policy.Policy.{Policy}
use Rattle.object_id.specs.Oid.{kind_of}
use Rattle.object_list.specs.Gathered.{gathered_with_answer}
use Rattle.peer_proto.specs.declared.ask.PeerAsk.{PeerAsk}
use Rattle.peer_proto.specs.declared.ask.PeerAsk.TheVariants as asks
use Rattle.peer_proto.specs.declared.say.PeerSay.{PeerSay}
use Rattle.peer_proto.specs.declared.say.PeerSay.TheVariants as says
use Rattle.recovery.specs.Shown.{NodeView, live_policy, first_in, is_pending_object, shown_with_pending, shown_without_pending, with_row}
use Rattle.recovery.specs.State.{Message, Search, RecoveryState, search_at, still_on, search_on, is_listed, message_of}
use Rattle.recovery.specs.Level.{are_enough, with_part_found, with_object_missing, to_ask, one_lower, level_without_part, own_index}
use Rattle.recovery.specs.Level.{own_part, rows_found, level_over_by, level_over, is_of_search, searching}
use Rattle.recovery.specs.Steps.{to_recover, when_listed, at_start, recovery_from_epoch, without_unanswered, search_after_answer}
use Rattle.recovery.specs.Steps.{after_list, after_read, after_ask, message_end}
use Rattle.recovery.specs.Tick.{or_next, next_search, tick_messages, with_messages, state_after_tick}

-- an object is searched that is pending, whose policy is known and whose id isn't dead
pub record IsSearchedBy (oid : ℕ) (policy : Policy) (shown : NodeView) : Type 0 where
  pub pending : is_pending_object oid shown.pending ≡ true
  pub policy_so : live_policy shown oid ≡ Some policy

-- a recovery begins with the rows that are there
pub begun-rows : (epoch : ℕ) (members : List NodeId) (state : RecoveryState)
    → (recovery_from_epoch epoch members state).shown.rows ≡ state.shown.rows
unfolding recovery_from_epoch
begun-rows epoch members state =
    let first : RecoveryState = at_start epoch members state in
    cond_either (λ (begun : RecoveryState). begun.shown.rows ≡ state.shown.rows) (is_listed first.recovery)
    (record first { shown = shown_with_pending (to_recover first) first.shown }) first refl refl

-- ---- what is searched is pending

still_pending : (pending : Option (List ℕ)) (o : Option Search) (search : Search) → still_on pending o ≡ Some search
    → is_pending_object search.oid pending ≡ true
still_pending pending None search is = absurd (cc (is))
still_pending pending (Some one) search is = by_pending (is_pending_object one.oid pending) refl is
  where
    by_pending : (b : Bool) → is_pending_object one.oid pending ≡ b → cond b (Some one) None ≡ Some search
        → is_pending_object search.oid pending ≡ true
    by_pending true so is = ap (λ (s : Search). is_pending_object s.oid pending) (sym (same_Some one search is)) ∙ so
    by_pending false so is = absurd (cc (is))

first_pending : (pending : Option (List ℕ)) (oid : ℕ) → first_in pending ≡ Some oid → is_pending_object oid pending ≡ true
first_pending None oid is = absurd (cc (is))
first_pending (Some []) oid is = absurd (cc (is))
first_pending (Some (first ∷ rest)) oid is =
    ap (λ (b : Bool). b || list_any (λ other. other == oid) rest) (eq-eqb first oid (same_Some first oid is))

next_pending : (epoch : ℕ) (pending : Option (List ℕ)) (o : Option Search) (search : Search)
    → ((one : Search) → o ≡ Some one → is_pending_object one.oid pending ≡ true)
    → or_next epoch (first_in pending) o ≡ Some search → is_pending_object search.oid pending ≡ true
next_pending epoch pending (Some one) search on is =
    ap (λ (s : Search). is_pending_object s.oid pending) (sym (same_Some (search_at one.oid one.level) search is)) ∙ on one refl
next_pending epoch pending None search on is = by_first (first_in pending) refl is
  where
    by_first : (o : Option ℕ) → first_in pending ≡ o → or_next epoch o None ≡ Some search → is_pending_object search.oid pending ≡ true
    by_first None first is = absurd (cc (is))
    by_first (Some oid) first is =
        ap (λ (s : Search). is_pending_object s.oid pending) (sym (same_Some (search_at oid (epoch - 1)) search is))
        ∙ first_pending pending oid first

pub next-is_pending : (state : RecoveryState) (search : Search) → next_search state ≡ Some search
    → is_pending_object search.oid state.shown.pending ≡ true
next-is_pending state search is =
    next_pending state.recovery.epoch state.shown.pending (search_on state) search
    (λ one on. still_pending state.shown.pending state.recovery.search one on) is

-- a state whose tick was sent
abbrev ticked : ℕ → RecoveryState → RecoveryState
ticked first state = with_messages (tick_messages first state) state

abbrev ticked_on : Option Search → ℕ → RecoveryState → RecoveryState
ticked_on next first state = option_map_or (λ (search : Search). searching search (ticked first state)) next (ticked first state)

-- ---- what is kept

module _ (R : NodeId → ℕ → NodeView → Type 0) where
  -- it is so of the node of a recovery, and of the epoch that is recovered
  abbrev pub IsSoOf : RecoveryState → Type 0
  IsSoOf state = R state.recovery.me state.recovery.epoch state.shown

  -- objects become pending, one of them is so no more, and the row of one is put
  pub record KeptByRecovery : Type 0 where
    pub listed : (state : RecoveryState) → IsSoOf state
        → R state.recovery.me state.recovery.epoch (shown_with_pending (to_recover state) state.shown)
    pub gone : (state : RecoveryState) (oid : ℕ) → IsSoOf state
        → R state.recovery.me state.recovery.epoch (shown_without_pending oid state.shown)
    pub found : (state : RecoveryState) (search : Search) (policy : Policy) (bytes : List ℕ) → IsSearchedBy search.oid policy state.shown
        → IsSoOf state → R state.recovery.me state.recovery.epoch
        (with_row (record { oid = search.oid; index = own_index policy search state }) (length bytes) bytes state.shown)

  module _ (kept : KeptByRecovery) where
    -- a search whose object is pending
    abbrev IsPending : Search → RecoveryState → Type 0
    IsPending search state = is_pending_object search.oid state.shown.pending ≡ true

    level_keeps : (search : Search) (state : RecoveryState) → IsPending search state → IsSoOf state → IsSoOf (level_over search state)
    unfolding level_over
    level_keeps search state pending is = by_policy (live_policy state.shown search.oid) refl
      where
        lower : IsSoOf (one_lower search state)
        lower =
            cond_either IsSoOf (nat_lt (search.level - 1) state.shown.settled) (with_object_missing search.oid state)
            (to_ask search.oid (search.level - 1) state) (kept.gone state search.oid is) is

        by_policy : (o : Option Policy) → live_policy state.shown search.oid ≡ o
            → IsSoOf (option_map_or (λ (policy : Policy). level_over_by policy search (rows_found state policy search) state) o state)
        by_policy None live = is
        by_policy (Some policy) live =
            let bytes : List ℕ = own_part policy search (rows_found state policy search) state in
            cond_either IsSoOf (are_enough policy (kind_of search.oid) (rows_found state policy search))
            (with_part_found search.oid (own_index policy search state) bytes state) (level_without_part search state)
            (kept.found state search policy bytes (record { pending = pending; policy_so = live }) is)
            (cond_either IsSoOf search.again (to_ask search.oid search.level state) (one_lower search state) is lower)

    searching_keeps : (search : Search) (state : RecoveryState) → IsPending search state → IsSoOf state → IsSoOf (searching search state)
    searching_keeps search state pending is =
        cond_either IsSoOf (list_any (is_of_search search.oid) state.recovery.unanswered)
        (record state { recovery = record state.recovery { search = Some search } }) (level_over search state) is
        (level_keeps search state pending is)

    listed_keeps : (state : RecoveryState) → IsSoOf state → IsSoOf (when_listed state)
    listed_keeps state is =
        cond_either IsSoOf (is_listed state.recovery) (record state { shown = shown_with_pending (to_recover state) state.shown }) state
        (kept.listed state is) is

    pub tick-keeps : (first : ℕ) (state : RecoveryState) → IsSoOf state → IsSoOf (state_after_tick first state)
    unfolding state_after_tick
    tick-keeps first state is =
        cond_either IsSoOf (is_listed state.recovery)
        (ticked_on (next_search state) first state) (ticked first state) (by_search (next_search state) refl) is
      where
        by_search : (o : Option Search) → next_search state ≡ o → IsSoOf (ticked_on o first state)
        by_search None next = is
        by_search (Some search) next = searching_keeps search (ticked first state) (next-is_pending state search next) is

    after_list_keeps : (from : NodeId) (said : Option PeerSay) (state : RecoveryState) → IsSoOf state → IsSoOf (after_list from said state)
    after_list_keeps from None state is = is
    after_list_keeps from (Some says.Success) state is = is
    after_list_keeps from (Some (says.Piece bytes)) state is = is
    after_list_keeps from (Some (says.Objects oids)) state is =
        listed_keeps (record state { recovery = record state.recovery { lists = gathered_with_answer from oids state.recovery.lists } }) is
    after_list_keeps from (Some (says.Row row)) state is = is
    after_list_keeps from (Some says.NoRow) state is = is
    after_list_keeps from (Some (says.Refused refusal)) state is = is

    -- a search stays one of its object
    same_object : (from : NodeId) (said : Option PeerSay) (search : Search) → (search_after_answer from said search).oid ≡ search.oid
    same_object from None search = refl
    same_object from (Some says.Success) search = refl
    same_object from (Some (says.Piece bytes)) search = refl
    same_object from (Some (says.Objects oids)) search = refl
    same_object from (Some (says.Row row)) search = refl
    same_object from (Some says.NoRow) search = refl
    same_object from (Some (says.Refused refusal)) search = refl

    after_read_keeps : (oid : ℕ) (from : NodeId) (said : Option PeerSay) (state : RecoveryState) → IsSoOf state
        → IsSoOf (after_read oid from said (search_on state) state)
    after_read_keeps oid from said state is = by_search (search_on state) refl
      where
        by_search : (o : Option Search) → search_on state ≡ o → IsSoOf (after_read oid from said o state)
        by_search None on = is
        by_search (Some search) on =
            let next : Search = search_after_answer from said search in
            cond_either IsSoOf (search.oid == oid) (searching next state) state
            (searching_keeps next state
            (ap (λ (k : ℕ). is_pending_object k state.shown.pending) (same_object from said search)
            ∙ still_pending state.shown.pending state.recovery.search search on) is) is

    after_ask_keeps : (ask : PeerAsk) (from : NodeId) (said : Option PeerSay) (state : RecoveryState) → IsSoOf state
        → IsSoOf (after_ask ask from said state)
    after_ask_keeps (asks.Create key size offset bytes) from said state is = is
    after_ask_keeps (asks.Write key offset bytes) from said state is = is
    after_ask_keeps (asks.Read key offset size) from said state is = is
    after_ask_keeps asks.List from said state is = after_list_keeps from said state is
    after_ask_keeps (asks.RecoverRead oid level) from said state is = after_read_keeps oid from said state is

    pub end-keeps : (number : ℕ) (said : Option PeerSay) (state : RecoveryState) → IsSoOf state → IsSoOf (message_end number said state)
    end-keeps number said state is = by_message (message_of number state.recovery.unanswered)
      where
        by_message : (o : Option Message)
            → IsSoOf (option_map_or
            (λ (message : Message). after_ask message.request.ask message.to said (without_unanswered number state)) o
            (without_unanswered number state))
        by_message None = is
        by_message (Some message) = after_ask_keeps message.request.ask message.to said (without_unanswered number state) is
