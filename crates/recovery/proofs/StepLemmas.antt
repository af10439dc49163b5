-- What a level and the end of a message come to.
use Rattle.std.proofs.Common.{◌≡◌, ◌≢◌, ◌⊎◌, inl, inr, ℕ, ◌+◌, ◌-◌, ◌<◌, ◌≤◌, ◌==◌, nat_lt, Bool, true, false, cond, ◌||◌, List, [], ◌∷◌, length, map, Option, None, Some, unwrap_or, refl, ap, sym, ◌∙◌}
use Rattle.std.specs.Option.{option_map_or}
use Rattle.std.specs.List.{list_any, range_with_len}
use Rattle.std.proofs.lemmas.Bool.{cond-true, eqb-true, ltb-true, ltb-false}
use Rattle.proof_tools.proofs.Booleans.{cond_either}
use Rattle.object_id.specs.declared.node.Epoch.{Epoch}
use Rattle.object_id.specs.declared.node.NodeId.{NodeId}
use Rattle.object_id.specs.declared.policy.Policy.{Policy}
use Rattle.object_id.specs.Oid.{kind_of}
use Rattle.object_id.specs.Policy.{wanted_of}
use Rattle.object_list.specs.Gathered.{gathered_with_answer}
use Rattle.object_store.specs.Store.{rows_of}
use Rattle.object_store.proofs.StoreLaws.{rows_of-insert_other}
use Rattle.peer_proto.specs.declared.ask.PeerAsk.{PeerAsk}
use Rattle.peer_proto.specs.declared.ask.PeerAsk.TheVariants as asks
use Rattle.peer_proto.specs.declared.say.PeerSay.{PeerSay}
use Rattle.peer_proto.specs.declared.say.PeerSay.TheVariants as says
use Rattle.peer_proto.specs.declared.say.Refusal.{Refusal}
use Rattle.object_store.specs.Store.{create_in}
use Rattle.recovery.specs.Shown.{live_policy, is_pending_object, shown_with_pending}
use Rattle.recovery.specs.State.{Message, Search, Recovery, RecoveryState, search_at, is_missing, is_listed, all_unanswered, message_of, still_on, search_on}
use Rattle.recovery.specs.Level.{with_part_found, with_object_missing, to_ask, one_lower, level_without_part, own_index, own_part, rows_found, are_enough, level_over_by, level_over, is_of_search, searching}
use Rattle.recovery.specs.Tick.{messages_to, lists_asked, level_asked, level_messages, asked_of, next_search, with_messages, tick_messages, state_after_tick}
use Rattle.recovery.specs.Frame.{frame}
use Rattle.recovery.specs.Steps.{to_recover, when_listed, at_start, recovery_from_epoch, without_unanswered, search_after_answer, after_list, after_read, after_ask, message_end}

-- a level comes to a found row, a missing object, or a level to ask
pub judged_each : (P : RecoveryState → Type 0) (search : Search) (state : RecoveryState) → P state
    → ((index : ℕ) (bytes : List ℕ) → P (with_part_found search.oid index bytes state)) → P (with_object_missing search.oid state)
    → ((level : ℕ) → P (to_ask search.oid level state)) → P (level_over search state)
unfolding level_over
judged_each P search state same there gone again = of_policy (live_policy state.shown search.oid)
  where
    of_policy : (policy : Option Policy) → P (option_map_or (λ (policy : Policy). level_over_by policy search (rows_found state policy search) state) policy state)
    of_policy None = same
    of_policy (Some policy) =
        cond_either P (are_enough policy (kind_of search.oid) (rows_found state policy search))
        (with_part_found search.oid (own_index policy search state) (own_part policy search (rows_found state policy search) state) state)
        (level_without_part search state)
        (there (own_index policy search state) (own_part policy search (rows_found state policy search) state))
        (cond_either P _ _ _ (again _) (cond_either P _ _ _ gone (again _)))

abbrev SameFrame : RecoveryState → RecoveryState → Type 0
SameFrame old new = frame new ≡ frame old

pub judged_frame : (search : Search) (state : RecoveryState) → SameFrame state (level_over search state)
judged_frame search state = judged_each (SameFrame state) search state refl (λ index bytes. refl) refl (λ level. refl)

pub searching_frame : (search : Search) (state : RecoveryState) → SameFrame state (searching search state)
searching_frame search state =
    cond_either (SameFrame state)
    (list_any (is_of_search search.oid) state.recovery.unanswered)
    (record state { recovery = record state.recovery { search = Some search } }) (level_over search state)
    refl (judged_frame search state)

-- numbers

pub numbers_of_messages : (recovery : Recovery) (first wanted : ℕ) (ask : PeerAsk) (nodes : List NodeId)
    → map (λ (message : Message). message.request.number) (messages_to recovery first wanted ask nodes)
    ≡ range_with_len first (length (messages_to recovery first wanted ask nodes))
numbers_of_messages recovery first wanted ask [] = refl
numbers_of_messages recovery first wanted ask (node ∷ nodes) =
    ap (λ (numbers : List ℕ). first ∷ numbers) (numbers_of_messages recovery (first + 1) wanted ask nodes)

abbrev AreNumbered : ℕ → List Message → Type 0
AreNumbered first messages =
    map (λ (message : Message). message.request.number) messages ≡ range_with_len first (length messages)

pub numbers_of_tick : (first : ℕ) (state : RecoveryState) → AreNumbered first (tick_messages first state)
unfolding tick_messages
numbers_of_tick first state =
    cond_either (AreNumbered first) (is_listed state.recovery)
    (option_map_or (level_messages first state) (next_search state) []) (lists_asked first state.recovery)
    (of_search (next_search state))
    (numbers_of_messages state.recovery first 0 asks.List state.recovery.lists.waiting)
  where
    of_level : (search : Search) (policy : Option Policy) → AreNumbered first (option_map_or (level_asked first state search) policy [])
    of_level search None = refl
    of_level search (Some policy) =
        numbers_of_messages state.recovery first (wanted_of policy (kind_of search.oid))
        (asks.RecoverRead search.oid (record { 0 = search.level })) (asked_of state policy search)

    of_search : (search : Option Search) → AreNumbered first (option_map_or (level_messages first state) search [])
    of_search None = refl
    of_search (Some search) = of_level search (live_policy state.shown search.oid)

pub frame_of_tick : (first : ℕ) (state : RecoveryState) → frame (state_after_tick first state) ≡ frame (with_messages (tick_messages first state) state)
unfolding state_after_tick
frame_of_tick first state =
    cond_either (SameFrame (with_messages (tick_messages first state) state)) (is_listed state.recovery)
    (option_map_or (λ (search : Search). searching search (with_messages (tick_messages first state) state)) (next_search state) (with_messages (tick_messages first state) state))
    (with_messages (tick_messages first state) state)
    (of_search (next_search state)) refl
  where
    of_search : (search : Option Search) → SameFrame (with_messages (tick_messages first state) state)
        (option_map_or (λ (search : Search). searching search (with_messages (tick_messages first state) state)) search (with_messages (tick_messages first state) state))
    of_search None = refl
    of_search (Some search) = searching_frame search (with_messages (tick_messages first state) state)

-- the end of a message

listed_frame : (state : RecoveryState) → SameFrame state (when_listed state)
listed_frame state =
    cond_either (SameFrame state) (is_listed state.recovery)
    (record state { shown = shown_with_pending (to_recover state) state.shown }) state refl refl

after_list_frame : (from : NodeId) (said : Option PeerSay) (state : RecoveryState) → SameFrame state (after_list from said state)
after_list_frame from (Some (says.Objects oids)) state =
    listed_frame (record state { recovery = record state.recovery { lists = gathered_with_answer from oids state.recovery.lists } })
after_list_frame from said state = refl

after_read_frame : (oid : ℕ) (from : NodeId) (said : Option PeerSay) (search : Option Search) (state : RecoveryState)
    → SameFrame state (after_read oid from said search state)
after_read_frame oid from said None state = refl
after_read_frame oid from said (Some search) state =
    cond_either (SameFrame state) (search.oid == oid) (searching (search_after_answer from said search) state) state
    (searching_frame (search_after_answer from said search) state) refl

after_ask_frame : (ask : PeerAsk) (from : NodeId) (said : Option PeerSay) (state : RecoveryState) → SameFrame state (after_ask ask from said state)
after_ask_frame asks.List from said state = after_list_frame from said state
after_ask_frame (asks.RecoverRead oid level) from said state = after_read_frame oid from said (search_on state) state
after_ask_frame ask from said state = refl

after_message_frame : (message : Option Message) (said : Option PeerSay) (state : RecoveryState) → SameFrame state (option_map_or (λ (message : Message). after_ask message.request.ask message.to said state) message state)
after_message_frame None said state = refl
after_message_frame (Some message) said state = after_ask_frame message.request.ask message.to said state

pub frame_of_end : (number : ℕ) (said : Option PeerSay) (state : RecoveryState) → frame (message_end number said state) ≡ frame (without_unanswered number state)
frame_of_end number said state =
    after_message_frame (message_of number state.recovery.unanswered) said (without_unanswered number state)

-- messages of older recoveries, and of searches that have ended

pub begun_hears_nothing : (epoch : ℕ) (members : List NodeId) (state : RecoveryState)
    → ((recovery_from_epoch epoch members state).recovery.unanswered ≡ []) × ((recovery_from_epoch epoch members state).recovery.older ≡ all_unanswered state.recovery)
unfolding recovery_from_epoch
begun_hears_nothing epoch members state =
    let start : RecoveryState = at_start epoch members state in
    cond_either (λ (s : RecoveryState). (s.recovery.unanswered ≡ []) × (s.recovery.older ≡ all_unanswered state.recovery)) (is_listed start.recovery)
    (record start { shown = shown_with_pending (to_recover start) start.shown }) start
    (refl, refl) (refl, refl)

-- what comes of a List that nobody answers
end_of_list : (number : ℕ) (said : Option PeerSay) (state : RecoveryState) (message : Message)
    → message_of number state.recovery.unanswered ≡ Some message → message.request.ask ≡ asks.List
    → message_end number said state ≡ after_list message.to said (without_unanswered number state)
end_of_list number said state message there ask =
    ap (λ (m : Option Message). option_map_or (λ (message : Message). after_ask message.request.ask message.to said (without_unanswered number state)) m (without_unanswered number state)) there
    ∙ ap (λ (a : PeerAsk). after_ask a message.to said (without_unanswered number state)) ask

pub refused_lists_are_not_named : (number : ℕ) (refusal : Refusal) (state : RecoveryState) (message : Message)
    → message_of number state.recovery.unanswered ≡ Some message → message.request.ask ≡ asks.List
    → (message_end number None state ≡ without_unanswered number state)
    × (message_end number (Some (says.Refused refusal)) state ≡ without_unanswered number state)
refused_lists_are_not_named number refusal state message there ask =
    (end_of_list number None state message there ask, end_of_list number (Some (says.Refused refusal)) state message there ask)

pub end_of_older : (number : ℕ) (said : Option PeerSay) (state : RecoveryState) → message_of number state.recovery.unanswered ≡ None
    → message_end number said state ≡ without_unanswered number state
end_of_older number said state none = ap (λ (m : Option Message). option_map_or (λ (message : Message). after_ask message.request.ask message.to said (without_unanswered number state)) m (without_unanswered number state)) none

-- the search of an object that isn't pending doesn't go on
read_of_ended : (oid : ℕ) (from : NodeId) (said : Option PeerSay) (state : RecoveryState) (pending : Option (List ℕ)) (search : Option Search)
    → is_pending_object oid pending ≡ false → after_read oid from said (still_on pending search) state ≡ state
read_of_ended oid from said state pending None gone = refl
read_of_ended oid from said state pending (Some search) gone = by_pending (is_pending_object search.oid pending) refl
  where
    by_object : (b : Bool) → (search.oid == oid) ≡ b → is_pending_object search.oid pending ≡ true
        → cond b (searching (search_after_answer from said search) state) state ≡ state
    by_object true same here =
        let is : search.oid ≡ oid = eqb-true search.oid oid same in
        let both : true ≡ false = sym here ∙ ap (λ (o : ℕ). is_pending_object o pending) is ∙ gone in
        absurd (cc (both))
    by_object false same here = refl

    by_pending : (b : Bool) → is_pending_object search.oid pending ≡ b → after_read oid from said (cond b (Some search) None) state ≡ state
    by_pending true here = by_object (search.oid == oid) refl here
    by_pending false here = refl

pub end_of_ended : (number : ℕ) (said : Option PeerSay) (state : RecoveryState) (message : Message) (oid : ℕ) (level : Epoch)
    → message_of number state.recovery.unanswered ≡ Some message → message.request.ask ≡ asks.RecoverRead oid level
    → is_pending_object oid state.shown.pending ≡ false
    → message_end number said state ≡ without_unanswered number state
end_of_ended number said state message oid level there ask gone =
    ap (λ (m : Option Message). option_map_or (λ (message : Message). after_ask message.request.ask message.to said (without_unanswered number state)) m (without_unanswered number state)) there
    ∙ ap (λ (a : PeerAsk). after_ask a message.to said (without_unanswered number state)) ask
    ∙ read_of_ended oid message.to said (without_unanswered number state) state.shown.pending state.recovery.search gone

-- a level that is over or isn't

pub level_waits : (search : Search) (state : RecoveryState)
    → list_any (is_of_search search.oid) state.recovery.unanswered ≡ true
    → searching search state ≡ record state { recovery = record state.recovery { search = Some search } }
level_waits search state waits =
    cond-true (list_any (is_of_search search.oid) state.recovery.unanswered)
    (record state { recovery = record state.recovery { search = Some search } }) (level_over search state) waits

-- the search that a level leaves

abbrev GoesOn : Search → RecoveryState → Search → Type 0
GoesOn search state next =
    ((next ≡ search_at search.oid search.level) × (search.again ≡ true))
    ⊎ ((next ≡ search_at search.oid (search.level - 1)) × (search.again ≡ false) × (state.shown.settled ≤ search.level - 1))

pub search_after_level : (policy : Policy) (search : Search) (state : RecoveryState) (next : Search)
    → live_policy state.shown search.oid ≡ Some policy → (level_over search state).recovery.search ≡ Some next → GoesOn search state next
unfolding level_over
search_after_level policy search state next is now =
    of_rows (own_index policy search state) (own_part policy search (rows_found state policy search) state)
    (are_enough policy (kind_of search.oid) (rows_found state policy search))
    (sym (ap (λ (p : Option Policy). (option_map_or (λ (policy : Policy). level_over_by policy search (rows_found state policy search) state) p state).recovery.search) is) ∙ now)
  where
    -- the search that a level asks next is this one
    this_one : (level : ℕ) → Some (search_at search.oid level) ≡ Some next → next ≡ search_at search.oid level
    this_one level same = sym (ap (λ (o : Option Search). unwrap_or o next) same)

    of_level : (b : Bool) → nat_lt (search.level - 1) state.shown.settled ≡ b → search.again ≡ false
        → (cond b (with_object_missing search.oid state) (to_ask search.oid (search.level - 1) state)).recovery.search ≡ Some next
        → GoesOn search state next
    of_level true below last same = absurd (cc (same))
    of_level false above last same =
        inr (this_one (search.level - 1) same, last, ltb-false (search.level - 1) state.shown.settled above)

    of_again : (b : Bool) → search.again ≡ b
        → (cond b (to_ask search.oid search.level state) (one_lower search state)).recovery.search ≡ Some next
        → GoesOn search state next
    of_again true anew same = inl (this_one search.level same, anew)
    of_again false last same = of_level (nat_lt (search.level - 1) state.shown.settled) refl last same

    of_rows : (index : ℕ) (bytes : List ℕ) (b : Bool)
        → (cond b (with_part_found search.oid index bytes state) (level_without_part search state)).recovery.search ≡ Some next
        → GoesOn search state next
    of_rows index bytes true same = absurd (cc (same))
    of_rows index bytes false same = of_again search.again refl same

abbrev Missed : Search → RecoveryState → ℕ → Type 0
Missed search state oid =
    (is_missing oid state.recovery ≡ true)
    ⊎ ((search.oid ≡ oid) × (search.again ≡ false) × (search.level - 1 < state.shown.settled))

pub missing_of_level : (search : Search) (state : RecoveryState) (oid : ℕ) → is_missing oid (level_over search state).recovery ≡ true
    → Missed search state oid
unfolding level_over
missing_of_level search state oid = of_policy (live_policy state.shown search.oid)
  where
    of_object : (b : Bool) → (search.oid == oid) ≡ b → search.again ≡ false → nat_lt (search.level - 1) state.shown.settled ≡ true
        → (b || is_missing oid state.recovery) ≡ true → Missed search state oid
    of_object true same last below now =
        inr (eqb-true search.oid oid same, last, ltb-true (search.level - 1) state.shown.settled below)
    of_object false other last below now = inl now

    of_level : (b : Bool) → nat_lt (search.level - 1) state.shown.settled ≡ b → search.again ≡ false
        → is_missing oid (cond b (with_object_missing search.oid state) (to_ask search.oid (search.level - 1) state)).recovery ≡ true
        → Missed search state oid
    of_level true below last now = of_object (search.oid == oid) refl last below now
    of_level false above last now = inl now

    of_again : (b : Bool) → search.again ≡ b
        → is_missing oid (cond b (to_ask search.oid search.level state) (one_lower search state)).recovery ≡ true
        → Missed search state oid
    of_again true anew now = inl now
    of_again false last now = of_level (nat_lt (search.level - 1) state.shown.settled) refl last now

    of_rows : (index : ℕ) (bytes : List ℕ) (b : Bool)
        → is_missing oid (cond b (with_part_found search.oid index bytes state) (level_without_part search state)).recovery ≡ true
        → Missed search state oid
    of_rows index bytes true now = inl now
    of_rows index bytes false now = of_again search.again refl now

    of_policy : (policy : Option Policy) → is_missing oid (option_map_or (λ (policy : Policy). level_over_by policy search (rows_found state policy search) state) policy state).recovery ≡ true → Missed search state oid
    of_policy None now = inl now
    of_policy (Some policy) now =
        of_rows (own_index policy search state) (own_part policy search (rows_found state policy search) state)
        (are_enough policy (kind_of search.oid) (rows_found state policy search)) now

pub others_of_level : (search : Search) (state : RecoveryState) (oid : ℕ) → oid ≢ search.oid
    → rows_of (level_over search state).shown.rows oid ≡ rows_of state.shown.rows oid
others_of_level search state oid other =
    judged_each (λ (s : RecoveryState). rows_of s.shown.rows oid ≡ rows_of state.shown.rows oid) search state refl
    (λ index bytes. rows_of-insert_other state.shown.rows search.oid
    (create_in index state.shown.epoch (length bytes) 0 bytes (rows_of state.shown.rows search.oid)) oid other)
    refl (λ level. refl)
