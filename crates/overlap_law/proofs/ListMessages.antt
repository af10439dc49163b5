-- The lists that a recovery asks for: each of a node that it still waits for, and of each node once. So once all have come nothing adds to
-- what is pending, and it is known.
use Rattle.std.proofs.Common.{◌≡◌, ◌≢◌, ⊎_elim, arith, ℕ, ◌+◌, ◌<◌, ◌==◌, Bool, true, false, not, cond, ◌&&◌, ◌||◌, List, [], ◌∷◌, ◌++◌}
use Rattle.std.proofs.Common.{length, map, filter, Contains, Option, Some, None, is_some, option_map, refl, sym, ap, subst, ◌∙◌}
use Rattle.std.specs.Option.{option_map_or}
use Rattle.std.specs.List.{list_any}
use Rattle.std.specs.List.Sorted.{IsStrictlyIncreasing}
use Rattle.std.proofs.lemmas.Bool.{eqb-true, eqb-false, ne_eqb, and_parts, not-true}
use Rattle.std.proofs.lemmas.List.Elements.{All-contains}
use Rattle.std.proofs.lemmas.List.Kept.{IsStrictlyIncreasing-filter}
use Rattle.proof_tools.proofs.AscendingNumbers.{IsStrictlyIncreasing-first, IsStrictlyIncreasing-tail}
use Rattle.proof_tools.proofs.Booleans.{cond_either}
use Rattle.proof_tools.proofs.Lists.{Contains-nil, Contains-head, Contains-cons, Contains-cons_cases, Contains-filter, filter-contains}
use Rattle.proof_tools.proofs.Lists.{find-contains}
use Rattle.object_id.specs.declared.node.NodeId.{NodeId}
use Rattle.object_id.specs.declared.policy.Policy.{Policy}
use Rattle.object_id.specs.Oid.{kind_of}
use Rattle.object_id.specs.Policy.{wanted_of}
use Rattle.object_list.specs.Gathered.{nodes_without, gathered_with_answer}
use Rattle.peer_proto.specs.declared.ask.PeerAsk.{PeerAsk}
use Rattle.peer_proto.specs.declared.ask.PeerAsk.TheVariants as asks
use Rattle.peer_proto.specs.declared.say.PeerSay.{PeerSay}
use Rattle.peer_proto.specs.declared.say.PeerSay.TheVariants as says
use Rattle.recovery.specs.Level.{is_of_search, level_over, searching}
use Rattle.recovery.specs.Shown.{first_in, live_policy, shown_with_pending}
use Rattle.recovery.specs.State.{Message, Search, Recovery, RecoveryState, is_listed, is_finished, all_unanswered, can_tick, has_number}
use Rattle.recovery.specs.State.{message_of, search_on}
use Rattle.recovery.specs.Steps.{to_recover, at_start, recovery_from_epoch, messages_without, without_unanswered, with_list_of, after_list}
use Rattle.recovery.specs.Steps.{after_read, after_ask, message_end, search_after_answer}
use Rattle.recovery.specs.Tick.{request_message, messages_to, lists_asked, asked_of, level_asked, level_messages, next_search}
use Rattle.recovery.specs.Tick.{tick_messages, with_messages, state_after_tick}
use Rattle.recovery.proofs.StepLemmas.{judged_each}

abbrev pub numbers_of : List NodeId → List ℕ
numbers_of nodes = map (λ (node : NodeId). node.0) nodes

-- the messages are of the recovery's epoch; a list is asked of a node that is waited for, and of each once; and where none is waited for it
-- is known what is pending
pub record AsksLists (epoch : ℕ) (unanswered : List Message) (waiting : List NodeId) (pending : Option (List ℕ)) : Type 0 where
  pub ascend : IsStrictlyIncreasing (numbers_of waiting)
  pub of_epoch : (message : Message) → Contains unanswered message → message.request.epoch.0 ≡ epoch
  pub asked : (message : Message) → Contains unanswered message → message.request.ask ≡ asks.List → Contains (numbers_of waiting) message.to.0
  pub apart : (message other : Message) → Contains unanswered message → Contains unanswered other → message.request.ask ≡ asks.List
      → other.request.ask ≡ asks.List → message.to.0 ≡ other.to.0 → message.request.number ≡ other.request.number
  pub known : (length waiting == 0) ≡ true → is_some pending ≡ true

abbrev pub AsksListsIn : RecoveryState → Type 0
AsksListsIn state = AsksLists state.recovery.epoch state.recovery.unanswered state.recovery.lists.waiting state.shown.pending

-- all lists have come, and nothing is pending
abbrev pub IsDone : List NodeId → Option (List ℕ) → Type 0
IsDone waiting pending = ((length waiting == 0) ≡ true) × (pending ≡ Some [])

abbrev pub IsDoneIn : RecoveryState → Type 0
IsDoneIn state = IsDone state.recovery.lists.waiting state.shown.pending

-- ---- what is pending gets less

-- it stays known, and nothing stays nothing
abbrev pub PendingStays : Option (List ℕ) → Option (List ℕ) → Type 0
PendingStays old new = (is_some old ≡ true → is_some new ≡ true) × (old ≡ Some [] → new ≡ Some [])

pub filtered_stays : (p : ℕ → Bool) (pending : Option (List ℕ)) → PendingStays pending (option_map (filter p) pending)
filtered_stays p None = ((λ is. is), λ is. absurd (cc (is)))
filtered_stays p (Some oids) = ((λ is. refl), λ is. ap (λ (o : Option (List ℕ)). option_map (filter p) o) is)

-- the search goes on: the messages and the lists stay, and no more is pending
pub record OnlySearches (old new : RecoveryState) : Type 0 where
  pub epoch : new.recovery.epoch ≡ old.recovery.epoch
  pub unanswered : new.recovery.unanswered ≡ old.recovery.unanswered
  pub waiting : new.recovery.lists.waiting ≡ old.recovery.lists.waiting
  pub pending : PendingStays old.shown.pending new.shown.pending

same_search : (state : RecoveryState) → OnlySearches state state
same_search state = record { epoch = refl; unanswered = refl; waiting = refl; pending = ((λ is. is), λ is. is) }

searched : (search : Search) (state : RecoveryState) → OnlySearches state (searching search state)
searched search state =
    cond_either (OnlySearches state) (list_any (is_of_search search.oid) state.recovery.unanswered)
    (record state { recovery = record state.recovery { search = Some search } }) (level_over search state)
    (record { epoch = refl; unanswered = refl; waiting = refl; pending = ((λ is. is), λ is. is) })
    (judged_each (OnlySearches state) search state (same_search state)
    (λ index bytes. record { epoch = refl; unanswered = refl; waiting = refl; pending = filtered_stays (λ other. not (other == search.oid)) state.shown.pending })
    (record { epoch = refl; unanswered = refl; waiting = refl; pending = filtered_stays (λ other. not (other == search.oid)) state.shown.pending })
    (λ level. record { epoch = refl; unanswered = refl; waiting = refl; pending = ((λ is. is), λ is. is) }))

-- what holds of a state and, where all was done, that it is
abbrev pub GoesOnAsking : RecoveryState → RecoveryState → Type 0
GoesOnAsking old new = AsksListsIn new × (IsDoneIn old → IsDoneIn new)

pub after_search : (old new : RecoveryState) → OnlySearches old new → AsksListsIn old → GoesOnAsking old new
after_search old new only asks_old = (
  record {
    ascend = subst (λ (nodes : List NodeId). IsStrictlyIncreasing (numbers_of nodes)) (sym only.waiting) asks_old.ascend;
    of_epoch = λ message there. asks_old.of_epoch message (was message there) ∙ sym only.epoch;
    asked = λ message there lists.
        subst (λ (nodes : List NodeId). Contains (numbers_of nodes) message.to.0) (sym only.waiting) (asks_old.asked message (was message there) lists);
    apart = λ message other there at one two same. asks_old.apart message other (was message there) (was other at) one two same;
    known = λ listed. only.pending.0 (asks_old.known (ap (λ (nodes : List NodeId). length nodes == 0) (sym only.waiting) ∙ listed));
  },
  λ done. (ap (λ (nodes : List NodeId). length nodes == 0) only.waiting ∙ done.0, only.pending.1 done.1),
)
  where
    was : (message : Message) → Contains new.recovery.unanswered message → Contains old.recovery.unanswered message
    was message there = subst (λ (messages : List Message). Contains messages message) only.unanswered there

-- ---- a message ends

module _ (number : ℕ) where
  among : (messages : List Message) (message : Message) → Contains (messages_without number messages) message
      → Contains messages message × (message.request.number ≢ number)
  among messages message there =
      let (was, kept) = filter-contains (λ (m : Message). not (has_number number m)) messages message there in
      (was, eqb-false message.request.number number (not-true (message.request.number == number) kept))

  without_ended : (state : RecoveryState) → AsksListsIn state → AsksListsIn (without_unanswered number state)
  without_ended state so = record {
    ascend = so.ascend;
    of_epoch = λ message there. so.of_epoch message (among state.recovery.unanswered message there).0;
    asked = λ message there lists. so.asked message (among state.recovery.unanswered message there).0 lists;
    apart = λ message other there at one two same.
        so.apart message other (among state.recovery.unanswered message there).0 (among state.recovery.unanswered other at).0 one two same;
    known = so.known;
  }

numbers_without : (from : NodeId) (nodes : List NodeId) → numbers_of (nodes_without from nodes) ≡ filter (λ (k : ℕ). not (k == from.0)) (numbers_of nodes)
numbers_without from [] = refl
numbers_without from (node ∷ nodes) = by_test (not (node.0 == from.0)) (numbers_without from nodes)
  where
    by_test : (b : Bool) → numbers_of (nodes_without from nodes) ≡ filter (λ (k : ℕ). not (k == from.0)) (numbers_of nodes)
        → numbers_of (cond b (node ∷ nodes_without from nodes) (nodes_without from nodes))
        ≡ cond b (node.0 ∷ filter (λ (k : ℕ). not (k == from.0)) (numbers_of nodes)) (filter (λ (k : ℕ). not (k == from.0)) (numbers_of nodes))
    by_test true rest = ap (λ (ks : List ℕ). node.0 ∷ ks) rest
    by_test false rest = rest

ascend_without : (from : NodeId) (nodes : List NodeId) → IsStrictlyIncreasing (numbers_of nodes) → IsStrictlyIncreasing (numbers_of (nodes_without from nodes))
ascend_without from nodes up =
    subst IsStrictlyIncreasing (sym (numbers_without from nodes)) (IsStrictlyIncreasing-filter (λ (k : ℕ). not (k == from.0)) (numbers_of nodes) up)

-- a list is joined: its node is waited for no more
module _ (number : ℕ) (oids : List ℕ) (state : RecoveryState) (so : AsksListsIn state) (message : Message) (there : Contains state.recovery.unanswered message)
    (own : message.request.number ≡ number) (lists : message.request.ask ≡ asks.List) where
  abbrev gathered : RecoveryState
  gathered = record (without_unanswered number state) {
    recovery = record (without_unanswered number state).recovery { lists = gathered_with_answer message.to oids state.recovery.lists };
  }

  abbrev left : List NodeId
  left = nodes_without message.to state.recovery.lists.waiting

  still_waited : (other : Message) → Contains (messages_without number state.recovery.unanswered) other → other.request.ask ≡ asks.List
      → Contains (numbers_of left) other.to.0
  still_waited other at same_ask =
      let (was, apart) = among number state.recovery.unanswered other at in
      let waited = so.asked other was same_ask in
      let elsewhere : other.to.0 ≢ message.to.0
      = λ (same : other.to.0 ≡ message.to.0). apart (so.apart other message was there same_ask lists same ∙ own) in
      subst (λ (ks : List ℕ). Contains ks other.to.0) (sym (numbers_without message.to state.recovery.lists.waiting))
      (Contains-filter (λ (k : ℕ). not (k == message.to.0)) (numbers_of state.recovery.lists.waiting) other.to.0 waited
      (ap not (ne_eqb other.to.0 message.to.0 elsewhere)))

  joins : (b : Bool) → is_listed gathered.recovery ≡ b
      → AsksListsIn (cond b (record gathered { shown = shown_with_pending (to_recover gathered) gathered.shown }) gathered)
  joins true is = record {
    ascend = ascend_without message.to state.recovery.lists.waiting so.ascend;
    of_epoch = λ other at. so.of_epoch other (among number state.recovery.unanswered other at).0;
    asked = still_waited;
    apart = (without_ended number state so).apart;
    known = λ listed. refl;
  }
  joins false is = record {
    ascend = ascend_without message.to state.recovery.lists.waiting so.ascend;
    of_epoch = λ other at. so.of_epoch other (among number state.recovery.unanswered other at).0;
    asked = still_waited;
    apart = (without_ended number state so).apart;
    known = λ listed. absurd (cc (is, listed));
  }

  joined : AsksListsIn (with_list_of message.to oids (without_unanswered number state))
  joined = joins (is_listed gathered.recovery) refl

  -- a node that is waited for was asked
  not_done : IsDoneIn state → ⊥
  not_done done = by_waiting state.recovery.lists.waiting done.0 (so.asked message there lists)
    where
      by_waiting : (nodes : List NodeId) → (length nodes == 0) ≡ true → Contains (numbers_of nodes) message.to.0 → ⊥
      by_waiting [] none waited = Contains-nil message.to.0 waited
      by_waiting (node ∷ nodes) none waited = let no : length (node ∷ nodes) ≡ 0 = eqb-true (length (node ∷ nodes)) 0 none in absurd (omega (arith, no))

module _ (number : ℕ) (said : Option PeerSay) (state : RecoveryState) (so : AsksListsIn state) where
  abbrev rest : RecoveryState
  rest = without_unanswered number state

  rests : GoesOnAsking state rest
  rests = (without_ended number state so, λ done. done)

  by_list : (message : Message) → Contains state.recovery.unanswered message → message.request.number ≡ number → message.request.ask ≡ asks.List
      → (said : Option PeerSay) → GoesOnAsking state (after_list message.to said rest)
  by_list message there own lists None = rests
  by_list message there own lists (Some says.Success) = rests
  by_list message there own lists (Some (says.Piece bytes)) = rests
  by_list message there own lists (Some (says.Objects oids)) =
      (joined number oids state so message there own lists, λ done. absurd (not_done number oids state so message there own lists done))
  by_list message there own lists (Some (says.Row row)) = rests
  by_list message there own lists (Some says.NoRow) = rests
  by_list message there own lists (Some (says.Refused refusal)) = rests

  by_search : (oid : ℕ) (from : NodeId) (search : Option Search) → OnlySearches rest (after_read oid from said search rest)
  by_search oid from None = same_search rest
  by_search oid from (Some search) =
      cond_either (OnlySearches rest) (search.oid == oid) (searching (search_after_answer from said search) rest) rest
      (searched (search_after_answer from said search) rest) (same_search rest)

  by_ask : (message : Message) → Contains state.recovery.unanswered message → message.request.number ≡ number → (ask : PeerAsk) → message.request.ask ≡ ask
      → GoesOnAsking state (after_ask ask message.to said rest)
  by_ask message there own (asks.Create key size offset bytes) is = rests
  by_ask message there own (asks.Write key offset bytes) is = rests
  by_ask message there own (asks.Read key offset size) is = rests
  by_ask message there own asks.List is = by_list message there own is said
  by_ask message there own (asks.RecoverRead oid level) is =
      let (asks_on, done_on) = after_search rest (after_read oid message.to said (search_on rest) rest) (by_search oid message.to (search_on rest)) rests.0 in
      (asks_on, λ done. done_on done)

  by_message : (o : Option Message) → message_of number state.recovery.unanswered ≡ o
      → GoesOnAsking state (option_map_or (λ (message : Message). after_ask message.request.ask message.to said rest) o rest)
  by_message None is = rests
  by_message (Some message) is =
      let (there, own) = find-contains (has_number number) state.recovery.unanswered message is in
      by_ask message there (eqb-true message.request.number number own) message.request.ask refl

  pub ended_asks : GoesOnAsking state (message_end number said state)
  ended_asks = by_message (message_of number state.recovery.unanswered) refl

-- ---- a tick

-- what is asked of each of some nodes
pub record IsAsked (epoch : ℕ) (ask : PeerAsk) (nodes : List NodeId) (message : Message) : Type 0 where
  pub of_epoch : message.request.epoch.0 ≡ epoch
  pub ask_so : message.request.ask ≡ ask
  pub among_them : Contains (numbers_of nodes) message.to.0

module _ (recovery : Recovery) (wanted : ℕ) (ask : PeerAsk) where
  pub asked_each : (first : ℕ) (nodes : List NodeId) (message : Message) → Contains (messages_to recovery first wanted ask nodes) message
      → IsAsked recovery.epoch ask nodes message
  asked_each first [] message there = absurd (Contains-nil message there)
  asked_each first (node ∷ nodes) message there = ⊎_elim
      (λ (same : request_message recovery wanted ask (first, node) ≡ message).
      subst (IsAsked recovery.epoch ask (node ∷ nodes)) same
      (record { of_epoch = refl; ask_so = refl; among_them = Contains-head node.0 (numbers_of nodes) }))
      (λ (later : Contains (messages_to recovery (first + 1) wanted ask nodes) message).
      let is = asked_each (first + 1) nodes message later in
      record { of_epoch = is.of_epoch; ask_so = is.ask_so; among_them = Contains-cons node.0 (numbers_of nodes) message.to.0 is.among_them })
      (Contains-cons_cases (request_message recovery wanted ask (first, node)) (messages_to recovery (first + 1) wanted ask nodes) message there)

  -- a node below others isn't asked among those
  first_apart : (first : ℕ) (node : NodeId) (nodes : List NodeId) → IsStrictlyIncreasing (numbers_of (node ∷ nodes)) → (message : Message)
      → Contains (messages_to recovery first wanted ask nodes) message → node.0 ≡ message.to.0 → ⊥
  first_apart first node nodes up message there same =
      let above : node.0 < message.to.0
      = All-contains (λ (k : ℕ). node.0 < k) (numbers_of nodes) message.to.0 (IsStrictlyIncreasing-first node.0 (numbers_of nodes) up)
      (asked_each first nodes message there).among_them in
      absurd (omega (arith, above, same))

  asked_once : (first : ℕ) (nodes : List NodeId) → IsStrictlyIncreasing (numbers_of nodes) → (message other : Message)
      → Contains (messages_to recovery first wanted ask nodes) message → Contains (messages_to recovery first wanted ask nodes) other
      → message.to.0 ≡ other.to.0 → message.request.number ≡ other.request.number
  asked_once first [] up message other there at same = absurd (Contains-nil message there)
  asked_once first (node ∷ nodes) up message other there at same = ⊎_elim
      (λ (one : request_message recovery wanted ask (first, node) ≡ message). ⊎_elim
      (λ (two : request_message recovery wanted ask (first, node) ≡ other). ap (λ (m : Message). m.request.number) (sym one ∙ two))
      (λ (later : Contains (messages_to recovery (first + 1) wanted ask nodes) other).
      absurd (first_apart (first + 1) node nodes up other later (ap (λ (m : Message). m.to.0) one ∙ same)))
      (Contains-cons_cases (request_message recovery wanted ask (first, node)) (messages_to recovery (first + 1) wanted ask nodes) other at))
      (λ (earlier : Contains (messages_to recovery (first + 1) wanted ask nodes) message). ⊎_elim
      (λ (two : request_message recovery wanted ask (first, node) ≡ other).
      absurd (first_apart (first + 1) node nodes up message earlier (ap (λ (m : Message). m.to.0) two ∙ sym same)))
      (λ (later : Contains (messages_to recovery (first + 1) wanted ask nodes) other).
      asked_once (first + 1) nodes (IsStrictlyIncreasing-tail node.0 (numbers_of nodes) up) message other earlier later same)
      (Contains-cons_cases (request_message recovery wanted ask (first, node)) (messages_to recovery (first + 1) wanted ask nodes) other at))
      (Contains-cons_cases (request_message recovery wanted ask (first, node)) (messages_to recovery (first + 1) wanted ask nodes) message there)

module _ (first : ℕ) (state : RecoveryState) (so : AsksListsIn state) where
  abbrev AsksWith : List Message → Type 0
  AsksWith messages = AsksLists state.recovery.epoch messages state.recovery.lists.waiting state.shown.pending

  no_list : (oid : ℕ) (level : ℕ) → ◌≡◌ {A = PeerAsk} (asks.RecoverRead oid (record { 0 = level })) asks.List → ⊥
  no_list oid level same = absurd (cc (same))

  asks_none : AsksWith []
  asks_none = record {
    ascend = so.ascend;
    of_epoch = λ message there. absurd (Contains-nil message there);
    asked = λ message there. absurd (Contains-nil message there);
    apart = λ message other there. absurd (Contains-nil message there);
    known = so.known;
  }

  asks_level : (search : Search) (policy : Option Policy) → AsksWith (option_map_or (level_asked first state search) policy [])
  asks_level search None = asks_none
  asks_level search (Some policy) =
      let wanted = wanted_of policy (kind_of search.oid) in
      let ask = asks.RecoverRead search.oid (record { 0 = search.level }) in
      let each = asked_each state.recovery wanted ask first (asked_of state policy search) in
      record {
        ascend = so.ascend;
        of_epoch = λ message there. (each message there).of_epoch;
        asked = λ message there lists. absurd (no_list search.oid search.level (sym (each message there).ask_so ∙ lists));
        apart = λ message other there at lists. absurd (no_list search.oid search.level (sym (each message there).ask_so ∙ lists));
        known = so.known;
      }

  asks_search : (search : Option Search) → AsksWith (option_map_or (level_messages first state) search [])
  asks_search None = asks_none
  asks_search (Some search) = asks_level search (live_policy state.shown search.oid)

  asks_each : AsksWith (lists_asked first state.recovery)
  asks_each =
      let each = asked_each state.recovery 0 asks.List first state.recovery.lists.waiting in
      record {
        ascend = so.ascend;
        of_epoch = λ message there. (each message there).of_epoch;
        asked = λ message there lists. (each message there).among_them;
        apart = λ message other there at one two same. asked_once state.recovery 0 asks.List first state.recovery.lists.waiting so.ascend message other there at same;
        known = so.known;
      }

  tick_asks : AsksWith (tick_messages first state)
  unfolding tick_messages
  tick_asks =
      cond_either AsksWith (is_listed state.recovery) (option_map_or (level_messages first state) (next_search state) []) (lists_asked first state.recovery)
      (asks_search (next_search state)) asks_each

  -- a tick has no message unanswered
  none_before : (one other : List Message) → (length (one ++ other) == 0) ≡ true → one ≡ []
  none_before [] other none = refl
  none_before (message ∷ one) other none =
      let no : length (message ∷ (one ++ other)) ≡ 0 = eqb-true (length (message ∷ (one ++ other))) 0 none in absurd (omega (arith, no))

  module _ (may : can_tick state ≡ true) where
    sent : AsksListsIn (with_messages (tick_messages first state) state)
    sent =
        let none = none_before state.recovery.unanswered state.recovery.older
        (and_parts (not (is_finished state)) (length (all_unanswered state.recovery) == 0) may).1 in
        subst (λ (messages : List Message). AsksWith (messages ++ tick_messages first state)) (sym none) tick_asks

    pub ticked_asks : AsksListsIn (state_after_tick first state)
    unfolding state_after_tick
    ticked_asks =
        cond_either AsksListsIn (is_listed state.recovery)
        (option_map_or (λ (search : Search). searching search (with_messages (tick_messages first state) state)) (next_search state)
        (with_messages (tick_messages first state) state))
        (with_messages (tick_messages first state) state)
        (by_next (next_search state)) sent
      where
        by_next : (search : Option Search) → AsksListsIn (option_map_or
            (λ (search : Search). searching search (with_messages (tick_messages first state) state)) search (with_messages (tick_messages first state) state))
        by_next None = sent
        by_next (Some search) =
            (after_search (with_messages (tick_messages first state) state) (searching search (with_messages (tick_messages first state) state))
            (searched search (with_messages (tick_messages first state) state)) sent).0

    -- and something is left to do
    pub not_done_yet : IsDoneIn state → ⊥
    not_done_yet done =
        let unfinished = not-true (is_finished state) (and_parts (not (is_finished state)) (length (all_unanswered state.recovery) == 0) may).0 in
        let finished : is_finished state ≡ true = by_epoch (state.recovery.epoch == 1) done in
        absurd (cc (finished, unfinished))
      where
        by_epoch : (b : Bool) → IsDoneIn state → (b || (is_listed state.recovery && not (is_some (first_in state.shown.pending)))) ≡ true
        by_epoch true done = refl
        by_epoch false done = λ i. (done.0 i && not (is_some (first_in (done.1 i))))

-- ---- a recovery begins

pub begun_asks : (epoch : ℕ) (nodes : List NodeId) (state : RecoveryState) → IsStrictlyIncreasing (numbers_of nodes)
    → AsksListsIn (recovery_from_epoch epoch nodes state)
unfolding recovery_from_epoch
begun_asks epoch nodes state up = by_listed (is_listed (at_start epoch nodes state).recovery) refl
  where
    by_listed : (b : Bool) → is_listed (at_start epoch nodes state).recovery ≡ b
        → AsksListsIn (cond b (record (at_start epoch nodes state) { shown = shown_with_pending (to_recover (at_start epoch nodes state)) (at_start epoch nodes state).shown })
        (at_start epoch nodes state))
    by_listed true is = record {
      ascend = ascend_without state.recovery.me nodes up;
      of_epoch = λ message there. absurd (Contains-nil message there);
      asked = λ message there. absurd (Contains-nil message there);
      apart = λ message other there. absurd (Contains-nil message there);
      known = λ listed. refl;
    }
    by_listed false is = record {
      ascend = ascend_without state.recovery.me nodes up;
      of_epoch = λ message there. absurd (Contains-nil message there);
      asked = λ message there. absurd (Contains-nil message there);
      apart = λ message other there. absurd (Contains-nil message there);
      known = λ listed. absurd (cc (is, listed));
    }
