-- What a tick makes of a recovery, case by case.
use Rattle.std.proofs.Common.{◌≡◌, ◌≤◌, filter, ℕ, suc, ◌+◌, ◌==◌, ◌||◌, not, Bool, true, false, cond, List, [], ◌∷◌, ◌++◌, length, map, Option, Some, None, refl, ap, sym, ◌∙◌, append-nil, arith}
use Rattle.std.specs.List.{list_any, enumerate_from}
use Rattle.std.specs.Option.{option_map_or}
use Rattle.std.proofs.lemmas.Bool.{and_parts, eqb-true, eq-eqb, ne_eqb}
use Rattle.std.proofs.lemmas.List.{length-map}
use Rattle.recovery.specs.Kept.{InFlight, message_to, messages_in}
use Rattle.object_id.specs.declared.node.NodeId.{NodeId}
use Rattle.object_id.specs.declared.policy.Policy.{Policy}
use Rattle.peer_proto.specs.declared.ask.PeerAsk.TheVariants as asks
use Rattle.recovery.specs.Shown.{live_policy}
use Rattle.recovery.specs.State.{Message, Search, Recovery, RecoveryState, is_listed, is_finished, all_unanswered, MayTick}
use Rattle.recovery.specs.Level.{is_of_search, level_over, searching}
use Rattle.recovery.specs.Tick.{request_message, lists_asked, level_asked, level_messages, next_search, tick_messages, tick_sends, with_messages, state_after_tick}

empty-parts : (ms ns : List Message) → ms ++ ns ≡ [] → (ms ≡ []) × (ns ≡ [])
empty-parts [] ns none = (refl, none)
empty-parts (m ∷ ms) ns none = absurd (cc (none))

empty-list : (ms : List Message) → length ms ≡ 0 → ms ≡ []
empty-list [] none = refl
empty-list (m ∷ ms) none = absurd (omega (arith, none))

-- a tick has no unanswered message
pub tick_none : (first : ℕ) (state : RecoveryState) → MayTick first state → all_unanswered state.recovery ≡ []
tick_none first state may =
    empty-list (all_unanswered state.recovery)
    (eqb-true (length (all_unanswered state.recovery)) 0 (and_parts (not (is_finished state)) (length (all_unanswered state.recovery) == 0) may.work).1)

pub none_current : (recovery : Recovery) → all_unanswered recovery ≡ [] → recovery.unanswered ≡ []
none_current recovery none = (empty-parts recovery.unanswered recovery.older none).0

pub none_older : (recovery : Recovery) → all_unanswered recovery ≡ [] → recovery.older ≡ []
none_older recovery none = (empty-parts recovery.unanswered recovery.older none).1

with-none : (state : RecoveryState) → with_messages [] state ≡ state
with-none state = ap (λ (ms : List Message). record state { recovery = record state.recovery { unanswered = ms } }) (append-nil state.recovery.unanswered)

-- the first of them is of the search
first-asked : (recovery : Recovery) (wanted : ℕ) (search : Search) (n : ℕ) (nodes : List NodeId)
    → list_any (is_of_search search.oid)
    (map (request_message recovery wanted (asks.RecoverRead search.oid (record { 0 = search.level }))) (enumerate_from n nodes))
    ≡ not (length (map (request_message recovery wanted (asks.RecoverRead search.oid (record { 0 = search.level }))) (enumerate_from n nodes)) == 0)
first-asked recovery wanted search n [] = refl
first-asked recovery wanted search n (node ∷ nodes) =
    ap (λ b. b || list_any (is_of_search search.oid)
    (map (request_message recovery wanted (asks.RecoverRead search.oid (record { 0 = search.level }))) (enumerate_from (n + 1) nodes)))
    (eq-eqb search.oid search.oid refl)
    ∙ sym (ap not (ne_eqb (suc (length (map (request_message recovery wanted (asks.RecoverRead search.oid (record { 0 = search.level }))) (enumerate_from (n + 1) nodes)))) 0
    (λ same. absurd (omega (arith, same)))))

any-asked : (first : ℕ) (state : RecoveryState) (search : Search) → list_any (is_of_search search.oid) (level_messages first state search)
    ≡ not (length (level_messages first state search) == 0)
any-asked first state search = by_policy (live_policy state.shown search.oid)
  where
    by_policy : (o : Option Policy) → list_any (is_of_search search.oid) (option_map_or (level_asked first state search) o [])
        ≡ not (length (option_map_or (level_asked first state search) o []) == 0)
    by_policy None = refl
    by_policy (Some policy) = first-asked state.recovery _ search first _

module _ (first : ℕ) (search : Search) (state : RecoveryState) (listed : is_listed state.recovery ≡ true) (next : next_search state ≡ Some search) where
  pub level_asks : tick_messages first state ≡ level_messages first state search
  unfolding tick_messages
  level_asks =
      ap (λ b. cond b (option_map_or (level_messages first state) (next_search state) []) (lists_asked first state.recovery)) listed
      ∙ ap (λ (o : Option Search). option_map_or (level_messages first state) o []) next

  pub level_sends : tick_sends first state ≡ map (λ (message : Message). (message.to, message.request)) (level_messages first state search)
  unfolding tick_sends
  level_sends = ap (map (λ (message : Message). (message.to, message.request))) level_asks

  after-level : state_after_tick first state ≡ searching search (with_messages (level_messages first state search) state)
  unfolding state_after_tick
  after-level =
      ap (λ b. cond b (option_map_or (λ (s : Search). searching s (with_messages (tick_messages first state) state)) (next_search state) (with_messages (tick_messages first state) state))
      (with_messages (tick_messages first state) state)) listed
      ∙ ap (λ (o : Option Search). option_map_or (λ (s : Search). searching s (with_messages (tick_messages first state) state)) o (with_messages (tick_messages first state) state)) next
      ∙ ap (λ (ms : List Message). searching search (with_messages ms state)) level_asks

  -- where nobody is asked the level is over at once
  pub tick_over : state.recovery.unanswered ≡ [] → level_messages first state search ≡ [] → state_after_tick first state ≡ level_over search state
  tick_over none nobody =
      after-level
      ∙ ap (λ (ms : List Message). searching search (with_messages ms state)) nobody
      ∙ ap (searching search) (with-none state)
      ∙ ap (λ (ms : List Message). cond (list_any (is_of_search search.oid) ms) (record state { recovery = record state.recovery { search = Some search } }) (level_over search state)) none

  -- and else it is asked
  pub tick_asks : state.recovery.unanswered ≡ [] → (length (level_messages first state search) == 0) ≡ false → state_after_tick first state
      ≡ record state { recovery = record state.recovery { unanswered = level_messages first state search; search = Some search } }
  tick_asks none some =
      let messages : List Message = level_messages first state search in
      let asked : RecoveryState = record state { recovery = record state.recovery { unanswered = messages } } in
      after-level
      ∙ ap (λ (ms : List Message). searching search (record state { recovery = record state.recovery { unanswered = ms ++ messages } })) none
      ∙ ap (λ b. cond b (record asked { recovery = record asked.recovery { search = Some search } }) (level_over search asked))
      (any-asked first state search ∙ ap not some)

-- without all lists a tick asks for those that lack
pub lists_ask : (first : ℕ) (state : RecoveryState) → is_listed state.recovery ≡ false → tick_messages first state ≡ lists_asked first state.recovery
unfolding tick_messages
lists_ask first state lacks = ap (λ b. cond b (option_map_or (level_messages first state) (next_search state) []) (lists_asked first state.recovery)) lacks

pub lists_sends : (first : ℕ) (state : RecoveryState) → is_listed state.recovery ≡ false
    → tick_sends first state ≡ map (λ (message : Message). (message.to, message.request)) (lists_asked first state.recovery)
unfolding tick_sends
lists_sends first state lacks = ap (map (λ (message : Message). (message.to, message.request))) (lists_ask first state lacks)

pub after_lists : (first : ℕ) (state : RecoveryState) → is_listed state.recovery ≡ false → state.recovery.unanswered ≡ []
    → state_after_tick first state ≡ record state { recovery = record state.recovery { unanswered = lists_asked first state.recovery } }
unfolding state_after_tick
after_lists first state lacks none =
    ap (λ b. cond b (option_map_or (λ (s : Search). searching s (with_messages (tick_messages first state) state)) (next_search state) (with_messages (tick_messages first state) state))
    (with_messages (tick_messages first state) state)) lacks
    ∙ ap (λ (ms : List Message). with_messages ms state) (lists_ask first state lacks)
    ∙ ap (λ (ms : List Message). record state { recovery = record state.recovery { unanswered = ms ++ lists_asked first state.recovery } }) none

-- where nothing is to be searched nothing is asked
pub nothing_sends : (first : ℕ) (state : RecoveryState) → is_listed state.recovery ≡ true → next_search state ≡ None → tick_sends first state ≡ []
unfolding tick_sends tick_messages
nothing_sends first state listed none =
    ap (map (λ (message : Message). (message.to, message.request)))
    (ap (λ b. cond b (option_map_or (level_messages first state) (next_search state) []) (lists_asked first state.recovery)) listed
    ∙ ap (λ (o : Option Search). option_map_or (level_messages first state) o []) none)

pub nothing_asked : (first : ℕ) (state : RecoveryState) → is_listed state.recovery ≡ true → next_search state ≡ None → state_after_tick first state ≡ state
unfolding state_after_tick tick_messages
nothing_asked first state listed none =
    let messages : tick_messages first state ≡ []
    = ap (λ b. cond b (option_map_or (level_messages first state) (next_search state) []) (lists_asked first state.recovery)) listed
    ∙ ap (λ (o : Option Search). option_map_or (level_messages first state) o []) none in
    ap (λ b. cond b (option_map_or (λ (s : Search). searching s (with_messages (tick_messages first state) state)) (next_search state) (with_messages (tick_messages first state) state))
    (with_messages (tick_messages first state) state)) listed
    ∙ ap (λ (o : Option Search). option_map_or (λ (s : Search). searching s (with_messages (tick_messages first state) state)) o (with_messages (tick_messages first state) state)) none
    ∙ ap (λ (ms : List Message). with_messages ms state) messages ∙ with-none state

-- messages and what is kept of them
pub no_messages_in : (me : NodeId) (flight : InFlight) → (length flight.nodes == 0) ≡ true → messages_in me flight ≡ []
no_messages_in me flight none = ap (map (message_to me flight.epoch flight.asked)) (no-nodes flight.nodes (eqb-true (length flight.nodes) 0 none))
  where
    no-nodes : (nodes : List (ℕ × NodeId)) → length nodes ≡ 0 → nodes ≡ []
    no-nodes [] is = refl
    no-nodes (node ∷ nodes) is = absurd (omega (arith, is))

pub some_messages_in : (me : NodeId) (flight : InFlight) → (length flight.nodes == 0) ≡ false → (length (messages_in me flight) == 0) ≡ false
some_messages_in me flight some = ap (λ (n : ℕ). n == 0) (length-map flight.nodes (message_to me flight.epoch flight.asked)) ∙ some

pub kept_few : {X : Type 0} (p : X → Bool) (xs : List X) → length (filter p xs) ≤ length xs
kept_few p [] = omega arith
kept_few p (x ∷ xs) = by_test (p x) (kept_few p xs)
  where
    by_test : (b : Bool) → length (filter p xs) ≤ length xs → length (cond b (x ∷ filter p xs) (filter p xs)) ≤ length (x ∷ xs)
    by_test true rest = omega (arith, rest)
    by_test false rest = omega (arith, rest)

-- what the search for the next level's targets is shown by, and what a level's messages or its end are shown by
pub ruleset search_rules = (nothing_sends, nothing_asked, tick_none, none_current, none_older)

pub ruleset level_rules = (level_sends, tick_over, tick_asks, no_messages_in, some_messages_in)
