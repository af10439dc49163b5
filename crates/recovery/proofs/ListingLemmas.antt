-- Nothing is searched before each other member has named its objects.
use Rattle.std.proofs.Common.{◌≡◌, ℕ, ◌==◌, Bool, true, false, cond, List, [], ◌∷◌, length, Option, None, Some, refl, ap, sym, subst, ◌∙◌, arith}
use Rattle.std.specs.Option.{option_map_or}
use Rattle.std.specs.List.{list_any}
use Rattle.std.proofs.lemmas.Bool.{ne_eqb}
use Rattle.proof_tools.proofs.Booleans.{cond_either}
use Rattle.object_id.specs.declared.node.NodeId.{NodeId}
use Rattle.object_list.specs.Gathered.{GatheredLists, nodes_without, gathered_with_answer}
use Rattle.peer_proto.specs.declared.ask.PeerAsk.{PeerAsk}
use Rattle.peer_proto.specs.declared.ask.PeerAsk.TheVariants as asks
use Rattle.peer_proto.specs.declared.say.PeerSay.{PeerSay}
use Rattle.peer_proto.specs.declared.say.PeerSay.TheVariants as says
use Rattle.recovery.specs.Shown.{shown_with_pending}
use Rattle.recovery.specs.State.{Message, Search, RecoveryState, is_listed, message_of, still_on, search_on}
use Rattle.recovery.specs.Level.{level_over, is_of_search, searching}
use Rattle.recovery.specs.Tick.{next_search, with_messages, tick_messages, state_after_tick}
use Rattle.recovery.specs.Steps.{to_recover, when_listed, at_start, recovery_from_epoch, without_unanswered, search_after_answer, after_list, after_read, after_ask, message_end}
use Rattle.recovery.specs.Frame.{WaitsForLists}
use Rattle.recovery.proofs.StepLemmas.{judged_each}

-- a search leaves the lists

abbrev SameLists : RecoveryState → RecoveryState → Type 0
SameLists old new = new.recovery.lists ≡ old.recovery.lists

searching_lists : (search : Search) (state : RecoveryState) → SameLists state (searching search state)
searching_lists search state =
    cond_either (SameLists state)
    (list_any (is_of_search search.oid) state.recovery.unanswered)
    (record state { recovery = record state.recovery { search = Some search } }) (level_over search state)
    refl (judged_each (SameLists state) search state refl (λ index bytes. refl) refl (λ level. refl))

searching_on_lists : (search : Option Search) (state : RecoveryState) → SameLists state (option_map_or (λ (search : Search). searching search state) search state)
searching_on_lists None state = refl
searching_on_lists (Some search) state = searching_lists search state

after_read_lists : (oid : ℕ) (from : NodeId) (said : Option PeerSay) (search : Option Search) (state : RecoveryState)
    → SameLists state (after_read oid from said search state)
after_read_lists oid from said None state = refl
after_read_lists oid from said (Some search) state =
    cond_either (SameLists state) (search.oid == oid) (searching (search_after_answer from said search) state) state
    (searching_lists (search_after_answer from said search) state) refl

-- where the list is finished, and the lists are the same, there is nothing to show
finished_waits : (old new : RecoveryState) → is_listed old.recovery ≡ true → SameLists old new → WaitsForLists new
finished_waits old new listed same unlisted =
    let clash : true ≡ false = sym listed ∙ sym (ap (λ (lists : GatheredLists). length lists.waiting == 0) same) ∙ unlisted in
    absurd (cc (clash))

when_listed_waits : (state : RecoveryState) → WaitsForLists state → WaitsForLists (when_listed state)
when_listed_waits state waits = by_list (is_listed state.recovery) refl
  where
    by_list : (b : Bool) → is_listed state.recovery ≡ b
        → WaitsForLists (cond b (record state { shown = shown_with_pending (to_recover state) state.shown }) state)
    by_list true listed = finished_waits state (record state { shown = shown_with_pending (to_recover state) state.shown }) listed refl
    by_list false unlisted = waits

pub begun_waits : (epoch : ℕ) (members : List NodeId) (state : RecoveryState) → WaitsForLists (recovery_from_epoch epoch members state)
unfolding recovery_from_epoch
begun_waits epoch members state = when_listed_waits (at_start epoch members state) (λ unlisted. (refl, refl))

pub tick_waits : (first : ℕ) (state : RecoveryState) → WaitsForLists state → WaitsForLists (state_after_tick first state)
unfolding state_after_tick
tick_waits first state waits = by_list (is_listed state.recovery) refl
  where
    by_list : (b : Bool) → is_listed state.recovery ≡ b
        → WaitsForLists (cond b (option_map_or (λ (search : Search). searching search (with_messages (tick_messages first state) state)) (next_search state) (with_messages (tick_messages first state) state)) (with_messages (tick_messages first state) state))
    by_list true listed =
        finished_waits state (option_map_or (λ (search : Search). searching search (with_messages (tick_messages first state) state)) (next_search state) (with_messages (tick_messages first state) state)) listed
        (searching_on_lists (next_search state) (with_messages (tick_messages first state) state))
    by_list false unlisted = waits

-- an answer never makes a finished list unfinished
unfinished_before : (from : NodeId) (waiting : List NodeId) → (length (nodes_without from waiting) == 0) ≡ false → (length waiting == 0) ≡ false
unfinished_before from [] unlisted = unlisted
unfinished_before from (node ∷ nodes) unlisted = ne_eqb (length (node ∷ nodes)) 0 (λ (none : length (node ∷ nodes) ≡ 0). omega arith)

after_list_waits : (from : NodeId) (said : Option PeerSay) (state : RecoveryState) → WaitsForLists state → WaitsForLists (after_list from said state)
after_list_waits from (Some (says.Objects oids)) state waits =
    when_listed_waits (record state { recovery = record state.recovery { lists = gathered_with_answer from oids state.recovery.lists } })
    (λ unlisted. waits (unfinished_before from state.recovery.lists.waiting unlisted))
after_list_waits from said state waits = waits

after_read_waits : (oid : ℕ) (from : NodeId) (said : Option PeerSay) (state : RecoveryState) → WaitsForLists state
    → WaitsForLists (after_read oid from said (search_on state) state)
after_read_waits oid from said state waits = by_list (is_listed state.recovery) refl
  where
    by_list : (b : Bool) → is_listed state.recovery ≡ b → WaitsForLists (after_read oid from said (search_on state) state)
    by_list true listed =
        finished_waits state (after_read oid from said (search_on state) state) listed (after_read_lists oid from said (search_on state) state)
    by_list false unlisted =
        let same : after_read oid from said (search_on state) state ≡ state =
        ap (λ (search : Option Search). after_read oid from said (still_on state.shown.pending search) state) (waits unlisted).1 in
        subst (λ (s : RecoveryState). WaitsForLists s) (sym same) waits

after_ask_waits : (ask : PeerAsk) (from : NodeId) (said : Option PeerSay) (state : RecoveryState) → WaitsForLists state
    → WaitsForLists (after_ask ask from said state)
after_ask_waits asks.List from said state waits = after_list_waits from said state waits
after_ask_waits (asks.RecoverRead oid level) from said state waits = after_read_waits oid from said state waits
after_ask_waits ask from said state waits = waits

after_message_waits : (message : Option Message) (said : Option PeerSay) (state : RecoveryState) → WaitsForLists state
    → WaitsForLists (option_map_or (λ (message : Message). after_ask message.request.ask message.to said state) message state)
after_message_waits None said state waits = waits
after_message_waits (Some message) said state waits = after_ask_waits message.request.ask message.to said state waits

pub end_waits : (number : ℕ) (said : Option PeerSay) (state : RecoveryState) → WaitsForLists state → WaitsForLists (message_end number said state)
end_waits number said state waits =
    after_message_waits (message_of number state.recovery.unanswered) said (without_unanswered number state) waits
