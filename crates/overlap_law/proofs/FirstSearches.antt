-- The search of a recovery that goes on is of the first object that is pending; and none goes on, and it isn't known what is pending,
-- before the recovery's list is finished.
use Rattle.std.proofs.Common.{◌≡◌, ⊎_elim, ℕ, ◌-◌, ◌==◌, Bool, true, false, cond, List, [], ◌∷◌, length, filter, Contains, Option, Some}
use Rattle.std.proofs.Common.{None, option_map, arith, refl, sym, ap, subst, ◌∙◌}
use Rattle.std.specs.Option.{option_map_or}
use Rattle.std.specs.List.{list_any}
use Rattle.std.proofs.lemmas.Bool.{eqb-true, or_cases, or_left, or_right, ne_eqb}
use Rattle.std.proofs.lemmas.Option.{same_Some}
use Rattle.proof_tools.proofs.Booleans.{cond_either}
use Rattle.proof_tools.proofs.Lists.{Contains-nil, find-contains}
use Rattle.object_id.specs.declared.node.NodeId.{NodeId}
use Rattle.object_list.specs.Gathered.{gathered_with_answer}
use Rattle.peer_proto.specs.declared.ask.PeerAsk.{PeerAsk}
use Rattle.peer_proto.specs.declared.ask.PeerAsk.TheVariants as asks
use Rattle.peer_proto.specs.declared.say.PeerSay.{PeerSay}
use Rattle.peer_proto.specs.declared.say.PeerSay.TheVariants as says
use Rattle.recovery.specs.Shown.{first_in, is_pending_object, shown_with_pending}
use Rattle.recovery.specs.State.{Message, Search, Recovery, RecoveryState, search_at, still_on, search_on, is_listed, has_number}
use Rattle.recovery.specs.State.{message_of}
use Rattle.recovery.specs.Level.{level_over, is_of_search, searching}
use Rattle.recovery.specs.Steps.{to_recover, at_start, recovery_from_epoch, without_unanswered, search_after_answer, after_list, after_read}
use Rattle.recovery.specs.Steps.{after_ask, message_end}
use Rattle.recovery.specs.Tick.{or_next, next_search, tick_messages, with_messages, state_after_tick}
use Rattle.recovery.proofs.ListingLemmas.{begun_waits, tick_waits, end_waits}
use Rattle.recovery.proofs.StepLemmas.{judged_each}
use Rattle.overlap_law.proofs.ListMessages.{numbers_of, AsksListsIn}
use Rattle.overlap_law.proofs.RecoveriesOfSteps.{IsLessPending, KeptByRecoveries}

-- ---- before the list is finished

-- it isn't known what is pending, and nothing is searched
abbrev pub WaitsFirst : Recovery → Option (List ℕ) → Type 0
WaitsFirst recovery pending = is_listed recovery ≡ false → (pending ≡ None) × (recovery.search ≡ None)

none_less : (old new : Option (List ℕ)) → IsLessPending old new → old ≡ None → new ≡ None
none_less old new less none = ⊎_elim
    (λ (same : new ≡ old). same ∙ none)
    (λ (some : (p : ℕ → Bool) × (new ≡ option_map (filter p) old)). some.1 ∙ ap (option_map (filter some.0)) none)
    less

pub lists_wait : KeptByRecoveries WaitsFirst
lists_wait = record {
  less = λ recovery old new less waits unlisted. (none_less old new less (waits unlisted).0, (waits unlisted).1);
  begun = λ epoch members state. begun_waits epoch members state;
  ticked = λ first state waits. tick_waits first state waits;
  ended = λ number said state asking waits. end_waits number said state waits;
}

-- ---- the search that goes on

-- it is of the first pending object
abbrev pub SearchesFirst : Option Search → Option (List ℕ) → Type 0
SearchesFirst search pending = (on : Search) → still_on pending search ≡ Some on → first_in pending ≡ Some on.oid

abbrev IsOfFirst : RecoveryState → Type 0
IsOfFirst state = SearchesFirst state.recovery.search state.shown.pending

-- a search that goes on is the recovery's, and its object is pending
pub record IsOn (pending : Option (List ℕ)) (o : Option Search) (on : Search) : Type 0 where
  pub search : o ≡ Some on
  pub pending_so : is_pending_object on.oid pending ≡ true

pub is_on : (pending : Option (List ℕ)) (o : Option Search) (on : Search) → still_on pending o ≡ Some on → IsOn pending o on
is_on pending None on is = absurd (cc (is))
is_on pending (Some one) on is = by_pending (is_pending_object one.oid pending) refl is
  where
    by_pending : (b : Bool) → is_pending_object one.oid pending ≡ b → cond b (Some one) None ≡ Some on → IsOn pending (Some one) on
    by_pending true so is = record {
      search = is;
      pending_so = ap (λ (s : Search). is_pending_object s.oid pending) (sym (same_Some one on is)) ∙ so;
    }
    by_pending false so is = absurd (cc (is))

on_from : (pending : Option (List ℕ)) (one : Search) → is_pending_object one.oid pending ≡ true → still_on pending (Some one) ≡ Some one
on_from pending one so = ap (λ (b : Bool). cond b (Some one) None) so

-- where nothing is searched
none_searched : (state : RecoveryState) → state.recovery.search ≡ None → IsOfFirst state
none_searched state none on is =
    let no : still_on state.shown.pending None ≡ Some on = ap (still_on state.shown.pending) (sym none) ∙ is in
    absurd (cc (no))

-- where the first pending object is
one_searched : (pending : Option (List ℕ)) (one : Search) → first_in pending ≡ Some one.oid → SearchesFirst (Some one) pending
one_searched pending one first on is =
    first ∙ ap (λ (s : Search). Some s.oid) (same_Some one on (is_on pending (Some one) on is).search)

-- ---- less is pending

pub any_filtered : (p : ℕ → Bool) (oids : List ℕ) (k : ℕ) → list_any (λ other. other == k) (filter p oids) ≡ true
    → (list_any (λ other. other == k) oids ≡ true) × (p k ≡ true)
any_filtered p [] k any = absurd (cc (any))
any_filtered p (oid ∷ oids) k any = by_test (p oid) refl (λ later. any_filtered p oids k later) any
  where
    Found : Type 0
    Found = (list_any (λ other. other == k) (oid ∷ oids) ≡ true) × (p k ≡ true)

    behind : (list_any (λ other. other == k) oids ≡ true) × (p k ≡ true) → Found
    behind found = (or_right (oid == k) (list_any (λ other. other == k) oids) found.0, found.1)

    by_test : (b : Bool) → p oid ≡ b
        → (list_any (λ other. other == k) (filter p oids) ≡ true → (list_any (λ other. other == k) oids ≡ true) × (p k ≡ true))
        → list_any (λ other. other == k) (cond b (oid ∷ filter p oids) (filter p oids)) ≡ true → Found
    by_test true kept rest any = ⊎_elim
        (λ (here : (oid == k) ≡ true). (
          or_left (oid == k) (list_any (λ other. other == k) oids) here,
          ap p (sym (eqb-true oid k here)) ∙ kept,
        ))
        (λ (later : list_any (λ other. other == k) (filter p oids) ≡ true). behind (rest later))
        (or_cases (oid == k) (list_any (λ other. other == k) (filter p oids)) any)
    by_test false goes rest any = behind (rest any)

-- the first stays so where it stays
first_filtered : (p : ℕ → Bool) (oids : List ℕ) (k : ℕ) → first_in (Some oids) ≡ Some k → p k ≡ true
    → first_in (Some (filter p oids)) ≡ Some k
first_filtered p [] k first stays = absurd (cc (first))
first_filtered p (oid ∷ oids) k first stays =
    ap (λ (b : Bool). first_in (Some (cond b (oid ∷ filter p oids) (filter p oids)))) (ap p (same_Some oid k first) ∙ stays) ∙ first

less_filtered : (p : ℕ → Bool) (search : Option Search) (old : Option (List ℕ)) → SearchesFirst search old
    → SearchesFirst search (option_map (filter p) old)
less_filtered p search None so on is = so on is
less_filtered p search (Some oids) so on is =
    let found : IsOn (Some (filter p oids)) search on = is_on (Some (filter p oids)) search on is in
    let (was, stays) = any_filtered p oids on.oid found.pending_so in
    first_filtered p oids on.oid
    (so on (ap (still_on (Some oids)) found.search ∙ on_from (Some oids) on was)) stays

less_first : (search : Option Search) (old new : Option (List ℕ)) → IsLessPending old new → SearchesFirst search old
    → SearchesFirst search new
less_first search old new less so = ⊎_elim
    (λ (same : new ≡ old). subst (SearchesFirst search) (sym same) so)
    (λ (some : (p : ℕ → Bool) × (new ≡ option_map (filter p) old)).
    subst (SearchesFirst search) (sym some.1) (less_filtered some.0 search old so))
    less

-- ---- a search goes on

searching_first : (search : Search) (state : RecoveryState) → first_in state.shown.pending ≡ Some search.oid → IsOfFirst state
    → IsOfFirst (searching search state)
searching_first search state first so =
    cond_either IsOfFirst (list_any (is_of_search search.oid) state.recovery.unanswered)
    (record state { recovery = record state.recovery { search = Some search } }) (level_over search state)
    (one_searched state.shown.pending search first)
    (judged_each IsOfFirst search state so (λ index bytes on is. absurd (cc (is))) (λ on is. absurd (cc (is)))
    (λ level. one_searched state.shown.pending (search_at search.oid level) first))

-- ---- a recovery begins

begun_first : (epoch : ℕ) (members : List NodeId) (state : RecoveryState) → IsOfFirst (recovery_from_epoch epoch members state)
unfolding recovery_from_epoch
begun_first epoch members state =
    let begun : RecoveryState = at_start epoch members state in
    cond_either IsOfFirst (is_listed begun.recovery) (record begun { shown = shown_with_pending (to_recover begun) begun.shown }) begun
    (none_searched (record begun { shown = shown_with_pending (to_recover begun) begun.shown }) refl) (none_searched begun refl)

-- ---- it ticks

ticked_first : (first : ℕ) (state : RecoveryState) → IsOfFirst state → IsOfFirst (state_after_tick first state)
unfolding state_after_tick
ticked_first first state so =
    cond_either IsOfFirst (is_listed state.recovery)
    (option_map_or (λ (search : Search). searching search sent) (next_search state) sent) sent (by_next (search_on state) refl) so
  where
    sent : RecoveryState
    sent = with_messages (tick_messages first state) state

    by_first : (o : Option ℕ) → first_in state.shown.pending ≡ o
        → IsOfFirst (option_map_or (λ (search : Search). searching search sent) (or_next state.recovery.epoch o None) sent)
    by_first None is = so
    by_first (Some oid) is = searching_first (search_at oid (state.recovery.epoch - 1)) sent is so

    by_next : (o : Option Search) → search_on state ≡ o → IsOfFirst (option_map_or
        (λ (search : Search). searching search sent) (or_next state.recovery.epoch (first_in state.shown.pending) o) sent)
    by_next None is = by_first (first_in state.shown.pending) refl
    by_next (Some search) is = searching_first (search_at search.oid search.level) sent (so search is) so

-- ---- a message of it ends

-- a search stays one of its object
same_object : (from : NodeId) (said : Option PeerSay) (search : Search) → (search_after_answer from said search).oid ≡ search.oid
same_object from None search = refl
same_object from (Some says.Success) search = refl
same_object from (Some (says.Piece bytes)) search = refl
same_object from (Some (says.Objects oids)) search = refl
same_object from (Some (says.Row row)) search = refl
same_object from (Some says.NoRow) search = refl
same_object from (Some (says.Refused refusal)) search = refl

-- a node whose list is unanswered is waited for
pub unlisted_at : (state : RecoveryState) → AsksListsIn state → (message : Message) → Contains state.recovery.unanswered message
    → message.request.ask ≡ asks.List → is_listed state.recovery ≡ false
unlisted_at state lists message there asked = by_waiting state.recovery.lists.waiting (lists.asked message there asked)
  where
    by_waiting : (nodes : List NodeId) → Contains (numbers_of nodes) message.to.0 → (length nodes == 0) ≡ false
    by_waiting [] waited = absurd (Contains-nil message.to.0 waited)
    by_waiting (node ∷ nodes) waited = ne_eqb (length (node ∷ nodes)) 0 (λ (none : length (node ∷ nodes) ≡ 0). omega arith)

module _ (number : ℕ) (state : RecoveryState) (lists : AsksListsIn state) (waits : WaitsFirst state.recovery state.shown.pending)
    (so : IsOfFirst state) where
  abbrev rest : RecoveryState
  rest = without_unanswered number state

  list_first : (message : Message) → Contains state.recovery.unanswered message → message.request.ask ≡ asks.List → (said : Option PeerSay)
      → IsOfFirst (after_list message.to said rest)
  list_first message there asked None = so
  list_first message there asked (Some says.Success) = so
  list_first message there asked (Some (says.Piece bytes)) = so
  list_first message there asked (Some (says.Objects oids)) =
      let gathered : RecoveryState
      = record rest { recovery = record rest.recovery { lists = gathered_with_answer message.to oids rest.recovery.lists } } in
      let none : state.recovery.search ≡ None = (waits (unlisted_at state lists message there asked)).1 in
      cond_either IsOfFirst (is_listed gathered.recovery)
      (record gathered { shown = shown_with_pending (to_recover gathered) gathered.shown }) gathered
      (none_searched (record gathered { shown = shown_with_pending (to_recover gathered) gathered.shown }) none) so
  list_first message there asked (Some (says.Row row)) = so
  list_first message there asked (Some says.NoRow) = so
  list_first message there asked (Some (says.Refused refusal)) = so

  read_first : (oid : ℕ) (from : NodeId) (said : Option PeerSay) → IsOfFirst (after_read oid from said (search_on rest) rest)
  read_first oid from said = by_search (search_on rest) refl
    where
      by_search : (o : Option Search) → search_on rest ≡ o → IsOfFirst (after_read oid from said o rest)
      by_search None on = so
      by_search (Some search) on =
          let next : Search = search_after_answer from said search in
          cond_either IsOfFirst (search.oid == oid) (searching next rest) rest
          (searching_first next rest (so search on ∙ ap (λ (k : ℕ). Some k) (sym (same_object from said search))) so) so

  ask_first : (message : Message) → Contains state.recovery.unanswered message → (ask : PeerAsk) → message.request.ask ≡ ask
      → (said : Option PeerSay) → IsOfFirst (after_ask ask message.to said rest)
  ask_first message there (asks.Create key size offset bytes) is said = so
  ask_first message there (asks.Write key offset bytes) is said = so
  ask_first message there (asks.Read key offset size) is said = so
  ask_first message there asks.List is said = list_first message there is said
  ask_first message there (asks.RecoverRead oid level) is said = read_first oid message.to said

  ended_first : (said : Option PeerSay) → IsOfFirst (message_end number said state)
  ended_first said = by_message (message_of number state.recovery.unanswered) refl
    where
      by_message : (o : Option Message) → message_of number state.recovery.unanswered ≡ o → IsOfFirst (option_map_or
          (λ (message : Message). after_ask message.request.ask message.to said rest) o rest)
      by_message None is = so
      by_message (Some message) is =
          ask_first message (find-contains (has_number number) state.recovery.unanswered message is).0 message.request.ask refl said

-- ---- both

abbrev pub SearchesInOrder : Recovery → Option (List ℕ) → Type 0
SearchesInOrder recovery pending = WaitsFirst recovery pending × SearchesFirst recovery.search pending

pub searches_kept : KeptByRecoveries SearchesInOrder
searches_kept = record {
  less = λ recovery old new less so. (lists_wait.less recovery old new less so.0, less_first recovery.search old new less so.1);
  begun = λ epoch members state. (begun_waits epoch members state, begun_first epoch members state);
  ticked = λ first state so. (tick_waits first state so.0, ticked_first first state so.1);
  ended = λ number said state lists so. (end_waits number said state so.0, ended_first number state lists so.0 so.1 said);
}
