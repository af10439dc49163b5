-- While answers of a search's level are awaited, and none was refused or lost, those awaited and those kept are all that the level is asked
-- of: each step of a recovery keeps it, whatever the placing, if that is the node's own where it asks.
use Rattle.std.proofs.Common.{◌≡◌, inl, inr, ⊎_elim, ℕ, ◌≤◌, ◌==◌, ◌&&◌, ◌||◌, not, Bool, true, false, cond, List, [], ◌∷◌, ◌++◌, filter}
use Rattle.std.proofs.Common.{Contains, Option, Some, None, refl, sym, ap, subst, ◌∙◌}
use Rattle.std.specs.Option.{option_map_or}
use Rattle.std.specs.List.{list_any}
use Rattle.std.proofs.lemmas.Bool.{and_parts, eq-eqb, eqb-true, or_cases, or_left, or_right}
use Rattle.std.proofs.lemmas.List.Folds.{list_any-append}
use Rattle.std.proofs.lemmas.Option.{same_Some}
use Rattle.proof_tools.proofs.Booleans.{cond_either}
use Rattle.proof_tools.proofs.Lists.{filter-contains, find-contains}
use Rattle.object_id.specs.declared.node.Epoch.{Epoch}
use Rattle.object_id.specs.declared.node.NodeId.{NodeId}
use Rattle.object_id.specs.declared.policy.Policy.{Policy}
use Rattle.object_id.specs.Oid.{kind_of}
use Rattle.object_id.specs.Policy.{wanted_of}
use Rattle.object_store.specs.declared.row.RowCopy.{RowCopy}
use Rattle.object_list.specs.Gathered.{is_same_node, has_node, gathered_with_answer}
use Rattle.peer_proto.specs.declared.ask.PeerAsk.{PeerAsk}
use Rattle.peer_proto.specs.declared.ask.PeerAsk.TheVariants as asks
use Rattle.peer_proto.specs.declared.say.PeerSay.{PeerSay}
use Rattle.peer_proto.specs.declared.say.PeerSay.TheVariants as says
use Rattle.recovery.specs.declared.search.RowAnswer.{RowAnswer}
use Rattle.recovery.specs.Level.{is_read_of, is_of_search, level_over, searching}
use Rattle.recovery.specs.Shown.{first_in, live_policy, shown_with_pending}
use Rattle.recovery.specs.State.{Message, Search, Recovery, RecoveryState, search_at, still_on, search_on, is_listed, has_number}
use Rattle.recovery.specs.State.{message_of, can_tick}
use Rattle.recovery.specs.Steps.{to_recover, at_start, recovery_from_epoch, without_unanswered, with_answer, search_after_answer}
use Rattle.recovery.specs.Steps.{after_list, after_read, after_ask, message_end}
use Rattle.recovery.specs.Tick.{asked_of, level_asked, level_messages, lists_asked, or_next, next_search, tick_messages, with_messages}
use Rattle.recovery.specs.Tick.{state_after_tick}
use Rattle.recovery.proofs.FoundLemmas.{live_known}
use Rattle.recovery.proofs.StepLemmas.{judged_each}
use Rattle.overlap_law.specs.Each.{Placing}
use Rattle.overlap_law.specs.Searches.{is_awaited_of, has_kept_answer}
use Rattle.overlap_law.proofs.FirstSearches.{WaitsFirst, is_on, unlisted_at}
use Rattle.overlap_law.proofs.ListMessages.{AsksListsIn}
use Rattle.overlap_law.proofs.RecoveriesOfSteps.{IsLessPending}
use Rattle.overlap_law.proofs.RecoveryMessages.{idle_before_tick}
use Rattle.overlap_law.proofs.AskedMessages.{asked_by, IsAwaitedOrKept, AreNumberedApart, IsRowSay, awaited_each, without_any, any_there}
use Rattle.overlap_law.proofs.AskedMessages.{there_any, stays_there, none_numbered, other_number, still_less, same_oid, next_fresh}

module _ (T : Placing) (known : ℕ → Option Policy) (bound : ℕ) where
  -- those awaited and those kept are all that a search's level is asked of
  pub record AskedSo (me : NodeId) (members : List NodeId) (unanswered : List Message) (search : Search) : Type 0 where
    pub policy : Policy
    pub policy_so : known search.oid ≡ Some policy
    pub within : search.level ≤ bound
    pub forth : (other : NodeId) → has_node other (asked_by T me members search policy) ≡ true
        → IsAwaitedOrKept unanswered search other
    pub back : (other : NodeId) → IsAwaitedOrKept unanswered search other
        → has_node other (asked_by T me members search policy) ≡ true

  -- so it is of a recovery's search
  abbrev pub LevelIsAsked : Recovery → Option (List ℕ) → Type 0
  LevelIsAsked recovery pending = (search : Search) → still_on pending recovery.search ≡ Some search
      → list_any (is_of_search search.oid) recovery.unanswered ≡ true → search.again ≡ false
      → AskedSo recovery.me recovery.members recovery.unanswered search

  abbrev pub IsAsked : RecoveryState → Type 0
  IsAsked state = LevelIsAsked state.recovery state.shown.pending

  pub less_asked : (recovery : Recovery) (old new : Option (List ℕ)) → IsLessPending old new → LevelIsAsked recovery old
      → LevelIsAsked recovery new
  less_asked recovery old new less so search is any unagain =
      so search (still_less old new recovery.search search less is) any unagain

  -- where nothing is awaited of the search there is nothing to show
  none_awaited : (state : RecoveryState) (oid : ℕ) → list_any (is_of_search oid) state.recovery.unanswered ≡ false
      → ((search : Search) → search_on state ≡ Some search → search.oid ≡ oid) → IsAsked state
  none_awaited state oid none own search is any unagain =
      let same : list_any (is_of_search search.oid) state.recovery.unanswered ≡ false
      = ap (λ (k : ℕ). list_any (is_of_search k) state.recovery.unanswered) (own search is) ∙ none in
      absurd (cc (same, any))

  -- a level is over
  over_asked : (next : Search) (state : RecoveryState) → list_any (is_of_search next.oid) state.recovery.unanswered ≡ false
      → ((search : Search) → search_on state ≡ Some search → search.oid ≡ next.oid) → IsAsked (level_over next state)
  over_asked next state none own =
      judged_each IsAsked next state (none_awaited state next.oid none own) (λ index bytes search is. absurd (cc (is)))
      (λ search is. absurd (cc (is)))
      (λ level. none_awaited (record state { recovery = record state.recovery { search = Some (search_at next.oid level) } }) next.oid none
      (λ search is.
      ap (λ (s : Search). s.oid)
      (sym (same_Some (search_at next.oid level) search (is_on state.shown.pending (Some (search_at next.oid level)) search is).search))))

  -- a search goes on
  searching_asked : (next : Search) (state : RecoveryState) → ((search : Search) → search_on state ≡ Some search → search.oid ≡ next.oid)
      → (list_any (is_of_search next.oid) state.recovery.unanswered ≡ true → next.again ≡ false
      → AskedSo state.recovery.me state.recovery.members state.recovery.unanswered next)
      → IsAsked (searching next state)
  searching_asked next state own asked = by_any (list_any (is_of_search next.oid) state.recovery.unanswered) refl
    where
      by_any : (b : Bool) → list_any (is_of_search next.oid) state.recovery.unanswered ≡ b
          → IsAsked (cond b (record state { recovery = record state.recovery { search = Some next } }) (level_over next state))
      by_any true any = λ search is any_so unagain.
          let same : next ≡ search = same_Some next search (is_on state.shown.pending (Some next) search is).search in
          subst (AskedSo state.recovery.me state.recovery.members state.recovery.unanswered) same
          (asked any (ap (λ (s : Search). s.again) same ∙ unagain))
      by_any false none = over_asked next state none own

  -- ---- a recovery begins

  pub begun_asked : (epoch : ℕ) (members : List NodeId) (state : RecoveryState) → IsAsked (recovery_from_epoch epoch members state)
  unfolding recovery_from_epoch
  begun_asked epoch members state =
      let begun : RecoveryState = at_start epoch members state in
      cond_either IsAsked (is_listed begun.recovery) (record begun { shown = shown_with_pending (to_recover begun) begun.shown }) begun
      (λ search is. absurd (cc (is))) (λ search is. absurd (cc (is)))

  -- ---- it ticks

  module _ (first : ℕ) (state : RecoveryState) (may : can_tick state ≡ true) (waits : WaitsFirst state.recovery state.shown.pending)
      (knows : (oid : ℕ) (policy : Policy) → state.shown.policy_of oid ≡ Some policy → known oid ≡ Some policy)
      (places : (search : Search) → next_search state ≡ Some search
      → (search.level ≤ bound)
      × ((policy : Policy) → state.shown.targets search.level search.oid policy ≡ T search.level search.oid policy)) where
    abbrev sent : RecoveryState
    sent = with_messages (tick_messages first state) state

    -- what is unanswered then
    sent_alone : (messages : List Message) → tick_messages first state ≡ messages → sent.recovery.unanswered ≡ messages
    sent_alone messages is =
        ap (λ (old : List Message). old ++ tick_messages first state) (idle_before_tick state may) ∙ is

    module _ (search : Search) (next : next_search state ≡ Some search)
        (asks_level : tick_messages first state ≡ level_messages first state search) where
      fresh : search.answers ≡ []
      fresh = next_fresh state.recovery.epoch (first_in state.shown.pending) (search_on state) search next

      module _ (policy : Policy) (live : live_policy state.shown search.oid ≡ Some policy) where
        -- its messages go to those that the level is asked of
        pub level_awaited : (other : NodeId) → is_awaited_of search.oid sent.recovery.unanswered other
            ≡ has_node other (asked_by T state.recovery.me state.recovery.members search policy)
        level_awaited other =
            ap (λ (messages : List Message). is_awaited_of search.oid messages other)
            (sent_alone (level_asked first state search policy)
            (asks_level ∙ ap (λ (o : Option Policy). option_map_or (level_asked first state search) o []) live))
            ∙ awaited_each state.recovery first (wanted_of policy (kind_of search.oid)) search.oid (record { 0 = search.level }) other
            (asked_of state policy search)
            ∙ ap (λ (nodes : List NodeId). has_node other
            (filter (λ (node : NodeId). has_node node state.recovery.members && not (is_same_node state.recovery.me node)) nodes))
            ((places search next).1 policy)

      by_policy : (o : Option Policy) → live_policy state.shown search.oid ≡ o
          → list_any (is_of_search search.oid) sent.recovery.unanswered ≡ true
          → AskedSo sent.recovery.me sent.recovery.members sent.recovery.unanswered search
      by_policy None live any =
          let none : list_any (is_of_search search.oid) sent.recovery.unanswered ≡ false
          = ap (list_any (is_of_search search.oid))
          (sent_alone [] (asks_level ∙ ap (λ (o : Option Policy). option_map_or (level_asked first state search) o []) live)) in
          absurd (cc (none, any))
      by_policy (Some policy) live any = record {
        policy = policy;
        policy_so = knows search.oid policy (live_known state.shown search.oid policy live);
        within = (places search next).0;
        forth = λ other among. inl (level_awaited policy live other ∙ among);
        back = λ other either. ⊎_elim
            (λ (is : is_awaited_of search.oid sent.recovery.unanswered other ≡ true). sym (level_awaited policy live other) ∙ is)
            (λ (kept : has_kept_answer search.answers other ≡ true).
            (let none : has_kept_answer search.answers other ≡ false
            = ap (λ (answers : List RowAnswer). has_kept_answer answers other) fresh in
            absurd (cc (none, kept))))
            either;
      }

    -- the search that goes on is the next one's object
    own_next : (search : Search) → next_search state ≡ Some search → (on : Search) → search_on state ≡ Some on → on.oid ≡ search.oid
    own_next search next on is =
        let at : Some (search_at on.oid on.level) ≡ Some search
        = sym (ap (or_next state.recovery.epoch (first_in state.shown.pending)) is) ∙ next in
        ap (λ (s : Search). s.oid) (same_Some (search_at on.oid on.level) search at)

    pub ticked_asked : IsAsked (state_after_tick first state)
    unfolding state_after_tick tick_messages
    ticked_asked = by_list (is_listed state.recovery) refl
      where
        by_next : (o : Option Search) → next_search state ≡ o
            → tick_messages first state ≡ option_map_or (level_messages first state) o []
            → IsAsked (option_map_or (λ (search : Search). searching search sent) o sent)
        by_next None next asks_level = λ search is.
            let some : next_search state ≡ Some (search_at search.oid search.level)
            = ap (or_next state.recovery.epoch (first_in state.shown.pending)) is in
            absurd (cc (some, next))
        by_next (Some search) next asks_level =
            searching_asked search sent (own_next search next)
            (λ any unagain. by_policy search next asks_level (live_policy state.shown search.oid) refl any)

        by_list : (b : Bool) → is_listed state.recovery ≡ b
            → IsAsked (cond b (option_map_or (λ (search : Search). searching search sent) (next_search state) sent) sent)
        by_list true listed =
            by_next (next_search state) refl
            (ap (λ (b : Bool). cond b (option_map_or (level_messages first state) (next_search state) [])
            (lists_asked first state.recovery)) listed)
        by_list false unlisted = λ search is.
            let none : search_on state ≡ None = ap (still_on state.shown.pending) (waits unlisted).1 in
            absurd (cc (none, is))

  -- ---- a message of it ends

  module _ (number : ℕ) (said : Option PeerSay) (state : RecoveryState) (lists : AsksListsIn state)
      (waits : WaitsFirst state.recovery state.shown.pending) (apart : AreNumberedApart state.recovery.unanswered)
      (fits : (message : Message) → Contains state.recovery.unanswered message → message.request.number ≡ number → (oid : ℕ) (level : Epoch)
      → message.request.ask ≡ asks.RecoverRead oid level → IsRowSay said)
      (so : IsAsked state) where
    abbrev rest : RecoveryState
    rest = without_unanswered number state

    -- none of the search that goes on has ended
    rest_asked : ((search : Search) → search_on state ≡ Some search → (message : Message) → Contains state.recovery.unanswered message
        → message.request.number ≡ number → is_of_search search.oid message ≡ false) → IsAsked rest
    rest_asked others search is any unagain =
        let was : AskedSo state.recovery.me state.recovery.members state.recovery.unanswered search
        = so search is
        (sym (without_any number (is_of_search search.oid) state.recovery.unanswered (others search is)) ∙ any) unagain in
        record {
          policy = was.policy;
          policy_so = was.policy_so;
          within = was.within;
          forth = λ other among. ⊎_elim
              (λ (awaited : is_awaited_of search.oid state.recovery.unanswered other ≡ true). inl (same other ∙ awaited))
              (λ (kept : has_kept_answer search.answers other ≡ true). inr kept) (was.forth other among);
          back = λ other either. ⊎_elim
              (λ (awaited : is_awaited_of search.oid rest.recovery.unanswered other ≡ true).
              was.back other (inl (sym (same other) ∙ awaited)))
              (λ (kept : has_kept_answer search.answers other ≡ true). was.back other (inr kept)) either;
        }
      where
        same : (other : NodeId) → is_awaited_of search.oid rest.recovery.unanswered other
            ≡ is_awaited_of search.oid state.recovery.unanswered other
        same other =
            without_any number (λ message. is_of_search search.oid message && is_same_node other message.to) state.recovery.unanswered
            (λ message there own. ap (λ (b : Bool). b && is_same_node other message.to) (others search is message there own))

    module _ (message : Message) (there : Contains state.recovery.unanswered message) (own : message.request.number ≡ number) where
      -- one of another kind or object has ended
      other_asked : ((search : Search) → search_on state ≡ Some search → is_of_search search.oid message ≡ false) → IsAsked rest
      other_asked not_so =
          rest_asked (λ search is other among number_so.
          ap (is_of_search search.oid) (apart other message among there (number_so ∙ sym own)) ∙ not_so search is)

      list_asked : message.request.ask ≡ asks.List → (told : Option PeerSay) → IsAsked (after_list message.to told rest)
      list_asked is None = other_asked (λ search on. ap (is_read_of search.oid) is)
      list_asked is (Some says.Success) = other_asked (λ search on. ap (is_read_of search.oid) is)
      list_asked is (Some (says.Piece bytes)) = other_asked (λ search on. ap (is_read_of search.oid) is)
      list_asked is (Some (says.Objects oids)) =
          let gathered : RecoveryState
          = record rest { recovery = record rest.recovery { lists = gathered_with_answer message.to oids rest.recovery.lists } } in
          let none : state.recovery.search ≡ None = (waits (unlisted_at state lists message there is)).1 in
          cond_either IsAsked (is_listed gathered.recovery)
          (record gathered { shown = shown_with_pending (to_recover gathered) gathered.shown }) gathered
          (λ search on.
          (let no : still_on (Some (to_recover gathered)) state.recovery.search ≡ None = ap (still_on (Some (to_recover gathered))) none in
          absurd (cc (no, on))))
          (other_asked (λ search on. ap (is_read_of search.oid) is))
      list_asked is (Some (says.Row row)) = other_asked (λ search on. ap (is_read_of search.oid) is)
      list_asked is (Some says.NoRow) = other_asked (λ search on. ap (is_read_of search.oid) is)
      list_asked is (Some (says.Refused refusal)) = other_asked (λ search on. ap (is_read_of search.oid) is)

      module _ (one : Search) (on : search_on rest ≡ Some one) (level : Epoch)
          (asked : message.request.ask ≡ asks.RecoverRead one.oid level) where
        -- the message is of the search
        of_search : is_of_search one.oid message ≡ true
        of_search = ap (is_read_of one.oid) asked ∙ eq-eqb one.oid one.oid refl

        awaits : (other : NodeId) → is_same_node other message.to ≡ true → is_awaited_of one.oid state.recovery.unanswered other ≡ true
        awaits other same =
            there_any (λ m. is_of_search one.oid m && is_same_node other m.to) state.recovery.unanswered message there
            (ap (λ (b : Bool). b && is_same_node other message.to) of_search ∙ same)

        -- an answer more is kept, and a message less is awaited
        answered : (row : Option RowCopy) → one.again ≡ false
            → AskedSo rest.recovery.me rest.recovery.members rest.recovery.unanswered (with_answer message.to row one)
        answered row unagain =
            let was : AskedSo state.recovery.me state.recovery.members state.recovery.unanswered one
            = so one on (there_any (is_of_search one.oid) state.recovery.unanswered message there of_search) unagain in
            record {
              policy = was.policy;
              policy_so = was.policy_so;
              within = was.within;
              forth = λ other among. ⊎_elim
                  (λ (awaited : is_awaited_of one.oid state.recovery.unanswered other ≡ true). moved other awaited)
                  (λ (kept : has_kept_answer one.answers other ≡ true).
                  inr (joined other ∙ or_left (has_kept_answer one.answers other) (last other) kept))
                  (was.forth other among);
              back = λ other either. ⊎_elim
                  (λ (awaited : is_awaited_of one.oid rest.recovery.unanswered other ≡ true). was.back other
                  (inl (awaited_before other awaited)))
                  (λ (kept : has_kept_answer (one.answers ++ answer ∷ []) other ≡ true). ⊎_elim
                  (λ (old : has_kept_answer one.answers other ≡ true). was.back other (inr old))
                  (λ (new : last other ≡ true). was.back other (inl (awaits other (by_last other new))))
                  (or_cases (has_kept_answer one.answers other) (last other) (sym (joined other) ∙ kept)))
                  either;
            }
          where
            answer : RowAnswer
            answer = record { from = message.to; row = row }

            last : NodeId → Bool
            last other = has_kept_answer (answer ∷ []) other

            joined : (other : NodeId) → has_kept_answer (one.answers ++ answer ∷ []) other
                ≡ (has_kept_answer one.answers other || last other)
            joined other = list_any-append (λ (a : RowAnswer). is_same_node other a.from) one.answers (answer ∷ [])

            by_last : (other : NodeId) → last other ≡ true → is_same_node other message.to ≡ true
            by_last other is = ⊎_elim
                (λ (so : is_same_node other message.to ≡ true). so) (λ (no : false ≡ true). absurd (cc (no)))
                (or_cases (is_same_node other message.to) false is)

            awaited_before : (other : NodeId) → is_awaited_of one.oid rest.recovery.unanswered other ≡ true
                → is_awaited_of one.oid state.recovery.unanswered other ≡ true
            awaited_before other is =
                let (m, among, passes) = any_there (λ m. is_of_search one.oid m && is_same_node other m.to) rest.recovery.unanswered is in
                there_any (λ m. is_of_search one.oid m && is_same_node other m.to) state.recovery.unanswered m
                (filter-contains (λ (m : Message). not (has_number number m)) state.recovery.unanswered m among).0 passes

            moved : (other : NodeId) → is_awaited_of one.oid state.recovery.unanswered other ≡ true
                → IsAwaitedOrKept rest.recovery.unanswered (with_answer message.to row one) other
            moved other awaited =
                let (m, among, passes) = any_there (λ m. is_of_search one.oid m && is_same_node other m.to) state.recovery.unanswered
                awaited in
                by_number m among passes (m.request.number == number) refl
              where
                by_number : (m : Message) → Contains state.recovery.unanswered m
                    → (is_of_search one.oid m && is_same_node other m.to) ≡ true → (b : Bool) → (m.request.number == number) ≡ b
                    → IsAwaitedOrKept rest.recovery.unanswered (with_answer message.to row one) other
                by_number m among passes true is =
                    let same : m ≡ message = apart m message among there (eqb-true m.request.number number is ∙ sym own) in
                    let here : is_same_node other message.to ≡ true
                    = ap (λ (x : Message). is_same_node other x.to) (sym same)
                    ∙ (and_parts (is_of_search one.oid m) (is_same_node other m.to) passes).1 in
                    inr (joined other ∙ or_right (has_kept_answer one.answers other) (last other)
                    (or_left (is_same_node other message.to) false here))
                by_number m among passes false is =
                    inl (there_any (λ x. is_of_search one.oid x && is_same_node other x.to) rest.recovery.unanswered m
                    (stays_there number state.recovery.unanswered m among is) passes)

        by_told : (told : Option PeerSay) → IsRowSay told → (search_after_answer message.to told one).again ≡ false
            → AskedSo rest.recovery.me rest.recovery.members rest.recovery.unanswered (search_after_answer message.to told one)
        by_told None fit unagain = absurd (cc (unagain))
        by_told (Some says.Success) fit unagain = absurd fit
        by_told (Some (says.Piece bytes)) fit unagain = absurd fit
        by_told (Some (says.Objects oids)) fit unagain = absurd fit
        by_told (Some (says.Row row)) fit unagain = answered (Some row) unagain
        by_told (Some says.NoRow) fit unagain = answered None unagain
        by_told (Some (says.Refused refusal)) fit unagain = absurd (cc (unagain))

        next_asked : IsAsked (searching (search_after_answer message.to said one) rest)
        next_asked =
            searching_asked (search_after_answer message.to said one) rest
            (λ search is.
            ap (λ (s : Search). s.oid) (same_Some search one (sym is ∙ on)) ∙ sym (same_oid message.to said one))
            (λ any unagain. by_told said (fits message there own one.oid level asked) unagain)

      read_asked : (oid : ℕ) (level : Epoch) → message.request.ask ≡ asks.RecoverRead oid level
          → IsAsked (after_read oid message.to said (search_on rest) rest)
      read_asked oid level asked = by_search (search_on rest) refl
        where
          by_search : (o : Option Search) → search_on rest ≡ o → IsAsked (after_read oid message.to said o rest)
          by_search None none = λ search is. absurd (cc (none, is))
          by_search (Some one) on = by_object (one.oid == oid) refl
            where
              by_object : (b : Bool) → (one.oid == oid) ≡ b
                  → IsAsked (cond b (searching (search_after_answer message.to said one) rest) rest)
              by_object true same =
                  next_asked one on level
                  (asked ∙ ap (λ (k : ℕ). asks.RecoverRead k level) (sym (eqb-true one.oid oid same)))
              by_object false apart_so =
                  other_asked (λ search is.
                  ap (is_read_of search.oid) asked
                  ∙ other_number oid search.oid
                  (ap (λ (s : Search). s.oid == oid) (same_Some search one (sym is ∙ on)) ∙ apart_so))

      ask_asked : (ask : PeerAsk) → message.request.ask ≡ ask → IsAsked (after_ask ask message.to said rest)
      ask_asked (asks.Create key size offset bytes) is = other_asked (λ search on. ap (is_read_of search.oid) is)
      ask_asked (asks.Write key offset bytes) is = other_asked (λ search on. ap (is_read_of search.oid) is)
      ask_asked (asks.Read key offset size) is = other_asked (λ search on. ap (is_read_of search.oid) is)
      ask_asked asks.List is = list_asked is said
      ask_asked (asks.RecoverRead oid level) is = read_asked oid level is

    pub ended_asked : IsAsked (message_end number said state)
    ended_asked = by_message (message_of number state.recovery.unanswered) refl
      where
        by_message : (o : Option Message) → message_of number state.recovery.unanswered ≡ o → IsAsked (option_map_or
            (λ (message : Message). after_ask message.request.ask message.to said rest) o rest)
        by_message None none =
            rest_asked (λ search is message there own. absurd (none_numbered number state.recovery.unanswered none message there own))
        by_message (Some message) is =
            let (there, passes) = find-contains (has_number number) state.recovery.unanswered message is in
            ask_asked message there (eqb-true message.request.number number passes) message.request.ask refl
