-- What a tick, and the end of a message, make of a recovery's search: a level that ends with too few rows was told of by each node that was
-- asked.
use Rattle.std.proofs.Common.{◌≡◌, ◌⊎◌, inl, inr, ⊎_elim, ℕ, ◌≤◌, ◌-◌, ◌==◌, ◌&&◌, ◌||◌, Bool, true, false, cond, List, [], ◌∷◌, ◌++◌}
use Rattle.std.proofs.Common.{Contains, Option, Some, None, refl, sym, ap, subst, ◌∙◌}
use Rattle.std.specs.Option.{option_map_or}
use Rattle.std.specs.List.{list_any}
use Rattle.std.proofs.lemmas.Bool.{and_parts, eq-eqb, eqb-true, or_left, or_right}
use Rattle.std.proofs.lemmas.List.Folds.{list_any-append}
use Rattle.std.proofs.lemmas.Option.{same_Some}
use Rattle.proof_tools.proofs.Lists.{Contains-nil, find-contains}
use Rattle.object_id.specs.declared.node.Epoch.{Epoch}
use Rattle.object_id.specs.declared.node.NodeId.{NodeId}
use Rattle.object_id.specs.declared.policy.Policy.{Policy}
use Rattle.object_id.specs.Oid.{kind_of}
use Rattle.object_store.specs.declared.row.RowCopy.{RowCopy}
use Rattle.object_list.specs.Gathered.{is_same_node, has_node, gathered_with_answer}
use Rattle.peer_proto.specs.declared.ask.PeerAsk.{PeerAsk}
use Rattle.peer_proto.specs.declared.ask.PeerAsk.TheVariants as asks
use Rattle.peer_proto.specs.declared.say.PeerSay.{PeerSay}
use Rattle.peer_proto.specs.declared.say.PeerSay.TheVariants as says
use Rattle.peer_service.specs.Serve.{row_or_none}
use Rattle.recovery.specs.declared.search.RowAnswer.{RowAnswer}
use Rattle.recovery.specs.Level.{rows_found, are_enough, is_of_search, is_read_of, searching}
use Rattle.recovery.specs.Shown.{first_in, live_policy, shown_with_pending}
use Rattle.recovery.specs.State.{Message, Search, RecoveryState, search_at, still_on, search_on, is_listed, has_number, message_of}
use Rattle.recovery.specs.State.{can_tick}
use Rattle.recovery.specs.Steps.{to_recover, messages_without, without_unanswered, search_after_answer, after_list, after_read, after_ask}
use Rattle.recovery.specs.Steps.{message_end}
use Rattle.recovery.specs.Tick.{level_messages, lists_asked, or_next, next_search, tick_messages, with_messages, state_after_tick}
use Rattle.recovery.proofs.FoundLemmas.{live_known}
use Rattle.overlap_law.specs.Each.{Placing}
use Rattle.overlap_law.specs.Searches.{is_awaited_of, has_kept_answer}
use Rattle.overlap_law.proofs.AskedLevels.{AskedSo, IsAsked, level_awaited}
use Rattle.overlap_law.proofs.AskedMessages.{AreNumberedApart, IsRowSay, asked_by, there_any, any_there, stays_there, next_fresh}
use Rattle.overlap_law.proofs.FirstSearches.{WaitsFirst, is_on, unlisted_at}
use Rattle.overlap_law.proofs.FirstSearchesInRuns.{IsWithinLevels}
use Rattle.overlap_law.proofs.ListMessages.{AsksListsIn}
use Rattle.overlap_law.proofs.RecoveryViews.{next-is_pending}
use Rattle.overlap_law.proofs.SearchAnswers.{own_told}
use Rattle.overlap_law.proofs.EndedLevels.{IsOnAt, SearchesCome, HasFailed, nothing_comes, searching_comes}

module _ (T : Placing) (known : ℕ → Option Policy) (bound : ℕ) where
  -- ---- a tick

  module _ (first : ℕ) (state : RecoveryState) (may : can_tick state ≡ true) (waits : WaitsFirst state.recovery state.shown.pending)
      (knows : (oid : ℕ) (policy : Policy) → state.shown.policy_of oid ≡ Some policy → known oid ≡ Some policy)
      (places : (search : Search) → next_search state ≡ Some search
      → (search.level ≤ bound)
      × ((policy : Policy) → state.shown.targets search.level search.oid policy ≡ T search.level search.oid policy))
      (levels : (search : Search) → next_search state ≡ Some search → IsWithinLevels state.recovery.epoch search)
    where
      abbrev then_unanswered : List Message
      then_unanswered = state.recovery.unanswered ++ tick_messages first state

      module _ (search : Search) (next : next_search state ≡ Some search)
          (asks_level : tick_messages first state ≡ level_messages first state search) where
        fresh : search.answers ≡ []
        fresh = next_fresh state.recovery.epoch (first_in state.shown.pending) (search_on state) search next

        next_before : (o : Option Search) → search_on state ≡ o → (pending : Option ℕ)
            → or_next state.recovery.epoch pending o ≡ Some search
            → IsOnAt state search.oid search.level ⊎ (search.level ≡ state.recovery.epoch - 1)
        next_before (Some one) on pending is =
            let same : search_at one.oid one.level ≡ search = same_Some (search_at one.oid one.level) search is in
            inl (record {
              one = one;
              on = on;
              oid_so = ap (λ (s : Search). s.oid) same;
              level_so = ap (λ (s : Search). s.level) same;
            })
        next_before None on None is = absurd (cc (is))
        next_before None on (Some oid) is =
            inr (ap (λ (s : Search). s.level) (sym (same_Some (search_at oid (state.recovery.epoch - 1)) search is)))

        tick_fails : (policy : Policy) → live_policy state.shown search.oid ≡ Some policy
            → are_enough policy (kind_of search.oid) (rows_found (with_messages (tick_messages first state) state) policy search) ≡ false
            → search.again ≡ false → list_any (is_of_search search.oid) then_unanswered ≡ false → is_listed state.recovery ≡ true
            → HasFailed T known bound state 0 None search.oid search.level
        tick_fails policy live few unagain none listed = record {
          policy = policy;
          live = live;
          answers = search.answers;
          few = few;
          before = next_before (search_on state) refl (first_in state.shown.pending) next;
          levels = levels search next;
          listed = listed;
          pending = next-is_pending state search next;
          told = λ answer among. absurd (Contains-nil answer (subst (λ (answers : List RowAnswer). Contains answers answer) fresh among));
          all = λ other asked.
              (let awaited : is_awaited_of search.oid then_unanswered other ≡ true
              = level_awaited T known bound first state may waits knows places search next asks_level policy live other ∙ asked in
              let (message, there, passes) = any_there (λ m. is_of_search search.oid m && is_same_node other m.to) then_unanswered
              awaited in
              let some : list_any (is_of_search search.oid) then_unanswered ≡ true
              = there_any (is_of_search search.oid) then_unanswered message there
              (and_parts (is_of_search search.oid message) (is_same_node other message.to) passes).0 in
              absurd (cc (some, none)));
        }

      pub ticked_comes : SearchesCome T known bound state 0 None (state_after_tick first state).recovery
          (state_after_tick first state).shown.pending
      unfolding state_after_tick tick_messages
      ticked_comes = by_list (is_listed state.recovery) refl
        where
          Then : RecoveryState → Type 0
          Then new = SearchesCome T known bound state 0 None new.recovery new.shown.pending

          by_next : is_listed state.recovery ≡ true → (o : Option Search) → next_search state ≡ o
              → tick_messages first state ≡ option_map_or (level_messages first state) o []
              → Then (option_map_or (λ (search : Search). searching search (with_messages (tick_messages first state) state)) o
              (with_messages (tick_messages first state) state))
          by_next listed None next asks_level = nothing_comes T known bound state 0 None
          by_next listed (Some search) next asks_level =
              searching_comes T known bound state 0 None then_unanswered state.recovery.older search
              (next_before search next asks_level (search_on state) refl (first_in state.shown.pending) next)
              (λ policy live few unagain none. tick_fails search next asks_level policy live few unagain none listed)

          by_list : (b : Bool) → is_listed state.recovery ≡ b
              → Then (cond b
              (option_map_or (λ (search : Search). searching search (with_messages (tick_messages first state) state)) (next_search state)
              (with_messages (tick_messages first state) state))
              (with_messages (tick_messages first state) state))
          by_list true listed =
              by_next listed (next_search state) refl
              (ap (λ (b : Bool). cond b (option_map_or (level_messages first state) (next_search state) [])
              (lists_asked first state.recovery)) listed)
          by_list false unlisted = nothing_comes T known bound state 0 None

  -- ---- a message ends

  module _ (number : ℕ) (said : Option PeerSay) (state : RecoveryState) (lists : AsksListsIn state)
      (waits : WaitsFirst state.recovery state.shown.pending) (apart : AreNumberedApart state.recovery.unanswered)
      (knows : (oid : ℕ) (policy : Policy) → state.shown.policy_of oid ≡ Some policy → known oid ≡ Some policy)
      (fits : (message : Message) → Contains state.recovery.unanswered message → message.request.number ≡ number → (oid : ℕ) (level : Epoch)
      → message.request.ask ≡ asks.RecoverRead oid level → IsRowSay said)
      (levels : (search : Search) → search_on state ≡ Some search → IsWithinLevels state.recovery.epoch search)
      (so : IsAsked T known bound state) where
    abbrev rest : RecoveryState
    rest = without_unanswered number state

    abbrev left : List Message
    left = messages_without number state.recovery.unanswered

    abbrev EndComes : RecoveryState → Type 0
    EndComes new = SearchesCome T known bound state number said new.recovery new.shown.pending

    module _ (message : Message) (there : Contains state.recovery.unanswered message) (own : message.request.number ≡ number) where
      list_comes : message.request.ask ≡ asks.List → (told : Option PeerSay) → EndComes (after_list message.to told rest)
      list_comes is None = nothing_comes T known bound state number said
      list_comes is (Some says.Success) = nothing_comes T known bound state number said
      list_comes is (Some (says.Piece bytes)) = nothing_comes T known bound state number said
      list_comes is (Some (says.Objects oids)) = by_list (is_listed gathered.recovery)
        where
          gathered : RecoveryState
          gathered = record rest { recovery = record rest.recovery { lists = gathered_with_answer message.to oids rest.recovery.lists } }

          by_list : (b : Bool)
              → EndComes (cond b (record gathered { shown = shown_with_pending (to_recover gathered) gathered.shown }) gathered)
          by_list true = record {
            searched = λ search on.
                (let none : still_on (Some (to_recover gathered)) state.recovery.search ≡ None
                = ap (still_on (Some (to_recover gathered))) (waits (unlisted_at state lists message there is)).1 in
                absurd (cc (none, on)));
            missed = λ oid is_so. (inl is_so, refl);
          }
          by_list false =
              record { searched = (nothing_comes T known bound state number said).searched; missed = λ oid is_so. (inl is_so, refl) }
      list_comes is (Some (says.Row row)) = nothing_comes T known bound state number said
      list_comes is (Some says.NoRow) = nothing_comes T known bound state number said
      list_comes is (Some (says.Refused refusal)) = nothing_comes T known bound state number said

      module _ (one : Search) (on : search_on rest ≡ Some one) (level : Epoch)
          (asked : message.request.ask ≡ asks.RecoverRead one.oid level) where
        of_search : is_of_search one.oid message ≡ true
        of_search = ap (is_read_of one.oid) asked ∙ eq-eqb one.oid one.oid refl

        any_before : list_any (is_of_search one.oid) state.recovery.unanswered ≡ true
        any_before = there_any (is_of_search one.oid) state.recovery.unanswered message there of_search

        -- its list is finished
        listed_so : (b : Bool) → is_listed state.recovery ≡ b → b ≡ true
        listed_so true is = refl
        listed_so false unlisted =
            let no : search_on rest ≡ None = ap (still_on state.shown.pending) (waits unlisted).1 in
            absurd (cc (no, on))

        -- each that was asked has told
        all_told : (row : Option RowCopy) → one.again ≡ false → list_any (is_of_search one.oid) left ≡ false → (policy : Policy)
            → known one.oid ≡ Some policy → (other : NodeId)
            → has_node other (asked_by T state.recovery.me state.recovery.members (search_at one.oid one.level) policy) ≡ true
            → has_kept_answer (one.answers ++ record { from = message.to; row = row } ∷ []) other ≡ true
        all_told row unagain none policy policy_so other is = ⊎_elim
            (λ (awaited : is_awaited_of one.oid state.recovery.unanswered other ≡ true). by_message awaited)
            (λ (kept : has_kept_answer one.answers other ≡ true).
            joined ∙ or_left (has_kept_answer one.answers other) (has_kept_answer (answer ∷ []) other) kept)
            (was.forth other
            (subst (λ (p : Policy). has_node other (asked_by T state.recovery.me state.recovery.members (search_at one.oid one.level) p)
            ≡ true)
            (same_Some policy was.policy (sym policy_so ∙ was.policy_so)) is))
          where
            was : AskedSo T known bound state.recovery.me state.recovery.members state.recovery.unanswered one
            was = so one on any_before unagain

            answer : RowAnswer
            answer = record { from = message.to; row = row }

            joined : has_kept_answer (one.answers ++ answer ∷ []) other
                ≡ (has_kept_answer one.answers other || has_kept_answer (answer ∷ []) other)
            joined = list_any-append (λ (a : RowAnswer). is_same_node other a.from) one.answers (answer ∷ [])

            by_number : (m : Message) → Contains state.recovery.unanswered m
                → (is_of_search one.oid m && is_same_node other m.to) ≡ true → (b : Bool) → (m.request.number == number) ≡ b
                → has_kept_answer (one.answers ++ answer ∷ []) other ≡ true
            by_number m among passes true is_own =
                let same : m ≡ message = apart m message among there (eqb-true m.request.number number is_own ∙ sym own) in
                let here : is_same_node other message.to ≡ true
                = ap (λ (x : Message). is_same_node other x.to) (sym same)
                ∙ (and_parts (is_of_search one.oid m) (is_same_node other m.to) passes).1 in
                joined ∙ or_right (has_kept_answer one.answers other) (has_kept_answer (answer ∷ []) other)
                (or_left (is_same_node other message.to) false here)
            by_number m among passes false is_own =
                let some : list_any (is_of_search one.oid) left ≡ true
                = there_any (is_of_search one.oid) left m (stays_there number state.recovery.unanswered m among is_own)
                (and_parts (is_of_search one.oid m) (is_same_node other m.to) passes).0 in
                absurd (cc (some, none))

            by_message : is_awaited_of one.oid state.recovery.unanswered other ≡ true
                → has_kept_answer (one.answers ++ answer ∷ []) other ≡ true
            by_message awaited =
                let (m, among, passes) = any_there (λ x. is_of_search one.oid x && is_same_node other x.to) state.recovery.unanswered
                awaited in
                by_number m among passes (m.request.number == number) refl

        abbrev Answered : Option RowCopy → Type 0
        Answered row = said ≡ Some (row_or_none row)

        -- its level may fail by this answer
        answer_fails : (row : Option RowCopy) → Answered row → (next : Search)
            → next ≡ record one { answers = one.answers ++ record { from = message.to; row = row } ∷ [] }
            → (policy : Policy) → live_policy state.shown one.oid ≡ Some policy
            → are_enough policy (kind_of next.oid) (rows_found rest policy next) ≡ false → one.again ≡ false
            → list_any (is_of_search one.oid) left ≡ false → HasFailed T known bound state number said one.oid one.level
        answer_fails row is next next_so policy live few unagain none = record {
          policy = policy;
          live = live;
          answers = one.answers ++ record { from = message.to; row = row } ∷ [];
          few = ap (λ (s : Search). are_enough policy (kind_of s.oid) (rows_found rest policy s)) (sym next_so) ∙ few;
          before = inl (record { one = one; on = on; oid_so = refl; level_so = refl });
          levels = levels one on;
          listed = listed_so (is_listed state.recovery) refl;
          pending = (is_on state.shown.pending state.recovery.search one on).pending_so;
          told = λ answer among. (
            one,
            on,
            refl,
            refl,
            any_before,
            own_told number said state message there own level one asked row answer is among,
          );
          all = all_told row unagain none policy (knows one.oid policy (live_known state.shown one.oid policy live));
        }

        next_comes : (told : Option PeerSay) → said ≡ told → IsRowSay told
            → EndComes (searching (search_after_answer message.to told one) rest)
        next_comes None is fit =
            searching_comes T known bound state number said left (messages_without number state.recovery.older)
            (record one { again = true })
            (inl (record { one = one; on = on; oid_so = refl; level_so = refl })) (λ policy live few unagain none. absurd (cc (unagain)))
        next_comes (Some says.Success) is fit = absurd fit
        next_comes (Some (says.Piece bytes)) is fit = absurd fit
        next_comes (Some (says.Objects oids)) is fit = absurd fit
        next_comes (Some (says.Row row)) is fit =
            let next : Search = record one { answers = one.answers ++ record { from = message.to; row = Some row } ∷ [] } in
            searching_comes T known bound state number said left (messages_without number state.recovery.older) next
            (inl (record { one = one; on = on; oid_so = refl; level_so = refl })) (answer_fails (Some row) is next refl)
        next_comes (Some says.NoRow) is fit =
            let next : Search = record one { answers = one.answers ++ record { from = message.to; row = None } ∷ [] } in
            searching_comes T known bound state number said left (messages_without number state.recovery.older) next
            (inl (record { one = one; on = on; oid_so = refl; level_so = refl })) (answer_fails None is next refl)
        next_comes (Some (says.Refused refusal)) is fit =
            searching_comes T known bound state number said left (messages_without number state.recovery.older)
            (record one { again = true })
            (inl (record { one = one; on = on; oid_so = refl; level_so = refl })) (λ policy live few unagain none. absurd (cc (unagain)))

      read_comes : (oid : ℕ) (level : Epoch) → message.request.ask ≡ asks.RecoverRead oid level
          → EndComes (after_read oid message.to said (search_on rest) rest)
      read_comes oid level asked = by_search (search_on rest) refl
        where
          by_search : (o : Option Search) → search_on rest ≡ o → EndComes (after_read oid message.to said o rest)
          by_search None on = nothing_comes T known bound state number said
          by_search (Some one) on = by_object (one.oid == oid) refl
            where
              by_object : (b : Bool) → (one.oid == oid) ≡ b
                  → EndComes (cond b (searching (search_after_answer message.to said one) rest) rest)
              by_object true same =
                  let of : message.request.ask ≡ asks.RecoverRead one.oid level
                  = asked ∙ ap (λ (k : ℕ). asks.RecoverRead k level) (sym (eqb-true one.oid oid same)) in
                  next_comes one on level of said refl (fits message there own one.oid level of)
              by_object false other = nothing_comes T known bound state number said

      ask_comes : (ask : PeerAsk) → message.request.ask ≡ ask → EndComes (after_ask ask message.to said rest)
      ask_comes (asks.Create key size offset bytes) is = nothing_comes T known bound state number said
      ask_comes (asks.Write key offset bytes) is = nothing_comes T known bound state number said
      ask_comes (asks.Read key offset size) is = nothing_comes T known bound state number said
      ask_comes asks.List is = list_comes is said
      ask_comes (asks.RecoverRead oid level) is = read_comes oid level is

    pub ended_comes : SearchesCome T known bound state number said (message_end number said state).recovery
        (message_end number said state).shown.pending
    ended_comes = by_message (message_of number state.recovery.unanswered) refl
      where
        by_message : (o : Option Message) → message_of number state.recovery.unanswered ≡ o → EndComes (option_map_or
            (λ (message : Message). after_ask message.request.ask message.to said rest) o rest)
        by_message None is = nothing_comes T known bound state number said
        by_message (Some message) is =
            let (there, passes) = find-contains (has_number number) state.recovery.unanswered message is in
            ask_comes message there (eqb-true message.request.number number passes) message.request.ask refl
