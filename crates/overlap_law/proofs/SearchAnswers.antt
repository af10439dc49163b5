-- What an input makes of the answers that a search keeps: each was kept by the recovery's search of that object at that level, or came by
-- this reply.
use Rattle.std.proofs.Common.{◌≡◌, ◌⊎◌, inl, inr, ⊎_elim, ℕ, ◌-◌, ◌==◌, Bool, true, false, cond, List, [], ◌∷◌, ◌++◌, map, Contains, Option}
use Rattle.std.proofs.Common.{Some, None, refl, sym, ap, subst, ◌∙◌}
use Rattle.std.specs.Option.{option_map_or}
use Rattle.std.specs.List.{list_any}
use Rattle.std.proofs.lemmas.Bool.{eqb-true}
use Rattle.std.proofs.lemmas.List.Elements.{Contains-append_cases}
use Rattle.std.proofs.lemmas.Option.{same_Some}
use Rattle.proof_tools.proofs.Booleans.{cond_either}
use Rattle.proof_tools.proofs.Lists.{Contains-nil, Contains-cons_cases, find-contains}
use Rattle.object_id.specs.declared.entry.Entry.{Entry}
use Rattle.object_id.specs.declared.entry.Member.{Member}
use Rattle.object_id.specs.declared.node.Epoch.{Epoch}
use Rattle.object_id.specs.declared.node.NodeId.{NodeId}
use Rattle.object_store.specs.declared.row.RowCopy.{RowCopy}
use Rattle.object_list.specs.Gathered.{gathered_with_answer}
use Rattle.peer_proto.specs.declared.ask.PeerAsk.{PeerAsk}
use Rattle.peer_proto.specs.declared.ask.PeerAsk.TheVariants as asks
use Rattle.peer_proto.specs.declared.say.PeerRsp.{PeerRsp}
use Rattle.peer_proto.specs.declared.say.PeerSay.{PeerSay}
use Rattle.peer_proto.specs.declared.say.PeerSay.TheVariants as says
use Rattle.peer_service.specs.Serve.{row_or_none}
use Rattle.gateway.specs.State as gateways
use Rattle.recovery.specs.declared.search.RowAnswer.{RowAnswer}
use Rattle.recovery.specs.Level.{is_of_search, level_over, searching}
use Rattle.recovery.specs.Shown.{first_in, shown_with_pending}
use Rattle.recovery.specs.State.{Message, Search, Recovery, RecoveryState, search_at, is_listed, has_number, message_of, search_on}
use Rattle.recovery.specs.Steps as recovery_steps
use Rattle.recovery.specs.Steps.{to_recover, at_start, recovery_from_epoch, without_unanswered, after_list, after_read, after_ask}
use Rattle.recovery.specs.Steps.{message_end, search_after_answer}
use Rattle.recovery.specs.Tick.{or_next, next_search, tick_messages, with_messages, state_after_tick}
use Rattle.recovery.proofs.StepLemmas.{judged_each}
use Rattle.sheep_node.specs.declared.input.Input.{Input}
use Rattle.sheep_node.specs.declared.input.Input.TheVariants as inputs
use Rattle.sheep_node.specs.State.{Node}
use Rattle.sheep_node.specs.RecoveryView.{recovery_state_of}
use Rattle.sheep_node.specs.StepState.{StepState, at_first}
use Rattle.sheep_node.specs.LogReading.{epoch_members, node_with_entry, recovery_in_epoch, begins_recovery, entry_read, come_back_with}
use Rattle.sheep_node.specs.LogReading.{on_back}
use Rattle.sheep_node.specs.Step.{on_request, recovery_stepped, on_put, on_recover_tick}
use Rattle.sheep_node.specs.Changes.{input_received}
use Rattle.overlap_law.proofs.FirstSearches.{is_on}

-- an answer of a search comes from the recovery's search of that object at that level, which kept it, or to which it came so
pub record AnswerCame (H : Search → RowAnswer → Type 0) (old new : Recovery) (search : Search) (answer : RowAnswer) : Type 0 where
  pub epoch_so : new.epoch ≡ old.epoch
  pub one : Search
  pub was : old.search ≡ Some one
  pub oid_so : one.oid ≡ search.oid
  pub level_so : one.level ≡ search.level
  pub kept : Contains one.answers answer ⊎ H one answer

-- so do all that a recovery's search keeps
abbrev pub AnswersCame : (Search → RowAnswer → Type 0) → Recovery → Recovery → Type 0
AnswersCame H old new = (search : Search) → new.search ≡ Some search → (answer : RowAnswer) → Contains search.answers answer
    → AnswerCame H old new search answer

came_weaker : (H J : Search → RowAnswer → Type 0) → ((one : Search) (answer : RowAnswer) → H one answer → J one answer)
    → (old new : Recovery)
    → AnswersCame H old new → AnswersCame J old new
came_weaker H J weaker old new came search is answer among =
    let from = came search is answer among in
    record {
      epoch_so = from.epoch_so;
      one = from.one;
      was = from.was;
      oid_so = from.oid_so;
      level_so = from.level_so;
      kept = ⊎_elim (λ (kept : Contains from.one.answers answer). inl kept)
          (λ (heard : H from.one answer). inr (weaker from.one answer heard)) from.kept;
    }

-- an answer came by a reply of this number
pub record IsRowTold (number : ℕ) (said : Option PeerSay) (unanswered : List Message) (one : Search) (answer : RowAnswer) : Type 0 where
  pub message : Message
  pub there : Contains unanswered message
  pub number_so : message.request.number ≡ number
  pub level : Epoch
  pub asked : message.request.ask ≡ asks.RecoverRead one.oid level
  pub told : said ≡ Some (row_or_none answer.row)
  pub by : answer.from ≡ message.to

-- ---- steps of a recovery

module _ (H : Search → RowAnswer → Type 0) (old : Recovery) where
  abbrev CameTo : RecoveryState → Type 0
  CameTo new = AnswersCame H old new.recovery

  -- the recovery is of the same epoch, with the same search
  abbrev IsOf : RecoveryState → Type 0
  IsOf state = (state.recovery.search ≡ old.search) × (state.recovery.epoch ≡ old.epoch)

  as_it_was : (new : RecoveryState) → IsOf new → CameTo new
  as_it_was new of search is answer among =
      record { epoch_so = of.1; one = search; was = sym of.0 ∙ is; oid_so = refl; level_so = refl; kept = inl among }

  nothing_kept : (new : RecoveryState) (oid level : ℕ) → new.recovery.search ≡ Some (search_at oid level) → CameTo new
  nothing_kept new oid level at search is answer among =
      let same : search_at oid level ≡ search = same_Some (search_at oid level) search (sym at ∙ is) in
      absurd (Contains-nil answer (subst (λ (s : Search). Contains s.answers answer) (sym same) among))

  -- a level is over
  over_came : (next : Search) (state : RecoveryState) → IsOf state → CameTo (level_over next state)
  over_came next state of =
      judged_each CameTo next state (as_it_was state of) (λ index bytes search is. absurd (cc (is))) (λ search is. absurd (cc (is)))
      (λ level search is.
      nothing_kept (record state { recovery = record state.recovery { search = Some (search_at next.oid level) } }) next.oid level refl
      search is)

  -- it goes on, where the recovery was searching so
  goes_on_came : (next one : Search) (state : RecoveryState) → IsOf state → old.search ≡ Some one
      → next.oid ≡ one.oid → next.level ≡ one.level
      → ((answer : RowAnswer) → Contains next.answers answer → Contains one.answers answer ⊎ H one answer) → CameTo (searching next state)
  goes_on_came next one state of was oid level answers =
      cond_either CameTo (list_any (is_of_search next.oid) state.recovery.unanswered)
      (record state { recovery = record state.recovery { search = Some next } }) (level_over next state)
      (λ search is answer among.
      let now : next ≡ search = same_Some next search is in
      record {
        epoch_so = of.1;
        one = one;
        was = was;
        oid_so = sym oid ∙ ap (λ (s : Search). s.oid) now;
        level_so = sym level ∙ ap (λ (s : Search). s.level) now;
        kept = answers answer (subst (λ (s : Search). Contains s.answers answer) (sym now) among);
      })
      (over_came next state of)

  -- a level is asked, of which nothing is kept
  asked_came : (oid level : ℕ) (state : RecoveryState) → IsOf state → CameTo (searching (search_at oid level) state)
  asked_came oid level state of =
      cond_either CameTo (list_any (is_of_search oid) state.recovery.unanswered)
      (record state { recovery = record state.recovery { search = Some (search_at oid level) } }) (level_over (search_at oid level) state)
      (nothing_kept (record state { recovery = record state.recovery { search = Some (search_at oid level) } }) oid level refl)
      (over_came (search_at oid level) state of)

-- ---- a tick

ticked_came : (H : Search → RowAnswer → Type 0) (first : ℕ) (state : RecoveryState)
    → AnswersCame H state.recovery (state_after_tick first state).recovery
unfolding state_after_tick
ticked_came H first state =
    cond_either (CameTo H state.recovery) (is_listed state.recovery)
    (option_map_or (λ (search : Search). searching search sent) (next_search state) sent) sent (by_next (search_on state))
    (as_it_was H state.recovery sent (refl, refl))
  where
    sent : RecoveryState
    sent = with_messages (tick_messages first state) state

    by_first : (o : Option ℕ) → CameTo H state.recovery (option_map_or
        (λ (search : Search). searching search sent) (or_next state.recovery.epoch o None) sent)
    by_first None = as_it_was H state.recovery sent (refl, refl)
    by_first (Some oid) = asked_came H state.recovery oid (state.recovery.epoch - 1) sent (refl, refl)

    by_next : (o : Option Search) → CameTo H state.recovery (option_map_or
        (λ (search : Search). searching search sent) (or_next state.recovery.epoch (first_in state.shown.pending) o) sent)
    by_next None = by_first (first_in state.shown.pending)
    by_next (Some search) = asked_came H state.recovery search.oid search.level sent (refl, refl)

-- ---- a recovery begins

pub begun-none : (epoch : ℕ) (members : List NodeId) (state : RecoveryState)
    → (recovery_from_epoch epoch members state).recovery.search ≡ None
unfolding recovery_from_epoch
begun-none epoch members state =
    let begun : RecoveryState = at_start epoch members state in
    cond_either (λ (s : RecoveryState). s.recovery.search ≡ None) (is_listed begun.recovery)
    (record begun { shown = shown_with_pending (to_recover begun) begun.shown }) begun refl refl

-- who comes back searches nothing
pub back_none : (entries : List Entry) (node : Node) → (input_received (inputs.Back entries) (at_first node)).node.recovery.search ≡ None
unfolding on_back
back_none entries node =
    let back : Node = come_back_with entries node in
    begun-none back.peer.epoch (map (λ (member : Member). member.node) (epoch_members back)) (recovery_state_of back)

-- ---- a message ends

-- a search after an answer is of the same object at the same level
same_search : (from : NodeId) (said : Option PeerSay) (search : Search)
    → ((search_after_answer from said search).oid ≡ search.oid) × ((search_after_answer from said search).level ≡ search.level)
same_search from None search = (refl, refl)
same_search from (Some says.Success) search = (refl, refl)
same_search from (Some (says.Piece bytes)) search = (refl, refl)
same_search from (Some (says.Objects oids)) search = (refl, refl)
same_search from (Some (says.Row row)) search = (refl, refl)
same_search from (Some says.NoRow) search = (refl, refl)
same_search from (Some (says.Refused refusal)) search = (refl, refl)

module _ (number : ℕ) (said : Option PeerSay) (state : RecoveryState) where
  abbrev rest : RecoveryState
  rest = without_unanswered number state

  abbrev Told : Search → RowAnswer → Type 0
  Told one answer = IsRowTold number said state.recovery.unanswered one answer

  abbrev ToldTo : RecoveryState → Type 0
  ToldTo new = CameTo Told state.recovery new

  module _ (message : Message) (there : Contains state.recovery.unanswered message) (own : message.request.number ≡ number) where
    module _ (level : Epoch) (one : Search) (asked : message.request.ask ≡ asks.RecoverRead one.oid level) where
      -- the answer that this reply gave
      pub own_told : (row : Option RowCopy) (answer : RowAnswer) → said ≡ Some (row_or_none row)
          → Contains (one.answers ++ record { from = message.to; row = row } ∷ []) answer → Contains one.answers answer ⊎ Told one answer
      own_told row answer is among = ⊎_elim
          (λ (kept : Contains one.answers answer). inl kept)
          (λ (new : Contains (record { from = message.to; row = row } ∷ []) answer). ⊎_elim
          (λ (same : record { from = message.to; row = row } ≡ answer). inr (record {
            message = message;
            there = there;
            number_so = own;
            level = level;
            asked = asked;
            told = is ∙ ap (λ (a : RowAnswer). Some (row_or_none a.row)) same;
            by = ap (λ (a : RowAnswer). a.from) (sym same);
          }))
          (λ (none : Contains [] answer). absurd (Contains-nil answer none))
          (Contains-cons_cases (record { from = message.to; row = row }) [] answer new))
          (Contains-append_cases one.answers (record { from = message.to; row = row } ∷ []) answer among)

      answered : (told : Option PeerSay) → said ≡ told → (answer : RowAnswer)
          → Contains (search_after_answer message.to told one).answers answer → Contains one.answers answer ⊎ Told one answer
      answered None is answer among = inl among
      answered (Some says.Success) is answer among = inl among
      answered (Some (says.Piece bytes)) is answer among = inl among
      answered (Some (says.Objects oids)) is answer among = inl among
      answered (Some (says.Row row)) is answer among = own_told (Some row) answer is among
      answered (Some says.NoRow) is answer among = own_told None answer is among
      answered (Some (says.Refused refusal)) is answer among = inl among

      next_came : state.recovery.search ≡ Some one → ToldTo (searching (search_after_answer message.to said one) rest)
      next_came was =
          let same = same_search message.to said one in
          goes_on_came Told state.recovery (search_after_answer message.to said one) one rest (refl, refl) was same.0 same.1
          (answered said refl)

    read_came : (oid : ℕ) (level : Epoch) → message.request.ask ≡ asks.RecoverRead oid level
        → ToldTo (after_read oid message.to said (search_on rest) rest)
    read_came oid level asked = by_search (search_on rest) refl
      where
        by_search : (o : Option Search) → search_on rest ≡ o → ToldTo (after_read oid message.to said o rest)
        by_search None on = as_it_was Told state.recovery rest (refl, refl)
        by_search (Some one) on = by_object (one.oid == oid) refl
          where
            by_object : (b : Bool) → (one.oid == oid) ≡ b
                → ToldTo (cond b (searching (search_after_answer message.to said one) rest) rest)
            by_object true same =
                let of : message.request.ask ≡ asks.RecoverRead one.oid level
                = asked ∙ ap (λ (k : ℕ). asks.RecoverRead k level) (sym (eqb-true one.oid oid same)) in
                next_came level one of (is_on state.shown.pending state.recovery.search one on).search
            by_object false other = as_it_was Told state.recovery rest (refl, refl)

    list_came : (told : Option PeerSay) → ToldTo (after_list message.to told rest)
    list_came None = as_it_was Told state.recovery rest (refl, refl)
    list_came (Some says.Success) = as_it_was Told state.recovery rest (refl, refl)
    list_came (Some (says.Piece bytes)) = as_it_was Told state.recovery rest (refl, refl)
    list_came (Some (says.Objects oids)) =
        let gathered : RecoveryState
        = record rest { recovery = record rest.recovery { lists = gathered_with_answer message.to oids rest.recovery.lists } } in
        cond_either ToldTo (is_listed gathered.recovery)
        (record gathered { shown = shown_with_pending (to_recover gathered) gathered.shown })
        gathered
        (as_it_was Told state.recovery (record gathered { shown = shown_with_pending (to_recover gathered) gathered.shown }) (refl, refl))
        (as_it_was Told state.recovery gathered (refl, refl))
    list_came (Some (says.Row row)) = as_it_was Told state.recovery rest (refl, refl)
    list_came (Some says.NoRow) = as_it_was Told state.recovery rest (refl, refl)
    list_came (Some (says.Refused refusal)) = as_it_was Told state.recovery rest (refl, refl)

    ask_came : (ask : PeerAsk) → message.request.ask ≡ ask → ToldTo (after_ask ask message.to said rest)
    ask_came (asks.Create key size offset bytes) is = as_it_was Told state.recovery rest (refl, refl)
    ask_came (asks.Write key offset bytes) is = as_it_was Told state.recovery rest (refl, refl)
    ask_came (asks.Read key offset size) is = as_it_was Told state.recovery rest (refl, refl)
    ask_came asks.List is = list_came said
    ask_came (asks.RecoverRead oid level) is = read_came oid level is

  ended_came : ToldTo (message_end number said state)
  ended_came = by_message (message_of number state.recovery.unanswered) refl
    where
      by_message : (o : Option Message) → message_of number state.recovery.unanswered ≡ o → ToldTo (option_map_or
          (λ (message : Message). after_ask message.request.ask message.to said rest) o rest)
      by_message None is = as_it_was Told state.recovery rest (refl, refl)
      by_message (Some message) is =
          let (there, own) = find-contains (has_number number) state.recovery.unanswered message is in
          ask_came message there (eqb-true message.request.number number own) message.request.ask refl

-- ---- each input

-- an answer came by the reply that is the input
pub record IsRowHeard (input : Input) (unanswered : List Message) (one : Search) (answer : RowAnswer) : Type 0 where
  pub message : Message
  pub there : Contains unanswered message
  pub rsp : PeerRsp
  pub from : input ≡ inputs.Reply rsp
  pub number_so : message.request.number ≡ rsp.number
  pub level : Epoch
  pub asked : message.request.ask ≡ asks.RecoverRead one.oid level
  pub told : rsp.say ≡ row_or_none answer.row
  pub by : answer.from ≡ message.to

abbrev pub AnswersReceived : Input → Node → Recovery → Type 0
AnswersReceived input node new = AnswersCame (IsRowHeard input node.recovery.unanswered) node.recovery new

kept_so : (input : Input) (node : Node) → AnswersReceived input node node.recovery
kept_so input node search is answer among =
    record { epoch_so = refl; one = search; was = is; oid_so = refl; level_so = refl; kept = inl among }

none_now : (input : Input) (node : Node) (new : Recovery) → new.search ≡ None → AnswersReceived input node new
none_now input node new none search is answer among =
    let both : ◌≡◌ {A = Option Search} None (Some search) = sym none ∙ is in absurd (cc (both))

heard_of : (rsp : PeerRsp) (node : Node) (one : Search) (answer : RowAnswer)
    → IsRowTold rsp.number (Some rsp.say) node.recovery.unanswered one answer
    → IsRowHeard (inputs.Reply rsp) node.recovery.unanswered one answer
heard_of rsp node one answer told = record {
  message = told.message;
  there = told.there;
  rsp = rsp;
  from = refl;
  number_so = told.number_so;
  level = told.level;
  asked = told.asked;
  told = same_Some rsp.say (row_or_none answer.row) told.told;
  by = told.by;
}

-- of a loss none comes
none_lost : (number : ℕ) (node : Node) (one : Search) (answer : RowAnswer) → IsRowTold number None node.recovery.unanswered one answer
    → IsRowHeard (inputs.Lost number) node.recovery.unanswered one answer
none_lost number node one answer told = let is = told.told in absurd (cc (is))

read_came-entry : (entry : Entry) (node : Node) → AnswersReceived (inputs.LogEntry entry) node (entry_read entry node).recovery
unfolding entry_read
read_came-entry entry node =
    let entered : Node = node_with_entry entry node in
    cond_either (λ (state : RecoveryState). AnswersReceived (inputs.LogEntry entry) node state.recovery) (begins_recovery entry node)
    (recovery_in_epoch entered) (recovery_state_of entered)
    (none_now (inputs.LogEntry entry) node (recovery_in_epoch entered).recovery
    (begun-none entered.peer.epoch (map (λ (member : Member). member.node) (epoch_members entered)) (recovery_state_of entered)))
    (kept_so (inputs.LogEntry entry) node)

pub answers_received : (input : Input) (node : Node) → AnswersReceived input node (input_received input (at_first node)).node.recovery
unfolding on_request on_recover_tick recovery_steps.recovery_on_reply recovery_steps.recovery_on_loss on_back
answers_received (inputs.Guest req session ask) node = kept_so (inputs.Guest req session ask) node
answers_received (inputs.Request request) node = kept_so (inputs.Request request) node
answers_received (inputs.Reply rsp) node =
    cond_either (λ (so_far : StepState). AnswersReceived (inputs.Reply rsp) node so_far.node.recovery)
    (gateways.gateway_awaits rsp.number node.gateway) (at_first node)
    (recovery_stepped (message_end rsp.number (Some rsp.say) (recovery_state_of node)) (at_first node))
    (kept_so (inputs.Reply rsp) node)
    (came_weaker (IsRowTold rsp.number (Some rsp.say) node.recovery.unanswered) (IsRowHeard (inputs.Reply rsp) node.recovery.unanswered)
    (heard_of rsp node) node.recovery (message_end rsp.number (Some rsp.say) (recovery_state_of node)).recovery
    (ended_came rsp.number (Some rsp.say) (recovery_state_of node)))
answers_received (inputs.Lost number) node =
    cond_either (λ (so_far : StepState). AnswersReceived (inputs.Lost number) node so_far.node.recovery)
    (gateways.gateway_awaits number node.gateway) (at_first node)
    (recovery_stepped (message_end number None (recovery_state_of node)) (at_first node))
    (kept_so (inputs.Lost number) node)
    (came_weaker (IsRowTold number None node.recovery.unanswered) (IsRowHeard (inputs.Lost number) node.recovery.unanswered)
    (none_lost number node) node.recovery (message_end number None (recovery_state_of node)).recovery
    (ended_came number None (recovery_state_of node)))
answers_received (inputs.LogEntry entry) node = read_came-entry entry node
answers_received inputs.Put node = by_outbox node.outbox
  where
    by_outbox : (outbox : List Entry) → AnswersReceived inputs.Put node (on_put outbox (at_first node)).node.recovery
    by_outbox [] = kept_so inputs.Put node
    by_outbox (entry ∷ later) = kept_so inputs.Put node
answers_received inputs.RecoverTick node =
    ticked_came (IsRowHeard inputs.RecoverTick node.recovery.unanswered) node.sends (recovery_state_of node)
answers_received inputs.RetryTick node = kept_so inputs.RetryTick node
answers_received (inputs.Back entries) node =
    let back : Node = come_back_with entries node in
    none_now (inputs.Back entries) node (recovery_in_epoch back).recovery
    (begun-none back.peer.epoch (map (λ (member : Member). member.node) (epoch_members back)) (recovery_state_of back))
