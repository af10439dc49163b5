-- An object that is pending at a node, or of which the node has an open row, or which is missing, stays one of these over each input by
-- which the node begins no recovery and enters no epoch, if its id isn't dead then.
use Rattle.std.proofs.Common.{◌≡◌, ◌≢◌, ◌⊎◌, inl, inr, ⊎_elim, ℕ, ◌+◌, ◌==◌, ◌&&◌, ◌||◌, nat_le, nat_lt, not, Bool, true, false, cond, List}
use Rattle.std.proofs.Common.{[], ◌∷◌, length, filter, Contains, Option, Some, None, is_some, option_map, refl, sym, ap, subst, ◌∙◌}
use Rattle.std.specs.Option.{option_map_or}
use Rattle.std.specs.List.{list_any}
use Rattle.std.specs.FinMap as tree
use Rattle.std.proofs.lemmas.Bool.{cases_eq, eq-eqb, eqb-true, ne_eqb, or_cases, or_left, or_right}
use Rattle.std.proofs.lemmas.List.Folds.{list_any-append}
use Rattle.proof_tools.proofs.Booleans.{cond_either}
use Rattle.proof_tools.proofs.Lists.{find-contains}
use Rattle.object_id.specs.Fields.{zeros}
use Rattle.object_id.specs.Piece.{laid_over}
use Rattle.object_id.specs.declared.entry.Entry.{Entry}
use Rattle.object_id.specs.declared.node.Epoch.{Epoch}
use Rattle.object_id.specs.declared.node.NodeId.{NodeId}
use Rattle.epoch_log.specs.Epochs.{begins_epoch, settled_of}
use Rattle.object_store.specs.declared.key.Key.{Key}
use Rattle.object_store.specs.Rows.{is_open, is_open_at, ended, created, changed, purged, has_ended_below}
use Rattle.object_store.specs.Store as stores
use Rattle.object_store.specs.Store.{AllRows, SeenRow, rows_of, open_row, write_in, write_at, each}
use Rattle.object_store.proofs.StoreLaws.{rows_of-insert_same, rows_of-insert_other, rows_of-each}
use Rattle.peer_proto.specs.declared.ask.PeerAsk.{PeerAsk}
use Rattle.peer_proto.specs.declared.ask.PeerAsk.TheVariants as asks
use Rattle.peer_proto.specs.declared.ask.PeerReq.{PeerReq}
use Rattle.peer_proto.specs.declared.say.PeerSay.{PeerSay}
use Rattle.peer_proto.specs.declared.say.Refusal.{Refusal}
use Rattle.peer_proto.specs.declared.say.Refusal.TheVariants as refusals
use Rattle.peer_service.specs.State.{Peer, is_waiting, is_dead_object, with_entry}
use Rattle.peer_service.specs.Epochs as peers
use Rattle.peer_service.specs.Epochs.{peer_settled_to}
use Rattle.peer_service.specs.Fence.{epoch_refusal}
use Rattle.peer_service.specs.LogReading.{kills_object, rows_but, without_objects, read_entry}
use Rattle.peer_service.specs.Serve as serve
use Rattle.peer_service.specs.Serve.{peer_refusal_step, peer_say_step, piece_or_refusal, peer_write_step, step_behind_fence, peer_step}
use Rattle.vnode_table.specs.Targets.{targets_in}
use Rattle.gateway.specs.State as gateways
use Rattle.recovery.specs.Level.{is_of_search, level_over, searching}
use Rattle.recovery.specs.Shown.{is_pending_object}
use Rattle.recovery.specs.State.{Message, Search, RecoveryState, is_listed, has_number, message_of, search_on}
use Rattle.recovery.specs.Steps as recovery_steps
use Rattle.recovery.specs.Steps.{to_recover, without_unanswered, search_after_answer, after_list, after_read, after_ask, message_end}
use Rattle.recovery.specs.Tick.{next_search, tick_messages, with_messages, state_after_tick}
use Rattle.recovery.proofs.StepLemmas.{judged_each}
use Rattle.sheep_node.specs.declared.input.Input.{Input}
use Rattle.sheep_node.specs.declared.input.Input.TheVariants as inputs
use Rattle.sheep_node.specs.LogReading.{is_epoch_member, epochs_with_entry, peer_with_entry, node_with_entry, begins_recovery}
use Rattle.sheep_node.specs.LogReading.{recovery_in_epoch, with_settled, entry_read}
use Rattle.sheep_node.specs.RecoveryView.{recovery_state_of, with_recovered_rows}
use Rattle.sheep_node.specs.State.{Node}
use Rattle.sheep_node.specs.Step.{on_request, recovery_stepped, on_put, on_recover_tick}
use Rattle.sheep_node.specs.StepState.{StepState, at_first}
use Rattle.sheep_node.specs.Changes.{input_received}
use Rattle.overlap_law.proofs.FirstSearches.{unlisted_at}
use Rattle.overlap_law.proofs.ListMessages.{AsksListsIn}
use Rattle.overlap_law.proofs.StoredRows.{with_write, write_step_on, write_step_if}

-- ---- lists

-- what passes stays where all that passes does
pub any_stays : {X : Type 0} (p q : X → Bool) (xs : List X) → ((x : X) → p x ≡ true → q x ≡ true) → list_any p xs ≡ true
    → list_any p (filter q xs) ≡ true
any_stays p q [] passes any = any
any_stays p q (x ∷ xs) passes any =
    by_test (q x) refl (or_cases (p x) (list_any p xs) any) (λ later. any_stays p q xs passes later)
  where
    by_test : (b : Bool) → q x ≡ b → (p x ≡ true) ⊎ (list_any p xs ≡ true) → (list_any p xs ≡ true → list_any p (filter q xs) ≡ true)
        → list_any p (cond b (x ∷ filter q xs) (filter q xs)) ≡ true
    by_test true is (inl here) rest = or_left (p x) (list_any p (filter q xs)) here
    by_test true is (inr later) rest = or_right (p x) (list_any p (filter q xs)) (rest later)
    by_test false is (inl here) rest = let so = passes x here in absurd (cc (so, is))
    by_test false is (inr later) rest = rest later

-- ---- open rows

abbrev pub HasOpen : List SeenRow → Type 0
HasOpen rows = list_any (λ (row : SeenRow). is_open row) rows ≡ true

created_open : (index epoch : ℕ) (bytes : List ℕ) (rows : List SeenRow) → HasOpen (created index epoch bytes rows)
created_open index epoch bytes rows =
    list_any-append (λ (row : SeenRow). is_open row) (ended epoch rows)
    (record { index = index; from = record { 0 = epoch }; to = None; bytes = bytes } ∷ [])
    ∙ or_right (list_any (λ (row : SeenRow). is_open row) (ended epoch rows)) true refl

changed_open : (test : SeenRow → Bool) (change : List ℕ → List ℕ) (rows : List SeenRow)
    → list_any (λ (row : SeenRow). is_open row) (changed test change rows) ≡ list_any (λ (row : SeenRow). is_open row) rows
changed_open test change [] = refl
changed_open test change (row ∷ rows) = by_test (test row) (changed_open test change rows)
  where
    by_test : (b : Bool)
        → list_any (λ (r : SeenRow). is_open r) (changed test change rows) ≡ list_any (λ (r : SeenRow). is_open r) rows
        → list_any (λ (r : SeenRow). is_open r) (cond b (record row { bytes = change row.bytes } ∷ rows) (row ∷ changed test change rows))
        ≡ (is_open row || list_any (λ (r : SeenRow). is_open r) rows)
    by_test true rest = refl
    by_test false rest = ap (λ (b : Bool). is_open row || b) rest

pub purged_open : (settled : ℕ) (rows : List SeenRow) → HasOpen rows → HasOpen (purged settled rows)
purged_open settled rows open_one =
    any_stays (λ (row : SeenRow). is_open row) (λ (row : SeenRow). not (has_ended_below settled row.to)) rows
    (λ row is. unended row.to is) open_one
  where
    unended : (to : Option Epoch) → not (is_some to) ≡ true → not (has_ended_below settled to) ≡ true
    unended None is = refl
    unended (Some last) is = absurd (cc (is))

-- ---- one of the three

module _ (oid : ℕ) where
  -- the object is pending, is there, or is missing
  abbrev pub IsSomewhere : Option (List ℕ) → AllRows → List ℕ → Type 0
  IsSomewhere pending rows missing =
      (is_pending_object oid pending ≡ true) ⊎ HasOpen (rows_of rows oid) ⊎ (list_any (λ other. other == oid) missing ≡ true)

  abbrev IsIn : RecoveryState → Type 0
  IsIn state = IsSomewhere state.shown.pending state.shown.rows state.recovery.missing

  -- another object is pending no more
  pending_else : (k : ℕ) (pending : Option (List ℕ)) → oid ≢ k → is_pending_object oid pending ≡ true
      → is_pending_object oid (option_map (filter (λ other. not (other == k))) pending) ≡ true
  pending_else k None apart is = absurd (cc (is))
  pending_else k (Some oids) apart is =
      any_stays (λ other. other == oid) (λ other. not (other == k)) oids
      (λ other same. ap not (ne_eqb other k (λ (own : other ≡ k). apart (sym (eqb-true other oid same) ∙ own)))) is

  -- a row of an object is made, which is pending no more
  made_there : (k index epoch : ℕ) (bytes : List ℕ) (pending : Option (List ℕ)) (rows : AllRows) (missing : List ℕ)
      → IsSomewhere pending rows missing
      → IsSomewhere (option_map (filter (λ other. not (other == k))) pending)
      (tree.insert rows k (created index epoch bytes (rows_of rows k))) missing
  made_there k index epoch bytes pending rows missing so = ⊎_elim
      (λ (own : oid ≡ k).
      inr (inl (subst (λ (q : ℕ). HasOpen (rows_of (tree.insert rows k (created index epoch bytes (rows_of rows k))) q)) (sym own)
      (subst HasOpen (sym (rows_of-insert_same rows k (created index epoch bytes (rows_of rows k))))
      (created_open index epoch bytes (rows_of rows k))))))
      (λ (apart : oid ≢ k). by_place apart so)
      (cases_eq oid k)
    where
      by_place : oid ≢ k → IsSomewhere pending rows missing
          → IsSomewhere (option_map (filter (λ other. not (other == k))) pending)
          (tree.insert rows k (created index epoch bytes (rows_of rows k))) missing
      by_place apart (inl is) = inl (pending_else k pending apart is)
      by_place apart (inr (inl is)) =
          inr (inl (subst HasOpen (sym (rows_of-insert_other rows k (created index epoch bytes (rows_of rows k)) oid apart)) is))
      by_place apart (inr (inr is)) = inr (inr is)

  -- an object is missing, and pending no more
  gone_missing : (k : ℕ) (pending : Option (List ℕ)) (rows : AllRows) (missing : List ℕ) → IsSomewhere pending rows missing
      → IsSomewhere (option_map (filter (λ other. not (other == k))) pending) rows (k ∷ missing)
  gone_missing k pending rows missing so = ⊎_elim
      (λ (own : oid ≡ k). inr (inr (or_left (k == oid) (list_any (λ other. other == oid) missing) (eq-eqb k oid (sym own)))))
      (λ (apart : oid ≢ k). by_place apart so)
      (cases_eq oid k)
    where
      by_place : oid ≢ k → IsSomewhere pending rows missing
          → IsSomewhere (option_map (filter (λ other. not (other == k))) pending) rows (k ∷ missing)
      by_place apart (inl is) = inl (pending_else k pending apart is)
      by_place apart (inr (inl is)) = inr (inl is)
      by_place apart (inr (inr is)) = inr (inr (or_right (k == oid) (list_any (λ other. other == oid) missing) is))

  -- ---- a recovery goes on

  over_there : (next : Search) (state : RecoveryState) → IsIn state → IsIn (level_over next state)
  over_there next state so =
      judged_each IsIn next state so
      (λ index bytes.
      made_there next.oid index state.shown.epoch (laid_over (zeros (length bytes)) 0 bytes) state.shown.pending state.shown.rows
      state.recovery.missing so)
      (gone_missing next.oid state.shown.pending state.shown.rows state.recovery.missing so) (λ level. so)

  searching_there : (next : Search) (state : RecoveryState) → IsIn state → IsIn (searching next state)
  searching_there next state so =
      cond_either IsIn (list_any (is_of_search next.oid) state.recovery.unanswered)
      (record state { recovery = record state.recovery { search = Some next } }) (level_over next state) so (over_there next state so)

  ticked_there : (first : ℕ) (state : RecoveryState) → IsIn state → IsIn (state_after_tick first state)
  unfolding state_after_tick
  ticked_there first state so =
      cond_either IsIn (is_listed state.recovery)
      (option_map_or (λ (search : Search). searching search (with_messages (tick_messages first state) state)) (next_search state)
      (with_messages (tick_messages first state) state))
      (with_messages (tick_messages first state) state) (by_next (next_search state)) so
    where
      by_next : (o : Option Search) → IsIn (option_map_or
          (λ (search : Search). searching search (with_messages (tick_messages first state) state)) o
          (with_messages (tick_messages first state) state))
      by_next None = so
      by_next (Some search) = searching_there search (with_messages (tick_messages first state) state) so

  module _ (number : ℕ) (said : Option PeerSay) (state : RecoveryState) (lists : AsksListsIn state)
      (listed : is_listed state.recovery ≡ true) (so : IsIn state) where
    abbrev rest : RecoveryState
    rest = without_unanswered number state

    -- no list is asked for any more
    list_there : (message : Message) → Contains state.recovery.unanswered message → message.request.ask ≡ asks.List
        → IsIn (after_list message.to said rest)
    list_there message there asked =
        let unlisted = unlisted_at state lists message there asked in
        absurd (cc (listed, unlisted))

    read_there : (k : ℕ) (from : NodeId) (o : Option Search) → IsIn (after_read k from said o rest)
    read_there k from None = so
    read_there k from (Some search) =
        cond_either IsIn (search.oid == k) (searching (search_after_answer from said search) rest) rest
        (searching_there (search_after_answer from said search) rest so) so

    ask_there : (message : Message) → Contains state.recovery.unanswered message → (ask : PeerAsk) → message.request.ask ≡ ask
        → IsIn (after_ask ask message.to said rest)
    ask_there message there (asks.Create key size offset bytes) is = so
    ask_there message there (asks.Write key offset bytes) is = so
    ask_there message there (asks.Read key offset size) is = so
    ask_there message there asks.List is = list_there message there is
    ask_there message there (asks.RecoverRead k level) is = read_there k message.to (search_on rest)

    ended_there : IsIn (message_end number said state)
    ended_there = by_message (message_of number state.recovery.unanswered) refl
      where
        by_message : (o : Option Message) → message_of number state.recovery.unanswered ≡ o → IsIn (option_map_or
            (λ (message : Message). after_ask message.request.ask message.to said rest) o rest)
        by_message None is = so
        by_message (Some message) is =
            ask_there message (find-contains (has_number number) state.recovery.unanswered message is).0 message.request.ask refl

  -- ---- a node

  abbrev pub IsSomewhereAt : Node → Type 0
  IsSomewhereAt node = IsSomewhere node.peer.pending node.peer.rows node.recovery.missing

  module _ (node : Node) (so : IsSomewhereAt node) where
    abbrev IsAfter : Peer → Type 0
    IsAfter peer = IsSomewhere peer.pending peer.rows node.recovery.missing

    -- a write leaves rows open
    written_there : (key : Key) (offset : ℕ) (bytes : List ℕ)
        → IsAfter (peer_write_step (write_at node.peer.rows key offset bytes) node.peer).peer
    written_there key offset bytes = by_row (open_row node.peer.rows key)
      where
        open_still : HasOpen (rows_of node.peer.rows oid) → HasOpen (rows_of (with_write key offset bytes node.peer.rows) oid)
        open_still is = ⊎_elim
            (λ (own : oid ≡ key.oid).
            subst (λ (q : ℕ). HasOpen (rows_of (with_write key offset bytes node.peer.rows) q)) (sym own)
            (subst HasOpen
            (sym (rows_of-insert_same node.peer.rows key.oid (write_in key.index offset bytes (rows_of node.peer.rows key.oid))))
            (changed_open (is_open_at key.index) (λ old. laid_over old offset bytes) (rows_of node.peer.rows key.oid)
            ∙ subst (λ (q : ℕ). HasOpen (rows_of node.peer.rows q)) own is)))
            (λ (apart : oid ≢ key.oid).
            subst HasOpen
            (sym (rows_of-insert_other node.peer.rows key.oid (write_in key.index offset bytes (rows_of node.peer.rows key.oid)) oid apart))
            is)
            (cases_eq oid key.oid)

        by_place : IsSomewhereAt node → IsSomewhere node.peer.pending (with_write key offset bytes node.peer.rows) node.recovery.missing
        by_place (inl is) = inl is
        by_place (inr (inl is)) = inr (inl (open_still is))
        by_place (inr (inr is)) = inr (inr is)

        by_end : (b : Bool) → IsAfter (write_step_if b key offset bytes node.peer).peer
        by_end true = by_place so
        by_end false = so

        by_row : (o : Option SeenRow) → IsAfter (write_step_on o key offset bytes node.peer).peer
        by_row None = so
        by_row (Some row) = by_end (nat_le (offset + length bytes) (length row.bytes))

    answered_there : (ask : PeerAsk) → IsAfter (serve.own_epoch_step ask node.peer).peer
    unfolding serve.own_epoch_step
    answered_there (asks.Create key size offset bytes) =
        made_there key.oid key.index node.peer.epoch (laid_over (zeros size) offset bytes) node.peer.pending node.peer.rows
        node.recovery.missing so
    answered_there (asks.Write key offset bytes) =
        cond_either (λ (step : serve.PeerStep). IsAfter step.peer) (is_waiting node.peer key.oid)
        (peer_refusal_step refusals.Recovery node.peer) (peer_write_step (write_at node.peer.rows key offset bytes) node.peer) so
        (written_there key offset bytes)
    answered_there (asks.Read key offset size) =
        cond_either (λ (step : serve.PeerStep). IsAfter step.peer) (is_waiting node.peer key.oid)
        (peer_refusal_step refusals.Recovery node.peer)
        (peer_say_step (piece_or_refusal (stores.read_at node.peer.rows key offset size)) node.peer) so so
    answered_there asks.List = so
    answered_there (asks.RecoverRead k level) = so

    served_there : (request : PeerReq) → IsAfter (peer_step node.peer request).peer
    unfolding peer_step
    served_there request = by_fence (epoch_refusal node.peer.epoch request.epoch.0)
      where
        by_fence : (refusal : Option Refusal) → IsAfter (step_behind_fence refusal request.ask node.peer).peer
        by_fence None = answered_there request.ask
        by_fence (Some refusal) = so

    -- ---- an entry is read

    module _ (entry : Entry) (quiet : begins_epoch entry ≡ false) (alive : is_dead_object (with_entry entry node.peer) oid ≡ false) where
      stays : kills_object entry node.peer oid ≡ false
      stays = ap (λ (b : Bool). b && not (is_dead_object node.peer oid)) alive

      base_there : IsAfter (read_entry entry node.peer)
      unfolding read_entry without_objects
      base_there = by_place so
        where
          same_rows : rows_of (each (rows_but (kills_object entry node.peer)) node.peer.rows) oid ≡ rows_of node.peer.rows oid
          same_rows =
              rows_of-each (rows_but (kills_object entry node.peer)) node.peer.rows oid
              (cond_either (λ (rows : List SeenRow). rows ≡ []) (kills_object entry node.peer oid) [] [] refl refl)
              ∙ ap (λ (b : Bool). cond b [] (rows_of node.peer.rows oid)) stays

          still_pending : (pending : Option (List ℕ)) → is_pending_object oid pending ≡ true
              → is_pending_object oid (option_map (filter (λ k. not (kills_object entry node.peer k))) pending) ≡ true
          still_pending None is = absurd (cc (is))
          still_pending (Some oids) is =
              any_stays (λ other. other == oid) (λ k. not (kills_object entry node.peer k)) oids
              (λ other same. ap (λ (k : ℕ). not (kills_object entry node.peer k)) (eqb-true other oid same) ∙ ap not stays) is

          by_place : IsSomewhereAt node
              → IsSomewhere (option_map (filter (λ k. not (kills_object entry node.peer k))) node.peer.pending)
              (each (rows_but (kills_object entry node.peer)) node.peer.rows) node.recovery.missing
          by_place (inl is) = inl (still_pending node.peer.pending is)
          by_place (inr (inl is)) = inr (inl (subst HasOpen (sym same_rows) is))
          by_place (inr (inr is)) = inr (inr is)

      entered_there : IsAfter (peer_with_entry entry node)
      entered_there =
          subst (λ (b : Bool). IsAfter (cond b
          (peers.peer_in_next_epoch node.me (targets_in (epochs_with_entry entry node)) (read_entry entry node.peer))
          (read_entry entry node.peer))) (sym quiet) base_there

      settled_there : (settled : ℕ) (peer : Peer) → IsAfter peer → IsAfter (with_settled settled peer)
      unfolding peer_settled_to
      settled_there settled peer is =
          cond_either IsAfter (nat_lt peer.settled settled) (peer_settled_to settled peer) peer (by_place is) is
        where
          same_rows : rows_of (each (λ (k : ℕ). purged settled) peer.rows) oid ≡ purged settled (rows_of peer.rows oid)
          same_rows = rows_of-each (λ (k : ℕ). purged settled) peer.rows oid refl

          by_place : IsAfter peer → IsSomewhere peer.pending (each (λ (k : ℕ). purged settled) peer.rows) node.recovery.missing
          by_place (inl pending) = inl pending
          by_place (inr (inl open_one)) = inr (inl (subst HasOpen (sym same_rows) (purged_open settled (rows_of peer.rows oid) open_one)))
          by_place (inr (inr missing)) = inr (inr missing)

      read_there_so : IsSomewhereAt (entry_read entry node)
      unfolding entry_read
      read_there_so =
          let no_recovery : begins_recovery entry node ≡ false
          = ap (λ (b : Bool). b && is_epoch_member (node_with_entry entry node)) quiet in
          subst (λ (b : Bool). IsSomewhere
          (with_settled (settled_of (read_entry entry node.peer).entries)
          (with_recovered_rows (cond b (recovery_in_epoch (node_with_entry entry node)) (recovery_state_of (node_with_entry entry node)))
          (peer_with_entry entry node))).pending
          (with_settled (settled_of (read_entry entry node.peer).entries)
          (with_recovered_rows (cond b (recovery_in_epoch (node_with_entry entry node)) (recovery_state_of (node_with_entry entry node)))
          (peer_with_entry entry node))).rows
          (cond b (recovery_in_epoch (node_with_entry entry node)) (recovery_state_of (node_with_entry entry node))).recovery.missing)
          (sym no_recovery)
          (settled_there (settled_of (read_entry entry node.peer).entries)
          (with_recovered_rows (recovery_state_of (node_with_entry entry node)) (peer_with_entry entry node)) entered_there)

    -- ---- each input

    pub received_there : (lists : AsksListsIn (recovery_state_of node)) → is_listed node.recovery ≡ true → (input : Input)
        → ((entry : Entry) → input ≡ inputs.LogEntry entry
        → (begins_epoch entry ≡ false) × (is_dead_object (with_entry entry node.peer) oid ≡ false))
        → ((entries : List Entry) → input ≡ inputs.Back entries → ⊥)
        → IsSomewhereAt (input_received input (at_first node)).node
    unfolding on_request on_recover_tick recovery_steps.recovery_on_reply recovery_steps.recovery_on_loss
    received_there lists listed (inputs.Guest req session ask) reads back = so
    received_there lists listed (inputs.Request request) reads back = served_there request
    received_there lists listed (inputs.Reply rsp) reads back =
        cond_either (λ (so_far : StepState). IsSomewhereAt so_far.node) (gateways.gateway_awaits rsp.number node.gateway) (at_first node)
        (recovery_stepped (message_end rsp.number (Some rsp.say) (recovery_state_of node)) (at_first node)) so
        (ended_there rsp.number (Some rsp.say) (recovery_state_of node) lists listed so)
    received_there lists listed (inputs.Lost number) reads back =
        cond_either (λ (so_far : StepState). IsSomewhereAt so_far.node) (gateways.gateway_awaits number node.gateway) (at_first node)
        (recovery_stepped (message_end number None (recovery_state_of node)) (at_first node)) so
        (ended_there number None (recovery_state_of node) lists listed so)
    received_there lists listed (inputs.LogEntry entry) reads back =
        read_there_so entry (reads entry refl).0 (reads entry refl).1
    received_there lists listed inputs.Put reads back = by_outbox node.outbox
      where
        by_outbox : (outbox : List Entry) → IsSomewhereAt (on_put outbox (at_first node)).node
        by_outbox [] = so
        by_outbox (entry ∷ later) = so
    received_there lists listed inputs.RecoverTick reads back = ticked_there node.sends (recovery_state_of node) so
    received_there lists listed inputs.RetryTick reads back = so
    received_there lists listed (inputs.Back entries) reads back = absurd (back entries refl)
