-- What is kept of each row by itself, in whichever way a node's store changes it, is kept by each step of the node. Of a row that a
-- recovery finds it is said from which rows it was made.
use Rattle.std.proofs.Common.{◌≡◌, ◌≢◌, ⊎_elim, arith, ℕ, ◌+◌, ◌-◌, ◌==◌, nat_eq, nat_le, nat_lt, Bool, true, false, not, cond, ◌&&◌, List, [], ◌∷◌, ◌++◌, length, map, filter, drop, Option, Some, None, zero-add, append-nil, refl, sym, ap, subst, ◌∙◌}
use Rattle.std.specs.List.{AllByRecursion, list_any}
use Rattle.std.specs.Option.{option_map_or}
use Rattle.std.specs.FinMap as tree
use Rattle.std.proofs.lemmas.Bool.{cases_eq, eqb-true, leb-true}
use Rattle.std.proofs.lemmas.List.{drop-replicate}
use Rattle.std.proofs.lemmas.Option.{same_Some}
use Rattle.proof_tools.proofs.Booleans.{cond_either}
use Rattle.object_id.specs.declared.entry.Entry.{Entry}
use Rattle.object_id.specs.declared.entry.Member.{Member}
use Rattle.object_id.specs.declared.node.NodeId.{NodeId}
use Rattle.object_id.specs.declared.policy.Policy.{Policy}
use Rattle.object_id.specs.Fields.{zeros}
use Rattle.object_id.specs.Oid.{kind_of}
use Rattle.object_id.specs.Piece.{laid_over}
use Rattle.epoch_log.specs.Epochs.{begins_epoch, epoch_of, settled_of}
use Rattle.object_store.specs.declared.key.Key.{Key}
use Rattle.object_store.specs.Rows.{has_ended_below, is_open, is_open_at, closed, closed_all, is_replaced, ended, created, purged}
use Rattle.object_store.specs.Store as stores
use Rattle.object_store.specs.Store.{AllRows, SeenRow, rows_of, open_row, on_open, write_in, write_at, create_in}
use Rattle.object_store.proofs.StoreLaws.{rows_of-insert_same, rows_of-insert_other, rows_of-each}
use Rattle.peer_proto.specs.declared.ask.PeerAsk.{PeerAsk}
use Rattle.peer_proto.specs.declared.ask.PeerAsk.TheVariants as asks
use Rattle.peer_proto.specs.declared.ask.PeerReq.{PeerReq}
use Rattle.peer_proto.specs.declared.say.PeerSay.{PeerSay}
use Rattle.peer_proto.specs.declared.say.PeerSay.TheVariants as says
use Rattle.peer_proto.specs.declared.say.Refusal.{Refusal}
use Rattle.peer_proto.specs.declared.say.Refusal.TheVariants as refusals
use Rattle.object_list.specs.Gathered.{gathered_with_answer}
use Rattle.peer_service.specs.State.{Peer, is_waiting, is_dead_object}
use Rattle.peer_service.specs.Epochs as peers
use Rattle.peer_service.specs.Epochs.{stays_open, row_entering, peer_settled_to}
use Rattle.peer_service.specs.Fence.{epoch_refusal}
use Rattle.peer_service.specs.LogReading.{kills_object, without_objects, read_entry}
use Rattle.peer_service.specs.Back.{closed_at_end, come_back}
use Rattle.peer_service.specs.Serve as serve
use Rattle.peer_service.specs.Serve.{peer_refusal_step, peer_say_step, piece_or_refusal, peer_write_step, step_behind_fence, peer_step}
use Rattle.peer_service.proofs.EpochLemmas.{entered_rows, read_rows, back_rows}
use Rattle.vnode_table.specs.Targets.{targets_in}
use Rattle.gateway.specs.State as gateways
use Rattle.recovery.specs.Shown.{live_policy, first_in, is_pending_object, shown_with_pending}
use Rattle.recovery.specs.State.{Message, Search, Recovery, RecoveryState, search_at, search_on, is_listed, message_of}
use Rattle.recovery.specs.Level.{are_enough, with_part_found, with_object_missing, to_ask, one_lower, level_without_part, own_index, own_part, rows_found, level_over_by, level_over, is_of_search, searching}
use Rattle.recovery.specs.Steps as recovery_steps
use Rattle.recovery.specs.Steps.{to_recover, when_listed, without_unanswered, search_after_answer, after_list, after_read, after_ask, message_end}
use Rattle.recovery.specs.Tick.{or_next, next_search, tick_messages, with_messages, state_after_tick}
use Rattle.sheep_node.specs.declared.input.Input.{Input}
use Rattle.sheep_node.specs.declared.input.Input.TheVariants as inputs
use Rattle.sheep_node.specs.State.{Node}
use Rattle.sheep_node.specs.RecoveryView.{shown_node, recovery_state_of, with_recovered_rows}
use Rattle.sheep_node.specs.StepState.{StepState, at_first}
use Rattle.sheep_node.specs.LogReading.{epoch_members, epochs_with_entry, peer_with_entry, node_with_entry, recovery_in_epoch, begins_recovery, recovery_with_entry, entry_read, come_back_with, on_back}
use Rattle.sheep_node.specs.Step.{on_request, recovery_stepped, on_put, on_recover_tick, node_step}
use Rattle.sheep_node.specs.Changes.{input_received}
use Rattle.sheep_node.proofs.StepResults.{step_peer}
use Rattle.overlap_law.proofs.RecoveryViews.{begun-rows, next-is_pending}
use Rattle.overlap_law.proofs.RowLists.{all_mapped, all_filtered, all_pushed, all_changed}
use Rattle.overlap_law.proofs.StoredRows.{write_step_on, write_step_if}
use Rattle.overlap_law.proofs.RowKeeping.{TellsOf, MayFind, on_pending, same_object, KeepsEachRow, RowsSo, PeerRowsSo}

-- R says something of a row, with its node's epoch and its object, and Q of what a search was told
module _ (Q : Search → Type 0) (R : ℕ → ℕ → SeenRow → Type 0) (node : Node) where
  abbrev now : ℕ
  now = node.peer.epoch

  -- a state of the recovery that sees the node as it is
  abbrev at : Recovery → RecoveryState
  at recovery = record { recovery = recovery; shown = shown_node node }

  -- the rows of one object are put
  put_so : (epoch oid : ℕ) (rows : AllRows) (new : List SeenRow) → RowsSo Q R node epoch rows → AllByRecursion (R epoch oid) new
      → RowsSo Q R node epoch (tree.insert rows oid new)
  put_so epoch oid rows new are is q = ⊎_elim
      (λ (own : q ≡ oid).
      subst (λ (k : ℕ). AllByRecursion (R epoch k) (rows_of (tree.insert rows oid new) k)) (sym own)
      (subst (AllByRecursion (R epoch oid)) (sym (rows_of-insert_same rows oid new)) is))
      (λ (other : q ≢ oid). subst (AllByRecursion (R epoch q)) (sym (rows_of-insert_other rows oid new q other)) (are q))
      (cases_eq q oid)

  module _ (input : Input) (keeps : KeepsEachRow Q R node input) (are : PeerRowsSo Q R node node.peer) where
    -- ---- a row is made

    ended_so : (oid : ℕ) (rows : List SeenRow) → AllByRecursion (R now oid) rows → AllByRecursion (R now oid) (ended now rows)
    ended_so oid [] all = tt
    ended_so oid (row ∷ rows) all = by_test (is_replaced now row) refl (ended_so oid rows all.1)
      where
        left : List SeenRow
        left = filter (λ (row : SeenRow). not (is_replaced now row)) rows

        shut : is_replaced now row ≡ false → (b : Bool) → is_open row ≡ b
            → R now oid (cond b (record row { to = Some (record { 0 = now - 1 }) }) row)
        shut other true unshut =
            keeps.ended oid row unshut (ap (λ (b : Bool). b && nat_eq row.from.0 now) (sym unshut) ∙ other) all.0
        shut other false closed = all.0

        by_test : (b : Bool) → is_replaced now row ≡ b → AllByRecursion (R now oid) (closed_all (now - 1) left)
            → AllByRecursion (R now oid) (closed_all (now - 1) (cond (not b) (row ∷ left) left))
        by_test true goes rest = rest
        by_test false other rest = (shut other (is_open row) refl, rest)

    created_so : (oid index : ℕ) (bytes : List ℕ) (rows : List SeenRow) → AllByRecursion (R now oid) rows
        → R now oid (record { index = index; from = record { 0 = now }; to = None; bytes = bytes })
        → AllByRecursion (R now oid) (created index now bytes rows)
    created_so oid index bytes rows all new =
        all_pushed (R now oid) (ended now rows) (record { index = index; from = record { 0 = now }; to = None; bytes = bytes })
        (ended_so oid rows all) new

    -- ---- a request is served

    written_so : (request : PeerReq) → input ≡ inputs.Request request → epoch_refusal now request.epoch.0 ≡ None → (key : Key)
        (offset : ℕ) (bytes : List ℕ) → request.ask ≡ asks.Write key offset bytes
        → PeerRowsSo Q R node (peer_write_step (write_at node.peer.rows key offset bytes) node.peer).peer
    written_so request comes own key offset bytes is = by_row (open_row node.peer.rows key) refl
      where
        by_row : (o : Option SeenRow) → open_row node.peer.rows key ≡ o
            → PeerRowsSo Q R node (write_step_on o key offset bytes node.peer).peer
        by_row None on = are
        by_row (Some row) on = by_end (nat_le (offset + length bytes) (length row.bytes)) refl
          where
            by_end : (b : Bool) → nat_le (offset + length bytes) (length row.bytes) ≡ b
                → PeerRowsSo Q R node (write_step_if b key offset bytes node.peer).peer
            by_end true inside =
                put_so now key.oid node.peer.rows (write_in key.index offset bytes (rows_of node.peer.rows key.oid)) are
                (all_changed (R now key.oid) (is_open_at key.index) (λ (held : List ℕ). laid_over held offset bytes) row
                (λ unshut had.
                keeps.written request key offset bytes row comes is own on unshut
                (leb-true (offset + length bytes) (length row.bytes) inside) had)
                (rows_of node.peer.rows key.oid) on (are key.oid))
            by_end false outside = are

    answered_so : (request : PeerReq) → input ≡ inputs.Request request → epoch_refusal now request.epoch.0 ≡ None
        → (ask : PeerAsk) → request.ask ≡ ask → PeerRowsSo Q R node (serve.own_epoch_step ask node.peer).peer
    unfolding serve.own_epoch_step
    answered_so request comes own (asks.Create key size offset bytes) is =
        put_so now key.oid node.peer.rows (create_in key.index now size offset bytes (rows_of node.peer.rows key.oid)) are
        (created_so key.oid key.index (laid_over (zeros size) offset bytes) (rows_of node.peer.rows key.oid) (are key.oid)
        (keeps.created request key size offset bytes comes is own))
    answered_so request comes own (asks.Write key offset bytes) is =
        cond_either (λ (step : serve.PeerStep). PeerRowsSo Q R node step.peer) (is_waiting node.peer key.oid)
        (peer_refusal_step refusals.Recovery node.peer) (peer_write_step (write_at node.peer.rows key offset bytes) node.peer) are
        (written_so request comes own key offset bytes is)
    answered_so request comes own (asks.Read key offset size) is =
        cond_either (λ (step : serve.PeerStep). PeerRowsSo Q R node step.peer) (is_waiting node.peer key.oid)
        (peer_refusal_step refusals.Recovery node.peer)
        (peer_say_step (piece_or_refusal (stores.read_at node.peer.rows key offset size)) node.peer) are are
    answered_so request comes own asks.List is = are
    answered_so request comes own (asks.RecoverRead oid level) is = are

    served_so : (request : PeerReq) → input ≡ inputs.Request request → PeerRowsSo Q R node (peer_step node.peer request).peer
    unfolding peer_step
    served_so request comes = by_fence (epoch_refusal now request.epoch.0) refl
      where
        by_fence : (refusal : Option Refusal) → epoch_refusal now request.epoch.0 ≡ refusal
            → PeerRowsSo Q R node (step_behind_fence refusal request.ask node.peer).peer
        by_fence None own = answered_so request comes own request.ask refl
        by_fence (Some refusal) own = are

    -- ---- the recovery goes on

    abbrev StateSo : RecoveryState → Type 0
    StateSo state = RowsSo Q R node now state.shown.rows

    -- bytes laid over as many zeros are these bytes
    over_zeros : (bytes : List ℕ) → laid_over (zeros (length bytes)) 0 bytes ≡ bytes
    over_zeros bytes =
        ap (λ (k : ℕ). bytes ++ drop k (zeros (length bytes))) (zero-add (length bytes))
        ∙ ap (λ (rest : List ℕ). bytes ++ rest) (drop-replicate (length bytes) (length bytes) 0)
        ∙ ap (λ (k : ℕ). bytes ++ zeros k) (let none : length bytes - length bytes ≡ 0 = omega arith in none)
        ∙ append-nil bytes

    -- the recovery's own, but for its messages and its search
    record IsOwn (recovery : Recovery) : Type 0 where
      me : recovery.me ≡ node.recovery.me
      epoch : recovery.epoch ≡ node.recovery.epoch

    level_so : MayFind input → (recovery : Recovery) → IsOwn recovery → (search : Search) → Q search
        → is_pending_object search.oid node.peer.pending ≡ true → StateSo (level_over search (at recovery))
    unfolding level_over
    level_so may recovery own search told pending = by_policy (live_policy (shown_node node) search.oid) refl
      where
        lower : StateSo (one_lower search (at recovery))
        lower =
            cond_either StateSo (nat_lt (search.level - 1) node.peer.settled) (with_object_missing search.oid (at recovery))
            (to_ask search.oid (search.level - 1) (at recovery)) are are

        by_policy : (o : Option Policy) → live_policy (shown_node node) search.oid ≡ o
            → StateSo (option_map_or
            (λ (policy : Policy). level_over_by policy search (rows_found (at recovery) policy search) (at recovery)) o (at recovery))
        by_policy None live = are
        by_policy (Some policy) live = by_count (are_enough policy (kind_of search.oid) (rows_found (at recovery) policy search)) refl
          where
            bytes : List ℕ
            bytes = own_part policy search (rows_found (at recovery) policy search) (at recovery)

            index : ℕ
            index = own_index policy search (at recovery)

            by_count : (b : Bool) → are_enough policy (kind_of search.oid) (rows_found (at recovery) policy search) ≡ b
                → StateSo (cond b (with_part_found search.oid index bytes (at recovery)) (level_without_part search (at recovery)))
            by_count true enough =
                put_so now search.oid node.peer.rows (create_in index now (length bytes) 0 bytes (rows_of node.peer.rows search.oid)) are
                (created_so search.oid index (laid_over (zeros (length bytes)) 0 bytes) (rows_of node.peer.rows search.oid) (are search.oid)
                (subst (λ (held : List ℕ). R now search.oid (record { index = index; from = record { 0 = now }; to = None; bytes = held }))
                (sym (over_zeros bytes)) (keeps.found may recovery own.me own.epoch search policy told live pending enough)))
            by_count false few =
                cond_either StateSo search.again (to_ask search.oid search.level (at recovery)) (one_lower search (at recovery)) are lower

    searching_so : MayFind input → (recovery : Recovery) → IsOwn recovery → (search : Search) → Q search
        → is_pending_object search.oid node.peer.pending ≡ true → StateSo (searching search (at recovery))
    searching_so may recovery own search told pending =
        cond_either StateSo (list_any (is_of_search search.oid) recovery.unanswered)
        (record (at recovery) { recovery = record recovery { search = Some search } }) (level_over search (at recovery)) are
        (level_so may recovery own search told pending)

    abbrev state : RecoveryState
    state = recovery_state_of node

    -- a tick begins with a search that was told nothing
    next_anew : (first : Option ℕ) (on : Option Search) → search_on state ≡ on → (search : Search)
        → or_next node.recovery.epoch first on ≡ Some search → Q search
    next_anew first (Some one) is search next = subst Q (same_Some (search_at one.oid one.level) search next) (keeps.anew one is)
    next_anew None None is search next = absurd (cc (next))
    next_anew (Some oid) None is search next =
        subst Q (same_Some (search_at oid (node.recovery.epoch - 1)) search next) (keeps.first oid)

    ticked_so : MayFind input → PeerRowsSo Q R node (on_recover_tick (at_first node)).node.peer
    unfolding on_recover_tick state_after_tick
    ticked_so may =
        cond_either StateSo (is_listed node.recovery)
        (option_map_or (λ (search : Search). searching search sent) (next_search state) sent) sent (by_search (next_search state) refl) are
      where
        sent : RecoveryState
        sent = with_messages (tick_messages node.sends state) state

        by_search : (o : Option Search) → next_search state ≡ o
            → StateSo (option_map_or (λ (search : Search). searching search sent) o sent)
        by_search None next = are
        by_search (Some search) next =
            searching_so may sent.recovery (record { me = refl; epoch = refl }) search
            (next_anew (first_in node.peer.pending) (search_on state) refl search next)
            (next-is_pending state search next)

    module _ (may : MayFind input) (number : ℕ) (said : Option PeerSay) (tells : TellsOf input number said) where
      abbrev let_go : RecoveryState
      let_go = without_unanswered number state

      after_list_so : (from : NodeId) (said : Option PeerSay) → StateSo (after_list from said let_go)
      after_list_so from None = are
      after_list_so from (Some says.Success) = are
      after_list_so from (Some (says.Piece bytes)) = are
      after_list_so from (Some (says.Objects oids)) =
          let named : RecoveryState
          = record let_go { recovery = record let_go.recovery { lists = gathered_with_answer from oids let_go.recovery.lists } } in
          cond_either StateSo (is_listed named.recovery) (record named { shown = shown_with_pending (to_recover named) named.shown }) named
          are are
      after_list_so from (Some (says.Row row)) = are
      after_list_so from (Some says.NoRow) = are
      after_list_so from (Some (says.Refused refusal)) = are

      after_ask_so : (message : Message) → message_of number node.recovery.unanswered ≡ Some message → (ask : PeerAsk)
          → message.request.ask ≡ ask → StateSo (after_ask ask message.to said let_go)
      after_ask_so message sent (asks.Create key size offset bytes) is = are
      after_ask_so message sent (asks.Write key offset bytes) is = are
      after_ask_so message sent (asks.Read key offset size) is = are
      after_ask_so message sent asks.List is = after_list_so message.to said
      after_ask_so message sent (asks.RecoverRead oid level) is = by_search (search_on state) refl
        where
          by_search : (o : Option Search) → search_on state ≡ o → StateSo (after_read oid message.to said o let_go)
          by_search None on = are
          by_search (Some search) on = by_object (search.oid == oid) refl
            where
              next : Search
              next = search_after_answer message.to said search

              by_object : (b : Bool) → (search.oid == oid) ≡ b → StateSo (cond b (searching next let_go) let_go)
              by_object true same =
                  searching_so may let_go.recovery (record { me = refl; epoch = refl }) next
                  (keeps.answered number said tells message sent oid level is search on (eqb-true search.oid oid same))
                  (ap (λ (k : ℕ). is_pending_object k node.peer.pending) (same_object message.to said search)
                  ∙ on_pending node.peer.pending node.recovery.search search on)
              by_object false other = are

      message_so : PeerRowsSo Q R node (recovery_stepped (message_end number said state) (at_first node)).node.peer
      message_so = by_message (message_of number node.recovery.unanswered) refl
        where
          by_message : (o : Option Message) → message_of number node.recovery.unanswered ≡ o
              → StateSo (option_map_or (λ (message : Message). after_ask message.request.ask message.to said let_go) o let_go)
          by_message None sent = are
          by_message (Some message) sent = after_ask_so message sent message.request.ask refl

    -- ---- an entry is read

    module _ (entry : Entry) (comes : input ≡ inputs.LogEntry entry) where
      base_so : PeerRowsSo Q R node (read_entry entry node.peer)
      unfolding read_entry without_objects
      base_so oid =
          subst (AllByRecursion (R now oid)) (sym (read_rows entry node.peer oid))
          (cond_either (AllByRecursion (R now oid)) (kills_object entry node.peer oid) [] (rows_of node.peer.rows oid) tt (are oid))

      abbrev next : Peer
      next = peers.peer_in_next_epoch node.me (targets_in (epochs_with_entry entry node)) (read_entry entry node.peer)

      next_so : begins_epoch entry ≡ true → PeerRowsSo Q R node next
      unfolding read_entry without_objects peers.peer_in_next_epoch
      next_so begins oid =
          let targets = targets_in (epochs_with_entry entry node) in
          let read : Peer = read_entry entry node.peer in
          subst (AllByRecursion (R (now + 1) oid)) (sym (entered_rows node.me targets read oid))
          (all_mapped (R now oid) (R (now + 1) oid) (row_entering node.me targets read oid) (λ row had. one row had) (rows_of read.rows oid)
          (base_so oid))
        where
          one : (row : SeenRow) → R now oid row
              → R (now + 1) oid (row_entering node.me (targets_in (epochs_with_entry entry node)) (read_entry entry node.peer) oid row)
          one row had =
              by_test (stays_open node.me (targets_in (epochs_with_entry entry node)) (read_entry entry node.peer) oid row.index) refl
            where
              by_test : (b : Bool)
                  → stays_open node.me (targets_in (epochs_with_entry entry node)) (read_entry entry node.peer) oid row.index ≡ b
                  → R (now + 1) oid (cond b row (closed now row))
              by_test true open_still = keeps.stays entry comes begins oid row open_still had
              by_test false ends = keeps.shut entry comes begins oid row had

      entered_so : PeerRowsSo Q R node (peer_with_entry entry node)
      entered_so = by_entry (begins_epoch entry) refl
        where
          by_entry : (b : Bool) → begins_epoch entry ≡ b → PeerRowsSo Q R node (cond b next (read_entry entry node.peer))
          by_entry true begins = next_so begins
          by_entry false goes_on = base_so

      recovering_so : RowsSo Q R node (peer_with_entry entry node).epoch (recovery_with_entry entry node).shown.rows
      recovering_so =
          let new : Node = node_with_entry entry node in
          let epoch : ℕ = (peer_with_entry entry node).epoch in
          cond_either (λ (at : RecoveryState). RowsSo Q R node epoch at.shown.rows) (begins_recovery entry node) (recovery_in_epoch new)
          (recovery_state_of new)
          (subst (RowsSo Q R node epoch)
          (sym (begun-rows new.peer.epoch (map (λ (member : Member). member.node) (epoch_members new)) (recovery_state_of new)))
          entered_so)
          entered_so

      entry_so : PeerRowsSo Q R node (entry_read entry node).peer
      unfolding entry_read peer_settled_to
      entry_so =
          let last : ℕ = settled_of (read_entry entry node.peer).entries in
          let peer : Peer = with_recovered_rows (recovery_with_entry entry node) (peer_with_entry entry node) in
          cond_either (PeerRowsSo Q R node) (nat_lt peer.settled last) (peer_settled_to last peer) peer
          (λ oid.
          subst (AllByRecursion (R peer.epoch oid)) (sym (rows_of-each (λ (oid : ℕ). purged last) peer.rows oid refl))
          (all_filtered (R peer.epoch oid) (λ (row : SeenRow). not (has_ended_below last row.to)) (rows_of peer.rows oid)
          (recovering_so oid)))
          recovering_so

    -- ---- the node comes back

    back_so : (entries : List Entry) → input ≡ inputs.Back entries → PeerRowsSo Q R node (on_back entries node).peer
    unfolding on_back come_back without_objects peer_settled_to closed_at_end
    back_so entries comes oid =
        let back : Node = come_back_with entries node in
        subst (λ (rows : AllRows). AllByRecursion (R (epoch_of entries) oid) (rows_of rows oid))
        (sym (begun-rows back.peer.epoch (map (λ (member : Member). member.node) (epoch_members back)) (recovery_state_of back)))
        (subst (AllByRecursion (R (epoch_of entries) oid)) (sym (back_rows entries node.peer oid))
        (cond_either (AllByRecursion (R (epoch_of entries) oid)) (is_dead_object (come_back entries node.peer) oid) []
        (purged (settled_of entries) (closed_all now (rows_of node.peer.rows oid))) tt
        (all_filtered (R (epoch_of entries) oid) (λ (row : SeenRow). not (has_ended_below (settled_of entries) row.to))
        (closed_all now (rows_of node.peer.rows oid))
        (all_mapped (R now oid) (R (epoch_of entries) oid) (closed now) (λ row had. keeps.returned entries comes oid row had)
        (rows_of node.peer.rows oid) (are oid)))))

    -- ---- each step

    received_so : (at : Input) → input ≡ at → PeerRowsSo Q R node (input_received at (at_first node)).node.peer
    unfolding on_request recovery_steps.recovery_on_reply recovery_steps.recovery_on_loss
    received_so (inputs.Guest req session ask) comes = are
    received_so (inputs.Request request) comes = served_so request comes
    received_so (inputs.Reply rsp) comes =
        cond_either (λ (start : StepState). PeerRowsSo Q R node start.node.peer) (gateways.gateway_awaits rsp.number node.gateway)
        (at_first node)
        (recovery_stepped (recovery_steps.recovery_on_reply rsp state) (at_first node)) are
        (message_so (subst MayFind (sym comes) tt) rsp.number (Some rsp.say)
        (subst (λ (i : Input). TellsOf i rsp.number (Some rsp.say)) (sym comes) (refl, refl)))
    received_so (inputs.Lost number) comes =
        cond_either (λ (start : StepState). PeerRowsSo Q R node start.node.peer) (gateways.gateway_awaits number node.gateway)
        (at_first node)
        (recovery_stepped (recovery_steps.recovery_on_loss number state) (at_first node)) are
        (message_so (subst MayFind (sym comes) tt) number None (subst (λ (i : Input). TellsOf i number None) (sym comes) (refl, refl)))
    received_so (inputs.LogEntry entry) comes = entry_so entry comes
    received_so inputs.Put comes = by_outbox node.outbox
      where
        by_outbox : (outbox : List Entry) → PeerRowsSo Q R node (on_put outbox (at_first node)).node.peer
        by_outbox [] = are
        by_outbox (entry ∷ later) = are
    received_so inputs.RecoverTick comes = ticked_so (subst MayFind (sym comes) tt)
    received_so inputs.RetryTick comes = are
    received_so (inputs.Back entries) comes = back_so entries comes

    pub step-each_row : PeerRowsSo Q R node (node_step input node).node.peer
    step-each_row = subst (PeerRowsSo Q R node) (sym (step_peer input node)) (received_so input refl)
