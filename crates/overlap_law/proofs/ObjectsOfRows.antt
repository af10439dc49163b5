-- The objects that a node has rows of, has still to recover, was named or searches are among some, if those that it is asked to create, and
-- that it is named, are.
use Rattle.std.proofs.Common.{◌≡◌, ℕ, ◌+◌, ◌-◌, ◌==◌, nat_lt, nat_le, Bool, true, false, not, cond, List, [], ◌∷◌, length, map, filter, All}
use Rattle.std.proofs.Common.{Option, Some, None, IfSome, Result, Ok, Err, unwrap_or, refl, sym, subst}
use Rattle.std.specs.List.{list_any}
use Rattle.std.specs.Option.{option_map, option_map_or}
use Rattle.std.specs.FinMap as tree
use Rattle.std.proofs.lemmas.List.Elements.{All-nil, All-cons, All-head, All-tail, All-filter, All-contains}
use Rattle.proof_tools.proofs.Booleans.{cond_either}
use Rattle.proof_tools.proofs.FiniteMaps.{keys-contain, All-keys-insert, entries-from_entries}
use Rattle.object_id.specs.declared.entry.Entry.{Entry}
use Rattle.object_id.specs.declared.node.NodeId.{NodeId}
use Rattle.object_id.specs.declared.policy.Policy.{Policy}
use Rattle.object_id.specs.Oid.{kind_of}
use Rattle.epoch_log.specs.Epochs.{settled_of}
use Rattle.object_list.specs.Union.{with_id, union}
use Rattle.object_store.specs.declared.fault.StoreFault.TheVariants.{OutOfObject}
use Rattle.object_store.specs.declared.fault.StoreFault.{StoreFault}
use Rattle.object_store.specs.declared.key.Key.{Key}
use Rattle.object_store.specs.declared.row.RowCopy.{RowCopy}
use Rattle.object_store.specs.Rows.{open_at, closed_all, purged}
use Rattle.object_store.specs.Store.{AllRows, SeenRow, rows_of, open_row, on_open, write_in, write_at, create_in, with_rows, each_entry}
use Rattle.object_store.specs.Store.{each}
use Rattle.object_store.specs.Store as stores
use Rattle.peer_proto.specs.declared.ask.PeerAsk.{PeerAsk}
use Rattle.peer_proto.specs.declared.ask.PeerAsk.TheVariants as asks
use Rattle.peer_proto.specs.declared.ask.PeerReq.{PeerReq}
use Rattle.peer_proto.specs.declared.say.PeerSay.{PeerSay}
use Rattle.peer_proto.specs.declared.say.PeerSay.TheVariants as says
use Rattle.peer_proto.specs.declared.say.Refusal.{Refusal}
use Rattle.peer_service.specs.State.{Peer, is_dead_object, is_waiting, with_entry}
use Rattle.peer_service.specs.Epochs.{rows_entering, peer_in_next_epoch, peer_settled_to}
use Rattle.peer_service.specs.Fence.{epoch_refusal}
use Rattle.peer_service.specs.LogReading.{kills_object, rows_but, without_objects, read_entry}
use Rattle.peer_service.specs.Back.{closed_at_end, with_log, come_back}
use Rattle.peer_service.specs.Serve as serve
use Rattle.peer_service.specs.Serve.{piece_or_refusal, peer_say_step, peer_write_step, step_if_recovered, step_behind_fence, peer_step}
use Rattle.recovery.specs.Shown.{live_policy, is_to_recover, shown_with_pending}
use Rattle.recovery.specs.State.{Message, Search, RecoveryState, is_listed}
use Rattle.recovery.specs.Steps.{to_recover, when_listed, at_start, recovery_from_epoch}
use Rattle.recovery.specs.Level.{are_enough, with_part_found, with_object_missing, to_ask, one_lower, level_without_part, own_index}
use Rattle.recovery.specs.Level.{own_part, rows_found, level_over_by, level_over, is_of_search, searching}
use Rattle.sheep_node.specs.State.{Node}
use Rattle.sheep_node.specs.RecoveryView.{recovery_state_of}

module _ (K : ℕ → Type 0) where
  -- what is asked to create is among them
  abbrev pub AskWithin : PeerAsk → Type 0
  AskWithin (asks.Create key size offset bytes) = K key.oid
  AskWithin (asks.Write key offset bytes) = Unit {0}
  AskWithin (asks.Read key offset size) = Unit {0}
  AskWithin asks.List = Unit {0}
  AskWithin (asks.RecoverRead oid level) = Unit {0}

  abbrev pub SentWithin : NodeId × PeerReq → Type 0
  SentWithin send = AskWithin send.1.ask

  -- and what is named
  abbrev pub SaidWithin : PeerSay → Type 0
  SaidWithin says.Success = Unit {0}
  SaidWithin (says.Piece bytes) = Unit {0}
  SaidWithin (says.Objects oids) = All K oids
  SaidWithin (says.Row row) = Unit {0}
  SaidWithin says.NoRow = Unit {0}
  SaidWithin (says.Refused refusal) = Unit {0}

  abbrev AreRowsOf : AllRows → Type 0
  AreRowsOf rows = All K (tree.keys rows)

  abbrev IsPending : Option (List ℕ) → Type 0
  IsPending pending = IfSome pending (All K)

  -- what a peer has rows of, and has still to recover
  pub record IsPeerWithin (peer : Peer) : Type 0 where
    pub rows : AreRowsOf peer.rows
    pub pending : IsPending peer.pending

  -- of what a recovery asks for a row
  abbrev pub IsRowAskWithin : PeerAsk → Type 0
  IsRowAskWithin (asks.Create key size offset bytes) = Unit {0}
  IsRowAskWithin (asks.Write key offset bytes) = Unit {0}
  IsRowAskWithin (asks.Read key offset size) = Unit {0}
  IsRowAskWithin asks.List = Unit {0}
  IsRowAskWithin (asks.RecoverRead oid level) = K oid

  abbrev pub IsAskedWithin : Message → Type 0
  IsAskedWithin message = IsRowAskWithin message.request.ask

  -- and what its recovery was named, searches, and asks for
  pub record IsStateWithin (state : RecoveryState) : Type 0 where
    pub rows : AreRowsOf state.shown.rows
    pub pending : IsPending state.shown.pending
    pub listed : All K state.recovery.lists.objects
    pub searched : IfSome state.recovery.search (λ (search : Search). K search.oid)
    pub asked : All IsAskedWithin state.recovery.unanswered

  abbrev pub HasWithin : Node → Type 0
  HasWithin node = IsStateWithin (recovery_state_of node)

  -- ---- maps and lists

  pub keys_made : (es : List (ℕ × List SeenRow)) → All K (map (λ (e : ℕ × List SeenRow). e.0) es) → AreRowsOf (tree.from_entries es)
  keys_made [] all =
      subst (λ (es : List (ℕ × List SeenRow)). All K (map (λ (e : ℕ × List SeenRow). e.0) es)) (sym (entries-from_entries [] tt))
      (All-nil K)
  keys_made (e ∷ es) all =
      All-keys-insert K (tree.from_entries es) e.0 e.1 (All-head K e.0 (map (λ (e : ℕ × List SeenRow). e.0) es) all)
      (keys_made es (All-tail K e.0 (map (λ (e : ℕ × List SeenRow). e.0) es) all))

  each_within : (change : ℕ → List SeenRow → List SeenRow) (es : List (ℕ × List SeenRow))
      → All K (map (λ (e : ℕ × List SeenRow). e.0) es)
      → All K (map (λ (e : ℕ × List SeenRow). e.0) (each_entry change es))
  each_within change [] all = all
  each_within change (e ∷ es) all =
      let keys : List ℕ = map (λ (e : ℕ × List SeenRow). e.0) es in
      by_rows (All-head K e.0 keys all) (each_within change es (All-tail K e.0 keys all)) (change e.0 e.1)
    where
      later : List (ℕ × List SeenRow)
      later = each_entry change es

      by_rows : K e.0 → All K (map (λ (e : ℕ × List SeenRow). e.0) later) → (rows : List SeenRow)
          → All K (map (λ (e : ℕ × List SeenRow). e.0) (with_rows e.0 rows later))
      by_rows own rest [] = rest
      by_rows own rest (row ∷ rows) = All-cons K e.0 (map (λ (e : ℕ × List SeenRow). e.0) later) own rest

  each_rows : (change : ℕ → List SeenRow → List SeenRow) (rows : AllRows) → AreRowsOf rows → AreRowsOf (each change rows)
  unfolding each
  each_rows change rows all = keys_made (each_entry change (tree.entries rows)) (each_within change (tree.entries rows) all)

  with_id_within : (oids : List ℕ) (oid : ℕ) → All K oids → K oid → All K (with_id oids oid)
  with_id_within [] oid all own = All-cons K oid [] own all
  with_id_within (first ∷ rest) oid all own =
      cond_either (All K) (nat_lt oid first) (oid ∷ first ∷ rest) (cond (oid == first) (first ∷ rest) (first ∷ with_id rest oid))
      (All-cons K oid (first ∷ rest) own all)
      (cond_either (All K) (oid == first) (first ∷ rest) (first ∷ with_id rest oid) all
      (All-cons K first (with_id rest oid) (All-head K first rest all) (with_id_within rest oid (All-tail K first rest all) own)))

  pub union_within : (oids others : List ℕ) → All K oids → All K others → All K (union oids others)
  union_within oids [] all more = all
  union_within oids (oid ∷ others) all more =
      union_within (with_id oids oid) others (with_id_within oids oid all (All-head K oid others more)) (All-tail K oid others more)

  filtered : (test : ℕ → Bool) (pending : Option (List ℕ)) → IsPending pending → IsPending (option_map (filter test) pending)
  filtered test None is = tt
  filtered test (Some oids) is = All-filter test K oids is

  -- ---- what a peer serves

  module _ (peer : Peer) (is : IsPeerWithin peer) where
    made_within : (key : Key) (size offset : ℕ) (bytes : List ℕ) → K key.oid
        → IsPeerWithin (serve.own_epoch_step (asks.Create key size offset bytes) peer).peer
    unfolding serve.own_epoch_step
    made_within key size offset bytes own = record {
      rows = All-keys-insert K peer.rows key.oid (create_in key.index peer.epoch size offset bytes (rows_of peer.rows key.oid)) own is.rows;
      pending = filtered (λ (other : ℕ). not (other == key.oid)) peer.pending is.pending;
    }

    write_within : (key : Key) (offset : ℕ) (piece : List ℕ)
        → IsPeerWithin (peer_write_step (write_at peer.rows key offset piece) peer).peer
    write_within key offset piece = by_row (open_row peer.rows key) refl
      where
        new : AllRows
        new = tree.insert peer.rows key.oid (write_in key.index offset piece (rows_of peer.rows key.oid))

        known : (row : SeenRow) (o : Option (List SeenRow)) → tree.get peer.rows key.oid ≡ o → open_at key.index (unwrap_or o []) ≡ Some row
            → K key.oid
        known row None got on = absurd (cc (on))
        known row (Some rows) got on =
            All-contains K (tree.keys peer.rows) key.oid is.rows (keys-contain tree.nat_cmp-IsAntisymmetric peer.rows key.oid rows got)

        by_row : (o : Option SeenRow) → open_row peer.rows key ≡ o
            → IsPeerWithin (peer_write_step (on_open (offset + length piece) o (λ (row : SeenRow). new)) peer).peer
        by_row None on = is
        by_row (Some row) on = by_end (nat_le (offset + length piece) (length row.bytes))
          where
            by_end : (b : Bool) → IsPeerWithin (peer_write_step (cond b (Ok new) (Err OutOfObject)) peer).peer
            by_end true = record {
              rows = All-keys-insert K peer.rows key.oid (write_in key.index offset piece (rows_of peer.rows key.oid))
                  (known row (tree.get peer.rows key.oid) refl on) is.rows;
              pending = is.pending;
            }
            by_end false = is

    if_recovered : (waiting : Bool) (answer : serve.PeerStep) → IsPeerWithin answer.peer
        → IsPeerWithin (step_if_recovered waiting peer answer).peer
    if_recovered true answer after = is
    if_recovered false answer after = after

    answered_within : (ask : PeerAsk) → AskWithin ask → IsPeerWithin (serve.own_epoch_step ask peer).peer
    unfolding serve.own_epoch_step
    answered_within (asks.Create key size offset bytes) own = made_within key size offset bytes own
    answered_within (asks.Write key offset bytes) own =
        if_recovered (is_waiting peer key.oid) (peer_write_step (write_at peer.rows key offset bytes) peer) (write_within key offset bytes)
    answered_within (asks.Read key offset size) own =
        if_recovered (is_waiting peer key.oid) (peer_say_step (piece_or_refusal (stores.read_at peer.rows key offset size)) peer) is
    answered_within asks.List own = is
    answered_within (asks.RecoverRead oid level) own = is

    pub served_within : (request : PeerReq) → AskWithin request.ask → IsPeerWithin (peer_step peer request).peer
    unfolding peer_step
    served_within request own = by_fence (epoch_refusal peer.epoch request.epoch.0)
      where
        by_fence : (refusal : Option Refusal) → IsPeerWithin (step_behind_fence refusal request.ask peer).peer
        by_fence None = answered_within request.ask own
        by_fence (Some refusal) = is

    -- what it says names no other object
    row_said : (o : Option RowCopy) → SaidWithin (serve.row_or_none o)
    row_said None = tt
    row_said (Some row) = tt

    said_within : (ask : PeerAsk) → SaidWithin (serve.own_epoch_step ask peer).say
    unfolding serve.own_epoch_step
    said_within (asks.Create key size offset bytes) = tt
    said_within (asks.Write key offset bytes) = by_waiting (is_waiting peer key.oid)
      where
        by_rows : (r : Result AllRows StoreFault) → SaidWithin (peer_write_step r peer).say
        by_rows (Ok rows) = tt
        by_rows (Err fault) = tt

        by_waiting : (b : Bool) → SaidWithin (step_if_recovered b peer (peer_write_step (write_at peer.rows key offset bytes) peer)).say
        by_waiting true = tt
        by_waiting false = by_rows (write_at peer.rows key offset bytes)
    said_within (asks.Read key offset size) = by_waiting (is_waiting peer key.oid)
      where
        by_piece : (r : Result (List ℕ) StoreFault) → SaidWithin (piece_or_refusal r)
        by_piece (Ok piece) = tt
        by_piece (Err fault) = tt

        by_waiting : (b : Bool)
            → SaidWithin (step_if_recovered b peer (peer_say_step (piece_or_refusal (stores.read_at peer.rows key offset size)) peer)).say
        by_waiting true = tt
        by_waiting false = by_piece (stores.read_at peer.rows key offset size)
    said_within asks.List = is.rows
    said_within (asks.RecoverRead oid level) = row_said (stores.copy_at peer.rows oid level.0)

    pub reply_within : (request : PeerReq) → SaidWithin (peer_step peer request).say
    unfolding peer_step
    reply_within request = by_fence (epoch_refusal peer.epoch request.epoch.0)
      where
        by_fence : (refusal : Option Refusal) → SaidWithin (step_behind_fence refusal request.ask peer).say
        by_fence None = said_within request.ask
        by_fence (Some refusal) = tt

    -- ---- and reads

    pub entered_within : (me : NodeId) (targets : ℕ → ℕ → Policy → List NodeId) → IsPeerWithin (peer_in_next_epoch me targets peer)
    unfolding peer_in_next_epoch
    entered_within me targets = record { rows = each_rows (rows_entering me targets peer) peer.rows is.rows; pending = is.pending }

    pub settled_within : (settled : ℕ) → IsPeerWithin (peer_settled_to settled peer)
    unfolding peer_settled_to
    settled_within settled = record { rows = each_rows (λ (oid : ℕ). purged settled) peer.rows is.rows; pending = is.pending }

    without_within : (goes : ℕ → Bool) → IsPeerWithin (without_objects goes peer)
    unfolding without_objects
    without_within goes = record {
      rows = each_rows (rows_but goes) peer.rows is.rows;
      pending = filtered (λ (oid : ℕ). not (goes oid)) peer.pending is.pending;
    }

    closed_within : IsPeerWithin (closed_at_end peer)
    unfolding closed_at_end
    closed_within = record { rows = each_rows (λ (oid : ℕ). closed_all peer.epoch) peer.rows is.rows; pending = is.pending }

  pub read_within : (entry : Entry) (peer : Peer) → IsPeerWithin peer → IsPeerWithin (read_entry entry peer)
  unfolding read_entry
  read_within entry peer is =
      without_within (with_entry entry peer) (record { rows = is.rows; pending = is.pending }) (kills_object entry peer)

  pub back_within : (entries : List Entry) (peer : Peer) → IsPeerWithin peer → IsPeerWithin (come_back entries peer)
  unfolding come_back
  back_within entries peer is =
      let shut = closed_within peer is in
      let logged : Peer = with_log entries (closed_at_end peer) in
      let left : Peer = peer_settled_to (settled_of entries) logged in
      without_within left (settled_within logged (record { rows = shut.rows; pending = All-nil K }) (settled_of entries))
      (is_dead_object left)

  -- ---- a recovery

  pub named_within : (state : RecoveryState) → IsStateWithin state → IsStateWithin (when_listed state)
  named_within state is =
      cond_either IsStateWithin (is_listed state.recovery) (record state {
        shown = shown_with_pending (to_recover state) state.shown;
      }) state
      (record {
        rows = is.rows;
        pending = All-filter (is_to_recover state.recovery.me state.recovery.epoch state.shown) K
            (union state.recovery.lists.objects (tree.keys state.shown.rows))
            (union_within state.recovery.lists.objects (tree.keys state.shown.rows) is.listed is.rows);
        listed = is.listed;
        searched = is.searched;
        asked = is.asked;
      }) is

  pub begun_within : (epoch : ℕ) (members : List NodeId) (state : RecoveryState) → AreRowsOf state.shown.rows
      → IsStateWithin (recovery_from_epoch epoch members state)
  unfolding recovery_from_epoch
  begun_within epoch members state rows =
      named_within (at_start epoch members state)
      (record { rows = rows; pending = tt; listed = All-nil K; searched = tt; asked = All-nil IsAskedWithin })

  module _ (search : Search) (state : RecoveryState) (own : K search.oid) (is : IsStateWithin state) where
    asked_within : (level : ℕ) → IsStateWithin (to_ask search.oid level state)
    asked_within level = record { rows = is.rows; pending = is.pending; listed = is.listed; searched = own; asked = is.asked }

    missing_within : IsStateWithin (with_object_missing search.oid state)
    missing_within = record {
      rows = is.rows;
      pending = filtered (λ (other : ℕ). not (other == search.oid)) state.shown.pending is.pending;
      listed = is.listed;
      searched = tt;
      asked = is.asked;
    }

    found_within : (index : ℕ) (bytes : List ℕ) → IsStateWithin (with_part_found search.oid index bytes state)
    found_within index bytes = record {
      rows = All-keys-insert K state.shown.rows search.oid
          (create_in index state.shown.epoch (length bytes) 0 bytes (rows_of state.shown.rows search.oid)) own is.rows;
      pending = filtered (λ (other : ℕ). not (other == search.oid)) state.shown.pending is.pending;
      listed = is.listed;
      searched = tt;
      asked = is.asked;
    }

    level_within : IsStateWithin (level_over search state)
    unfolding level_over
    level_within = by_policy (live_policy state.shown search.oid)
      where
        by_policy : (o : Option Policy)
            → IsStateWithin
            (option_map_or (λ (policy : Policy). level_over_by policy search (rows_found state policy search) state) o state)
        by_policy None = is
        by_policy (Some policy) =
            cond_either IsStateWithin (are_enough policy (kind_of search.oid) (rows_found state policy search))
            (with_part_found search.oid (own_index policy search state)
            (own_part policy search (rows_found state policy search) state) state)
            (level_without_part search state)
            (found_within (own_index policy search state) (own_part policy search (rows_found state policy search) state))
            (cond_either IsStateWithin search.again (to_ask search.oid search.level state) (one_lower search state)
            (asked_within search.level)
            (cond_either IsStateWithin (nat_lt (search.level - 1) state.shown.settled) (with_object_missing search.oid state)
            (to_ask search.oid (search.level - 1) state) missing_within (asked_within (search.level - 1))))

    pub searching_within : IsStateWithin (searching search state)
    searching_within =
        cond_either IsStateWithin (list_any (is_of_search search.oid) state.recovery.unanswered)
        (record state { recovery = record state.recovery { search = Some search } }) (level_over search state)
        (record { rows = is.rows; pending = is.pending; listed = is.listed; searched = own; asked = is.asked }) level_within
