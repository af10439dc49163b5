-- Whether the rows that a node has after a change of a moment have what they owe then: those of a node that kept its peer do, and those of
-- one that stepped or came back, but for what it served and what its recovery found.
use Rattle.std.proofs.Common.{◌≡◌, ⊎_elim, arith, ℕ, ◌-◌, ◌≤◌, Bool, true, false, cond, List, [], ◌∷◌, slice_get, Option, Some, None}
use Rattle.std.proofs.Common.{refl, subst}
use Rattle.std.specs.FinMap as tree
use Rattle.object_id.specs.declared.entry.Entry.{Entry}
use Rattle.object_id.specs.declared.node.Epoch.{Epoch}
use Rattle.object_id.specs.declared.policy.Policy.{Policy}
use Rattle.object_id.specs.Oid.{kind_of}
use Rattle.object_store.specs.Rows.{is_open, closed}
use Rattle.object_store.specs.Store.{SeenRow, rows_of}
use Rattle.object_store.proofs.StoreLaws.{rows_of-empty}
use Rattle.epoch_log.specs.Epochs.{epoch_of}
use Rattle.cluster_script.specs.declared.statement.Statement.{Statement}
use Rattle.peer_proto.specs.declared.ask.PeerAsk.TheVariants as asks
use Rattle.peer_proto.specs.declared.ask.PeerReq.{PeerReq}
use Rattle.peer_proto.specs.declared.say.PeerSay.{PeerSay}
use Rattle.peer_service.specs.State.{Peer}
use Rattle.recovery.specs.Level.{are_enough, own_index, own_part, rows_found}
use Rattle.recovery.specs.Shown.{live_policy, is_pending_object}
use Rattle.recovery.specs.State.{Message, Search, Recovery, RecoveryState, search_at, search_on, message_of}
use Rattle.recovery.specs.Steps.{search_after_answer}
use Rattle.vdi_directory.specs.Decisions.{log_effects}
use Rattle.sheep_node.specs.declared.input.Input.{Input}
use Rattle.sheep_node.specs.declared.input.Input.TheVariants as inputs
use Rattle.sheep_node.specs.State as nodes
use Rattle.sheep_node.specs.State.{Node}
use Rattle.sheep_node.specs.RecoveryView.{shown_node, recovery_state_of}
use Rattle.sheep_node.specs.Step.{node_step}
use Rattle.sheep_world.specs.World.{Host}
use Rattle.sheep_world.specs.Began.{Began}
use Rattle.overlap_law.specs.Attempts.{AttemptRecord, attempts_on}
use Rattle.overlap_law.specs.Each.{end_of_row, policy_in}
use Rattle.overlap_law.specs.Past.{MomentWithPast}
use Rattle.overlap_law.specs.MomentChanges.{MomentChange, RunsAreInRange}
use Rattle.overlap_law.specs.Words.{Hosts}
use Rattle.overlap_law.specs.Since.{owes_attempt, IsSince, RowsAreSince}
use Rattle.overlap_law.proofs.EachRowKept.{step-each_row}
use Rattle.overlap_law.proofs.GrownAttempts.{GoOn, traffic_goes_on}
use Rattle.overlap_law.proofs.KnownPolicies.{policy_was_known}
use Rattle.overlap_law.proofs.PairedAttempts.{Paired}
use Rattle.overlap_law.proofs.RowKeeping.{TellsOf, MayFind, KeepsEachRow}
use Rattle.overlap_law.proofs.RowLists.{all_at, all_from}
use Rattle.overlap_law.proofs.RowsInTurn.{end_open, end_shut}
use Rattle.overlap_law.proofs.SinceAtEntries.{owed_parts, owed_earlier, owed_served}
use Rattle.overlap_law.proofs.SinceLater.{IsLater, since_later}
use Rattle.overlap_law.proofs.TrafficOfChanges.{traffic}

-- a row that ends earlier owes no more
pub ends_sooner : (policy : Policy) (oid : ℕ) (hosts : Hosts) (attempts : List AttemptRecord) (n index end other : ℕ) (bytes : List ℕ)
    → other ≤ end → IsSince policy oid hosts attempts (record { 0 = n }) index end end bytes
    → IsSince policy oid hosts attempts (record { 0 = n }) index other other bytes
ends_sooner policy oid hosts attempts n index end other bytes less had = record {
  each = λ j attempt there unit covers owed. had.each j attempt there unit covers (as_before attempt owed);
}
  where
    as_before : (attempt : AttemptRecord) → owes_attempt (record { 0 = n }) other other attempt ≡ true
        → owes_attempt (record { 0 = n }) end end attempt ≡ true
    as_before attempt owed = ⊎_elim
        (λ earlier. let early = earlier in owed_earlier (record { 0 = n }) end end attempt (omega (arith, early, less)))
        (λ served. let most = served.1 in owed_served (record { 0 = n }) end end attempt served.0 (omega (arith, most, less)))
        (owed_parts (record { 0 = n }) other other attempt owed)

-- ---- over a change

module _ (script : List Statement) (range : RunsAreInRange script) (start before after : MomentWithPast) (began : Began script start.world)
    (change : MomentChange script start before after) (good : ℕ → Bool)
    (since : RowsAreSince (log_effects before.world.log) good before.world.hosts before.past.attempts) where
  -- a row of a node has what it owes after the change, by the epoch of the node
  abbrev pub RowSince : ℕ → ℕ → ℕ → SeenRow → Type 0
  RowSince n epoch oid row = (policy : Policy) → good oid ≡ true → policy_in (log_effects after.world.log) oid ≡ Some policy
      → IsSince policy oid after.world.hosts after.past.attempts (record { 0 = n }) row.index (end_of_row epoch row.to)
      (end_of_row epoch row.to) row.bytes

  -- each row of a peer does
  abbrev pub PeerSince : ℕ → Peer → Type 0
  PeerSince n peer = (oid i : ℕ) (row : SeenRow) → slice_get (rows_of peer.rows oid) i ≡ Some row → RowSince n peer.epoch oid row

  pub grown : GoOn before.past.attempts after.past.attempts
  grown =
      traffic_goes_on before.world.hosts after.world.hosts before.world.wire before.past.attempts (traffic script range start began change)

  pub all_since : ((n : ℕ) (host : Host) → tree.get after.world.hosts n ≡ Some host → PeerSince n host.node.peer)
      → RowsAreSince (log_effects after.world.log) good after.world.hosts after.past.attempts
  all_since each = record {
    each = λ n host there oid i row got policy is_good known. each n host there oid i row got policy is_good known;
  }

  module _ (Told : ℕ → AttemptRecord → Type 0)
      (pairs : Paired (IsLater before.world.hosts after.world.hosts Told) before.past.attempts after.past.attempts) where
    -- the rows that a node had, if none of them owes what the node is told to have served
    pub had_since : (n : ℕ) (host : Host) → tree.get before.world.hosts n ≡ Some host
        → ((oid i : ℕ) (row : SeenRow) → slice_get (rows_of host.node.peer.rows oid) i ≡ Some row → (j : ℕ) (now : AttemptRecord)
        → slice_get (attempts_on oid after.past.attempts) j ≡ Some now → Told n now
        → now.epoch ≤ end_of_row host.node.peer.epoch row.to → ⊥)
        → PeerSince n host.node.peer
    had_since n host there untold oid i row got policy is_good known =
        let end : ℕ = end_of_row host.node.peer.epoch row.to in
        since_later before.world.hosts after.world.hosts Told before.past.attempts after.past.attempts pairs grown policy oid n row.index
        end end row.bytes
        (since.each n host there oid i row got policy is_good
        (policy_was_known script range start before after began change n host there oid i row got policy known))
        (untold oid i row got)

  -- a new node has no rows
  pub new_since : (n tries : ℕ) → PeerSince n (nodes.initial_node (record { 0 = n }) tries).peer
  new_since n tries oid i row got =
      absurd (none (rows_of (nodes.initial_node (record { 0 = n }) tries).peer.rows oid) (rows_of-empty oid) got)
    where
      none : (rows : List SeenRow) → rows ≡ [] → slice_get rows i ≡ Some row → ⊥
      none [] is got = cc (got)
      none (first ∷ rows) is got = cc (is)

  -- ---- a node steps

  closed_since : (n epoch next oid : ℕ) (row : SeenRow) → RowSince n epoch oid row → RowSince n next oid (closed epoch row)
  closed_since n epoch next oid row had policy is_good known = by_open (is_open row) refl (had policy is_good known)
    where
      HasUpTo : ℕ → Type 0
      HasUpTo end = IsSince policy oid after.world.hosts after.past.attempts (record { 0 = n }) row.index end end row.bytes

      by_open : (b : Bool) → is_open row ≡ b → HasUpTo (end_of_row epoch row.to)
          → IsSince policy oid after.world.hosts after.past.attempts (record { 0 = n })
          (cond b (record row { to = Some (record { 0 = epoch }) }) row).index
          (end_of_row next (cond b (record row { to = Some (record { 0 = epoch }) }) row).to)
          (end_of_row next (cond b (record row { to = Some (record { 0 = epoch }) }) row).to)
          (cond b (record row { to = Some (record { 0 = epoch }) }) row).bytes
      by_open true unshut is = subst HasUpTo (end_open row.to unshut epoch) is
      by_open false shut is = subst HasUpTo (end_shut row.to shut epoch next) is

  module _ (n : ℕ) (node : Node) (input : Input) (Q : Search → Type 0) where
    abbrev state : Recovery → RecoveryState
    state recovery = record { recovery = recovery; shown = shown_node node }

    -- what a search was told is so, and what its recovery finds by it has what it owes
    pub record FindsSince : Type 0 where
      pub answered : (number : ℕ) (said : Option PeerSay) → TellsOf input number said → (message : Message)
          → message_of number node.recovery.unanswered ≡ Some message → (oid : ℕ) (level : Epoch)
          → message.request.ask ≡ asks.RecoverRead oid level → (search : Search) → search_on (recovery_state_of node) ≡ Some search
          → search.oid ≡ oid → Q (search_after_answer message.to said search)
      pub anew : (search : Search) → search_on (recovery_state_of node) ≡ Some search → Q (search_at search.oid search.level)
      pub first : (oid : ℕ) → Q (search_at oid (node.recovery.epoch - 1))
      pub found : MayFind input → (recovery : Recovery) → recovery.me ≡ node.recovery.me → recovery.epoch ≡ node.recovery.epoch
          → (search : Search) (policy : Policy) → Q search → live_policy (shown_node node) search.oid ≡ Some policy
          → is_pending_object search.oid node.peer.pending ≡ true
          → are_enough policy (kind_of search.oid) (rows_found (state recovery) policy search) ≡ true
          → RowSince n node.peer.epoch search.oid (record {
            index = own_index policy search (state recovery);
            from = record { 0 = node.peer.epoch };
            to = None;
            bytes = own_part policy search (rows_found (state recovery) policy search) (state recovery);
          })

    -- a step at which a recovery can't find anything
    finds_none : ((search : Search) → Q search) → (MayFind input → ⊥) → FindsSince
    finds_none all none = record {
      answered = λ number said tells message sent oid level asks_row search on own. all (search_after_answer message.to said search);
      anew = λ search on. all (search_at search.oid search.level);
      first = λ oid. all (search_at oid (node.recovery.epoch - 1));
      found = λ may recovery me_so epoch_so search policy told live pending enough. absurd (none may);
    }

    module _ (were : PeerSince n node.peer) (finds : FindsSince)
        (not_served : (request : PeerReq) → input ≡ inputs.Request request → ⊥)
        (no_entry : (entry : Entry) → input ≡ inputs.LogEntry entry → ⊥) where
      ended_since : (oid : ℕ) (row : SeenRow) → is_open row ≡ true → RowSince n node.peer.epoch oid row
          → RowSince n node.peer.epoch oid (record row { to = Some (record { 0 = node.peer.epoch - 1 }) })
      ended_since oid row unshut had policy is_good known =
          let now : ℕ = node.peer.epoch in
          let end : end_of_row now row.to ≡ now = end_open row.to unshut now in
          ends_sooner policy oid after.world.hosts after.past.attempts n row.index (end_of_row now row.to) (now - 1) row.bytes
          (omega (arith, end)) (had policy is_good known)

      keeps : KeepsEachRow Q (RowSince n) node input
      keeps = record {
        ended = λ oid row unshut other had. ended_since oid row unshut had;
        created = λ request key size offset bytes comes is own. absurd (not_served request comes);
        written = λ request key offset bytes row comes is own on unshut fits had. absurd (not_served request comes);
        answered = finds.answered;
        anew = finds.anew;
        first = finds.first;
        found = finds.found;
        stays = λ entry comes begins oid row open_still had. absurd (no_entry entry comes);
        shut = λ entry comes begins oid row had. absurd (no_entry entry comes);
        returned = λ entries comes oid row had. closed_since n node.peer.epoch (epoch_of entries) oid row had;
      }

      -- the rows that its step leaves have what they owe
      pub stepped_since : PeerSince n (node_step input node).node.peer
      stepped_since oid i row got =
          let peer : Peer = (node_step input node).node.peer in
          all_at (RowSince n peer.epoch oid) (rows_of peer.rows oid) i row got
          (step-each_row Q (RowSince n) node input keeps
          (λ q. all_from (RowSince n node.peer.epoch q) (rows_of node.peer.rows q) (λ k one at. were q k one at)) oid)

  -- so nothing is asked of what searches were told
  pub finds_nothing : (n : ℕ) (node : Node) (input : Input) → (MayFind input → ⊥) → FindsSince n node input (λ search. Unit {0})
  finds_nothing n node input none = finds_none n node input (λ search. Unit {0}) (λ search. tt) none
