-- In each epoch that a row covers its node is a target, at the row's index: what a store makes of rows keeps that.
use Rattle.std.proofs.Common.{◌≡◌, ⊎_elim, arith, ℕ, ◌+◌, ◌-◌, ◌<◌, ◌≤◌, ◌==◌, not, cond, Bool, true, false, List, [], ◌∷◌, ◌++◌, length}
use Rattle.std.proofs.Common.{filter, Option, Some, None, is_some, unwrap_or, refl, sym, ap, subst, ◌∙◌}
use Rattle.std.specs.List.{AllByRecursion}
use Rattle.std.specs.Option.{option_map, option_map_or}
use Rattle.std.proofs.lemmas.Bool.{cases_lt, eqb-true}
use Rattle.std.proofs.lemmas.Option.{same_Some}
use Rattle.object_id.specs.declared.entry.Entry.{Entry}
use Rattle.object_id.specs.declared.entry.VdiSpec.{VdiSpec}
use Rattle.object_id.specs.declared.node.NodeId.{NodeId}
use Rattle.object_id.specs.declared.policy.Policy.{Policy}
use Rattle.object_id.specs.Fields.{zeros}
use Rattle.object_id.specs.Oid.{kind_of, vid_of}
use Rattle.object_id.specs.Piece.{laid_over}
use Rattle.epoch_log.specs.Epochs.{begins_epoch, epoch_of, settled_of}
use Rattle.gf256.specs.Part.{index_among}
use Rattle.object_store.specs.declared.key.Key.{Key}
use Rattle.object_store.specs.Rows.{has_ended_below, is_open, is_open_at, closed, closed_all, is_replaced, ended, purged}
use Rattle.object_store.specs.Store.{SeenRow, rows_of, write_in, create_in}
use Rattle.object_store.proofs.RowLemmas.{closed-same}
use Rattle.peer_proto.specs.declared.ask.PeerAsk.TheVariants as asks
use Rattle.peer_proto.specs.declared.ask.PeerReq.{PeerReq}
use Rattle.vdi_directory.specs.Decisions.{log_effects}
use Rattle.peer_service.specs.State.{Peer, object_policy}
use Rattle.peer_service.specs.Epochs.{has_at, stays_open, row_entering}
use Rattle.peer_service.specs.Fence.{epoch_refusal}
use Rattle.peer_service.specs.LogReading.{without_objects, read_entry}
use Rattle.vnode_table.specs.Targets.{targets_in}
use Rattle.recovery.specs.Shown.{NodeView, index_in}
use Rattle.recovery.proofs.FoundLemmas.{live_known}
use Rattle.sheep_node.specs.declared.input.Input.{Input}
use Rattle.sheep_node.specs.declared.input.Input.TheVariants as inputs
use Rattle.sheep_node.specs.LogReading.{epochs_with_entry}
use Rattle.sheep_node.specs.RecoveryView.{shown_node}
use Rattle.sheep_node.specs.State.{Node}
use Rattle.overlap_law.specs.Each.{end_of_row, row_covers, spec_in, policy_in, index_of_part}
use Rattle.overlap_law.specs.Holders.{targets_by}
use Rattle.overlap_law.proofs.CoveredLevels.{covers_from, covers_to, covers_by}
use Rattle.overlap_law.proofs.PendingOfNodes.{policy_stays}
use Rattle.overlap_law.proofs.PendingTargets.{IsTargetOfPending, kept_targets}
use Rattle.overlap_law.proofs.RecoveryViews.{KeptByRecovery}
use Rattle.overlap_law.proofs.RowsInTurn.{end_open, end_shut, all_mapped, all_filtered, all_changed}
use Rattle.overlap_law.proofs.ShapedAttempts.{some_entries, targets_stay}
use Rattle.overlap_law.proofs.StoredRows.{IsRecovering, KeepsRowsWhilePending}

-- the policy of the row's object is known, the row ends in the node's epoch at the latest, and in each epoch that it covers the node is a
-- target, at the row's index
pub record IsPlaced (log : List Entry) (n epoch oid : ℕ) (row : SeenRow) : Type 0 where
  pub policy : Policy
  pub made : policy_in (log_effects log) oid ≡ Some policy
  pub within : end_of_row epoch row.to ≤ epoch
  pub placed : (level : ℕ) → row_covers epoch level row ≡ true
      → index_of_part (targets_by log) level oid policy (record { 0 = n }) ≡ Some row.index

abbrev pub ArePlacedAt : List Entry → ℕ → ℕ → ℕ → List SeenRow → Type 0
ArePlacedAt log n epoch oid rows = AllByRecursion (IsPlaced log n epoch oid) rows

-- in an epoch the node is a target, at an index
pub record HasPlace (log : List Entry) (n epoch oid index : ℕ) : Type 0 where
  pub policy : Policy
  pub made : policy_in (log_effects log) oid ≡ Some policy
  pub at : index_of_part (targets_by log) epoch oid policy (record { 0 = n }) ≡ Some index

-- ---- a log that grows

-- an object's policy is known by a log that isn't empty
pub some_by_policy : (log : List Entry) (oid : ℕ) (policy : Policy) → policy_in (log_effects log) oid ≡ Some policy → 1 ≤ length log
some_by_policy log oid policy made = by_spec (spec_in (log_effects log) (vid_of oid)) refl made
  where
    by_spec : (o : Option VdiSpec) → spec_in (log_effects log) (vid_of oid) ≡ o
        → option_map (λ (spec : VdiSpec). spec.policy) o ≡ Some policy → 1 ≤ length log
    by_spec None is so = absurd (cc (so))
    by_spec (Some spec) is so = some_entries log (vid_of oid) spec is

grown_row : (log rest : List Entry) (n epoch oid : ℕ) (row : SeenRow) → epoch ≤ epoch_of log → IsPlaced log n epoch oid row
    → IsPlaced (log ++ rest) n epoch oid row
grown_row log rest n epoch oid row begun is = record {
  policy = is.policy;
  made = policy_stays log rest oid is.policy is.made;
  within = is.within;
  placed = λ level covers.
      let to = covers_to level epoch row covers in
      let most = is.within in
      ap (λ (targets : List NodeId). index_among (record { 0 = n }) targets is.policy (kind_of oid))
      (targets_stay log rest level oid is.policy (some_by_policy log oid is.policy is.made) (omega (arith, to, most, begun)))
      ∙ is.placed level covers;
}

pub grown_placed : (log rest : List Entry) (n epoch oid : ℕ) → epoch ≤ epoch_of log → (rows : List SeenRow)
    → ArePlacedAt log n epoch oid rows → ArePlacedAt (log ++ rest) n epoch oid rows
grown_placed log rest n epoch oid begun [] are = tt
grown_placed log rest n epoch oid begun (row ∷ rows) are =
    (grown_row log rest n epoch oid row begun are.0, grown_placed log rest n epoch oid begun rows are.1)

pub grown_place : (log rest : List Entry) (n epoch oid index : ℕ) → epoch ≤ epoch_of log → HasPlace log n epoch oid index
    → HasPlace (log ++ rest) n epoch oid index
grown_place log rest n epoch oid index begun has = record {
  policy = has.policy;
  made = policy_stays log rest oid has.policy has.made;
  at = ap (λ (targets : List NodeId). index_among (record { 0 = n }) targets has.policy (kind_of oid))
      (targets_stay log rest epoch oid has.policy (some_by_policy log oid has.policy has.made) begun)
      ∙ has.at;
}

module _ (log : List Entry) (n oid : ℕ) where
  -- ---- one row

  -- one that is closed covers no more than before
  closed_placed : (epoch next last : ℕ) (row : SeenRow) → last ≤ epoch → epoch ≤ next → IsPlaced log n epoch oid row
      → IsPlaced log n next oid (closed last row)
  closed_placed epoch next last row most later is = by_open (is_open row) refl
    where
      by_open : (b : Bool) → is_open row ≡ b → IsPlaced log n next oid (cond b (record row { to = Some (record { 0 = last }) }) row)
      by_open true still =
          let ends : end_of_row epoch row.to ≡ epoch = end_open row.to still epoch in
          record {
            policy = is.policy;
            made = is.made;
            within = omega (arith, most, later);
            placed = λ level covers.
                let from = covers_from level next (record row { to = Some (record { 0 = last }) }) covers in
                let to = covers_to level next (record row { to = Some (record { 0 = last }) }) covers in
                is.placed level (covers_by level epoch row from (omega (arith, to, most, ends)));
          }
      by_open false shut =
          let same : end_of_row epoch row.to ≡ end_of_row next row.to = end_shut row.to shut epoch next in
          let ends = is.within in
          record {
            policy = is.policy;
            made = is.made;
            within = omega (arith, same, ends, later);
            placed = λ level covers.
                let from = covers_from level next row covers in
                let to = covers_to level next row covers in
                is.placed level (covers_by level epoch row from (omega (arith, to, same)));
          }

  -- one that stays open covers the next epoch too
  open_placed : (epoch : ℕ) (row : SeenRow) (is : IsPlaced log n epoch oid row)
      → index_of_part (targets_by log) (epoch + 1) oid is.policy (record { 0 = n }) ≡ Some row.index → IsPlaced log n (epoch + 1) oid row
  open_placed epoch row is next = by_open (is_open row) refl
    where
      by_open : (b : Bool) → is_open row ≡ b → IsPlaced log n (epoch + 1) oid row
      by_open true still =
          let ends : end_of_row epoch row.to ≡ epoch = end_open row.to still epoch in
          let ends_then : end_of_row (epoch + 1) row.to ≡ epoch + 1 = end_open row.to still (epoch + 1) in
          record {
            policy = is.policy;
            made = is.made;
            within = omega (arith, ends_then);
            placed = λ level covers.
                let from = covers_from level (epoch + 1) row covers in
                let to = covers_to level (epoch + 1) row covers in
                ⊎_elim
                (λ (new : epoch < level).
                let newest : level ≡ epoch + 1 = omega (arith, new, to, ends_then) in
                ap (λ (k : ℕ). index_of_part (targets_by log) k oid is.policy (record { 0 = n })) newest ∙ next)
                (λ (old : level ≤ epoch). is.placed level (covers_by level epoch row from (omega (arith, old, ends))))
                (cases_lt epoch level);
          }
      by_open false shut =
          subst (IsPlaced log n (epoch + 1) oid) (closed-same epoch row shut)
          (closed_placed epoch (epoch + 1) epoch row (omega arith) (omega arith) is)

  entered_placed : (epoch : ℕ) (row : SeenRow) (stays : Bool) (is : IsPlaced log n epoch oid row)
      → (stays ≡ true → index_of_part (targets_by log) (epoch + 1) oid is.policy (record { 0 = n }) ≡ Some row.index)
      → IsPlaced log n (epoch + 1) oid (cond stays row (closed epoch row))
  entered_placed epoch row true is next = open_placed epoch row is (next refl)
  entered_placed epoch row false is next = closed_placed epoch (epoch + 1) epoch row (omega arith) (omega arith) is

  -- one that is made covers its epoch alone
  made_placed : (epoch index : ℕ) (bytes : List ℕ) → HasPlace log n epoch oid index
      → IsPlaced log n epoch oid (record { index = index; from = record { 0 = epoch }; to = None; bytes = bytes })
  made_placed epoch index bytes has = record {
    policy = has.policy;
    made = has.made;
    within = omega arith;
    placed = λ level covers.
        let new : SeenRow = record { index = index; from = record { 0 = epoch }; to = None; bytes = bytes } in
        let from : epoch ≤ level = covers_from level epoch new covers in
        let to : level ≤ epoch = covers_to level epoch new covers in
        let same : level ≡ epoch = omega (arith, from, to) in
        ap (λ (k : ℕ). index_of_part (targets_by log) k oid has.policy (record { 0 = n })) same ∙ has.at;
  }

  -- ---- what a store makes of the rows of an object

  pushed : (P : SeenRow → Type 0) (rows : List SeenRow) (new : SeenRow) → AllByRecursion P rows → P new
      → AllByRecursion P (rows ++ new ∷ [])
  pushed P [] new all is = (is, tt)
  pushed P (row ∷ rows) new all is = (all.0, pushed P rows new all.1 is)

  pub created_placed : (epoch index size offset : ℕ) (piece : List ℕ) (rows : List SeenRow) → HasPlace log n epoch oid index
      → ArePlacedAt log n epoch oid rows → ArePlacedAt log n epoch oid (create_in index epoch size offset piece rows)
  created_placed epoch index size offset piece rows has are =
      let test : SeenRow → Bool = λ (row : SeenRow). not (is_replaced epoch row) in
      let bytes : List ℕ = laid_over (zeros size) offset piece in
      pushed (IsPlaced log n epoch oid) (ended epoch rows) (record { index = index; from = record { 0 = epoch }; to = None; bytes = bytes })
      (all_mapped (IsPlaced log n epoch oid) (IsPlaced log n epoch oid) (closed (epoch - 1))
      (λ row is. closed_placed epoch epoch (epoch - 1) row (omega arith) (omega arith) is) (filter test rows)
      (all_filtered (IsPlaced log n epoch oid) test rows are)) (made_placed epoch index bytes has)

  pub written_placed : (epoch index offset : ℕ) (piece : List ℕ) (rows : List SeenRow) → ArePlacedAt log n epoch oid rows
      → ArePlacedAt log n epoch oid (write_in index offset piece rows)
  written_placed epoch index offset piece rows are =
      all_changed (IsPlaced log n epoch oid) (is_open_at index) (λ (bytes : List ℕ). laid_over bytes offset piece)
      (λ row is. record { policy = is.policy; made = is.made; within = is.within; placed = is.placed }) rows are

  purged_placed : (epoch settled : ℕ) (rows : List SeenRow) → ArePlacedAt log n epoch oid rows
      → ArePlacedAt log n epoch oid (purged settled rows)
  purged_placed epoch settled rows are =
      all_filtered (IsPlaced log n epoch oid) (λ (row : SeenRow). not (has_ended_below settled row.to)) rows are

  closed_all_placed : (epoch later : ℕ) (rows : List SeenRow) → epoch ≤ later → ArePlacedAt log n epoch oid rows
      → ArePlacedAt log n later oid (closed_all epoch rows)
  closed_all_placed epoch later rows after are =
      all_mapped (IsPlaced log n epoch oid) (IsPlaced log n later oid) (closed epoch)
      (λ row is. closed_placed epoch later epoch row (omega arith) after is) rows are

-- ---- a node, as its recovery sees it

-- it knows what the log says of policies and of the targets of its epoch, recovers that epoch, and is a target of what is pending
pub record IsPlacedView (log : List Entry) (n : ℕ) (me : NodeId) (epoch : ℕ) (shown : NodeView) : Type 0 where
  pub me_so : me.0 ≡ n
  pub own : epoch ≡ shown.epoch
  pub policies : (oid : ℕ) (policy : Policy) → shown.policy_of oid ≡ Some policy → policy_in (log_effects log) oid ≡ Some policy
  pub targets : (oid : ℕ) (policy : Policy) → shown.targets shown.epoch oid policy ≡ targets_by log shown.epoch oid policy
  pub pending : IsTargetOfPending me epoch shown

kept_view : (log : List Entry) (n : ℕ) → KeptByRecovery (IsPlacedView log n)
kept_view log n = record {
  listed = λ state is. record {
    me_so = is.me_so;
    own = is.own;
    policies = is.policies;
    targets = is.targets;
    pending = kept_targets.listed state is.pending;
  };
  gone = λ state oid is. record {
    me_so = is.me_so;
    own = is.own;
    policies = is.policies;
    targets = is.targets;
    pending = kept_targets.gone state oid is.pending;
  };
  found = λ state search policy bytes searched is. record {
    me_so = is.me_so;
    own = is.own;
    policies = is.policies;
    targets = is.targets;
    pending = kept_targets.found state search policy bytes searched is.pending;
  };
}

some_is : (o : Option ℕ) → is_some o ≡ true → o ≡ Some (unwrap_or o 0)
some_is None is = absurd (cc (is))
some_is (Some k) is = refl

-- ---- a step of a node

-- what is known of a step: the node's place in what it is asked to create, and of the epoch that it enters
pub record StepIsPlaced (log : List Entry) (n : ℕ) (node : Node) (input : Input) : Type 0 where
  pub own : node.me.0 ≡ n
  pub view : IsRecovering node input → IsPlacedView log n node.recovery.me node.recovery.epoch (shown_node node)
  pub created : (request : PeerReq) (key : Key) (size offset : ℕ) (bytes : List ℕ) → input ≡ inputs.Request request
      → request.ask ≡ asks.Create key size offset bytes → epoch_refusal node.peer.epoch request.epoch.0 ≡ None
      → HasPlace log n node.peer.epoch key.oid key.index
  pub policies : (entry : Entry) → input ≡ inputs.LogEntry entry → (oid : ℕ) (policy : Policy)
      → object_policy (read_entry entry node.peer) oid ≡ Some policy → policy_in (log_effects log) oid ≡ Some policy
  pub entered : (entry : Entry) → input ≡ inputs.LogEntry entry → begins_epoch entry ≡ true → (oid : ℕ) (policy : Policy)
      → targets_in (epochs_with_entry entry node) (node.peer.epoch + 1) oid policy ≡ targets_by log (node.peer.epoch + 1) oid policy
  pub later : (entries : List Entry) → input ≡ inputs.Back entries → node.peer.epoch ≤ epoch_of entries

module _ (log : List Entry) (n : ℕ) (node : Node) (input : Input) (is : StepIsPlaced log n node input) where
  -- a row that stays open has its place in the next epoch
  staying : (entry : Entry) → input ≡ inputs.LogEntry entry → begins_epoch entry ≡ true → (oid index : ℕ) (policy : Policy)
      → policy_in (log_effects log) oid ≡ Some policy
      → stays_open node.me (targets_in (epochs_with_entry entry node)) (read_entry entry node.peer) oid index ≡ true
      → index_of_part (targets_by log) (node.peer.epoch + 1) oid policy (record { 0 = n }) ≡ Some index
  unfolding read_entry without_objects
  staying entry comes begins oid index policy made stays =
      by_policy (object_policy (read_entry entry node.peer) oid) refl stays
    where
      by_index : (own : Policy) (o : Option ℕ)
          → index_among node.me (targets_in (epochs_with_entry entry node) (node.peer.epoch + 1) oid own) own (kind_of oid) ≡ o
          → option_map_or (λ (k : ℕ). k == index) o false ≡ true
          → index_among node.me (targets_in (epochs_with_entry entry node) (node.peer.epoch + 1) oid own) own (kind_of oid) ≡ Some index
      by_index own None at tie = absurd (cc (tie))
      by_index own (Some k) at tie = at ∙ ap (λ (i : ℕ). Some i) (eqb-true k index tie)

      by_policy : (o : Option Policy) → object_policy (read_entry entry node.peer) oid ≡ o
          → option_map_or (has_at node.me (targets_in (epochs_with_entry entry node)) (node.peer.epoch + 1) oid index) o false ≡ true
          → index_of_part (targets_by log) (node.peer.epoch + 1) oid policy (record { 0 = n }) ≡ Some index
      by_policy None known so = absurd (cc (so))
      by_policy (Some own) known so =
          let same : own ≡ policy = same_Some own policy (sym (is.policies entry comes oid own known) ∙ made) in
          subst (λ (p : Policy). index_of_part (targets_by log) (node.peer.epoch + 1) oid p (record { 0 = n }) ≡ Some index) same
          (ap (λ (k : ℕ). index_among (record { 0 = k }) (targets_by log (node.peer.epoch + 1) oid own) own (kind_of oid)) (sym is.own)
          ∙ ap (λ (list : List NodeId). index_among node.me list own (kind_of oid)) (sym (is.entered entry comes begins oid own))
          ∙ by_index own
          (index_among node.me (targets_in (epochs_with_entry entry node) (node.peer.epoch + 1) oid own) own (kind_of oid)) refl so)

  -- the part that a recovery makes has its place
  recovered_place : (me : NodeId) (epoch : ℕ) (shown : NodeView) (oid : ℕ) (policy : Policy) → IsPlacedView log n me epoch shown
      → shown.policy_of oid ≡ Some policy → is_some (index_in shown epoch oid policy me) ≡ true
      → HasPlace log n shown.epoch oid (unwrap_or (index_in shown epoch oid policy me) 0)
  recovered_place me epoch shown oid policy view known among = record {
    policy = policy;
    made = view.policies oid policy known;
    at = ap (λ (k : ℕ). index_among (record { 0 = k }) (targets_by log shown.epoch oid policy) policy (kind_of oid)) (sym view.me_so)
        ∙ ap (λ (list : List NodeId). index_among me list policy (kind_of oid)) (sym (view.targets oid policy))
        ∙ ap (λ (k : ℕ). index_among me (shown.targets k oid policy) policy (kind_of oid)) (sym view.own)
        ∙ some_is (index_in shown epoch oid policy me) among;
  }

  pub keeps_placed : KeepsRowsWhilePending (IsPlacedView log n) (ArePlacedAt log n) node input
  unfolding read_entry without_objects
  keeps_placed = record {
    view = is.view;
    views = kept_view log n;
    created = λ request key size offset bytes comes asked own rows are.
        created_placed log n key.oid node.peer.epoch key.index size offset bytes rows
        (is.created request key size offset bytes comes asked own) are;
    written = λ key offset bytes row on inside are.
        written_placed log n key.oid node.peer.epoch key.index offset bytes (rows_of node.peer.rows key.oid) are;
    recovered = λ recovering me epoch shown oid policy bytes view searched rows are.
        let target = view.pending oid searched.pending in
        let known = live_known shown oid policy searched.policy_so in
        let same : target.policy ≡ policy = same_Some target.policy policy (sym target.known ∙ known) in
        let among : is_some (index_in shown epoch oid policy me) ≡ true
        = subst (λ (p : Policy). is_some (index_in shown epoch oid p me) ≡ true) same target.among in
        created_placed log n oid shown.epoch (unwrap_or (index_in shown epoch oid policy me) 0) (length bytes) 0 bytes rows
        (recovered_place me epoch shown oid policy view known among) are;
    entered = λ entry comes begins oid rows are.
        let targets = targets_in (epochs_with_entry entry node) in
        let read : Peer = read_entry entry node.peer in
        all_mapped (IsPlaced log n node.peer.epoch oid) (IsPlaced log n (node.peer.epoch + 1) oid) (row_entering node.me targets read oid)
        (λ row so. entered_placed log n oid node.peer.epoch row (stays_open node.me targets read oid row.index) so
        (λ stays. staying entry comes begins oid row.index so.policy so.made stays)) rows are;
    killed = λ entry comes oid kills. tt;
    settled = λ entry comes epoch oid rows are. purged_placed log n oid epoch (settled_of (read_entry entry node.peer).entries) rows are;
    returned = λ entries comes oid rows are.
        purged_placed log n oid (epoch_of entries) (settled_of entries) (closed_all node.peer.epoch rows)
        (closed_all_placed log n oid node.peer.epoch (epoch_of entries) rows (is.later entries comes) are);
    returned_dead = λ entries comes oid dies. tt;
  }
