-- What is pending at a node is lacked once the node read an entry: its recovery goes on, or one begins of the epoch that the entry begins;
-- and so it is where the node comes back.
use Rattle.std.proofs.Common.{◌≡◌, ◌≢◌, arith, ℕ, suc, ◌+◌, ◌≤◌, ◌==◌, not, Bool, true, false, cond, List, []}
use Rattle.std.proofs.Common.{◌∷◌, ◌++◌, map, Option, Some, None, option_map, refl, sym, ap, subst, ◌∙◌}
use Rattle.std.specs.Option.{option_map_or}
use Rattle.std.specs.List.{AllByRecursion}
use Rattle.std.proofs.lemmas.Bool.{and_parts, eqb-true, ne_eqb}
use Rattle.proof_tools.proofs.Booleans.{cond_either}
use Rattle.object_id.specs.Oid.{kind_of, vid_of}
use Rattle.object_id.specs.declared.entry.Entry.{Entry}
use Rattle.object_id.specs.declared.entry.Member.{Member}
use Rattle.object_id.specs.declared.entry.VdiSpec.{VdiSpec}
use Rattle.object_id.specs.declared.node.NodeId.{NodeId}
use Rattle.object_id.specs.declared.policy.Policy.{Policy}
use Rattle.epoch_log.specs.Appending.{is_format}
use Rattle.epoch_log.specs.Epochs.{begins_epoch, epoch_of, settled_of}
use Rattle.gf256.specs.Part.{index_among}
use Rattle.object_store.specs.Rows.{is_open, closed, closed_all, has_ended_below, purged}
use Rattle.object_store.specs.Store.{SeenRow, rows_of}
use Rattle.object_store.proofs.RowLemmas.{AllClosed, closed-same, closed_all-closed}
use Rattle.peer_service.specs.State.{Peer, is_dead_object, object_policy}
use Rattle.peer_service.specs.Epochs as peers
use Rattle.peer_service.specs.Epochs.{has_at, stays_open, row_entering}
use Rattle.peer_service.specs.LogReading.{kills_object, without_objects, read_entry}
use Rattle.peer_service.specs.Back.{come_back}
use Rattle.peer_service.proofs.EpochLemmas.{entered_rows, read_rows, back_rows}
use Rattle.vnode_table.specs.Epochs.{EpochMembers, members_at}
use Rattle.vnode_table.specs.Targets.{targets_in}
use Rattle.hash_ring.specs.Circle.{hash_of_object}
use Rattle.hash_ring.specs.Placement.{targets_of}
use Rattle.object_id.specs.Policy.{wanted_of}
use Rattle.vdi_directory.specs.declared.effect.Effect.{Effect}
use Rattle.vdi_directory.specs.Effects.{header_of}
use Rattle.vdi_directory.specs.Decisions.{log_effects}
use Rattle.vdi_directory.proofs.StateLemmas.{log_effects-none}
use Rattle.recovery.specs.Shown.{is_pending_object, index_in}
use Rattle.recovery.specs.State.{RecoveryState}
use Rattle.sheep_node.specs.State.{Node}
use Rattle.sheep_node.specs.RecoveryView.{shown_node, recovery_state_of, with_recovered_rows}
use Rattle.sheep_node.specs.LogReading.{epoch_members, entered_in, epochs_with_entry, node_with_entry, is_epoch_member}
use Rattle.sheep_node.specs.LogReading.{recovery_in_epoch, begins_recovery, recovery_with_entry, entry_read, come_back_with}
use Rattle.sheep_node.specs.LogReading.{on_back}
use Rattle.sheep_node.specs.May.{MayRead}
use Rattle.sheep_node.proofs.LogLaws.{epoch_more, none_before}
use Rattle.overlap_law.specs.Each.{spec_in, policy_in}
use Rattle.overlap_law.proofs.GrantedEpochs.{spec_stays}
use Rattle.overlap_law.proofs.LackedPending.{PendingIsLackedBy, OpenRowsAreOwn, pending_before}
use Rattle.overlap_law.proofs.LackedPending.{closed_own, begun_lacked}
use Rattle.overlap_law.proofs.RowsInTurn.{all_mapped, all_filtered}
use Rattle.overlap_law.proofs.LackedServed.{PeerLacks, NodeLacks, settled_lacks}

-- ---- an entry is read

-- a policy that is known stays known
pub policy_stays : (entries more : List Entry) (oid : ℕ) (policy : Policy) → policy_in (log_effects entries) oid ≡ Some policy
    → policy_in (log_effects (entries ++ more)) oid ≡ Some policy
policy_stays entries more oid policy is = by_spec (spec_in (log_effects entries) (vid_of oid)) refl is
  where
    by_spec : (o : Option VdiSpec) → spec_in (log_effects entries) (vid_of oid) ≡ o
        → option_map (λ (spec : VdiSpec). spec.policy) o ≡ Some policy → policy_in (log_effects (entries ++ more)) oid ≡ Some policy
    by_spec None known is = absurd (cc (is))
    by_spec (Some spec) known is =
        ap (option_map (λ (spec : VdiSpec). spec.policy)) (spec_stays entries more (vid_of oid) spec known) ∙ is

-- none is known before the first entry
pub none_known : {P : Type 0} (entries : List Entry) (oid : ℕ) (policy : Policy) → policy_in (log_effects entries) oid ≡ Some policy
    → entries ≡ [] → P
unfolding header_of
none_known entries oid policy is none =
    let nothing : policy_in (log_effects entries) oid ≡ None
    = ap (λ (log : List Entry). policy_in (log_effects log) oid) none
    ∙ ap (λ (known : List Effect). policy_in known oid) log_effects-none in
    absurd (cc (is, nothing))

module _ (entry : Entry) (node : Node) (lacks : NodeLacks node) (me_so : node.recovery.me ≡ node.me)
    (epoch_so : node.peer.epoch ≡ epoch_of node.peer.entries) (within : node.recovery.epoch ≤ node.peer.epoch)
    (may : MayRead node.peer.entries entry) where
  abbrev me : NodeId
  me = node.recovery.me

  abbrev read : Peer
  read = read_entry entry node.peer

  -- the epochs that have begun by the entry
  abbrev epochs : List EpochMembers
  epochs = epochs_with_entry entry node

  abbrev entered : Node
  entered = node_with_entry entry node

  -- the rows of an object, if its id stays
  left_shut : (oid : ℕ) → AllClosed (rows_of node.peer.rows oid) → AllClosed (rows_of read.rows oid)
  left_shut oid shut =
      subst AllClosed (sym (read_rows entry node.peer oid))
      (cond_either AllClosed (kills_object entry node.peer oid) [] (rows_of node.peer.rows oid) tt shut)

  shut_stays : (epoch : ℕ) (stays : Bool) (row : SeenRow) → is_open row ≡ false → is_open (cond stays row (closed epoch row)) ≡ false
  shut_stays epoch true row shut = shut
  shut_stays epoch false row shut = ap is_open (closed-same epoch row shut) ∙ shut

  entered_shut : (oid : ℕ) → AllClosed (rows_of node.peer.rows oid) → AllClosed (rows_of entered.peer.rows oid)
  unfolding read_entry without_objects peers.peer_in_next_epoch
  entered_shut oid shut =
      cond_either (λ (peer : Peer). AllClosed (rows_of peer.rows oid)) (begins_epoch entry)
      (peers.peer_in_next_epoch node.me (targets_in epochs) read) read
      (subst AllClosed (sym (entered_rows node.me (targets_in epochs) read oid))
      (all_mapped (λ row. is_open row ≡ false) (λ row. is_open row ≡ false) (row_entering node.me (targets_in epochs) read oid)
      (λ row is. shut_stays read.epoch (stays_open node.me (targets_in epochs) read oid row.index) row is) (rows_of read.rows oid)
      (left_shut oid shut)))
      (left_shut oid shut)

  -- a later epoch leaves the targets of those before
  same_members : (new : EpochMembers) (earlier : List EpochMembers) (epoch : ℕ) → new.epoch ≢ epoch
      → members_at (new ∷ earlier) epoch ≡ members_at earlier epoch
  same_members new earlier epoch apart = ap (λ (b : Bool). cond b new.members (members_at earlier epoch)) (ne_eqb new.epoch epoch apart)

  same_targets : (oid : ℕ) (policy : Policy) → object_policy node.peer oid ≡ Some policy
      → targets_in epochs node.recovery.epoch oid policy ≡ targets_in node.epochs node.recovery.epoch oid policy
  unfolding targets_in read_entry without_objects
  same_targets oid policy known =
      ap (λ (members : List Member). targets_of members (hash_of_object oid) (wanted_of policy (kind_of oid)))
      (by_entry (begins_epoch entry) (is_format entry) refl refl)
    where
      by_entry : (begins opens : Bool) → begins_epoch entry ≡ begins → is_format entry ≡ opens
          → members_at (cond begins (entered_in read.entries (epoch_of read.entries) ∷ node.epochs)
          (cond opens (entered_in read.entries 1 ∷ node.epochs) node.epochs)) node.recovery.epoch
          ≡ members_at node.epochs node.recovery.epoch
      by_entry true opens begins format =
          same_members (entered_in read.entries (epoch_of read.entries)) node.epochs node.recovery.epoch
          (λ (same : epoch_of read.entries ≡ node.recovery.epoch).
          let more : epoch_of read.entries ≡ suc (epoch_of node.peer.entries) = epoch_more node.peer.entries entry begins in
          omega (arith, same, more, epoch_so, within))
      by_entry false true begins format =
          none_known node.peer.entries oid policy known (none_before node.peer.entries entry may format)
      by_entry false false begins format = refl

  entered_pending : (oid : ℕ) → is_pending_object oid entered.peer.pending ≡ true → is_pending_object oid node.peer.pending ≡ true
  unfolding read_entry without_objects peers.peer_in_next_epoch
  entered_pending oid =
      let goes = kills_object entry node.peer in
      cond_either
      (λ (peer : Peer). is_pending_object oid peer.pending ≡ true → is_pending_object oid node.peer.pending ≡ true) (begins_epoch entry)
      (peers.peer_in_next_epoch node.me (targets_in epochs) read) read
      (λ there. (pending_before (λ k. not (goes k)) node.peer.pending oid there).0)
      (λ there. (pending_before (λ k. not (goes k)) node.peer.pending oid there).0)

  -- what it has read by then
  entered_entries : entered.peer.entries ≡ node.peer.entries ++ entry ∷ []
  unfolding read_entry without_objects peers.peer_in_next_epoch
  entered_entries =
      cond_either (λ (peer : Peer). peer.entries ≡ node.peer.entries ++ entry ∷ []) (begins_epoch entry)
      (peers.peer_in_next_epoch node.me (targets_in epochs) read) read refl refl

  entered_policy : (oid : ℕ) (policy : Policy) → object_policy node.peer oid ≡ Some policy → object_policy entered.peer oid ≡ Some policy
  entered_policy oid policy known =
      ap (λ (entries : List Entry). policy_in (log_effects entries) oid) entered_entries
      ∙ policy_stays node.peer.entries (entry ∷ []) oid policy known

  -- the recovery goes on
  on_lacks : PeerLacks me node.recovery.epoch (targets_in epochs) entered.peer
  on_lacks oid there =
      let lacked = lacks oid (entered_pending oid there) in
      record {
        policy = lacked.policy;
        policy_so = entered_policy oid lacked.policy lacked.policy_so;
        index = lacked.index;
        index_so =
            ap (λ (nodes : List NodeId). index_among me nodes lacked.policy (kind_of oid)) (same_targets oid lacked.policy lacked.policy_so)
            ∙ lacked.index_so;
        shut = entered_shut oid lacked.shut;
      }

  -- ---- or one of the epoch that the entry begins

  closed_is_shut : (epoch : ℕ) (row : SeenRow) → is_open (closed epoch row) ≡ false
  closed_is_shut epoch row = by_open (is_open row) refl
    where
      by_open : (b : Bool) → is_open row ≡ b → is_open (cond b (record row { to = Some (record { 0 = epoch }) }) row) ≡ false
      by_open true still = refl
      by_open false shut = shut

  module _ (begins : begins_epoch entry ≡ true) (oid : ℕ) (policy : Policy) (known : object_policy read oid ≡ Some policy) where
    abbrev Index : Option ℕ
    Index = index_among node.me (targets_in epochs (read.epoch + 1) oid policy) policy (kind_of oid)

    -- a row stays open at the node's index in that epoch alone
    at_index : (o : Option ℕ) (index : ℕ) → option_map_or (λ own. own == index) o false ≡ true → o ≡ Some index
    at_index None index is = absurd (cc (is))
    at_index (Some own) index is = ap (λ (k : ℕ). Some k) (eqb-true own index is)

    stays_at : (index : ℕ) → stays_open node.me (targets_in epochs) read oid index ≡ true → Index ≡ Some index
    stays_at index stays =
        at_index Index index
        (sym (ap (λ (o : Option Policy). option_map_or (has_at node.me (targets_in epochs) (read.epoch + 1) oid index) o false) known)
        ∙ stays)

    entering_own : (rows : List SeenRow) → AllByRecursion (λ row. is_open row ≡ true → Index ≡ Some row.index)
        (map (row_entering node.me (targets_in epochs) read oid) rows)
    entering_own [] = tt
    entering_own (row ∷ rows) = (by_stays (stays_open node.me (targets_in epochs) read oid row.index) refl, entering_own rows)
      where
        by_stays : (b : Bool) → stays_open node.me (targets_in epochs) read oid row.index ≡ b
            → is_open (cond b row (closed read.epoch row)) ≡ true → Index ≡ Some (cond b row (closed read.epoch row)).index
        by_stays true stays still = stays_at row.index stays
        by_stays false ends still = let shut = closed_is_shut read.epoch row in absurd (cc (shut, still))

  abbrev next : Peer
  next = peers.peer_in_next_epoch node.me (targets_in epochs) read

  -- the open rows of an object are of the node's index in its peer's epoch
  abbrev PeerHasOwn : Peer → Type 0
  PeerHasOwn peer = (oid : ℕ) (policy : Policy) → object_policy peer oid ≡ Some policy
      → AllByRecursion (λ row. is_open row ≡ true
      → index_among me (targets_in epochs peer.epoch oid policy) policy (kind_of oid) ≡ Some row.index) (rows_of peer.rows oid)

  next_own : begins_epoch entry ≡ true → PeerHasOwn next
  unfolding peers.peer_in_next_epoch
  next_own begins oid policy known =
      subst (λ (q : NodeId). AllByRecursion (λ row. is_open row ≡ true
      → index_among q (targets_in epochs (read.epoch + 1) oid policy) policy (kind_of oid) ≡ Some row.index) (rows_of next.rows oid))
      (sym me_so)
      (subst (AllByRecursion (λ row. is_open row ≡ true
      → index_among node.me (targets_in epochs (read.epoch + 1) oid policy) policy (kind_of oid) ≡ Some row.index))
      (sym (entered_rows node.me (targets_in epochs) read oid)) (entering_own begins oid policy known (rows_of read.rows oid)))

  entered_own : begins_epoch entry ≡ true → OpenRowsAreOwn me entered.peer.epoch (shown_node entered)
  entered_own begins = by_entry (begins_epoch entry) begins
    where
      by_entry : (b : Bool) → b ≡ true → PeerHasOwn (cond b next read)
      by_entry true is = next_own begins
      by_entry false is = absurd (cc (is))

  -- the recovery with what it sees then
  abbrev RecoveryLacks : RecoveryState → Type 0
  RecoveryLacks state =
      PendingIsLackedBy state.recovery.me state.recovery.epoch (object_policy entered.peer) (targets_in epochs) state.shown.rows
      state.shown.pending

  recovery_lacks : (b : Bool) → begins_recovery entry node ≡ b
      → RecoveryLacks (cond b (recovery_in_epoch entered) (recovery_state_of entered))
  recovery_lacks true is =
      begun_lacked entered.peer.epoch (map (λ (member : Member). member.node) (epoch_members entered)) (recovery_state_of entered)
      (entered_own (and_parts (begins_epoch entry) (is_epoch_member entered) is).0)
  recovery_lacks false is = on_lacks

  pub read_lacks : NodeLacks (entry_read entry node)
  unfolding entry_read
  read_lacks =
      let state : RecoveryState = recovery_with_entry entry node in
      settled_lacks state.recovery.me state.recovery.epoch (targets_in epochs) (with_recovered_rows state entered.peer)
      (recovery_lacks (begins_recovery entry node) refl) (settled_of read.entries)

-- ---- a node comes back

pub back_lacks : (entries : List Entry) (node : Node) → NodeLacks (on_back entries node)
unfolding on_back
back_lacks entries node =
    let back : Node = come_back_with entries node in
    begun_lacked back.peer.epoch (map (λ (member : Member). member.node) (epoch_members back)) (recovery_state_of back)
    (λ oid policy known. closed_own (index_in (shown_node back) back.peer.epoch oid policy back.recovery.me) (rows_of back.peer.rows oid)
    (back_shut oid))
  where
    back_shut : (oid : ℕ) → AllClosed (rows_of (come_back entries node.peer).rows oid)
    back_shut oid =
        subst AllClosed (sym (back_rows entries node.peer oid))
        (cond_either AllClosed (is_dead_object (come_back entries node.peer) oid) []
        (purged (settled_of entries) (closed_all node.peer.epoch (rows_of node.peer.rows oid))) tt
        (all_filtered (λ row. is_open row ≡ false) (λ (row : SeenRow). not (has_ended_below (settled_of entries) row.to))
        (closed_all node.peer.epoch (rows_of node.peer.rows oid))
        (closed_all-closed node.peer.epoch (rows_of node.peer.rows oid))))
