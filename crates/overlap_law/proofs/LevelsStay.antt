-- A level that a row of an object covers at a node is covered after a step of the node, unless the object's id is dead by what the node has
-- read then, or a later epoch is settled by that.
use Rattle.std.proofs.Common.{◌≡◌, ◌⊎◌, inl, inr, ⊎_elim, ℕ, ◌+◌, ◌<◌, ◌≤◌, not, true, List, [], ◌∷◌, ◌++◌, length, map, unwrap_or, refl}
use Rattle.std.proofs.Common.{sym, subst}
use Rattle.std.proofs.lemmas.Bool.{and_parts}
use Rattle.object_id.specs.declared.entry.Entry.{Entry}
use Rattle.object_id.specs.declared.node.NodeId.{NodeId}
use Rattle.object_id.specs.Oid.{vid_of}
use Rattle.epoch_log.specs.Epochs.{epoch_of, settled_of}
use Rattle.object_store.specs.Rows.{closed_all, purged}
use Rattle.object_store.specs.Store.{SeenRow, rows_of, write_in, create_in}
use Rattle.vdi_directory.specs.Dead.{is_dead}
use Rattle.vdi_directory.specs.Decisions.{log_effects}
use Rattle.peer_service.specs.State.{Peer, is_dead_object, with_entry}
use Rattle.peer_service.specs.Epochs.{stays_open, row_entering, peer_settled_to}
use Rattle.peer_service.specs.LogReading.{without_objects, read_entry}
use Rattle.peer_service.specs.Back.{come_back}
use Rattle.recovery.specs.Shown.{NodeView, index_in}
use Rattle.vnode_table.specs.Targets.{targets_in}
use Rattle.sheep_node.specs.declared.input.Input.{Input}
use Rattle.sheep_node.specs.declared.input.Input.TheVariants as inputs
use Rattle.sheep_node.specs.LogReading.{epochs_with_entry}
use Rattle.sheep_node.specs.State.{Node}
use Rattle.sheep_node.specs.Step.{node_step}
use Rattle.sheep_node.specs.StepFacts.{read_after}
use Rattle.overlap_law.proofs.CoveredLevels.{Covers, written-covers, created-covers, entered-covers, closed-covers, purged-covers}
use Rattle.overlap_law.proofs.StoredRows.{KeepsRows, step-rows_so}

-- by these entries the object's id is dead, or an epoch behind the level is settled
abbrev pub IsGone : List Entry → ℕ → ℕ → Type 0
IsGone entries level oid = (is_dead (log_effects entries) (vid_of oid) ≡ true) ⊎ (level < settled_of entries)

module _ (node : Node) (input : Input) (level : ℕ) (most : level ≤ node.peer.epoch) where
  -- the level is none beyond the epoch
  abbrev IsWithinView : NodeId → ℕ → NodeView → Type 0
  IsWithinView me epoch shown = level ≤ shown.epoch

  -- what was covered is so still
  abbrev StaysCovered : ℕ → ℕ → List SeenRow → Type 0
  StaysCovered epoch oid rows = Covers level node.peer.epoch (rows_of node.peer.rows oid)
      → Covers level epoch rows ⊎ IsGone (read_after input node.peer.entries) level oid

  -- one more thing is made of the rows, which keeps what they cover
  on_covered : (epoch next oid : ℕ) (rows after : List SeenRow) → (Covers level epoch rows → Covers level next after)
      → StaysCovered epoch oid rows → StaysCovered next oid after
  on_covered epoch next oid rows after keeps so covered = ⊎_elim
      (λ (covers : Covers level epoch rows). inl (keeps covers))
      (λ (gone : IsGone (read_after input node.peer.entries) level oid). inr gone)
      (so covered)

  -- or some that ended below a settled epoch are dropped
  on_purged : (epoch oid settled : ℕ) (rows : List SeenRow)
      → (level < settled → IsGone (read_after input node.peer.entries) level oid) → StaysCovered epoch oid rows
      → StaysCovered epoch oid (purged settled rows)
  on_purged epoch oid settled rows below so covered = ⊎_elim
      (λ (covers : Covers level epoch rows). ⊎_elim
      (λ (still : Covers level epoch (purged settled rows)). inl still)
      (λ (late : level < settled). inr (below late))
      (purged-covers level epoch settled rows covers))
      (λ (gone : IsGone (read_after input node.peer.entries) level oid). inr gone)
      (so covered)

  -- what is gone by the entries with one more
  gone_reading : (entry : Entry) → input ≡ inputs.LogEntry entry → (oid : ℕ) → IsGone (node.peer.entries ++ entry ∷ []) level oid
      → IsGone (read_after input node.peer.entries) level oid
  gone_reading entry comes oid gone =
      subst (λ (at : Input). IsGone (read_after at node.peer.entries) level oid) (sym comes) gone

  gone_back : (entries : List Entry) → input ≡ inputs.Back entries → (oid : ℕ) → IsGone entries level oid
      → IsGone (read_after input node.peer.entries) level oid
  gone_back entries comes oid gone =
      subst (λ (at : Input). IsGone (read_after at node.peer.entries) level oid) (sym comes) gone

  keeps_covered : KeepsRows IsWithinView StaysCovered node input
  unfolding read_entry without_objects come_back peer_settled_to
  keeps_covered = record {
    view = most;
    views = record { listed = λ at is. is; gone = λ at oid is. is; found = λ at search policy bytes searched is. is };
    created = λ request key size offset bytes comes asked own rows so.
        on_covered node.peer.epoch node.peer.epoch key.oid rows (create_in key.index node.peer.epoch size offset bytes rows)
        (λ covers. created-covers level node.peer.epoch key.index size offset bytes rows covers most) so;
    written = λ key offset bytes row on inside so.
        on_covered node.peer.epoch node.peer.epoch key.oid (rows_of node.peer.rows key.oid)
        (write_in key.index offset bytes (rows_of node.peer.rows key.oid))
        (λ covers. written-covers level node.peer.epoch key.index offset bytes (rows_of node.peer.rows key.oid) covers) so;
    recovered = λ me epoch shown oid policy bytes within searched rows so.
        let index : ℕ = unwrap_or (index_in shown epoch oid policy me) 0 in
        on_covered shown.epoch shown.epoch oid rows (create_in index shown.epoch (length bytes) 0 bytes rows)
        (λ covers. created-covers level shown.epoch index (length bytes) 0 bytes rows covers within) so;
    entered = λ entry comes begins oid rows so.
        let targets = targets_in (epochs_with_entry entry node) in
        let read : Peer = read_entry entry node.peer in
        on_covered node.peer.epoch (node.peer.epoch + 1) oid rows (map (row_entering node.me targets read oid) rows)
        (λ covers. entered-covers level node.peer.epoch (row_entering node.me targets read oid)
        (λ (row : SeenRow). stays_open node.me targets read oid row.index) (λ row. refl) most rows covers) so;
    killed = λ entry comes oid kills covered.
        inr (gone_reading entry comes oid
        (inl (and_parts (is_dead_object (with_entry entry node.peer) oid) (not (is_dead_object node.peer oid)) kills).0));
    settled = λ entry comes epoch oid rows so.
        on_purged epoch oid (settled_of (read_entry entry node.peer).entries) rows (λ late. gone_reading entry comes oid (inr late)) so;
    returned = λ entries comes oid rows so.
        on_purged (epoch_of entries) oid (settled_of entries) (closed_all node.peer.epoch rows)
        (λ late. gone_back entries comes oid (inr late))
        (on_covered node.peer.epoch (epoch_of entries) oid rows (closed_all node.peer.epoch rows)
        (λ covers. closed-covers level node.peer.epoch (epoch_of entries) rows most covers) so);
    returned_dead = λ entries comes oid dies covered. inr (gone_back entries comes oid (inl dies));
  }

  pub level-stays : (oid : ℕ) → Covers level node.peer.epoch (rows_of node.peer.rows oid)
      → Covers level (node_step input node).node.peer.epoch (rows_of (node_step input node).node.peer.rows oid)
      ⊎ IsGone (read_after input node.peer.entries) level oid
  level-stays oid covered =
      step-rows_so IsWithinView StaysCovered node input keeps_covered (λ oid covers. inl covers) oid covered
