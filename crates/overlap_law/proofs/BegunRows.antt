-- A row begins with a create of its first epoch that its node served, or in an epoch to which each member came: what a store makes of rows
-- keeps from where they are, but for one that is created, or put by a recovery.
use Rattle.std.proofs.Common.{◌≡◌, ℕ, ◌-◌, not, Bool, List, [], ◌∷◌, ◌++◌, length, filter, map, None, unwrap_or, refl, sym, subst}
use Rattle.std.specs.List.{AllByRecursion}
use Rattle.proof_tools.proofs.Booleans.{cond_either}
use Rattle.object_id.specs.declared.node.Epoch.{Epoch}
use Rattle.object_id.specs.declared.node.NodeId.{NodeId}
use Rattle.object_id.specs.declared.policy.Policy.{Policy}
use Rattle.object_id.specs.Fields.{zeros}
use Rattle.object_id.specs.Piece.{laid_over}
use Rattle.epoch_log.specs.Epochs.{settled_of}
use Rattle.object_store.specs.declared.key.Key.{Key}
use Rattle.object_store.specs.Rows.{has_ended_below, is_open_at, closed, closed_all, is_replaced, ended, purged}
use Rattle.object_store.specs.Store.{SeenRow, rows_of, write_in, create_in}
use Rattle.peer_proto.specs.declared.ask.PeerAsk.TheVariants as asks
use Rattle.peer_proto.specs.declared.ask.PeerReq.{PeerReq}
use Rattle.peer_service.specs.State.{Peer}
use Rattle.peer_service.specs.Epochs.{stays_open, row_entering}
use Rattle.peer_service.specs.Fence.{epoch_refusal}
use Rattle.peer_service.specs.LogReading.{without_objects, read_entry}
use Rattle.vnode_table.specs.Targets.{targets_in}
use Rattle.recovery.specs.Shown.{NodeView, index_in}
use Rattle.sheep_node.specs.declared.input.Input.{Input}
use Rattle.sheep_node.specs.declared.input.Input.TheVariants as inputs
use Rattle.sheep_node.specs.LogReading.{epochs_with_entry}
use Rattle.sheep_node.specs.State.{Node}
use Rattle.overlap_law.proofs.RowsInTurn.{closed-from, all_mapped, all_filtered, all_changed}
use Rattle.overlap_law.proofs.StoredRows.{IsRecovering, KeepsRowsWhilePending}

-- the rows of an object are from epochs of which something holds
abbrev pub AreFrom : (ℕ → ℕ → Type 0) → ℕ → ℕ → List SeenRow → Type 0
AreFrom P epoch oid rows = AllByRecursion (λ (row : SeenRow). P oid row.from.0) rows

-- a view of a node in an epoch
abbrev pub IsViewIn : ℕ → NodeId → ℕ → NodeView → Type 0
IsViewIn last me epoch shown = shown.epoch ≡ last

-- ---- what a store makes of the rows of an object

module _ (P : ℕ → ℕ → Type 0) (oid : ℕ) where
  abbrev IsFrom : SeenRow → Type 0
  IsFrom row = P oid row.from.0

  closed_from : (last : ℕ) (row : SeenRow) → IsFrom row → IsFrom (closed last row)
  closed_from last row is = subst (λ (from : Epoch). P oid from.0) (sym (closed-from last row)) is

  pushed : (rows : List SeenRow) (new : SeenRow) → AllByRecursion IsFrom rows → IsFrom new → AllByRecursion IsFrom (rows ++ new ∷ [])
  pushed [] new all is = (is, tt)
  pushed (row ∷ rows) new all is = (all.0, pushed rows new all.1 is)

  created_from : (epoch index size offset : ℕ) (piece : List ℕ) (rows : List SeenRow) → P oid epoch → AllByRecursion IsFrom rows
      → AllByRecursion IsFrom (create_in index epoch size offset piece rows)
  created_from epoch index size offset piece rows is are =
      let test : SeenRow → Bool = λ (row : SeenRow). not (is_replaced epoch row) in
      let bytes : List ℕ = laid_over (zeros size) offset piece in
      pushed (ended epoch rows) (record { index = index; from = record { 0 = epoch }; to = None; bytes = bytes })
      (all_mapped IsFrom IsFrom (closed (epoch - 1)) (λ row from. closed_from (epoch - 1) row from) (filter test rows)
      (all_filtered IsFrom test rows are)) is

  written_from : (index offset : ℕ) (piece : List ℕ) (rows : List SeenRow) → AllByRecursion IsFrom rows
      → AllByRecursion IsFrom (write_in index offset piece rows)
  written_from index offset piece rows are =
      all_changed IsFrom (is_open_at index) (λ (bytes : List ℕ). laid_over bytes offset piece) (λ row is. is) rows are

  purged_from : (settled : ℕ) (rows : List SeenRow) → AllByRecursion IsFrom rows → AllByRecursion IsFrom (purged settled rows)
  purged_from settled rows are = all_filtered IsFrom (λ (row : SeenRow). not (has_ended_below settled row.to)) rows are

  closed_all_from : (last : ℕ) (rows : List SeenRow) → AllByRecursion IsFrom rows → AllByRecursion IsFrom (closed_all last rows)
  closed_all_from last rows are = all_mapped IsFrom IsFrom (closed last) (λ row is. closed_from last row is) rows are

  entered_from : (me : NodeId) (targets : ℕ → ℕ → Policy → List NodeId) (peer : Peer) (rows : List SeenRow) → AllByRecursion IsFrom rows
      → AllByRecursion IsFrom (map (row_entering me targets peer oid) rows)
  entered_from me targets peer rows are =
      all_mapped IsFrom IsFrom (row_entering me targets peer oid)
      (λ row is. cond_either IsFrom (stays_open me targets peer oid row.index) row (closed peer.epoch row) is
      (closed_from peer.epoch row is)) rows are

-- ---- a step of a node

-- what is known of a step: what holds of an epoch from which a row is created, or put by the recovery
pub record StepIsBegun (P : ℕ → ℕ → Type 0) (node : Node) (input : Input) : Type 0 where
  pub created : (request : PeerReq) (key : Key) (size offset : ℕ) (bytes : List ℕ) → input ≡ inputs.Request request
      → request.ask ≡ asks.Create key size offset bytes → epoch_refusal node.peer.epoch request.epoch.0 ≡ None
      → P key.oid node.peer.epoch
  pub recovered : IsRecovering node input → (oid : ℕ) → P oid node.peer.epoch

pub keeps_begun : (P : ℕ → ℕ → Type 0) (node : Node) (input : Input) → StepIsBegun P node input
    → KeepsRowsWhilePending (IsViewIn node.peer.epoch) (AreFrom P) node input
unfolding read_entry without_objects
keeps_begun P node input is = record {
  view = λ recovering. refl;
  views = record { listed = λ state so. so; gone = λ state oid so. so; found = λ state search policy bytes searched so. so };
  created = λ request key size offset bytes comes asked own rows are.
      created_from P key.oid node.peer.epoch key.index size offset bytes rows
      (is.created request key size offset bytes comes asked own) are;
  written = λ key offset bytes row on inside are. written_from P key.oid key.index offset bytes (rows_of node.peer.rows key.oid) are;
  recovered = λ recovering me epoch shown oid policy bytes view searched rows are.
      created_from P oid shown.epoch (unwrap_or (index_in shown epoch oid policy me) 0) (length bytes) 0 bytes rows
      (subst (P oid) (sym view) (is.recovered recovering oid)) are;
  entered = λ entry comes begins oid rows are.
      entered_from P oid node.me (targets_in (epochs_with_entry entry node)) (read_entry entry node.peer) rows are;
  killed = λ entry comes oid kills. tt;
  settled = λ entry comes epoch oid rows are. purged_from P oid (settled_of (read_entry entry node.peer).entries) rows are;
  returned = λ entries comes oid rows are.
      purged_from P oid (settled_of entries) (closed_all node.peer.epoch rows) (closed_all_from P oid node.peer.epoch rows are);
  returned_dead = λ entries comes oid dies. tt;
}
