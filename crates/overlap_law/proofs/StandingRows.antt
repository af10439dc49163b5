-- What holds of each row of an object at a node stays so, if it stays where a row ends and where its bytes change, and holds of each row
-- that begins from some epoch on, to which the node came: so it is over each step of the node, and over each change of a moment.
use Rattle.std.proofs.Common.{◌≡◌, ℕ, ◌-◌, ◌≤◌, not, List, [], ◌∷◌, ◌++◌, length, filter}
use Rattle.std.proofs.Common.{Some, None, unwrap_or, zero, suc, slice_get, sym, subst}
use Rattle.std.specs.List.{AllByRecursion}
use Rattle.std.specs.FinMap as tree
use Rattle.std.proofs.lemmas.Option.{same_Some}
use Rattle.proof_tools.proofs.Booleans.{cond_either}
use Rattle.object_id.specs.Fields.{zeros}
use Rattle.object_id.specs.Piece.{laid_over}
use Rattle.object_id.specs.declared.node.NodeId.{NodeId}
use Rattle.epoch_log.specs.Epochs.{settled_of}
use Rattle.object_store.specs.Rows.{is_open_at, closed, closed_all, is_replaced, ended, purged, has_ended_below}
use Rattle.object_store.specs.Store.{SeenRow, rows_of, write_in, create_in}
use Rattle.object_store.proofs.StoreLaws.{rows_of-empty}
use Rattle.cluster_script.specs.declared.statement.Statement.{Statement}
use Rattle.peer_service.specs.State.{Peer}
use Rattle.peer_service.specs.Epochs.{stays_open, row_entering}
use Rattle.peer_service.specs.LogReading.{without_objects, read_entry}
use Rattle.recovery.specs.Shown.{NodeView, index_in}
use Rattle.vnode_table.specs.Targets.{targets_in}
use Rattle.sheep_node.specs.declared.input.Input.{Input}
use Rattle.sheep_node.specs.LogReading.{epochs_with_entry}
use Rattle.sheep_node.specs.State.{Node}
use Rattle.sheep_node.specs.Step.{node_step}
use Rattle.sheep_world.specs.World.{Host}
use Rattle.sheep_world.specs.Began.{Began}
use Rattle.overlap_law.specs.Past.{MomentWithPast}
use Rattle.overlap_law.specs.MomentChanges.{MomentChange, RunsAreInRange}
use Rattle.overlap_law.proofs.PeersInMoments.{PeerChange, PeerStays, PeerSteps, PeerIsNew, peers_change}
use Rattle.overlap_law.proofs.RowsInTurn.{all_mapped, all_filtered, all_changed}
use Rattle.overlap_law.proofs.StoredRows.{KeepsRows, step-rows_so}

-- what holds of a row of an object holds where the row ends, where its bytes change, and of each row that begins from an epoch on
pub record StandsFrom (epoch : ℕ) (D : ℕ → SeenRow → Type 0) : Type 0 where
  pub ends : (oid last : ℕ) (row : SeenRow) → D oid row → D oid (closed last row)
  pub changes : (oid : ℕ) (row : SeenRow) (bytes : List ℕ) → D oid row → D oid (record row { bytes = bytes })
  pub begins : (oid : ℕ) (row : SeenRow) → epoch ≤ row.from.0 → D oid row

-- it holds of all rows
abbrev pub AllStand : (ℕ → SeenRow → Type 0) → Peer → Type 0
AllStand D peer = (oid : ℕ) → AllByRecursion (D oid) (rows_of peer.rows oid)

-- and so at each place
pub stands_at : (P : SeenRow → Type 0) (rows : List SeenRow) (i : ℕ) (row : SeenRow) → slice_get rows i ≡ Some row → AllByRecursion P rows
    → P row
stands_at P [] i row got all = absurd (cc (got))
stands_at P (first ∷ rows) zero row got all = subst P (same_Some first row got) all.0
stands_at P (first ∷ rows) (suc i) row got all = stands_at P rows i row got all.1

module _ (bound : ℕ) (D : ℕ → SeenRow → Type 0) (stands : StandsFrom bound D) where
  -- ---- what a store makes of the rows of an object

  all_pushed : (oid : ℕ) (rows : List SeenRow) (new : SeenRow) → AllByRecursion (D oid) rows → D oid new
      → AllByRecursion (D oid) (rows ++ new ∷ [])
  all_pushed oid [] new all own = (own, tt)
  all_pushed oid (row ∷ rows) new all own = (all.0, all_pushed oid rows new all.1 own)

  all_created : (oid epoch index size offset : ℕ) (piece : List ℕ) (rows : List SeenRow) → bound ≤ epoch → AllByRecursion (D oid) rows
      → AllByRecursion (D oid) (create_in index epoch size offset piece rows)
  all_created oid epoch index size offset piece rows come all =
      let new : SeenRow = record { index = index; from = record { 0 = epoch }; to = None; bytes = laid_over (zeros size) offset piece } in
      let kept : List SeenRow = filter (λ (row : SeenRow). not (is_replaced epoch row)) rows in
      all_pushed oid (ended epoch rows) new
      (all_mapped (D oid) (D oid) (closed (epoch - 1)) (λ row is. stands.ends oid (epoch - 1) row is) kept
      (all_filtered (D oid) (λ (row : SeenRow). not (is_replaced epoch row)) rows all))
      (stands.begins oid new come)

  all_written : (oid index offset : ℕ) (piece : List ℕ) (rows : List SeenRow) → AllByRecursion (D oid) rows
      → AllByRecursion (D oid) (write_in index offset piece rows)
  all_written oid index offset piece rows all =
      all_changed (D oid) (is_open_at index) (λ (bytes : List ℕ). laid_over bytes offset piece)
      (λ row is. stands.changes oid row (laid_over row.bytes offset piece) is) rows all

  all_purged : (oid settled : ℕ) (rows : List SeenRow) → AllByRecursion (D oid) rows → AllByRecursion (D oid) (purged settled rows)
  all_purged oid settled rows all = all_filtered (D oid) (λ (row : SeenRow). not (has_ended_below settled row.to)) rows all

  all_closed : (oid last : ℕ) (rows : List SeenRow) → AllByRecursion (D oid) rows → AllByRecursion (D oid) (closed_all last rows)
  all_closed oid last rows all = all_mapped (D oid) (D oid) (closed last) (λ row is. stands.ends oid last row is) rows all

  -- ---- a step of a node

  -- the node came to the epoch
  abbrev HasCome : NodeId → ℕ → NodeView → Type 0
  HasCome me epoch shown = bound ≤ shown.epoch

  abbrev StandAt : ℕ → ℕ → List SeenRow → Type 0
  StandAt epoch oid rows = AllByRecursion (D oid) rows

  keeps_standing : (node : Node) (input : Input) → bound ≤ node.peer.epoch → KeepsRows HasCome StandAt node input
  unfolding read_entry without_objects
  keeps_standing node input come = record {
    view = come;
    views = record { listed = λ at is. is; gone = λ at oid is. is; found = λ at search policy bytes searched is. is };
    created = λ request key size offset bytes comes is own rows all.
        all_created key.oid node.peer.epoch key.index size offset bytes rows come all;
    written = λ key offset bytes row on inside all. all_written key.oid key.index offset bytes (rows_of node.peer.rows key.oid) all;
    recovered = λ me epoch shown oid policy bytes within searched rows all.
        all_created oid shown.epoch (unwrap_or (index_in shown epoch oid policy me) 0) (length bytes) 0 bytes rows within all;
    entered = λ entry comes begins oid rows all.
        let targets = targets_in (epochs_with_entry entry node) in
        let read : Peer = read_entry entry node.peer in
        all_mapped (D oid) (D oid) (row_entering node.me targets read oid)
        (λ row is.
        cond_either (D oid) (stays_open node.me targets read oid row.index) row (closed node.peer.epoch row) is
        (stands.ends oid node.peer.epoch row is))
        rows all;
    killed = λ entry comes oid kills. tt;
    settled = λ entry comes epoch oid rows all. all_purged oid (settled_of (read_entry entry node.peer).entries) rows all;
    returned = λ entries comes oid rows all.
        all_purged oid (settled_of entries) (closed_all node.peer.epoch rows) (all_closed oid node.peer.epoch rows all);
    returned_dead = λ entries comes oid dies. tt;
  }

  pub step_stands : (node : Node) (input : Input) → bound ≤ node.peer.epoch → AllStand D node.peer
      → AllStand D (node_step input node).node.peer
  step_stands node input come all = step-rows_so HasCome StandAt node input (keeps_standing node input come) all

  -- ---- a change of a moment

  -- where the node is there it came to the epoch, and its rows are so
  abbrev pub StandWhereCome : MomentWithPast → ℕ → Type 0
  StandWhereCome moment n = (host : Host) → tree.get moment.world.hosts n ≡ Some host
      → (bound ≤ host.node.peer.epoch) × AllStand D host.node.peer

  module _ (script : List Statement) (range : RunsAreInRange script) (start : MomentWithPast) (began : Began script start.world) where
    pub rows-stand : {before after : MomentWithPast} → MomentChange script start before after → (n : ℕ) → StandWhereCome before n
        → (host : Host) → tree.get after.world.hosts n ≡ Some host → AllStand D host.node.peer
    rows-stand {before} {after} change n were host there = by_change (peers_change script range start began change n host there)
      where
        by_change : PeerChange before n host → AllStand D host.node.peer
        by_change (PeerStays was was_there same) = subst (AllStand D) same (were was was_there).1
        by_change (PeerSteps was was_there step) =
            let (come, all) = were was was_there in
            subst (AllStand D) step.peer_so (step_stands was.node step.input come all)
        by_change (PeerIsNew tries none is) =
            subst (AllStand D) is (λ oid. subst (AllByRecursion (D oid)) (sym (rows_of-empty oid)) tt)
