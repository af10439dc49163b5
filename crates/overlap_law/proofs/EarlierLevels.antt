-- No step of a node makes a row of an object that covers a level below the node's epoch: a row begins with that epoch or a later one, and
-- none grows backwards. So who had no row of such a level has none later.
use Rattle.std.proofs.Common.{◌≡◌, ⊎_elim, arith, ℕ, ◌+◌, ◌-◌, ◌<◌, ◌≤◌, nat_le, not, Bool, true, false, cond, List, [], ◌∷◌, ◌++◌, length}
use Rattle.std.proofs.Common.{map, filter, Some, None, unwrap_or, refl, sym, ap, subst, ◌∙◌}
use Rattle.std.specs.List.{list_any}
use Rattle.std.specs.FinMap as tree
use Rattle.std.proofs.lemmas.Bool.{and_left, lt-leb, or_cases, or_left, or_right}
use Rattle.std.proofs.lemmas.Option.{same_Some}
use Rattle.object_id.specs.declared.node.NodeId.{NodeId}
use Rattle.object_id.specs.Fields.{zeros}
use Rattle.object_id.specs.Piece.{laid_over}
use Rattle.epoch_log.specs.Epochs.{epoch_of, settled_of}
use Rattle.cluster_script.specs.declared.statement.Statement.{Statement}
use Rattle.object_store.specs.Rows.{has_ended_below, is_open, is_open_at, closed, closed_all, is_replaced, ended}
use Rattle.object_store.specs.Store.{SeenRow, rows_of, create_in}
use Rattle.peer_service.specs.State.{Peer}
use Rattle.peer_service.specs.Epochs.{stays_open, row_entering}
use Rattle.peer_service.specs.LogReading.{without_objects, read_entry}
use Rattle.recovery.specs.Shown.{NodeView, index_in}
use Rattle.vnode_table.specs.Targets.{targets_in}
use Rattle.sheep_node.specs.declared.input.Input.{Input}
use Rattle.sheep_node.specs.LogReading.{epochs_with_entry}
use Rattle.sheep_node.specs.State.{Node}
use Rattle.sheep_node.specs.Step.{node_step}
use Rattle.sheep_world.specs.World.{Host}
use Rattle.sheep_world.specs.Began.{Began}
use Rattle.sheep_world.specs.RunsWithAsks.{Move}
use Rattle.overlap_law.specs.Each.{row_covers, has_row_at}
use Rattle.overlap_law.specs.Past.{MomentWithPast, run_with_past}
use Rattle.overlap_law.specs.MomentChanges.{MomentChange, MomentTrail, RunsAreInRange}
use Rattle.overlap_law.proofs.CoveredLevels.{Covers, covers_from, covers_to, covers_by, any_changed}
use Rattle.overlap_law.proofs.HostsInMoments.{none_there}
use Rattle.overlap_law.proofs.NoRecoveredDue.{began-with_past}
use Rattle.overlap_law.proofs.PeersInMoments.{PeerChange, PeerStays, PeerSteps, PeerIsNew, peers_change}
use Rattle.overlap_law.proofs.RowsInTurn.{end_open, end_shut}
use Rattle.overlap_law.proofs.StoredRows.{KeepsRows, step-rows_so}

-- ---- one row

-- a row that covers a level in another epoch, or once it was closed, covered it in an epoch that isn't below
later_was : (level epoch next : ℕ) (row : SeenRow) → level ≤ epoch → row_covers next level row ≡ true → row_covers epoch level row ≡ true
later_was level epoch next row most covers = by_test (is_open row) refl
  where
    by_test : (b : Bool) → is_open row ≡ b → row_covers epoch level row ≡ true
    by_test true still =
        let ends = end_open row.to still epoch in
        covers_by level epoch row (covers_from level next row covers) (omega (arith, most, ends))
    by_test false shut =
        let to = covers_to level next row covers in
        let same = end_shut row.to shut epoch next in
        covers_by level epoch row (covers_from level next row covers) (omega (arith, to, same))

closed_was : (level epoch next last : ℕ) (row : SeenRow) → level ≤ epoch → row_covers next level (closed last row) ≡ true
    → row_covers epoch level row ≡ true
closed_was level epoch next last row most covers = by_test (is_open row) refl covers
  where
    by_test : (b : Bool) → is_open row ≡ b → row_covers next level (cond b (record row { to = Some (record { 0 = last }) }) row) ≡ true
        → row_covers epoch level row ≡ true
    by_test true still covered =
        let ends = end_open row.to still epoch in
        covers_by level epoch row (covers_from level next (record row { to = Some (record { 0 = last }) }) covered)
        (omega (arith, most, ends))
    by_test false shut covered = later_was level epoch next row most covered

-- ---- some rows

mapped_any : (p q : SeenRow → Bool) (f : SeenRow → SeenRow) → ((row : SeenRow) → q (f row) ≡ true → p row ≡ true) → (rows : List SeenRow)
    → list_any q (map f rows) ≡ true → list_any p rows ≡ true
mapped_any p q f so [] any = absurd (cc (any))
mapped_any p q f so (row ∷ rows) any = ⊎_elim
    (λ (here : q (f row) ≡ true). or_left (p row) (list_any p rows) (so row here))
    (λ (later : list_any q (map f rows) ≡ true). or_right (p row) (list_any p rows) (mapped_any p q f so rows later))
    (or_cases (q (f row)) (list_any q (map f rows)) any)

filtered_any : (p test : SeenRow → Bool) (rows : List SeenRow) → list_any p (filter test rows) ≡ true → list_any p rows ≡ true
filtered_any p test [] any = any
filtered_any p test (row ∷ rows) any = by_test (test row) any (λ later. filtered_any p test rows later)
  where
    by_test : (b : Bool) → list_any p (cond b (row ∷ filter test rows) (filter test rows)) ≡ true
        → (list_any p (filter test rows) ≡ true → list_any p rows ≡ true) → list_any p (row ∷ rows) ≡ true
    by_test true any rest = ⊎_elim
        (λ (here : p row ≡ true). or_left (p row) (list_any p rows) here)
        (λ (later : list_any p (filter test rows) ≡ true). or_right (p row) (list_any p rows) (rest later))
        (or_cases (p row) (list_any p (filter test rows)) any)
    by_test false any rest = or_right (p row) (list_any p rows) (rest any)

pushed_any : (p : SeenRow → Bool) (rows : List SeenRow) (new : SeenRow) → p new ≡ false → list_any p (rows ++ new ∷ []) ≡ true
    → list_any p rows ≡ true
pushed_any p [] new none any = ⊎_elim
    (λ (own : p new ≡ true). absurd (cc (own, none)))
    (λ (nothing : false ≡ true). absurd (cc (nothing)))
    (or_cases (p new) false any)
pushed_any p (row ∷ rows) new none any = ⊎_elim
    (λ (here : p row ≡ true). or_left (p row) (list_any p rows) here)
    (λ (later : list_any p (rows ++ new ∷ []) ≡ true). or_right (p row) (list_any p rows) (pushed_any p rows new none later))
    (or_cases (p row) (list_any p (rows ++ new ∷ [])) any)

-- ---- what a store makes of the rows of an object

created_was : (level epoch index size offset : ℕ) (piece : List ℕ) (rows : List SeenRow) → level < epoch
    → Covers level epoch (create_in index epoch size offset piece rows) → Covers level epoch rows
created_was level epoch index size offset piece rows below covers =
    filtered_any (row_covers epoch level) (λ (row : SeenRow). not (is_replaced epoch row)) rows
    (mapped_any (row_covers epoch level) (row_covers epoch level) (closed (epoch - 1))
    (λ row here. closed_was level epoch epoch (epoch - 1) row (omega (arith, below)) here)
    (filter (λ (row : SeenRow). not (is_replaced epoch row)) rows)
    (pushed_any (row_covers epoch level) (ended epoch rows) new (and_left (nat_le epoch level) (nat_le level epoch)
    (lt-leb epoch level below)) covers))
  where
    new : SeenRow
    new = record { index = index; from = record { 0 = epoch }; to = None; bytes = laid_over (zeros size) offset piece }

entered_was : (level epoch : ℕ) (f : SeenRow → SeenRow) (stays : SeenRow → Bool)
    → ((row : SeenRow) → f row ≡ cond (stays row) row (closed epoch row)) → level ≤ epoch → (rows : List SeenRow)
    → Covers level (epoch + 1) (map f rows) → Covers level epoch rows
entered_was level epoch f stays so most rows covers =
    mapped_any (row_covers epoch level) (row_covers (epoch + 1) level) f
    (λ row here. by_test row (stays row) (ap (row_covers (epoch + 1) level) (sym (so row)) ∙ here)) rows covers
  where
    by_test : (row : SeenRow) → (b : Bool) → row_covers (epoch + 1) level (cond b row (closed epoch row)) ≡ true
        → row_covers epoch level row ≡ true
    by_test row true here = later_was level epoch (epoch + 1) row most here
    by_test row false here = closed_was level epoch (epoch + 1) epoch row most here

module _ (node : Node) (input : Input) (level : ℕ) (below : level < node.peer.epoch) where
  -- the level is below the epoch
  abbrev IsBelowView : NodeId → ℕ → NodeView → Type 0
  IsBelowView me epoch shown = level < shown.epoch

  -- what covers it now did so before
  abbrev WasCovered : ℕ → ℕ → List SeenRow → Type 0
  WasCovered epoch oid rows = Covers level epoch rows → Covers level node.peer.epoch (rows_of node.peer.rows oid)

  keeps_earlier : KeepsRows IsBelowView WasCovered node input
  unfolding read_entry without_objects
  keeps_earlier = record {
    view = below;
    views = record { listed = λ at is. is; gone = λ at oid is. is; found = λ at search policy bytes searched is. is };
    created = λ request key size offset bytes comes asked own rows so covers.
        so (created_was level node.peer.epoch key.index size offset bytes rows below covers);
    written = λ key offset bytes row on inside so covers.
        so (sym (any_changed (row_covers node.peer.epoch level) (is_open_at key.index) (λ (old : List ℕ). laid_over old offset bytes)
        (λ row. refl) (rows_of node.peer.rows key.oid)) ∙ covers);
    recovered = λ me epoch shown oid policy bytes within searched rows so covers.
        so (created_was level shown.epoch (unwrap_or (index_in shown epoch oid policy me) 0) (length bytes) 0 bytes rows within covers);
    entered = λ entry comes begins oid rows so covers.
        let targets = targets_in (epochs_with_entry entry node) in
        let read : Peer = read_entry entry node.peer in
        so (entered_was level node.peer.epoch (row_entering node.me targets read oid)
        (λ (row : SeenRow). stays_open node.me targets read oid row.index) (λ row. refl) (omega (arith, below)) rows covers);
    killed = λ entry comes oid kills covers. absurd (cc (covers));
    settled = λ entry comes epoch oid rows so covers.
        so (filtered_any (row_covers epoch level)
        (λ (row : SeenRow). not (has_ended_below (settled_of (read_entry entry node.peer).entries) row.to)) rows covers);
    returned = λ entries comes oid rows so covers.
        so (mapped_any (row_covers node.peer.epoch level) (row_covers (epoch_of entries) level) (closed node.peer.epoch)
        (λ row here. closed_was level node.peer.epoch (epoch_of entries) node.peer.epoch row (omega (arith, below)) here) rows
        (filtered_any (row_covers (epoch_of entries) level) (λ (row : SeenRow). not (has_ended_below (settled_of entries) row.to))
        (closed_all node.peer.epoch rows) covers));
    returned_dead = λ entries comes oid dies covers. absurd (cc (covers));
  }

  pub level-was : (oid : ℕ) → Covers level (node_step input node).node.peer.epoch (rows_of (node_step input node).node.peer.rows oid)
      → Covers level node.peer.epoch (rows_of node.peer.rows oid)
  level-was oid covers =
      step-rows_so IsBelowView WasCovered node input keeps_earlier (λ oid covered. covered) oid covers

-- ---- over a change of a moment

-- a node that was beyond a level has a row of it only if it had one
module _ (script : List Statement) (range : RunsAreInRange script) (start before after : MomentWithPast) (began : Began script start.world)
    (change : MomentChange script start before after) where
  pub had_row : (n : ℕ) (was host : Host) → tree.get before.world.hosts n ≡ Some was → tree.get after.world.hosts n ≡ Some host
      → (oid level : ℕ) → level < was.node.peer.epoch → Covers level host.node.peer.epoch (rows_of host.node.peer.rows oid)
      → Covers level was.node.peer.epoch (rows_of was.node.peer.rows oid)
  had_row n was host there at oid level below covers = by_change (peers_change script range start began change n host at)
    where
      by_change : PeerChange before n host → Covers level was.node.peer.epoch (rows_of was.node.peer.rows oid)
      by_change (PeerStays old old_there same) =
          let own : old ≡ was = same_Some old was (sym old_there ∙ there) in
          subst (λ (peer : Peer). Covers level peer.epoch (rows_of peer.rows oid)) (sym same ∙ ap (λ (h : Host). h.node.peer) own) covers
      by_change (PeerSteps old old_there step) =
          let own : old ≡ was = same_Some old was (sym old_there ∙ there) in
          let below_old : level < old.node.peer.epoch = (let same = ap (λ (h : Host). h.node.peer.epoch) own in omega
          (arith, same, below)) in
          subst (λ (h : Host). Covers level h.node.peer.epoch (rows_of h.node.peer.rows oid)) own
          (level-was old.node step.input level below_old oid
          (subst (λ (peer : Peer). Covers level peer.epoch (rows_of peer.rows oid)) (sym step.peer_so) covers))
      by_change (PeerIsNew tries none is) = none_there (tree.get before.world.hosts n) was none there

module _ (script : List Statement) (range : RunsAreInRange script) (events : List Move) (start before after : MomentWithPast)
    (is : run_with_past script events ≡ Some start) (trail : MomentTrail script start before)
    (change : MomentChange script start before after) where
  pub no_earlier-on_the_way : (n : ℕ) (was host : Host) → tree.get before.world.hosts n ≡ Some was
      → tree.get after.world.hosts n ≡ Some host
      → (oid level : ℕ) → level < was.node.peer.epoch → has_row_at host.node.peer.epoch host.node.peer.rows oid level ≡ true
      → has_row_at was.node.peer.epoch was.node.peer.rows oid level ≡ true
  no_earlier-on_the_way n was host there at oid level below covers =
      had_row script range start before after (began-with_past script events start is) change n was host there at oid level below covers
