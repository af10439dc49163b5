-- In every run in range the rows of an object at a node stand in turn; so a row begins no later than it ends, at most one is open, and no
-- two cover one epoch.
use Rattle.std.proofs.Common.{◌≡◌, arith, ℕ, suc, ◌+◌, ◌<◌, ◌≤◌, List, [], length, filter, Some, unwrap_or, refl, sym, ap, subst, ◌∙◌}
use Rattle.std.specs.FinMap as tree
use Rattle.object_id.specs.declared.entry.Entry.{Entry}
use Rattle.object_id.specs.declared.node.NodeId.{NodeId}
use Rattle.epoch_log.specs.Epochs.{begins_epoch, epoch_of, settled_of}
use Rattle.epoch_log.proofs.EpochLemmas.{epoch_of-append}
use Rattle.object_store.specs.Rows.{closed_all}
use Rattle.object_store.specs.Store.{SeenRow, rows_of}
use Rattle.object_store.proofs.StoreLaws.{rows_of-empty}
use Rattle.cluster_script.specs.declared.statement.Statement.{Statement}
use Rattle.cluster_script.specs.Settings.{tries_of}
use Rattle.peer_service.specs.State.{Peer}
use Rattle.peer_service.specs.Epochs.{stays_open, row_entering}
use Rattle.peer_service.specs.LogReading.{without_objects, read_entry}
use Rattle.recovery.specs.Shown.{NodeView, index_in}
use Rattle.vnode_table.specs.Targets.{targets_in}
use Rattle.sheep_node.specs.declared.input.Input.{Input}
use Rattle.sheep_node.specs.declared.input.Input.TheVariants as inputs
use Rattle.sheep_node.specs.LogReading.{epochs_with_entry}
use Rattle.sheep_node.specs.State as nodes
use Rattle.sheep_node.specs.State.{Node}
use Rattle.sheep_node.specs.Step.{node_step}
use Rattle.sheep_node.specs.StepFacts.{read_after}
use Rattle.sheep_node.proofs.LogLaws.{epoch_more}
use Rattle.sheep_world.specs.World.{Host, World}
use Rattle.sheep_world.specs.Opening.{format_entry, initial_world}
use Rattle.sheep_world.specs.MembershipChanges.{join_of, last_weight}
use Rattle.sheep_world.specs.NodeCauses.{NodeCause, GuestAsks, RequestComes, ReplyComes, LossIsTold, EntryIsRead, EntryIsPut, RecoveryTicks}
use Rattle.sheep_world.specs.NodeCauses.{WorkIsRetried, ClientAsks, input_of_cause}
use Rattle.sheep_world.specs.EventKinds.{log_after_return}
use Rattle.sheep_world.specs.HostChanges.{HostsKeep}
use Rattle.sheep_world.specs.Began.{Began}
use Rattle.sheep_world.proofs.BegunWorlds.{each_where}
use Rattle.sheep_world.proofs.LogFrontLaws.{all_read}
use Rattle.sheep_world.proofs.NodesByTheLog.{by_the_log}
use Rattle.sheep_world.specs.RunsWithAsks.{Move}
use Rattle.overlap_law.specs.Past.{MomentWithPast, run_with_past}
use Rattle.overlap_law.specs.MomentChanges.{RunsAreInRange}
use Rattle.overlap_law.specs.Rows.{RowsHaveEnds, OneRowIsOpen, RowsAreApart}
use Rattle.overlap_law.proofs.NoRecoveredDue.{began-with_past}
use Rattle.overlap_law.proofs.RowsInTurn.{AreInTurn, in_turn-created, in_turn-written, in_turn-entered, in_turn-purged, in_turn-closed}
use Rattle.overlap_law.proofs.RowsInTurn.{within_at, one_is_open, one_covers}
use Rattle.overlap_law.proofs.StoredRows.{AreRowsSo, KeepsRows, step-rows_so}

-- ---- a step of a node

-- a view has an epoch
abbrev pub HasEpoch : NodeId → ℕ → NodeView → Type 0
HasEpoch me epoch shown = 1 ≤ shown.epoch

abbrev pub TurnsAt : ℕ → ℕ → List SeenRow → Type 0
TurnsAt epoch oid rows = AreInTurn epoch rows

-- the rows of each object of a node stand in turn
abbrev pub HasRowsInTurn : Node → Type 0
HasRowsInTurn node = AreRowsSo HasEpoch TurnsAt node.peer

keeps_turns : (node : Node) (input : Input) → 1 ≤ node.peer.epoch
    → ((entries : List Entry) → input ≡ inputs.Back entries → node.peer.epoch < epoch_of entries) → KeepsRows HasEpoch TurnsAt node input
unfolding read_entry without_objects
keeps_turns node input some later = record {
  view = some;
  views = record { listed = λ at is. is; gone = λ at oid is. is; found = λ at search policy bytes searched is. is };
  created = λ request key size offset bytes comes is own rows are.
      in_turn-created node.peer.epoch key.index size offset bytes rows some are;
  written = λ key offset bytes row on inside are.
      in_turn-written node.peer.epoch key.index offset bytes (rows_of node.peer.rows key.oid) are;
  recovered = λ me epoch shown oid policy bytes first searched rows are.
      in_turn-created shown.epoch (unwrap_or (index_in shown epoch oid policy me) 0) (length bytes) 0 bytes rows first are;
  entered = λ entry comes begins oid rows are.
      let targets = targets_in (epochs_with_entry entry node) in
      let read : Peer = read_entry entry node.peer in
      in_turn-entered node.peer.epoch (row_entering node.me targets read oid)
      (λ (row : SeenRow). stays_open node.me targets read oid row.index)
      (λ row. refl) rows are;
  killed = λ entry comes oid kills. tt;
  settled = λ entry comes epoch oid rows are. in_turn-purged epoch (settled_of (read_entry entry node.peer).entries) rows are;
  returned = λ entries comes oid rows are.
      in_turn-purged (epoch_of entries) (settled_of entries) (closed_all node.peer.epoch rows)
      (in_turn-closed node.peer.epoch (epoch_of entries) rows (later entries comes) are);
  returned_dead = λ entries comes oid dies. tt;
}

step_in_turn : (node : Node) (input : Input) → 1 ≤ node.peer.epoch
    → ((entries : List Entry) → input ≡ inputs.Back entries → node.peer.epoch < epoch_of entries) → HasRowsInTurn node
    → HasRowsInTurn (node_step input node).node
step_in_turn node input some later are = step-rows_so HasEpoch TurnsAt node input (keeps_turns node input some later) are

no_rows_in_turn : (me : NodeId) (tries : ℕ) → HasRowsInTurn (nodes.initial_node me tries)
no_rows_in_turn me tries oid = subst (AreInTurn 1) (sym (rows_of-empty oid)) tt

one : 1 ≤ 1
one = omega arith

-- no other input is the coming back
no_return : (cause : NodeCause) (entries : List Entry) (epoch : ℕ) → input_of_cause cause ≡ inputs.Back entries → epoch < epoch_of entries
no_return (GuestAsks session req ask) entries epoch is = absurd (cc (is))
no_return (RequestComes name to request) entries epoch is = absurd (cc (is))
no_return (ReplyComes name from rsp) entries epoch is = absurd (cc (is))
no_return (LossIsTold name packet) entries epoch is = absurd (cc (is))
no_return (EntryIsRead entry) entries epoch is = absurd (cc (is))
no_return (EntryIsPut entry) entries epoch is = absurd (cc (is))
no_return RecoveryTicks entries epoch is = absurd (cc (is))
no_return WorkIsRetried entries epoch is = absurd (cc (is))
no_return (ClientAsks req ask) entries epoch is = absurd (cc (is))

-- ---- every world

module _ (script : List Statement) (range : RunsAreInRange script) where
  some_epoch : (world : World) → Began script world → (n : ℕ) (host : Host) → tree.get world.hosts n ≡ Some host → 1 ≤ host.node.peer.epoch
  some_epoch world began n host there =
      let at : host.node.peer.epoch ≡ length (filter begins_epoch host.node.peer.entries) + 1
      = (by_the_log script range.is_script range.room world began n host there).epoch_so in
      omega (arith, at)

  -- who comes back is in a later epoch
  back_later : (world : World) → Began script world → (n : ℕ) (host : Host) → tree.get world.hosts n ≡ Some host
      → host.node.peer.epoch < epoch_of (log_after_return script n world)
  back_later world began n host there =
      let at : host.node.peer.epoch ≡ epoch_of host.node.peer.entries
      = (by_the_log script range.is_script range.room world began n host there).epoch_so in
      let front = all_read script world began n host there in
      let whole : epoch_of world.log ≡ epoch_of host.node.peer.entries + length (filter begins_epoch front.rest)
      = ap epoch_of front.is ∙ epoch_of-append host.node.peer.entries front.rest in
      let more : epoch_of (log_after_return script n world) ≡ suc (epoch_of world.log)
      = epoch_more world.log (join_of script n (last_weight world.log n)) refl in
      omega (arith, at, whole, more)

  turns_kept : HostsKeep script (Began script) (λ (world : World) (n : ℕ) (host : Host). HasRowsInTurn host.node)
  unfolding initial_world
  turns_kept = record {
    opens = λ member.
        step_in_turn (nodes.initial_node member.node (tries_of script)) (inputs.LogEntry (format_entry script)) one
        (λ entries is. absurd (cc (is))) (no_rows_in_turn member.node (tries_of script));
    stays = λ event world made h began n host are. are;
    steps = λ world n host cause began there up caused are.
        step_in_turn host.node (input_of_cause cause) (some_epoch world began n host there)
        (λ entries is. no_return cause entries host.node.peer.epoch is) are;
    fails = λ world n host began are. are;
    returns = λ world n host began there are.
        step_in_turn host.node (inputs.Back (log_after_return script n world)) (some_epoch world began n host there)
        (λ entries is.
        subst (λ (log : List Entry). host.node.peer.epoch < epoch_of log) (ap (λ (input : Input). read_after input []) is)
        (back_later world began n host there)) are;
    joins = λ world n began control. no_rows_in_turn (record { 0 = n }) (tries_of script);
  }

  pub rows_in_turn : (world : World) → Began script world → (n : ℕ) (host : Host) → tree.get world.hosts n ≡ Some host
      → HasRowsInTurn host.node
  rows_in_turn =
      each_where script (Began script) (λ (world : World) (n : ℕ) (host : Host). HasRowsInTurn host.node) (λ world began. began)
      turns_kept

-- ---- every run

module _ (script : List Statement) (range : RunsAreInRange script) (events : List Move) (moment : MomentWithPast)
    (is : run_with_past script events ≡ Some moment) where
  in_turn : (n : ℕ) (host : Host) → tree.get moment.world.hosts n ≡ Some host → HasRowsInTurn host.node
  in_turn = rows_in_turn script range moment.world (began-with_past script events moment is)

  pub ends-in_run : RowsHaveEnds moment.world.hosts
  ends-in_run = record {
    order = λ n host there oid i row got.
        (within_at host.node.peer.epoch (rows_of host.node.peer.rows oid) i row got (in_turn n host there oid)).0;
    closed = λ n host there oid i row got up shut.
        (within_at host.node.peer.epoch (rows_of host.node.peer.rows oid) i row got (in_turn n host there oid)).1 shut;
  }

  pub one_open-in_run : OneRowIsOpen moment.world.hosts
  one_open-in_run = record {
    each = λ n host there oid i k row other got next on also.
        one_is_open host.node.peer.epoch (rows_of host.node.peer.rows oid) (in_turn n host there oid) i k row other got next on also;
  }

  pub apart-in_run : RowsAreApart moment.world.hosts
  apart-in_run = record {
    each = λ n host there oid i k level row other got next covers also.
        one_covers host.node.peer.epoch (rows_of host.node.peer.rows oid) (in_turn n host there oid) level i k row other got next covers
        also;
  }
