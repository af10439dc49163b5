-- What the code makes of an entry, part by part, is what reading it is; and what is left of a node that comes back.
use Rattle.std.proofs.Common.{◌≡◌, ℕ, suc, ◌+◌, ◌<◌, ◌≤◌, ◌&&◌, Bool, true, false, cond, List, [], ◌∷◌, ◌++◌, length, refl, ap, sym, subst, ◌∙◌, arith}
use Rattle.std.specs.Prelude.{IsTrue}
use Rattle.proof_tools.proofs.Booleans.{cond_either}
use Rattle.object_id.specs.declared.entry.Entry.{Entry}
use Rattle.epoch_log.specs.Members.{is_member}
use Rattle.epoch_log.specs.Epochs.{begins_epoch, epoch_of, settled_of}
use Rattle.epoch_log.specs.Appending.{is_format, IsLog}
use Rattle.vnode_table.specs.Epochs.{EpochMembers, is_entered}
use Rattle.vnode_table.specs.Targets.{targets_in}
use Rattle.peer_service.specs.State.{Peer}
use Rattle.peer_service.specs.Epochs.{peer_in_next_epoch, peer_settled_to}
use Rattle.peer_service.specs.LogReading.{without_objects, read_entry}
use Rattle.peer_service.specs.Back.{closed_at_end, come_back}
use Rattle.recovery.specs.State.{RecoveryState}
use Rattle.sheep_node.specs.State.{Node}
use Rattle.sheep_node.specs.RecoveryView.{placed_peer_of, recovery_state_of, with_recovered_rows}
use Rattle.sheep_node.specs.LogReading.{is_epoch_member, entered_in, with_peer, with_settled, recovery_in_epoch, entry_read, come_back_with, on_back}
use Rattle.sheep_node.specs.StepFacts.{epochs_of, IsLogSoFar, HasReadLog, IsByTheLog}
use Rattle.sheep_node.specs.May.{MayRead, MayComeBack}
use Rattle.sheep_node.specs.KeptLog.{with_placed, with_newest_entered, in_newest_epoch, in_recovery, in_recovery_if_member, with_epoch_of_entry}
use Rattle.sheep_node.specs.KeptLog.{with_entries_settled, IsInNewestEpoch, HasReadEntry}
use Rattle.sheep_node.proofs.KeptLogs.{log_of_some, some_read, newest_members, later_not_entered, entries_with_one}
use Rattle.sheep_node.proofs.LogLaws.{epoch_more, first_one, none_before}
use Rattle.sheep_node.proofs.ReadLogs.{read_log, all_log}

-- ---- an entry was read

pub entry_was_read : (entry : Entry) (node : Node) → HasReadLog node → IsByTheLog node → MayRead node.peer.entries entry
    → node.recovery.me ≡ node.me → HasReadEntry entry (with_peer (read_entry entry node.peer) node)
unfolding read_entry without_objects
entry_was_read entry node log follows may own =
    let before : List Entry = node.peer.entries in
    let all : List Entry = before ++ entry ∷ [] in
    let read : IsLog all = log_of_some all (some_read before entry) (read_log before entry log may) in
    let so : node.peer.epoch ≡ epoch_of before = follows.epoch_so in
    record {
      log = read;
      begins = λ begins.
          let more : epoch_of all ≡ suc (epoch_of before) = epoch_more before entry begins in
          record {
            entering = record {
              log = read;
              new = ap (λ (epochs : List EpochMembers). is_entered epochs (epoch_of all)) follows.epochs_so
                  ∙ later_not_entered before (epoch_of all) (omega arith);
            };
            begun = omega arith;
            next = omega arith;
          };
      opens = λ opens. record {
        log = read;
        new = ap (λ (epochs : List EpochMembers). is_entered epochs (epoch_of all))
            (follows.epochs_so ∙ ap epochs_of (none_before before entry may opens));
      };
      own = own;
    }

-- the log's first entry opens epoch 1
first_epoch : (entries : List Entry) (entry : Entry) → MayRead entries entry → is_format entry ≡ true → epoch_of (entries ++ entry ∷ []) ≡ 1
first_epoch [] entry may opens = ap (λ b. length (cond b (entry ∷ []) []) + 1) (first_one entry may).1
first_epoch (first ∷ later) entry may opens = absurd (cc (none_before (first ∷ later) entry may opens))

module _ (entry : Entry) (node : Node) where
  -- the parts of what reading an entry is: whether it begins an epoch, whether it opens the log, and whether a recovery begins
  abbrev peer_read : Peer
  peer_read = read_entry entry node.peer

  abbrev epochs_by : Bool → Bool → List EpochMembers
  epochs_by begins opens =
      cond begins (entered_in peer_read.entries (epoch_of peer_read.entries) ∷ node.epochs)
      (cond opens (entered_in peer_read.entries 1 ∷ node.epochs) node.epochs)

  abbrev peer_by : Bool → Bool → Peer
  peer_by begins opens = cond begins (peer_in_next_epoch node.me (targets_in (epochs_by begins opens)) peer_read) peer_read

  abbrev node_by : Bool → Bool → Node
  node_by begins opens = record node { peer = peer_by begins opens; epochs = epochs_by begins opens }

  abbrev recovery_by : Bool → Bool → Bool → RecoveryState
  recovery_by recovers begins opens = cond recovers (recovery_in_epoch (node_by begins opens)) (recovery_state_of (node_by begins opens))

  abbrev read_by : Bool → Bool → Bool → Node
  read_by recovers begins opens = record node {
    peer = with_settled (settled_of peer_read.entries) (with_recovered_rows (recovery_by recovers begins opens) (peer_by begins opens));
    epochs = epochs_by begins opens;
    recovery = (recovery_by recovers begins opens).recovery;
    recovered = cond recovers false node.recovered;
  }

  abbrev node_read : Node
  node_read = with_peer peer_read node

  abbrev node_in_newest : Node
  node_in_newest = with_placed (in_newest_epoch node.me (placed_peer_of node_read)) node_read

  by_member : (member opens : Bool)
      → with_entries_settled (cond member (in_recovery node_in_newest) node_in_newest) ≡ read_by member true opens
  unfolding peer_in_next_epoch
  by_member true opens = refl
  by_member false opens = refl

  by_first : (begins opens : Bool) → is_format entry ≡ opens → MayRead node.peer.entries entry
      → with_entries_settled (cond begins (in_recovery_if_member node_in_newest)
      (cond opens (with_placed (with_newest_entered (placed_peer_of node_read)) node_read) node_read))
      ≡ read_by (begins && is_epoch_member (node_by begins opens)) begins opens
  by_first true opens is may = by_member (is_epoch_member node_in_newest) opens
  by_first false true is may =
      let first : epoch_of peer_read.entries ≡ 1
      = ap epoch_of (entries_with_one entry node.peer) ∙ first_epoch node.peer.entries entry may is in
      ap (λ (epoch : ℕ). record node {
        peer = with_settled (settled_of peer_read.entries) peer_read;
        epochs = entered_in peer_read.entries epoch ∷ node.epochs;
      }) first
  by_first false false is may = refl

  pub read_by_parts : MayRead node.peer.entries entry → with_entries_settled (with_epoch_of_entry entry node_read) ≡ entry_read entry node
  unfolding entry_read
  read_by_parts may = by_first (begins_epoch entry) (is_format entry) refl may

-- the entries that were read stay as the epoch is entered
entries_with_epoch : (entry : Entry) (node : Node) → (with_epoch_of_entry entry node).peer.entries ≡ node.peer.entries
unfolding peer_in_next_epoch
entries_with_epoch entry node =
    let in_newest : Node = with_placed (in_newest_epoch node.me (placed_peer_of node)) node in
    let opened : Node = with_placed (with_newest_entered (placed_peer_of node)) node in
    cond_either (λ (after : Node). after.peer.entries ≡ node.peer.entries) (begins_epoch entry)
    (in_recovery_if_member in_newest) (cond (is_format entry) opened node)
    (cond_either (λ (after : Node). after.peer.entries ≡ node.peer.entries) (is_epoch_member in_newest) (in_recovery in_newest) in_newest refl refl)
    (cond_either (λ (after : Node). after.peer.entries ≡ node.peer.entries) (is_format entry) opened node refl refl)

pub log_with_epoch : (entry : Entry) (node : Node) → HasReadEntry entry node → IsLog (with_epoch_of_entry entry node).peer.entries
log_with_epoch entry node read = subst IsLog (sym (entries_with_epoch entry node)) read.log

-- ---- a node comes back

some_back : (entries : List Entry) → 1 < epoch_of entries → 1 ≤ length entries
some_back [] above = absurd (omega arith)
some_back (first ∷ later) above = omega arith

pub log_back : (entries : List Entry) (node : Node) → HasReadLog node → MayComeBack entries node → IsLog entries
log_back entries node log may =
    log_of_some entries (some_back entries may.above_1)
    (subst IsLogSoFar (sym may.goes_on) (all_log node.peer.entries may.later log may.read))

pub back_in_newest : (entries : List Entry) (node : Node) → HasReadLog node → MayComeBack entries node → IsInNewestEpoch (come_back_with entries node)
unfolding come_back closed_at_end peer_settled_to without_objects
back_in_newest entries node log may = record {
  log = log_back entries node log may;
  newest = refl;
  above_1 = may.above_1;
  members = newest_members entries;
  own = refl;
}

pub back_is_member : (entries : List Entry) (node : Node) → MayComeBack entries node → IsTrue (is_epoch_member (come_back_with entries node))
unfolding come_back closed_at_end peer_settled_to without_objects
back_is_member entries node may = ap (is_member node.me.0) (newest_members entries) ∙ may.member

pub back_by_parts : (entries : List Entry) (node : Node) → in_recovery (come_back_with entries node) ≡ on_back entries node
unfolding on_back
back_by_parts entries node = refl
