-- A node reads the next entry of the log; and a lost node comes back, and reads the log whole.
use Rattle.std.specs.Prelude.{ℕ, zero, suc, nat_lt, ◌&&◌, Bool, false, List, [], ◌∷◌, map, Option, Some, None, if◌then◌else◌}
use Rattle.std.specs.List.{find}
use Rattle.std.specs.FinMap as tree
use Rattle.object_id.specs.declared.entry.Member.{Member}
use Rattle.object_id.specs.declared.entry.Entry.{Entry}
use Rattle.epoch_log.specs.Members as members
use Rattle.epoch_log.specs.Epochs.{begins_epoch, epoch_of, members_in, settled_of}
use Rattle.epoch_log.specs.Appending.{is_format}
use Rattle.vnode_table.specs.Epochs.{EpochMembers, members_at}
use Rattle.vnode_table.specs.Targets.{targets_in}
use Rattle.vdi_directory.specs.declared.decision.Decision.{Decision}
use Rattle.peer_service.specs.State.{Peer}
use Rattle.peer_service.specs.Epochs as peers
use Rattle.peer_service.specs.Epochs.{peer_settled_to}
use Rattle.peer_service.specs.LogReading.{read_entry, decision_on}
use Rattle.peer_service.specs.Back.{come_back}
use Rattle.gateway.specs.State as gateways
use Rattle.recovery.specs.State as recoveries
use Rattle.recovery.specs.State.{RecoveryState}
use Rattle.recovery.specs.Steps.{recovery_from_epoch}
use Rattle.sheep_node.specs.declared.course.Request.{Request}
use Rattle.sheep_node.specs.State.{Node}
use Rattle.sheep_node.specs.RecoveryView.{recovery_state_of, with_recovered_rows, with_state}
use Rattle.sheep_node.specs.StepState.{StepState, with_node}
use Rattle.sheep_node.specs.AwaitedEntry.{waits_for_entry}
use Rattle.sheep_node.specs.Courses.{course_decided}
use Rattle.sheep_node.specs.Waiting.{let_begin}

-- the members of the node's epoch, by what it has read
abbrev pub epoch_members : Node → List Member
epoch_members node = members_at node.epochs node.peer.epoch

-- whether the node is one of them
abbrev pub is_epoch_member : Node → Bool
is_epoch_member node = members.is_member node.me.0 (epoch_members node)

-- the members of an epoch, by the entries
abbrev pub entered_in : List Entry → ℕ → EpochMembers
entered_in entries epoch = record { epoch = epoch; members = members_in entries epoch }

-- the node's peer is so
abbrev pub with_peer : Peer → Node → Node
with_peer peer node = record node { peer = peer }

-- the epochs that have begun by an entry: the log's first one opens epoch 1, and one that begins an epoch is behind those before it
abbrev pub epochs_with_entry : Entry → Node → List EpochMembers
epochs_with_entry entry node =
    if begins_epoch entry
    then entered_in (read_entry entry node.peer).entries (epoch_of (read_entry entry node.peer).entries) ∷ node.epochs
    else if is_format entry then entered_in (read_entry entry node.peer).entries 1 ∷ node.epochs else node.epochs

-- the peer has read an entry, and is in the epoch that this begins, if it begins one
abbrev pub peer_with_entry : Entry → Node → Peer
peer_with_entry entry node =
    if begins_epoch entry
    then peers.peer_in_next_epoch node.me (targets_in (epochs_with_entry entry node)) (read_entry entry node.peer)
    else read_entry entry node.peer

-- the node then
abbrev pub node_with_entry : Entry → Node → Node
node_with_entry entry node = record node { peer = peer_with_entry entry node; epochs = epochs_with_entry entry node }

-- how the recovery of a node's epoch begins
abbrev pub recovery_in_epoch : Node → RecoveryState
recovery_in_epoch node =
    recovery_from_epoch node.peer.epoch (map (λ (member : Member). member.node) (epoch_members node)) (recovery_state_of node)

-- whether an entry begins a recovery: where it begins an epoch with the node as a member. The first epoch is nobody's to recover
abbrev pub begins_recovery : Entry → Node → Bool
begins_recovery entry node = begins_epoch entry && is_epoch_member (node_with_entry entry node)

-- the recovery, once an entry was read
abbrev pub recovery_with_entry : Entry → Node → RecoveryState
recovery_with_entry entry node =
    if begins_recovery entry node then recovery_in_epoch (node_with_entry entry node) else recovery_state_of (node_with_entry entry node)

-- a peer, once an epoch is settled that may be a later one than before
abbrev pub with_settled : ℕ → Peer → Peer
with_settled settled peer = if nat_lt peer.settled settled then peer_settled_to settled peer else peer

-- the node has read an entry: the peer reads it, then the epoch that it begins is entered and its recovery begins, then the epoch
-- that it settles is settled
unfoldable pub entry_read : Entry → Node → Node
entry_read entry node = record node {
  peer = with_settled (settled_of (read_entry entry node.peer).entries)
      (with_recovered_rows (recovery_with_entry entry node) (peer_with_entry entry node));
  epochs = epochs_with_entry entry node;
  recovery = (recovery_with_entry entry node).recovery;
  recovered = if begins_recovery entry node then false else node.recovered;
}

-- the request that waits for exactly this entry
abbrev pub asker_of : Entry → Node → Option (ℕ × Request)
asker_of entry node = find (λ (found : ℕ × Request). waits_for_entry entry found.1.course) (tree.entries node.requests)

-- the decision goes to that request
abbrev pub decision_told : Decision → Option (ℕ × Request) → StepState → StepState
decision_told decision None so_far = so_far
decision_told decision (Some found) so_far =
    let_begin found.1.session (course_decided found.1.session found.0 decision found.1.course so_far)

-- the next entry of the log is read; it is decided by the entries before it
unfoldable pub on_log_entry : Entry → StepState → StepState
on_log_entry entry so_far =
    decision_told (decision_on entry so_far.node.peer) (asker_of entry so_far.node) (with_node (entry_read entry so_far.node) so_far)

-- the epochs that have begun, with their members, the last one first
unfoldable pub epochs_up_to : List Entry → ℕ → List EpochMembers
epochs_up_to entries zero = []
epochs_up_to entries (suc epoch) = entered_in entries (suc epoch) ∷ epochs_up_to entries epoch

-- what is left of a lost node: its rows, closed, and its count of sends
abbrev pub come_back_with : List Entry → Node → Node
come_back_with entries node = record {
  me = node.me;
  peer = come_back entries node.peer;
  epochs = epochs_up_to entries (epoch_of entries);
  gateway = gateways.initial_gateway node.me node.gateway.tries;
  recovery = recoveries.initial_recovery node.me;
  recovered = false;
  sessions = tree.empty;
  requests = tree.empty;
  outbox = [];
  sends = node.sends;
}

-- a lost node comes back, has read all these entries, and recovers their last epoch
unfoldable pub on_back : List Entry → Node → Node
on_back entries node =
    record (with_state (recovery_in_epoch (come_back_with entries node)) (come_back_with entries node)) { recovered = false }
