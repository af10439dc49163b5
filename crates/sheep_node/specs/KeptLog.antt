-- What a node keeps beside the entries that its peer has read, so that no question scans them; and how the code goes about an entry.
use Rattle.std.specs.Prelude.{◌≡◌, ℕ, ◌≤◌, ◌<◌, ◌+◌, true, false, List, [], ◌∷◌, length, Option, None, Some, if◌then◌else◌}
use Rattle.std.specs.List.{find}
use Rattle.std.specs.Option.{option_map}
use Rattle.std.specs.Ordering.{nat_cmp}
use Rattle.std.specs.FinMap as tree
use Rattle.object_id.specs.declared.node.NodeId.{NodeId}
use Rattle.object_id.specs.declared.entry.Entry.{Entry}
use Rattle.epoch_log.specs.declared.tally.Tally.{Tally}
use Rattle.epoch_log.specs.Tally.{IsTally}
use Rattle.epoch_log.specs.Epochs.{begins_epoch, epoch_of, members_in, settled_of}
use Rattle.epoch_log.specs.Appending.{is_format, IsLog}
use Rattle.vnode_table.specs.Epochs.{is_entered}
use Rattle.vnode_table.specs.Targets.{targets_in}
use Rattle.peer_service.specs.Epochs.{peer_in_next_epoch}
use Rattle.recovery.specs.Steps.{recovery_from_epoch}
use Rattle.sheep_node.specs.declared.course.Request.{Request}
use Rattle.sheep_node.specs.State.{Node}
use Rattle.sheep_node.specs.AwaitedEntry.{waits_for_entry}
use Rattle.sheep_node.specs.RecoveryView.{PlacedPeer, placed_peer_of, recovery_state_of, with_state}
use Rattle.sheep_node.specs.LogReading.{epoch_members, is_epoch_member, entered_in, with_peer, with_settled, recovery_in_epoch}

-- the tally is that of these entries; before the first one there is none
abbrev pub IsTallySoFar : List Entry → Option Tally → Type 0
IsTallySoFar entries None = entries ≡ []
IsTallySoFar entries (Some tally) = (1 ≤ length entries) × IsTally entries tally

-- the number of the request that waits for exactly this entry
abbrev pub asker_among : Entry → tree.FinMap nat_cmp Request → Option ℕ
asker_among entry requests =
    option_map (λ (found : ℕ × Request). found.0)
    (find (λ (found : ℕ × Request). waits_for_entry entry found.1.course) (tree.entries requests))

-- ---- how the code goes about an entry: what it changes, one after the other, of a node that has read the entry

-- a node's peer, with the epochs that the node entered, is so
abbrev pub with_placed : PlacedPeer → Node → Node
with_placed placed node = record node { peer = placed.peer; epochs = placed.epochs }

-- the newest epoch of the entries is entered, with its members
abbrev pub with_newest_entered : PlacedPeer → PlacedPeer
with_newest_entered placed =
    record placed { epochs = entered_in placed.peer.entries (epoch_of placed.peer.entries) ∷ placed.epochs }

-- the peer goes to the next epoch, which was entered
abbrev pub in_next_epoch : NodeId → PlacedPeer → PlacedPeer
in_next_epoch me placed = record placed { peer = peer_in_next_epoch me (targets_in placed.epochs) placed.peer }

-- the newest epoch of the entries is entered, and the peer goes to it
abbrev pub in_newest_epoch : NodeId → PlacedPeer → PlacedPeer
in_newest_epoch me placed = in_next_epoch me (with_newest_entered placed)

-- the recovery of the node's epoch begins, with these members
abbrev pub in_recovery_with : List NodeId → Node → Node
in_recovery_with nodes node =
    record (with_state (recovery_from_epoch node.peer.epoch nodes (recovery_state_of node)) node) { recovered = false }

-- the recovery of the node's epoch begins, with its members
abbrev pub in_recovery : Node → Node
in_recovery node = record (with_state (recovery_in_epoch node) node) { recovered = false }

-- it begins if the node is one of them
abbrev pub in_recovery_if_member : Node → Node
in_recovery_if_member node = if is_epoch_member node then in_recovery node else node

-- the epoch that an entry begins is entered, and its recovery begins; the log's first entry opens epoch 1
abbrev pub with_epoch_of_entry : Entry → Node → Node
with_epoch_of_entry entry node =
    if begins_epoch entry
    then in_recovery_if_member (with_placed (in_newest_epoch node.me (placed_peer_of node)) node)
    else if is_format entry then with_placed (with_newest_entered (placed_peer_of node)) node else node

-- what the entries settle is settled
abbrev pub with_entries_settled : Node → Node
with_entries_settled node = with_peer (with_settled (settled_of node.peer.entries) node.peer) node

-- the newest epoch of the log that was read isn't entered
pub record HasNewEpoch (placed : PlacedPeer) : Type 0 where
  pub log : IsLog placed.peer.entries
  pub new : is_entered placed.epochs (epoch_of placed.peer.entries) ≡ false

-- and the peer is in the one before it
pub record IsBeforeNewEpoch (placed : PlacedPeer) : Type 0 where
  pub entering : HasNewEpoch placed
  pub begun : 1 ≤ placed.peer.epoch
  pub next : epoch_of placed.peer.entries ≡ placed.peer.epoch + 1

-- the node is in the newest epoch of the log that it has read, knows its members, and may recover it
pub record IsInNewestEpoch (node : Node) : Type 0 where
  pub log : IsLog node.peer.entries
  pub newest : node.peer.epoch ≡ epoch_of node.peer.entries
  pub above_1 : 1 < node.peer.epoch
  pub members : epoch_members node ≡ members_in node.peer.entries node.peer.epoch
  pub own : node.recovery.me ≡ node.me

-- the node has read an entry, and nothing else of it was done: the epoch that it begins isn't entered
pub record HasReadEntry (entry : Entry) (node : Node) : Type 0 where
  pub log : IsLog node.peer.entries
  pub begins : begins_epoch entry ≡ true → IsBeforeNewEpoch (placed_peer_of node)
  pub opens : is_format entry ≡ true → HasNewEpoch (placed_peer_of node)
  pub own : node.recovery.me ≡ node.me
