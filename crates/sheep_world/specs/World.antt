-- The cluster as a whole: what it is, and how its parts are found.
use Rattle.std.specs.Prelude.{ℕ, Bool, false, not, ◌&&◌, List, [], Option, unwrap_or, slice_get}
use Rattle.std.specs.Ordering.{nat_cmp}
use Rattle.std.specs.List.{list_any, list_all}
use Rattle.std.specs.Option.{option_map, option_map_or}
use Rattle.std.specs.FinMap as tree
use Rattle.object_id.specs.declared.node.NodeId.{NodeId}
use Rattle.object_id.specs.declared.entry.Entry.{Entry}
use Rattle.epoch_log.specs.Members as members
use Rattle.epoch_log.specs.Epochs.{epoch_of, settled_of, members_in}
use Rattle.cluster_script.specs.declared.statement.Statement.{Statement}
use Rattle.sheep_node.specs.declared.input.Input.{Input}
use Rattle.sheep_node.specs.declared.outputs.Outputs.{Outputs}
use Rattle.sheep_node.specs.State.{Node}
use Rattle.sheep_node.specs.May.{has_numbers}
use Rattle.message_wire.specs.declared.name.MessageName.{MessageName}
use Rattle.message_wire.specs.declared.packet.Packet.{Packet}
use Rattle.message_wire.specs.Message.{name_cmp, packet_ends}
use Rattle.sheep_world.specs.declared.progress.SessionProgress.{SessionProgress}
use Rattle.sheep_world.specs.declared.progress.ClientAsk.{ClientAsk}

-- a node of the cluster: the node, whether it is lost, and which of its incarnations it is in, from 1 on
pub record Host : Type 0 where
  pub node : Node
  pub is_lost : Bool
  pub incarnation : ℕ

-- the cluster: its nodes by number, the log, the messages in the wire, the sessions by number, the place of the present
-- phase, its controls that aren't taken, how many messages may still be lost, and a client's last ask; and the input and
-- outputs of the last step
pub record World : Type 0 where
  pub hosts : tree.FinMap nat_cmp Host
  pub log : List Entry
  pub wire : tree.FinMap name_cmp Packet
  pub guests : tree.FinMap nat_cmp SessionProgress
  pub phase : ℕ
  pub controls : List Statement
  pub losses : ℕ
  pub asked : Option ClientAsk
  pub input : Option Input
  pub outputs : Outputs

-- the host of a node; a number that was never used has none
abbrev pub host_at : ℕ → World → Option Host
host_at node world = tree.get world.hosts node

-- the node of a number
abbrev pub node_at : ℕ → World → Option Node
node_at node world = option_map (λ (host : Host). host.node) (host_at node world)

-- whether a host's node is up: it isn't lost, and has numbers left for the sends of a step
abbrev pub is_host_up : Host → Bool
is_host_up host = not host.is_lost && has_numbers host.node

-- whether a node is up
abbrev pub is_up : ℕ → World → Bool
is_up node world = option_map_or is_host_up (host_at node world) false

-- whether a node is up and passes a test
abbrev pub is_up_with : (Node → Bool) → ℕ → World → Bool
is_up_with passes node world = option_map_or (λ (host : Host). is_host_up host && passes host.node) (host_at node world) false

-- whether a node is lost
abbrev pub is_lost : ℕ → World → Bool
is_lost node world = option_map_or (λ (host : Host). host.is_lost) (host_at node world) false

-- the newest epoch, by the whole log
abbrev pub newest_epoch : World → ℕ
newest_epoch world = epoch_of world.log

-- the settled epoch, by the whole log
abbrev pub settled_epoch : World → ℕ
settled_epoch world = settled_of world.log

-- whether a node is a member, by the whole log
abbrev pub is_newest_member : ℕ → World → Bool
is_newest_member node world = members.is_member node (members_in world.log (newest_epoch world))

-- the message of a name, where it is in the wire
abbrev pub message_at : MessageName → World → Option Packet
message_at name world = tree.get world.wire name

-- whether an end of a message is lost
abbrev pub has_lost_end : MessageName → Packet → World → Bool
has_lost_end name packet world = list_any (λ (node : NodeId). is_lost node.0 world) (packet_ends name packet)

-- whether both ends of a message are up
abbrev pub are_ends_up : MessageName → Packet → World → Bool
are_ends_up name packet world = list_all (λ (node : NodeId). is_up node.0 world) (packet_ends name packet)

-- a session that has asked nothing
abbrev pub no_progress : SessionProgress
no_progress = record { begun = 0; unanswered = [] }

-- the session of a number
abbrev pub progress_at : ℕ → World → SessionProgress
progress_at session world = unwrap_or (tree.get world.guests session) no_progress

-- the control that is next: the first that isn't taken
abbrev pub next_control : World → Option Statement
next_control world = slice_get world.controls 0
