-- A node: what it is, and what it begins as.
use Rattle.std.specs.Prelude.{ℕ, Bool, true, List, [], None, unwrap_or}
use Rattle.std.specs.Ordering.{nat_cmp}
use Rattle.std.specs.FinMap as tree
use Rattle.object_id.specs.declared.node.NodeId.{NodeId}
use Rattle.object_id.specs.declared.entry.Entry.{Entry}
use Rattle.vnode_table.specs.Epochs.{EpochMembers}
use Rattle.peer_service.specs.State as peers
use Rattle.peer_service.specs.State.{Peer}
use Rattle.gateway.specs.State as gateways
use Rattle.gateway.specs.State.{Gateway}
use Rattle.recovery.specs.State as recoveries
use Rattle.recovery.specs.State.{Recovery}
use Rattle.guest_driver.specs.InodeQueue.{empty_inode_queue}
use Rattle.sheep_node.specs.declared.course.Request.{Request}
use Rattle.sheep_node.specs.declared.session.Session.{Session}

-- a node: the peer that others ask, the epochs that it entered with their members, its works, its recovery, and whether
-- `Recovered` of that was put; its sessions and their requests without reply, by number; the entries that it has still to
-- put into the log; and how many requests it has sent
pub record Node : Type 0 where
  pub me : NodeId
  pub peer : Peer
  pub epochs : List EpochMembers
  pub gateway : Gateway
  pub recovery : Recovery
  pub recovered : Bool
  pub sessions : tree.FinMap nat_cmp Session
  pub requests : tree.FinMap nat_cmp Request
  pub outbox : List Entry
  pub sends : ℕ

-- a session that has asked nothing
abbrev pub new_session : Session
new_session = record { disk = None; queue = []; command = None; inode_queue = empty_inode_queue }

-- the session of a number
abbrev pub session_at : ℕ → Node → Session
session_at number node = unwrap_or (tree.get node.sessions number) new_session

-- a node that has read nothing; the first epoch needs no recovery
abbrev pub initial_node : NodeId → ℕ → Node
initial_node me tries = record {
  me = me;
  peer = peers.initial_peer tree.empty 1;
  epochs = [];
  gateway = gateways.initial_gateway me tries;
  recovery = recoveries.initial_recovery me;
  recovered = true;
  sessions = tree.empty;
  requests = tree.empty;
  outbox = [];
  sends = 0;
}
