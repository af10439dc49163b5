-- A small peer, step by step: node 1 has read that node 2 joined, so it is at epoch 2.
use Rattle.std.specs.Prelude.{ℕ, ◌^◌, List, [], ◌∷◌, ◌++◌, Some, None}
use Rattle.std.specs.FinMap as tree
use Rattle.object_id.specs.declared.limits.TheConstants.{VNODES_DEFAULT}
use Rattle.object_id.specs.declared.node.NodeId.{NodeId}
use Rattle.object_id.specs.declared.policy.Policy.{Policy}
use Rattle.object_id.specs.declared.entry.Member.{Member}
use Rattle.object_id.specs.declared.entry.Entry.{Entry}
use Rattle.object_id.specs.declared.entry.Entry.TheVariants.{Format, Join, Leave}
use Rattle.object_store.specs.declared.key.Key.{Key}
use Rattle.object_store.specs.Store.{SeenRow}
use Rattle.peer_proto.specs.declared.ask.PeerAsk.TheVariants as asks
use Rattle.peer_proto.specs.declared.ask.PeerReq.{PeerReq}
use Rattle.peer_service.specs.State.{Peer}

-- the node of a number
abbrev pub node : ℕ → NodeId
node number = record { 0 = number }

-- the member of a number, in zone 0
abbrev pub member : ℕ → Member
member number = record { node = node number; zone = 0; vnodes = VNODES_DEFAULT }

-- what the log has by now
abbrev pub log : List Entry
log = Format (member 0 ∷ member 1 ∷ []) ∷ Join (node 2) 0 VNODES_DEFAULT ∷ []

-- the first data object of disk 1, whose id no entry granted
abbrev pub key : Key
key = record { oid = 2 ^ 32; index = 0 }

-- its row, from epoch 1 on, for shortness of three bytes
abbrev pub row : SeenRow
row = record { index = 0; from = record { 0 = 1 }; to = None; bytes = 5 ∷ 6 ∷ 6 ∷ [] }

-- the peer at first
abbrev pub peer : Peer
peer = record { epoch = 2; settled = 1; rows = tree.insert tree.empty key.oid (row ∷ []); pending = Some []; entries = log }

-- node 0 asks under an epoch that bytes 1 and 2 of the row be 7 and 8
abbrev pub write_of : ℕ → PeerReq
write_of epoch = record { from = node 0; number = 0; epoch = record { 0 = epoch }; ask = asks.Write key 1 (7 ∷ 8 ∷ []) }

-- every object is on nodes 1 and 2
abbrev pub targets : ℕ → ℕ → Policy → List NodeId
targets epoch oid policy = node 1 ∷ node 2 ∷ []

-- the row once it has ended with an epoch
abbrev pub ended_row : ℕ → SeenRow
ended_row last = record row { to = Some (record { 0 = last }) }

-- node 1 was lost at epoch 2, and has left; as it comes back it joins
abbrev pub whole_log : List Entry
whole_log = log ++ Leave (node 1) ∷ Join (node 1) 0 VNODES_DEFAULT ∷ []
