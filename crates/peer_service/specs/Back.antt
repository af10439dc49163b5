-- Coming back: what is left of a lost node's rows, by the log that it is given.
use Rattle.std.specs.Prelude.{List, [], Some}
use Rattle.object_id.specs.declared.entry.Entry.{Entry}
use Rattle.epoch_log.specs.Epochs.{epoch_of, settled_of}
use Rattle.object_store.specs.Rows.{closed_all}
use Rattle.object_store.specs.Store.{each}
use Rattle.peer_service.specs.State.{Peer, is_dead_object}
use Rattle.peer_service.specs.Epochs.{peer_settled_to}
use Rattle.peer_service.specs.LogReading.{without_objects}

-- a node that was lost keeps its rows up to its last epoch: each open one ends with that
unfoldable pub closed_at_end : Peer → Peer
closed_at_end peer = record peer { rows = each (λ oid. closed_all peer.epoch) peer.rows }

-- the peer has read these entries instead, and is in their last epoch; nothing is pending until its recovery begins
abbrev pub with_log : List Entry → Peer → Peer
with_log entries peer = record peer { epoch = epoch_of entries; pending = Some []; entries = entries }

-- the objects whose id is dead go
abbrev pub without_dead : Peer → Peer
without_dead peer = without_objects (is_dead_object peer) peer

-- a node comes back with its rows: each open one ended with the epoch in which the node was lost, and those that ended
-- below the settled epoch of these entries, or whose id is dead by them, go
unfoldable pub come_back : List Entry → Peer → Peer
come_back entries peer = without_dead (peer_settled_to (settled_of entries) (with_log entries (closed_at_end peer)))
