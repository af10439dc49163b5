-- What is still to be recovered, and how it ends.
use Rattle.std.specs.Prelude.{ℕ, ◌≤◌, ◌==◌, not, List, length, filter, None, Some}
use Rattle.std.specs.Option.{option_map}
use Rattle.std.specs.FinMap as tree
use Rattle.object_store.specs.declared.key.Key.{Key}
use Rattle.object_store.specs.Store.{rows_of, create_in}
use Rattle.peer_service.specs.State.{Peer}

-- the list is unfinished
abbrev pub with_unfinished_list : Peer → Peer
with_unfinished_list peer = record peer { pending = None }

-- the list is finished, and these objects are pending
abbrev pub with_pending : List ℕ → Peer → Peer
with_pending oids peer = record peer { pending = Some oids }

-- an object is pending no more
abbrev pub without_pending : ℕ → Peer → Peer
without_pending oid peer = record peer { pending = option_map (filter (λ other. not (other == oid))) peer.pending }

-- the object's open row of the key is made, from the node's epoch on: so many bytes, the piece at its offset and else 0.
-- The object is pending no more
abbrev pub row_made : Key → ℕ → ℕ → List ℕ → Peer → Peer
row_made key size offset piece peer =
    without_pending key.oid
    (record peer { rows = tree.insert peer.rows key.oid (create_in key.index peer.epoch size offset piece (rows_of peer.rows key.oid)) })

-- a row that was recovered is made from its first bytes on, the others 0
abbrev pub row_put : Key → ℕ → List ℕ → Peer → Peer
row_put key size bytes peer = row_made key size 0 bytes peer

-- the bytes of a recovered row are no more than its length
abbrev pub FitsRow : ℕ → List ℕ → Type 0
FitsRow size bytes = length bytes ≤ size
