-- Going to the next epoch, and settling one.
use Rattle.std.specs.Prelude.{◌≡◌, ℕ, ◌+◌, ◌==◌, Bool, true, false, List, map, Option, if◌then◌else◌}
use Rattle.std.specs.Option.{option_map_or, option_and_then}
use Rattle.std.specs.List.{AllByRecursion}
use Rattle.object_id.specs.declared.node.NodeId.{NodeId}
use Rattle.object_id.specs.declared.policy.Policy.{Policy}
use Rattle.object_id.specs.Oid.{kind_of}
use Rattle.gf256.specs.Part.{index_among}
use Rattle.object_store.specs.declared.key.Key.{Key}
use Rattle.object_store.specs.Rows.{is_open, is_kept, closed, purged}
use Rattle.object_store.specs.Store.{SeenRow, rows_of, each}
use Rattle.peer_service.specs.State.{Peer, object_policy}

-- whether the targets of an object of this policy in an epoch have the node at the index
abbrev pub has_at : NodeId → (ℕ → ℕ → Policy → List NodeId) → ℕ → ℕ → ℕ → Policy → Bool
has_at me targets epoch oid index policy =
    option_map_or (λ own. own == index) (index_among me (targets epoch oid policy) policy (kind_of oid)) false

-- whether an open row of an object and an index stays open in the next epoch; that of an object that isn't known does not
abbrev pub stays_open : NodeId → (ℕ → ℕ → Policy → List NodeId) → Peer → ℕ → ℕ → Bool
stays_open me targets peer oid index =
    option_map_or (has_at me targets (peer.epoch + 1) oid index) (object_policy peer oid) false

-- a row in the next epoch: it stays open, or ends with the epoch before
abbrev pub row_entering : NodeId → (ℕ → ℕ → Policy → List NodeId) → Peer → ℕ → SeenRow → SeenRow
row_entering me targets peer oid row = if stays_open me targets peer oid row.index then row else closed peer.epoch row

-- an object's rows in the next epoch
abbrev pub rows_entering : NodeId → (ℕ → ℕ → Policy → List NodeId) → Peer → ℕ → List SeenRow → List SeenRow
rows_entering me targets peer oid rows = map (row_entering me targets peer oid) rows

-- the peer goes to the next epoch; no row is dropped
unfoldable pub peer_in_next_epoch : NodeId → (ℕ → ℕ → Policy → List NodeId) → Peer → Peer
peer_in_next_epoch me targets peer = record peer { epoch = peer.epoch + 1; rows = each (rows_entering me targets peer) peer.rows }

-- the keys are those of the open rows that stay open
abbrev pub AreKept : List Key → NodeId → (ℕ → ℕ → Policy → List NodeId) → Peer → Type 0
AreKept keeps me targets peer = (oid : ℕ)
    → AllByRecursion (λ (row : SeenRow). is_open row ≡ true → is_kept keeps oid row.index ≡ stays_open me targets peer oid row.index)
    (rows_of peer.rows oid)

-- an epoch is settled: the closed rows that ended below it are dropped
unfoldable pub peer_settled_to : ℕ → Peer → Peer
peer_settled_to settled peer = record peer { settled = settled; rows = each (λ oid. purged settled) peer.rows }

-- the index of an object whose open row stays open in the next epoch, if there is one
abbrev pub kept_index : NodeId → (ℕ → ℕ → Policy → List NodeId) → Peer → ℕ → Option ℕ
kept_index me targets peer oid =
    option_and_then (λ policy. index_among me (targets (peer.epoch + 1) oid policy) policy (kind_of oid)) (object_policy peer oid)
