-- The forms in which the invariant speaks of each node, attempt and row, and the words that several of its groups share.
use Rattle.std.specs.Prelude.{◌≡◌, ℕ, nat_le, Bool, true, false, ◌&&◌, List, slice_get, Option, Some}
use Rattle.std.specs.Option.{option_map, option_map_or}
use Rattle.std.specs.List.{list_any}
use Rattle.std.specs.FinMap as tree
use Rattle.object_id.specs.declared.node.NodeId.{NodeId}
use Rattle.object_id.specs.declared.node.Epoch.{Epoch}
use Rattle.object_id.specs.declared.entry.VdiSpec.{VdiSpec}
use Rattle.object_id.specs.declared.policy.Policy.{Policy}
use Rattle.object_id.specs.Oid.{vid_of, kind_of}
use Rattle.vdi_directory.specs.declared.header.Header.{Header}
use Rattle.vdi_directory.specs.declared.effect.Effect.{Effect}
use Rattle.vdi_directory.specs.Effects.{header_of}
use Rattle.object_store.specs.Store.{SeenRow, AllRows, rows_of}
use Rattle.gf256.specs.Part.{index_among}
use Rattle.sheep_node.specs.State.{Node}
use Rattle.sheep_world.specs.World.{Host, is_host_up}
use Rattle.overlap_law.specs.Attempts.{AttemptRecord}
use Rattle.overlap_law.specs.Words.{Hosts}

-- the target list of an epoch, an object and its policy
abbrev pub Placing : Type 0
Placing = ℕ → ℕ → Policy → List NodeId

-- of each node that is there
abbrev pub EachHost : Hosts → (ℕ → Host → Type 0) → Type 0
EachHost hosts P = (n : ℕ) (host : Host) → tree.get hosts n ≡ Some host → P n host

-- of each node that isn't lost
abbrev pub EachUp : Hosts → (ℕ → Node → Type 0) → Type 0
EachUp hosts P = (n : ℕ) (host : Host) → tree.get hosts n ≡ Some host → host.is_lost ≡ false → P n host.node

-- of each node that may still step: it isn't lost, and has numbers left
abbrev pub EachAble : Hosts → (ℕ → Node → Type 0) → Type 0
EachAble hosts P = (n : ℕ) (host : Host) → tree.get hosts n ≡ Some host → is_host_up host ≡ true → P n host.node

-- of each attempt, with its place in the order in which they began
abbrev pub EachAttempt : List AttemptRecord → (ℕ → AttemptRecord → Type 0) → Type 0
EachAttempt attempts P = (j : ℕ) (attempt : AttemptRecord) → slice_get attempts j ≡ Some attempt → P j attempt

-- of some attempt
abbrev pub SomeAttempt : List AttemptRecord → (AttemptRecord → Type 0) → Type 0
SomeAttempt attempts P = (j : ℕ) × (attempt : AttemptRecord) × (slice_get attempts j ≡ Some attempt) × P attempt

-- of each row of an object in a store
abbrev pub EachRowOf : AllRows → ℕ → (SeenRow → Type 0) → Type 0
EachRowOf rows oid P = (i : ℕ) (row : SeenRow) → slice_get (rows_of rows oid) i ≡ Some row → P row

-- of each row of each object at each node
abbrev pub EachRow : Hosts → (ℕ → Host → ℕ → SeenRow → Type 0) → Type 0
EachRow hosts P = EachHost hosts (λ n host. (oid : ℕ) → EachRowOf host.node.peer.rows oid (P n host oid))

-- whether a node came to an epoch; a lost one has the epoch in which it was lost
abbrev pub has_reached : Hosts → ℕ → NodeId → Bool
has_reached hosts epoch node = nat_le epoch (option_map_or (λ (host : Host). host.node.peer.epoch) (tree.get hosts node.0) 0)

-- the last epoch that a row covers, at a node of an epoch: an open row covers that one
abbrev pub end_of_row : ℕ → Option Epoch → ℕ
end_of_row epoch to = option_map_or (λ (last : Epoch). last.0) to epoch

-- whether a row covers a level, at a node of an epoch
abbrev pub row_covers : ℕ → ℕ → SeenRow → Bool
row_covers epoch level row = nat_le row.from.0 level && nat_le level (end_of_row epoch row.to)

-- whether a row of the object does, in the store of a node of an epoch
abbrev pub has_row_at : ℕ → AllRows → ℕ → ℕ → Bool
has_row_at epoch rows oid level = list_any (row_covers epoch level) (rows_of rows oid)

-- whether a node has a row of the object that covers the level
abbrev pub holds_level : Option Host → ℕ → ℕ → Bool
holds_level found oid level =
    option_map_or (λ (host : Host). has_row_at host.node.peer.epoch host.node.peer.rows oid level) found false

-- what the disk of an id was made with
abbrev pub spec_in : List Effect → ℕ → Option VdiSpec
spec_in effects vid = option_map (λ (header : Header). header.spec) (header_of effects vid)

-- the policy of an object
abbrev pub policy_in : List Effect → ℕ → Option Policy
policy_in effects oid = option_map (λ (spec : VdiSpec). spec.policy) (spec_in effects (vid_of oid))

-- the index of a node's part of an object in an epoch, if it is one of the targets
abbrev pub index_of_part : Placing → ℕ → ℕ → Policy → NodeId → Option ℕ
index_of_part T epoch oid policy node = index_among node (T epoch oid policy) policy (kind_of oid)
