-- What a node's peers reach of it, and what it knows of an object by the entries that it has read.
use Rattle.std.specs.Prelude.{ℕ, ◌^◌, ◌==◌, Bool, true, false, List, [], ◌∷◌, ◌++◌, Option, None, Some, is_some, if◌then◌else◌}
use Rattle.std.specs.List.{list_any}
use Rattle.std.specs.Option.{option_map}
use Rattle.object_id.specs.Oid.{vid_of, kind_of}
use Rattle.object_id.specs.declared.oid.Kind.{Kind}
use Rattle.object_id.specs.declared.oid.Kind.TheVariants.{Block, Inode}
use Rattle.object_id.specs.declared.policy.Policy.{Policy}
use Rattle.object_id.specs.declared.entry.VdiSpec.{VdiSpec}
use Rattle.object_id.specs.declared.entry.Entry.{Entry}
use Rattle.gf256.specs.Part.{part_size}
use Rattle.object_store.specs.Store.{AllRows}
use Rattle.inode.specs.declared.layout.TheConstants.{INODE_BYTES}
use Rattle.vdi_directory.specs.declared.header.Header.{Header}
use Rattle.vdi_directory.specs.declared.effect.Effect.{Effect}
use Rattle.vdi_directory.specs.Effects.{header_of}
use Rattle.vdi_directory.specs.Decisions.{log_effects}
use Rattle.vdi_directory.specs.Dead.{is_dead}

-- a peer: what of a node its peers' requests reach
pub record Peer : Type 0 where
  -- the node's epoch, and the settled epoch that it has read
  pub epoch : ℕ
  pub settled : ℕ
  -- from an object's id to its rows
  pub rows : AllRows
  -- the objects that are still to be recovered, ascending; none while the list is unfinished
  pub pending : Option (List ℕ)
  -- the entries of the log that were read, in order
  pub entries : List Entry

-- a peer that has read nothing: its list is finished, and nothing is pending
abbrev pub initial_peer : AllRows → ℕ → Peer
initial_peer rows epoch = record { epoch = epoch; settled = 1; rows = rows; pending = Some []; entries = [] }

-- what the entries that it has read did to disks
abbrev pub effects_of : Peer → List Effect
effects_of peer = log_effects peer.entries

-- the header of an object's disk
abbrev pub header_at : Peer → ℕ → Option Header
header_at peer oid = header_of (effects_of peer) (vid_of oid)

-- whether an object's id is known: an entry granted its disk's id
abbrev pub is_known : Peer → ℕ → Bool
is_known peer oid = is_some (header_at peer oid)

-- what an object's disk was made with
abbrev pub spec_of : Peer → ℕ → Option VdiSpec
spec_of peer oid = option_map (λ (header : Header). header.spec) (header_at peer oid)

-- an object's policy
abbrev pub object_policy : Peer → ℕ → Option Policy
object_policy peer oid = option_map (λ (spec : VdiSpec). spec.policy) (spec_of peer oid)

-- whether an object's id is dead
abbrev pub is_dead_object : Peer → ℕ → Bool
is_dead_object peer oid = is_dead (effects_of peer) (vid_of oid)

-- how many bytes an object has: a data object 2^shift, an inode object always as many
abbrev pub object_size : VdiSpec → Kind → ℕ
object_size spec Block = 2 ^ spec.shift
object_size spec Inode = INODE_BYTES

-- how many bytes each row of an object has
abbrev pub row_size : Kind → VdiSpec → ℕ
row_size kind spec = part_size spec.policy kind (object_size spec kind)

-- how many bytes each row of the object of an id has, where the id is known
abbrev pub length_of_rows : Peer → ℕ → Option ℕ
length_of_rows peer oid = option_map (row_size (kind_of oid)) (spec_of peer oid)

-- whether an object is to be waited for: until the list is finished each one, then the pending ones
abbrev pub is_object_awaited : ℕ → Option (List ℕ) → Bool
is_object_awaited oid None = true
is_object_awaited oid (Some oids) = list_any (λ other. other == oid) oids

-- whether reads and writes of an object are refused until it is recovered
abbrev pub is_waiting : Peer → ℕ → Bool
is_waiting peer oid = is_object_awaited oid peer.pending

-- the peer has read one entry more
abbrev pub with_entry : Entry → Peer → Peer
with_entry entry peer = record peer { entries = peer.entries ++ entry ∷ [] }

-- the policy of an object whose id is known and not dead
abbrev pub policy_unless_dead : Peer → ℕ → Option Policy
policy_unless_dead peer oid = if is_dead_object peer oid then None else object_policy peer oid

-- whether an object is pending: none is while the list is unfinished
abbrev pub is_listed_pending : ℕ → Option (List ℕ) → Bool
is_listed_pending oid None = false
is_listed_pending oid (Some oids) = list_any (λ other. other == oid) oids

-- the smallest pending object
abbrev pub first_listed : Option (List ℕ) → Option ℕ
first_listed None = None
first_listed (Some []) = None
first_listed (Some (oid ∷ rest)) = Some oid
