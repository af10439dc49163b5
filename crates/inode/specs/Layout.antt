-- The layout of an inode: 4,664 bytes of header, then the table, four bytes an entry.
use Rattle.std.specs.Prelude.{◌≡◌, ◌≢◌, ℕ, ◌-◌, ◌^◌, ◌<◌, ◌≤◌, List, ◌∷◌, ◌++◌, length, All, Option, Some, None}
use Rattle.std.specs.Int.{w32}
use Rattle.object_id.specs.declared.oid.Vid.{Vid}
use Rattle.object_id.specs.declared.entry.VdiSpec.{VdiSpec}
use Rattle.object_id.specs.declared.limits.TheConstants.{VID_MAX}
use Rattle.object_id.specs.Oid.{IsVid}
use Rattle.object_id.specs.Policy.{policy_byte, strips_of}
use Rattle.object_id.specs.Spec.{IsSpec, objects_of}
use Rattle.object_id.specs.Fields.{u8_bytes, u32_bytes, u64_bytes, numbers_bytes, zeros}
use Rattle.inode.specs.declared.layout.TheConstants.{TEXT_BYTES, CHILDREN_BYTES}

-- what an inode says: the disk's name, a snapshot's tag, how the disk was made, the number that the name's snapshots give it,
-- its id, its parent's (0 for none), and the table: 0 for a hole, or the id of the disk whose object it is
pub record Content : Type 0 where
  pub name : List ℕ
  pub tag : List ℕ
  pub spec : VdiSpec
  pub snap_id : ℕ
  pub vid : ℕ
  pub parent : ℕ
  pub table : List ℕ

-- bytes of the header that reading doesn't look at: behind the ends of name and tag, three times, the size of the state of
-- a machine, the store policy, and the table of children
pub record UnreadParts : Type 0 where
  pub after_name : List ℕ
  pub after_tag : List ℕ
  pub times : List ℕ
  pub vm_state_size : List ℕ
  pub store_policy : List ℕ
  pub children : List ℕ

-- a text, the 0 that ends it, and what stands behind
abbrev pub text_bytes : List ℕ → List ℕ → List ℕ
text_bytes text after = text ++ 0 ∷ after

-- the header, field by field
abbrev pub header_bytes : Content → UnreadParts → List ℕ
header_bytes content unread =
    text_bytes content.name unread.after_name ++ text_bytes content.tag unread.after_tag ++ unread.times
    ++ u64_bytes content.spec.size ++ unread.vm_state_size ++ u8_bytes (policy_byte content.spec.policy) ++ unread.store_policy
    ++ u8_bytes (strips_of content.spec.policy) ++ u8_bytes content.spec.shift ++ u32_bytes content.snap_id
    ++ u32_bytes content.vid ++ u32_bytes content.parent ++ unread.children

abbrev pub inode_bytes : Content → UnreadParts → List ℕ
inode_bytes content unread = header_bytes content unread ++ numbers_bytes w32 content.table

-- each of these parts fills its place
pub record Fills (content : Content) (unread : UnreadParts) : Type 0 where
  pub name : length (text_bytes content.name unread.after_name) ≡ TEXT_BYTES
  pub tag : length (text_bytes content.tag unread.after_tag) ≡ TEXT_BYTES
  pub times : length unread.times ≡ 24
  pub vm_state_size : length unread.vm_state_size ≡ 8
  pub store_policy : length unread.store_policy ≡ 1
  pub children : length unread.children ≡ CHILDREN_BYTES

-- the bytes begin with the spelling of what the inode says; what isn't read may be any
pub record SpellsInode (bytes : List ℕ) (content : Content) : Type 0 where
  pub unread : UnreadParts
  pub rest : List ℕ
  pub fills : Fills content unread
  pub whole : bytes ≡ inode_bytes content unread ++ rest

-- a text that ends inside its field: at most 255 bytes, none of them 0
abbrev pub IsFieldText : List ℕ → Type 0
IsFieldText text = (length text < TEXT_BYTES) × All (λ byte. byte ≢ 0) text

-- what may stand in a table: 0 for a hole, else a disk's id
abbrev pub IsEntry : ℕ → Type 0
IsEntry entry = entry ≤ VID_MAX

-- an inode that a session may have open: its id is one, and each entry of its table is 0 or an id
pub record HasIds (content : Content) : Type 0 where
  pub vid : IsVid content.vid
  pub entries : All IsEntry content.table

-- what an inode of the format may say
pub record IsContent (content : Content) : Type 0 where
  pub name : IsFieldText content.name
  pub tag : IsFieldText content.tag
  pub spec : IsSpec content.spec
  pub snap_id : content.snap_id < 2 ^ 32
  pub vid : IsVid content.vid
  pub parent : content.parent < 2 ^ 32
  pub count : length content.table ≡ objects_of content.spec
  pub entries : All IsEntry content.table

-- zeros in the place of the table of children
unfoldable pub no_children : List ℕ
no_children = zeros CHILDREN_BYTES

-- what this store writes: zeros wherever nothing is read
abbrev pub unread_zeros : Content → UnreadParts
unread_zeros content = record {
  after_name = zeros (TEXT_BYTES - 1 - length content.name);
  after_tag = zeros (TEXT_BYTES - 1 - length content.tag);
  times = zeros 24;
  vm_state_size = zeros 8;
  store_policy = zeros 1;
  children = no_children;
}

-- the number of a parent, and the parent of a number: 0 for none
abbrev pub parent_number : Option Vid → ℕ
parent_number None = 0
parent_number (Some vid) = vid.0
