-- What an opening or a clone takes from an inode that it reads: the table alone, and of that the entries that may be there.
use Rattle.std.specs.Prelude.{ℕ, ◌==◌, List, map, replicate, if◌then◌else◌}
use Rattle.std.specs.List.{list_any}
use Rattle.std.specs.Int.{w32}
use Rattle.object_id.specs.declared.entry.VdiSpec.{VdiSpec}
use Rattle.object_id.specs.Spec.{objects_of}
use Rattle.object_id.specs.Fields.{numbers_at}
use Rattle.inode.specs.declared.layout.TheConstants.{INODE_HEADER_BYTES}
use Rattle.inode.specs.Layout.{Content, parent_number}
use Rattle.vdi_directory.specs.declared.header.Header.{Header}

-- an entry counts where it is one of these ids, and else is a hole
abbrev pub kept_entry : List ℕ → ℕ → ℕ
kept_entry ids entry = if list_any (λ id. id == entry) ids then entry else 0

-- the table in an inode's bytes, with the entries that count
abbrev pub table_in : List ℕ → VdiSpec → List ℕ → List ℕ
table_in ids spec bytes = map (kept_entry ids) (numbers_at w32 (objects_of spec) INODE_HEADER_BYTES bytes)

-- the table of a disk on which nothing was written
abbrev pub holes : VdiSpec → List ℕ
holes spec = replicate (objects_of spec) 0

-- the inode of an id: its header by the directory, and a table
abbrev pub inode_by : Header → ℕ → List ℕ → Content
inode_by header vid table = record {
  name = header.name;
  tag = header.tag;
  spec = header.spec;
  snap_id = header.snap_id;
  vid = vid;
  parent = parent_number header.parent;
  table = table;
}
