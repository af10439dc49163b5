-- What the parts of an inode say, with the table of the bytes that they are of.
use Rattle.std.specs.Prelude.{ℕ, List}
use Rattle.std.specs.Int.{w32}
use Rattle.object_id.specs.Spec.{objects_of}
use Rattle.object_id.specs.Fields.{numbers_at}
use Rattle.inode.specs.declared.layout.TheConstants.{INODE_HEADER_BYTES}
use Rattle.inode.specs.declared.reading.Parts.{Parts}
use Rattle.inode.specs.Layout.{Content}

abbrev pub parts_content : Parts → List ℕ → Content
parts_content parts bytes = record {
  name = parts.name.now;
  tag = parts.tag.now;
  spec = parts.spec;
  snap_id = parts.snap_id;
  vid = parts.vid.0;
  parent = parts.parent;
  table = numbers_at w32 (objects_of parts.spec) INODE_HEADER_BYTES bytes;
}
