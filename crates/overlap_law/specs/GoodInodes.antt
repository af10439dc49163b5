-- Inodes that were available, whether or not the rest of their disks' chains was.
use Rattle.std.specs.Prelude.{ℕ, not, Bool, List}
use Rattle.object_id.specs.Oid.{inode_number}
use Rattle.overlap_law.specs.Holders.{is_object_among}

-- whether the inode of an id isn't among the objects that were once not available
abbrev pub is_available_inode : List ℕ → ℕ → Bool
is_available_inode unavailable vid = not (is_object_among (inode_number vid) unavailable)
