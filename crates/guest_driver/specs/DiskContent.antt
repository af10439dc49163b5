-- The disk that a session has open, as contracts see it.
use Rattle.std.specs.Prelude.{Bool}
use Rattle.inode.specs.Layout.{Content}

-- its inode, and whether it is a snapshot
pub record DiskContent : Type 0 where
  pub inode : Content
  pub snapshot : Bool
