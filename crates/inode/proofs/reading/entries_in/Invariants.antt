use Rattle.std.proofs.Common.{◌≡◌}
use Rattle.std.specs.Int.{w32}
use Rattle.object_id.specs.Fields.{numbers_at}
use Rattle.inode.specs.declared.layout.TheConstants.{INODE_HEADER_BYTES}
use Rattle.inode.proofs.reading.entries_in.Given as goal

abbrev pub invariant-loop-place : goal.invariant-loop-place
invariant-loop-place l = l.table.items ≡ numbers_at w32 l.place INODE_HEADER_BYTES l.bytes
