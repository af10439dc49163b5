use Rattle.std.proofs.Common.{◌≡◌, ◌+◌, ◌*◌, ◌-◌}
use Rattle.std.specs.List.{list_all}
use Rattle.std.specs.Int.{w32}
use Rattle.object_id.specs.Fields.{numbers_at}
use Rattle.inode.specs.declared.layout.TheConstants.{INODE_HEADER_BYTES}
use Rattle.inode.specs.Reading.{is_entry}
use Rattle.inode.proofs.reading.are_entries.Given as goal

abbrev pub invariant-loop-place : goal.invariant-loop-place
invariant-loop-place l =
    list_all is_entry (numbers_at w32 (l.count - l.place) (INODE_HEADER_BYTES + 4 * l.place) l.bytes)
    ≡ list_all is_entry (numbers_at w32 l.count INODE_HEADER_BYTES l.bytes)
