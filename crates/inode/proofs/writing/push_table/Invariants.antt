use Rattle.std.proofs.Common.{◌≡◌, ◌++◌, take}
use Rattle.std.specs.Int.{w32}
use Rattle.object_id.specs.Fields.{numbers_bytes}
use Rattle.inode.proofs.writing.push_table.Given as goal

abbrev pub invariant-loop-entry : goal.invariant-loop-entry
invariant-loop-entry l = l.out.items ≡ l.fn.out.items ++ numbers_bytes w32 (take l.entry-index l.table)
