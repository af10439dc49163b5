use Rattle.std.proofs.Common.{◌≡◌, ◌++◌, map, take, drop}
use Rattle.vdi_ops.specs.Tables.{kept_entry}
use Rattle.vdi_ops.proofs.table.keep_entries.Given as goal

abbrev pub invariant-loop-index : goal.invariant-loop-index
invariant-loop-index l = l.table ≡ map (kept_entry l.sorted) (take l.index l.fn.table) ++ drop l.index l.fn.table
