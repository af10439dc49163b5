use Rattle.std.proofs.Common.{take}
use Rattle.cluster_script.specs.KeptIndex.{IsSessionTable}
use Rattle.cluster_script.proofs.session_table.SessionTable.of.Given as goal

-- the table is that of the statements so far
abbrev pub invariant-loop-s : goal.invariant-loop-s
invariant-loop-s l = IsSessionTable (take l.s-index l.statements) l.table
